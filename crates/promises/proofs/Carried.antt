-- Every cursor is what its seat's calls and their answers tell: its position is the count of the rows that its replies have carried
-- since its opening, its selection the one that its opening made. Assumes nothing.
use mathlib.Core.Path.{◌≡◌, refl, sym, ap, ◌∙◌}
use mathlib.Core.Bool.{true, false, not}
use mathlib.Core.List.{List, [], ◌∷◌}
use mathlib.Core.Logic.{inl, inr, ⊎_elim}
use Rattle.std.specs.Prelude.{Option, None, Some}
use Prim.Native.Nat.{ℕ, ◌+◌, ◌<◌}
use native.Mathlib.Omega.{arith}
use borrow.Author.Tests.{eq-eqb, ne_eqb, eqb-true, eqb-false}
use lib.Dec.{eqb}
use lib.ListN.{length}
use Rattle.lists.specs.Below.{pick}
use Rattle.wire.specs.Word.{number_at}
use Rattle.lists.proofs.Below.{by_test, true≢false}
use Rattle.catalogue.specs.Plain.{Row, rows_of}
use Rattle.bindings.specs.Plain.{Bindings, bindings}
use Rattle.tree.specs.Reader.{restriction, is_tree}
use Rattle.tree.specs.Select.{selected_by}
use Rattle.table.specs.Layout.{seats}
use Rattle.table.specs.Seat.{Cursor, Seat, cursor_in, with_cursor, opened, rebound, moved}
use Rattle.table.specs.Fits.{SeatOk}
use Rattle.refusal.specs.Refusal.{first_cause}
use Rattle.refusal.proofs.First.{first_both}
use Rattle.fetch.specs.Request.{request}
use Rattle.fetch.specs.declared.Request.{Request}
use Rattle.fetch.specs.Fetch.{sent, fetch_reply, fetched}
use Rattle.message.specs.Message.{msg_of, handle_of, kind_of, kind_from, served, no_bindings, unfit, bound_to, gate_causes, body_causes, body_of, seat_causes, rows_done, done_on, seat_message}
use Rattle.table.specs.Open.{is_open}
use Rattle.message.proofs.Answering.{gate_numbered}
use Rattle.query.specs.Open.{free_handle}
use Rattle.call.specs.Step.{Sources, sources_of, sizing}
use Rattle.promises.specs.Calls.{Call, connecting, opening, messaging, seat_of_call, step, Answer, answer_of, history, after}
use Rattle.promises.specs.Client.{Handle, accepted, Account, changed, bound, after_message, after_call, cursor_account, cursor_told, cursor_by, held_cursor}
use Rattle.promises.proofs.Refusals.{seat_refusal}
use Rattle.promises.proofs.Alone.{own_step}
use Rattle.promises.proofs.Followed.{Follows, step_followed, after_followed}
use Rattle.promises.proofs.Served.{fetching, count_read}

-- a cursor put under a handle, and what then stands under another
with_in : (s : Seat) (h handle : ℕ) (o : Option Cursor) → Handle h → Handle handle
    → cursor_in (with_cursor s h o) handle ≡ pick (eqb h handle) o (cursor_in s handle)
with_in s h handle o a b =
    ⊎_elim
    (λ (e : h ≡ 1). ⊎_elim (λ (f : handle ≡ 1). rw (e, f)) (λ (f : handle ≡ 2). rw (e, f)) b)
    (λ (e : h ≡ 2). ⊎_elim (λ (f : handle ≡ 1). rw (e, f)) (λ (f : handle ≡ 2). rw (e, f)) b)
    a

-- a handle that is open is one of the two, and so is one that is free
pub open_handle : (s : Seat) (h : ℕ) → is_open (cursor_in s h) ≡ true → Handle h
open_handle s h e =
    by_test (eqb h 1)
    (λ q. inl (eqb-true h 1 q))
    (λ q. by_test (eqb h 2) (λ k. inr (eqb-true h 2 k)) (λ k. absurd (true≢false (sym (rw (q, k) at e)))))

pub free_handle_lem : (s : Seat) → eqb (free_handle s) 0 ≡ false → Handle (free_handle s)
free_handle_lem s e =
    by_test (is_open s.first)
    (λ q. by_test (is_open s.second) (λ k. absurd (true≢false (rw (q, k) at e))) (λ k. rw (q, k) (inr refl)))
    (λ q. rw q (inl refl))

-- the four kinds by their numbers
pub data Kind (msg : ℕ) : Type 0 where
  leaves : eqb msg 0xC9 ≡ true → kind_of msg ≡ 0 → Kind msg
  frees : eqb msg 0xC9 ≡ false → eqb msg 0xCB ≡ true → kind_of msg ≡ 1 → Kind msg
  fetches : eqb msg 0xC9 ≡ false → eqb msg 0xCB ≡ false → eqb msg 0xCC ≡ true → kind_of msg ≡ 2 → Kind msg
  binds : eqb msg 0xC9 ≡ false → eqb msg 0xCB ≡ false → eqb msg 0xCC ≡ false → kind_of msg ≡ 3 → Kind msg

turned : (a b : ℕ) → eqb a b ≡ false → eqb b a ≡ false
turned a b e = ne_eqb b a (λ w. eqb-false a b e (sym w))

pub kind_of_lem : (msg : ℕ) → served msg ≡ true → Kind msg
unfolding kind_from
kind_of_lem msg e =
    by_test (eqb msg 0xC9)
    (λ q. leaves q (ap kind_of (eqb-true msg 0xC9 q)))
    (λ q.
    by_test (eqb msg 0xCB)
    (λ r. frees q r (ap kind_of (eqb-true msg 0xCB r)))
    (λ r.
    by_test (eqb msg 0xCC)
    (λ l. fetches q r l (ap kind_of (eqb-true msg 0xCC l)))
    (λ l.
    by_test (eqb msg 0xD0)
    (λ d. binds q r l (ap kind_of (eqb-true msg 0xD0 d)))
    (λ d.
    absurd (true≢false (sym (rw (turned msg 0xC9 q, turned msg 0xCB r, turned msg 0xCC l, turned msg 0xD0 d) at e)))))))

-- what a reply makes of a cursor, and bindings
abbrev carried_on : List ℕ → Cursor → Cursor
carried_on reply c = moved c (c.position + number_at 4 reply 16)

abbrev bound_by : Bindings → Cursor → Cursor
bound_by b c = rebound c b.width b.columns

-- the causes of a body that do not apply
module _ (rows : List Row) (s : Seat) (m : List ℕ) where
  freed_open : first_cause (body_causes rows 1 s m) ≡ 0 → is_open (cursor_in s (handle_of m)) ≡ true
  unfolding first_cause
  freed_open e =
      by_test (is_open (cursor_in s (handle_of m)))
      (λ q. q)
      (λ q.
      by_test (eqb (length m) 20)
      (λ l. absurd (let z : ◌≡◌ {A = ℕ} 10 0 = rw (l, q) at e in omega arith))
      (λ l. absurd (let z : ◌≡◌ {A = ℕ} 9 0 = rw l at e in omega arith)))

  pub record Binding : Type 0 where
    pub cursor : Cursor
    pub body : Bindings
    pub held : cursor_in s (handle_of m) ≡ Some cursor
    pub reads : bindings m ≡ Some body

  binding : first_cause (body_causes rows 3 s m) ≡ 0 → Binding
  unfolding first_cause
  binding e = go (cursor_in s (handle_of m)) refl (bindings m) refl e
    where
      go : (o : Option Cursor) → cursor_in s (handle_of m) ≡ o → (x : Option Bindings) → bindings m ≡ x
          → first_cause ((9, no_bindings x) ∷ (10, not (is_open o)) ∷ (12, unfit x) ∷ []) ≡ 0 → Binding
      go None h None b w = absurd (let z : ◌≡◌ {A = ℕ} 9 0 = w in omega arith)
      go None h (Some x) b w = absurd (let z : ◌≡◌ {A = ℕ} 10 0 = w in omega arith)
      go (Some c) h None b w = absurd (let z : ◌≡◌ {A = ℕ} 9 0 = w in omega arith)
      go (Some c) h (Some x) b w = record { cursor = c; body = x; held = h; reads = b }

  -- the cursor under a handle, where the message names one that is open, by what is put in its place
  named : (handle : ℕ) (o x : Option Cursor) → Handle (handle_of m) → Handle handle → (handle_of m ≡ handle → o ≡ x)
      → cursor_in (with_cursor s (handle_of m) o) handle ≡ pick (eqb (handle_of m) handle) x (cursor_in s handle)
  named handle o x a b f =
      with_in s (handle_of m) handle o a b
      ∙ by_test (eqb (handle_of m) handle) (λ q. rw q (f (eqb-true (handle_of m) handle q))) (λ q. rw q)

  -- get rows, and set bindings
  fetch_told : (handle : ℕ) → Handle handle → (c : Cursor) (q : Request) → cursor_in s (handle_of m) ≡ Some c → request m ≡ Some q
      → number_at 4 (fetch_reply rows c q) 16 ≡ sent rows c q
      → cursor_by (rows_done rows s (handle_of m) (cursor_in s (handle_of m)) (request m)).after handle
      ≡ pick (eqb (handle_of m) handle)
      (changed (carried_on (rows_done rows s (handle_of m) (cursor_in s (handle_of m)) (request m)).reply) (cursor_in s handle))
      (cursor_in s handle)
  fetch_told handle n c q h b r =
      rw (h, b)
      (named handle (Some (fetched rows c q)) (changed (carried_on (fetch_reply rows c q)) (cursor_in s handle)) (open_handle s (handle_of m) (ap is_open h)) n
      (λ w.
      ap (λ (i : ℕ). Some (moved c (c.position + i))) (sym r)
      ∙ ap (changed (carried_on (fetch_reply rows c q))) (sym (ap (cursor_in s) (sym w) ∙ h))))

  bind_told : (handle : ℕ) → Handle handle → (c : Cursor) (x : Bindings) → cursor_in s (handle_of m) ≡ Some c → bindings m ≡ Some x
      → cursor_by (Some (bound_to s (handle_of m) (cursor_in s (handle_of m)) (bindings m))) handle
      ≡ pick (eqb (handle_of m) handle) (changed (bound bound_by (bindings m)) (cursor_in s handle)) (cursor_in s handle)
  bind_told handle n c x h b =
      rw (h, b)
      (named handle (Some (rebound c x.width x.columns)) (changed (bound_by x) (cursor_in s handle)) (open_handle s (handle_of m) (ap is_open h)) n
      (λ w. ap (changed (bound_by x)) (sym (ap (cursor_in s) (sym w) ∙ h))))

  -- what each kind of message makes of it
  done_told : (src : Sources) → SeatOk (Some s) → (handle : ℕ) → Handle handle → Kind (msg_of m)
      → first_cause (body_causes rows (kind_of (msg_of m)) s m) ≡ 0
      → cursor_by (done_on rows (kind_of (msg_of m)) s m).after handle
      ≡ after_message (cursor_account src) handle m (done_on rows (kind_of (msg_of m)) s m).reply (cursor_in s handle)
  done_told src f handle n (leaves a k) e = rw (k, a)
  done_told src f handle n (frees a b k) e =
      rw (k, a, b)
      (named handle None None (open_handle s (handle_of m) (freed_open (rw k at e))) n (λ w. refl))
  done_told src f handle n (fetches a b d k) e =
      let r = fetching rows s m f (rw k at e) in
      rw (k, a, b, d)
      (fetch_told handle n r.cursor r.asked r.held r.body (count_read rows r.cursor r.asked r.fits r.bound r.sound))
  done_told src f handle n (binds a b d k) e =
      let r = binding (rw k at e) in
      rw (k, a, b, d) (bind_told handle n r.cursor r.body r.held r.reads)

  -- a message that its seat accepts is done by its kind, which is one of the four
  pub accepted_kind : first_cause (seat_causes rows (Some s) m) ≡ 0 → Kind (msg_of m) × (first_cause (body_causes rows (kind_of (msg_of m)) s m) ≡ 0)
  unfolding first_cause
  accepted_kind e =
      let b = first_both (gate_causes (Some s) m) (body_of rows (Some s) m) (gate_numbered (Some s) m) e in
      (kind_of_lem (msg_of m) (serves b.0), b.1)
    where
      serves : first_cause (gate_causes (Some s) m) ≡ 0 → served (msg_of m) ≡ true
      serves w = by_test (served (msg_of m)) (λ q. q) (λ q. absurd (let z : ◌≡◌ {A = ℕ} 6 0 = rw q at w in omega arith))

-- a message on its seat
module _ (src : Sources) where
  message_told : (rows : List Row) (held : Option Seat) (m : List ℕ) → SeatOk held → (handle : ℕ) → Handle handle → first_cause (seat_causes rows held m) ≡ 0
      → cursor_by (seat_message rows held m).after handle
      ≡ after_message (cursor_account src) handle m (seat_message rows held m).reply (cursor_by held handle)
  unfolding seat_message first_cause
  message_told rows None m f handle n e =
      by_test (served (msg_of m))
      (λ q. absurd (let z : ◌≡◌ {A = ℕ} 7 0 = rw q at e in omega arith))
      (λ q. absurd (let z : ◌≡◌ {A = ℕ} 6 0 = rw q at e in omega arith))
  message_told rows (Some s) m f handle n e =
      let k = accepted_kind rows s m e in
      rw (eq-eqb (first_cause (seat_causes rows (Some s) m)) 0 e) (done_told rows s m src f handle n k.0 k.1)

  -- a call by its seat alone
  module _ (seat handle : ℕ) (n : Handle handle) where
    own_message_lem : (held : Option Seat) (k : ℕ) (m : List ℕ) (room : ℕ) → SeatOk held → eqb k seat ≡ true
        → (own_step src held (messaging k m room)).answer.refusal ≡ 0
        → cursor_by (own_step src held (messaging k m room)).after handle
        ≡ after_call (cursor_account src) seat handle (cursor_by held handle) (messaging k m room) (own_step src held (messaging k m room)).answer
    own_message_lem held k m room f same =
        by_test (eqb (first_cause (sizing m room)) 0)
        (λ q.
        rw (q, same) (λ e.
        rw (eq-eqb (seat_message (rows_of src.rows) held m).refusal 0 e)
        (message_told (rows_of src.rows) held m f handle n (sym (seat_refusal (rows_of src.rows) held m) ∙ e))))
        (λ q. rw q (λ e. absurd (eqb-false (first_cause (sizing m room)) 0 q e)))

    own_told : (held : Option Seat) (c : Call) → SeatOk held → eqb (seat_of_call c) seat ≡ true → (own_step src held c).answer.refusal ≡ 0
        → cursor_by (own_step src held c).after handle ≡ after_call (cursor_account src) seat handle (cursor_by held handle) c (own_step src held c).answer
    unfolding first_cause
    own_told None (connecting k version) f same e =
        by_test (eqb handle 1) (λ q. rw q) (λ q. by_test (eqb handle 2) (λ l. rw (q, l)) (λ l. rw (q, l)))
    own_told (Some s) (connecting k version) f same e = refl
    own_told None (opening k tree) f same e = absurd (let z : ◌≡◌ {A = ℕ} 7 0 = e in omega arith)
    own_told (Some s) (opening k tree) f same e =
        by_test (eqb (free_handle s) 0)
        (λ q. absurd (let z : ◌≡◌ {A = ℕ} 14 0 = rw q at e in omega arith))
        (λ q.
        by_test (is_tree (restriction tree))
        (λ t.
        rw (q, t, same)
        (with_in s (free_handle s) handle (Some (opened (selected_by (restriction tree) src.rows))) (free_handle_lem s q) n))
        (λ t. absurd (let z : ◌≡◌ {A = ℕ} 16 0 = rw (q, t) at e in omega arith)))
    own_told held (messaging k m room) f same e = own_message_lem held k m room f same e

-- whatever is known of a cursor, a call that is refused and one of another seat tell nothing
pub cursor_unheard : {A : Type 0} (account : Account A) (seat handle : ℕ) (c : Call) (known : Option A) (a : Answer)
    → accepted seat (seat_of_call c) a ≡ false → after_call account seat handle known c a ≡ known
cursor_unheard account seat handle (connecting k version) known a e = refl
cursor_unheard account seat handle (opening k tree) known a e = rw e
cursor_unheard account seat handle (messaging k m room) known a e = rw e

cursor_follows : (src : Sources) (seat handle : ℕ) → Handle handle
    → Follows src seat (λ held. cursor_by held handle) (after_call (cursor_account src) seat handle)
cursor_follows src seat handle n =
    record { unheard = cursor_unheard (cursor_account src) seat handle; own = own_told src seat handle n }

-- a call in any table, for any seat and handle
pub step_told : (s t : List ℕ) (c : Call) (seat handle : ℕ) → seat < seats → Handle handle
    → held_cursor (step (sources_of s) t c).words seat handle
    ≡ after_call (cursor_account (sources_of s)) seat handle (held_cursor t seat handle) c (answer_of (step (sources_of s) t c))
step_told s t c seat handle h n =
    step_followed s seat (λ held. cursor_by held handle) (after_call (cursor_account (sources_of s)) seat handle) (cursor_follows (sources_of s) seat handle n) h t c

-- any calls from any table: the cursor is what they and their answers tell, from the one before
pub after_told : (s t : List ℕ) (calls : List Call) (seat handle : ℕ) → seat < seats → Handle handle
    → held_cursor (after (sources_of s) t calls) seat handle
    ≡ cursor_told (sources_of s) seat handle (held_cursor t seat handle) (history (sources_of s) t calls)
after_told s t calls seat handle h n =
    after_followed s seat (λ held. cursor_by held handle) (after_call (cursor_account (sources_of s)) seat handle) (cursor_follows (sources_of s) seat handle n) h t calls
