-- Every seat is what its own accepted connects and disconnects tell, so refusals 7 and 8 too are exact over calls. Assumes nothing.
use mathlib.Core.Path.{◌≡◌, refl, sym, ap, ◌∙◌}
use mathlib.Core.Bool.{true, false}
use mathlib.Core.List.{List}
use mathlib.Core.Logic.{◌↔◌, inl, inr}
use Rattle.std.specs.Prelude.{Option, None, Some}
use Prim.Native.Nat.{ℕ, ◌<◌}
use native.Mathlib.Omega.{arith}
use borrow.Author.Tests.{eq-eqb, eqb-false}
use lib.Dec.{eqb}
use Rattle.lists.specs.Below.{pick}
use Rattle.lists.proofs.Below.{by_test}
use Rattle.catalogue.specs.Plain.{Row, catalogue, rows_of}
use Rattle.bindings.specs.Plain.{Bindings, bindings}
use Rattle.tree.specs.Reader.{restriction}
use Rattle.tree.specs.Select.{selected_by}
use Rattle.table.specs.Layout.{seats, seat_part}
use Rattle.table.specs.Seat.{Cursor, Seat, seat_words, cursor_in, with_cursor, opened, rebound}
use Rattle.table.specs.Fits.{SeatOk}
use Rattle.refusal.specs.Refusal.{first_cause}
use Rattle.refusal.proofs.First.{first_go}
use Rattle.fetch.specs.Request.{request}
use Rattle.fetch.specs.declared.Request.{Request}
use Rattle.fetch.specs.Fetch.{fetched}
use Rattle.message.specs.Message.{msg_of, handle_of, kind_of, served, bound_to, seat_causes, rows_done, done_on, seat_message}
use Rattle.query.specs.Open.{free_handle, open_causes}
use Rattle.call.specs.Step.{Sources, sources_of, judging, seat_held, sizing}
use Rattle.call.proofs.Causes.{judging_numbered}
use Rattle.call.proofs.Seating.{words_is}
use Rattle.promises.specs.Calls.{Call, connecting, opening, messaging, seat_of_call, step, Answer, answer_of, history, after, fresh_table}
use Rattle.promises.specs.Causes.{causes_on, Given, NoneApplies}
use Rattle.promises.specs.Client.{accepted, version_after, seat_told, seat_from, whole_seat_told, version_of, cursor_by}
use Rattle.promises.proofs.First.{exact, exact_none}
use Rattle.promises.proofs.Refusals.{seat_refusal, refusal_is, on_seat_numbered}
use Rattle.promises.proofs.Reached.{fresh_seat, reached_passes, reached_well}
use Rattle.promises.proofs.Alone.{own_step, not_judged}
use Rattle.promises.proofs.Followed.{Follows, step_followed, after_followed}
use Rattle.promises.proofs.Carried.{Kind, leaves, frees, fetches, binds, accepted_kind}
use Rattle.promises.proofs.Fetched.{cursor_told_lem}

-- another cursor under a handle leaves the version
with_version : (s : Seat) (handle : ℕ) (c : Option Cursor) → version_of (Some (with_cursor s handle c)) ≡ Some s.version
with_version s handle c = by_test (eqb handle 1) (λ q. rw q) (λ q. rw q)

-- and so does what each kind of message does, but a disconnect
module _ (rows : List Row) (s : Seat) (m : List ℕ) where
  rows_version : (handle : ℕ) (c : Option Cursor) (q : Option Request) → version_of (rows_done rows s handle c q).after ≡ Some s.version
  rows_version handle None q = refl
  rows_version handle (Some c) None = refl
  rows_version handle (Some c) (Some q) = with_version s handle (Some (fetched rows c q))

  bound_version : (handle : ℕ) (c : Option Cursor) (b : Option Bindings) → version_of (Some (bound_to s handle c b)) ≡ Some s.version
  bound_version handle None b = refl
  bound_version handle (Some c) None = refl
  bound_version handle (Some c) (Some b) = with_version s handle (Some (rebound c b.width b.columns))

  pub done_version : Kind (msg_of m)
      → version_of (done_on rows (kind_of (msg_of m)) s m).after ≡ pick (eqb (msg_of m) 0xC9) None (Some s.version)
  done_version (leaves a k) = rw (k, a)
  done_version (frees a b k) = rw (k, a) (with_version s (handle_of m) None)
  done_version (fetches a b d k) = rw (k, a) (rows_version (handle_of m) (cursor_in s (handle_of m)) (request m))
  done_version (binds a b d k) = rw (k, a) (bound_version (handle_of m) (cursor_in s (handle_of m)) (bindings m))

message_version : (rows : List Row) (held : Option Seat) (m : List ℕ) → first_cause (seat_causes rows held m) ≡ 0
    → version_of (seat_message rows held m).after ≡ pick (eqb (msg_of m) 0xC9) None (version_of held)
unfolding seat_message first_cause
message_version rows None m e =
    by_test (served (msg_of m))
    (λ q. absurd (let z : ◌≡◌ {A = ℕ} 7 0 = rw q at e in omega arith))
    (λ q. absurd (let z : ◌≡◌ {A = ℕ} 6 0 = rw q at e in omega arith))
message_version rows (Some s) m e =
    rw (eq-eqb (first_cause (seat_causes rows (Some s) m)) 0 e) (done_version rows s m (accepted_kind rows s m e).0)

-- a call by its seat alone
message_own : (src : Sources) (seat : ℕ) (held : Option Seat) (k : ℕ) (m : List ℕ) (room : ℕ) → eqb k seat ≡ true
    → (own_step src held (messaging k m room)).answer.refusal ≡ 0
    → version_of (own_step src held (messaging k m room)).after
    ≡ version_after seat (version_of held) (messaging k m room) (own_step src held (messaging k m room)).answer
message_own src seat held k m room same =
    by_test (eqb (first_cause (sizing m room)) 0)
    (λ q.
    rw (q, same) (λ e.
    rw (eq-eqb (seat_message (rows_of src.rows) held m).refusal 0 e)
    (message_version (rows_of src.rows) held m (sym (seat_refusal (rows_of src.rows) held m) ∙ e))))
    (λ q. rw q (λ e. absurd (eqb-false (first_cause (sizing m room)) 0 q e)))

own_version : (src : Sources) (seat : ℕ) (held : Option Seat) (c : Call) → SeatOk held → eqb (seat_of_call c) seat ≡ true
    → (own_step src held c).answer.refusal ≡ 0
    → version_of (own_step src held c).after ≡ version_after seat (version_of held) c (own_step src held c).answer
unfolding first_cause
own_version src seat None (connecting k version) f same e = rw same
own_version src seat (Some s) (connecting k version) f same e = absurd (let z : ◌≡◌ {A = ℕ} 7 0 = e in omega arith)
own_version src seat None (opening k tree) f same e = absurd (let z : ◌≡◌ {A = ℕ} 7 0 = e in omega arith)
own_version src seat (Some s) (opening k tree) f same e =
    by_test (eqb (first_cause (open_causes (Some s) tree)) 0)
    (λ q. rw q (with_version s (free_handle s) (Some (opened (selected_by (restriction tree) src.rows)))))
    (λ q. absurd (eqb-false (first_cause (open_causes (Some s) tree)) 0 q (rw q at e)))
own_version src seat held (messaging k m room) f same e = message_own src seat held k m room same e

version_follows : (src : Sources) (seat : ℕ) → Follows src seat version_of (version_after seat)
version_follows src seat = record { unheard = unheard; own = own_version src seat }
  where
    unheard : (c : Call) (known : Option ℕ) (a : Answer) → accepted seat (seat_of_call c) a ≡ false → version_after seat known c a ≡ known
    unheard (connecting k version) known a e = rw e
    unheard (opening k tree) known a e = refl
    unheard (messaging k m room) known a e = rw e

-- a call in any table
pub version_step : (s t : List ℕ) (c : Call) (seat : ℕ) → seat < seats
    → version_of (seat_held (step (sources_of s) t c).words seat)
    ≡ version_after seat (version_of (seat_held t seat)) c (answer_of (step (sources_of s) t c))
version_step s t c seat h = step_followed s seat version_of (version_after seat) (version_follows (sources_of s) seat) h t c

-- from the fresh table on: whether a seat is connected, and with which version
pub version_told : (s : List ℕ) (calls : List Call) (seat : ℕ) → seat < seats
    → version_of (seat_held (after (sources_of s) fresh_table calls) seat) ≡ seat_told seat None (history (sources_of s) fresh_table calls)
version_told s calls seat h =
    after_followed s seat version_of (version_after seat) (version_follows (sources_of s) seat) h fresh_table calls
    ∙ ap (λ (o : Option Seat). seat_told seat (version_of o) (history (sources_of s) fresh_table calls)) (fresh_seat seat h)

-- so every table that is reached holds of a seat exactly what is told: its version and both its cursors
pub seat_told_lem : (s : List ℕ) (calls : List Call) (seat : ℕ) → seat < seats
    → seat_held (after (sources_of s) fresh_table calls) seat ≡ whole_seat_told (sources_of s) seat (history (sources_of s) fresh_table calls)
seat_told_lem s calls seat h =
    by_parts (seat_held (after (sources_of s) fresh_table calls) seat)
    (version_told s calls seat h) (cursor_told_lem s calls seat 1 h (inl refl)) (cursor_told_lem s calls seat 2 h (inr refl))
  where
    by_parts : (held : Option Seat) {version : Option ℕ} {first second : Option Cursor}
        → version_of held ≡ version → cursor_by held 1 ≡ first → cursor_by held 2 ≡ second → held ≡ seat_from version first second
    by_parts None a b c = rw (sym a)
    by_parts (Some k) a b c = rw (sym a, sym b, sym c)

-- word for word: no word of the seat's says anything else
pub words_told : (s : List ℕ) (calls : List Call) (seat : ℕ) → seat < seats
    → seat_part (after (sources_of s) fresh_table calls) seat
    ≡ seat_words (whole_seat_told (sources_of s) seat (history (sources_of s) fresh_table calls))
words_told s calls seat h =
    words_is (after (sources_of s) fresh_table calls) (reached_well s calls) seat h ∙ ap seat_words (seat_told_lem s calls seat h)

-- and each refusal of a call to one of the eight seats is the first of the causes from 4 on that apply to what is told
module _ (s : List ℕ) (rows : List Row) (e : catalogue s ≡ Some rows) (calls : List Call) (c : Call) (h : seat_of_call c < seats) where
  pub refusal_told : (step (sources_of s) (after (sources_of s) fresh_table calls) c).refusal
      ≡ first_cause (causes_on (sources_of s) (whole_seat_told (sources_of s) (seat_of_call c) (history (sources_of s) fresh_table calls)) c)
  refusal_told =
      let t = after (sources_of s) fresh_table calls in
      refusal_is (sources_of s) t c
      ∙ first_go (judging (sources_of s) t (seat_of_call c)) (causes_on (sources_of s) (seat_held t (seat_of_call c)) c)
      (judging_numbered (sources_of s) t (seat_of_call c)) (not_judged (sources_of s) t (seat_of_call c) (reached_passes s rows calls e) h)
      ∙ ap (λ (held : Option Seat). first_cause (causes_on (sources_of s) held c)) (seat_told_lem s calls (seat_of_call c) h)

  pub refused_over_calls : (n : ℕ) → (n ≡ 0 → ⊥)
      → ((step (sources_of s) (after (sources_of s) fresh_table calls) c).refusal ≡ n)
      ↔ Given n (causes_on (sources_of s) (whole_seat_told (sources_of s) (seat_of_call c) (history (sources_of s) fresh_table calls)) c)
  refused_over_calls n z =
      let x = exact (causes_on (sources_of s) (whole_seat_told (sources_of s) (seat_of_call c) (history (sources_of s) fresh_table calls)) c) n z in
      (λ r. x.0 (sym refusal_told ∙ r), λ g. refusal_told ∙ x.1 g)

  pub accepted_over_calls : ((step (sources_of s) (after (sources_of s) fresh_table calls) c).refusal ≡ 0)
      ↔ NoneApplies (causes_on (sources_of s) (whole_seat_told (sources_of s) (seat_of_call c) (history (sources_of s) fresh_table calls)) c)
  accepted_over_calls =
      let held = whole_seat_told (sources_of s) (seat_of_call c) (history (sources_of s) fresh_table calls) in
      let x = exact_none (causes_on (sources_of s) held c) (on_seat_numbered (sources_of s) held c) in
      (λ r. x.0 (sym refusal_told ∙ r), λ g. refusal_told ∙ x.1 g)
