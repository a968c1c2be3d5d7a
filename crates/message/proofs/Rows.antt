-- Getting rows: the causes of its body, and what it leaves where none applies. Assumes nothing.
use mathlib.Core.Path.{◌≡◌, refl, sym, ap, ap₂, subst, ◌∙◌}
use mathlib.Core.Bool.{true, false}
use mathlib.Core.List.{List, ◌++◌}
use Rattle.std.specs.Prelude.{Option, None, Some, Result, Ok, Err}
use Rattle.refusal.specs.declared.Refusal.{Refusal}
use Rattle.refusal.proofs.Numbers.{number_least}
use Prim.Native.Nat.{ℕ, ◌+◌, ◌-◌, ◌≤◌}
use native.Mathlib.Omega.{arith}
use lib.Dec.{eqb}
use lib.ListN.{length, take, drop, take-append-drop}
use Rattle.lists.proofs.Below.{by_test, both_left, both_right}
use Rattle.lists.proofs.Options.{none≢some, some_is}
use Rattle.catalogue.specs.Plain.{catalogue, rows_of}
use Rattle.table.specs.Layout.{cursor_size, cursor_place}
use Rattle.lists.specs.Parts.{part, put}
use Rattle.table.specs.Seat.{Cursor, Seat, cursor_words, cursor_held, seat_in, seat_of, cursor_in}
use Rattle.table.specs.Well.{cursor_below, seat_below}
use Rattle.table.specs.Fits.{CursorFits, CursorOk}
use Rattle.table.proofs.Seats.{cursor_words_lem}
use Rattle.lists.proofs.Parts.{part_is}
use Rattle.fetch.specs.Request.{request}
use Rattle.fetch.specs.declared.Request.{Request}
use Rattle.fetch.proofs.Ranges.{request_sound, request_handle}
use Rattle.fetch.specs.Fetch.{fetch_causes, fetch_reply, fetched}
use Rattle.fetch.specs.FetchReady.{FetchReady}
use Rattle.fetch.specs.FetchTold.{Fetched}
use Rattle.fetch.proofs.Fetching.{reply_length}
use Rattle.refusal.specs.Refusal.{first_cause}
use Rattle.message.specs.Message.{handle_of, body_causes, rows_done, seat_message}
use Rattle.table.specs.Open.{is_open}
use Rattle.message.specs.AnswerReady.{AdmittedReady, SourcesReady}
use Rattle.message.specs.AnswerTold.{Answers, RefusesFor}
use Rattle.message.proofs.Answering.{held, seat_is, seat_fits, refused_by_lem, body_done}
use Rattle.table.proofs.Handles.{place_inside, put_is}
use Rattle.message.proofs.Bodies.{put_handle}
use Rattle.message.proofs.Binding.{open_some, part_handle}

-- the cursor of a handle fits where those of the seat do
cursor_fits : (s : Seat) (handle : ℕ) (c : Cursor) → CursorOk s.first → CursorOk s.second → cursor_in s handle ≡ Some c → CursorFits c
cursor_fits s handle c f g e =
    by_test (eqb handle 1)
    (λ q. subst CursorOk (rw q at e) f)
    (λ q. by_test (eqb handle 2) (λ k. subst CursorOk (rw (q, k) at e) g) (λ k. absurd (none≢some (rw (q, k) at e))))

cursor_below_lem : (n : ℕ) (s : Seat) (handle : ℕ) (c : Cursor) → seat_below n (Some s) ≡ true → cursor_in s handle ≡ Some c → cursor_below n (Some c) ≡ true
cursor_below_lem n s handle c f e =
    by_test (eqb handle 1)
    (λ q. subst (λ (o : Option Cursor). cursor_below n o ≡ true) (rw q at e) (both_left (cursor_below n s.first) _ f))
    (λ q.
    by_test (eqb handle 2)
    (λ k. subst (λ (o : Option Cursor). cursor_below n o ≡ true) (rw (q, k) at e) (both_right (cursor_below n s.first) _ f))
    (λ k. absurd (none≢some (rw (q, k) at e))))

module _ (b m reply : List ℕ) (msg : ℕ) (a : AdmittedReady b m reply msg 2) (s places : List ℕ) (z : SourcesReady b s places) where
  pub not_asked : request m ≡ None → first_cause (body_causes (rows_of (catalogue s)) 2 (seat_in b) m) ≡ 9
  unfolding first_cause
  not_asked e = rw e

  module _ (q : Request) (e : request m ≡ Some q) where
    pub rows_closed : is_open (cursor_in (seat_in b) (handle_of m)) ≡ false → first_cause (body_causes (rows_of (catalogue s)) 2 (seat_in b) m) ≡ 10
    unfolding first_cause
    rows_closed o = rw (e, o)

    -- the words of the cursor, and what fetching relies on
    module _ (c : Cursor) (k : cursor_in (seat_in b) (handle_of m) ≡ Some c) where
      part_is_words : part b (cursor_place (handle_of m)) cursor_size ≡ cursor_words (Some c)
      part_is_words =
          ap (λ (x : List ℕ). part x (cursor_place (handle_of m)) cursor_size) (seat_is b m reply msg 2 a)
          ∙ part_handle (seat_in b) (handle_of m) c (seat_fits b m reply msg 2 a).0 (seat_fits b m reply msg 2 a).1 k

      fits : CursorFits c
      fits = cursor_fits (seat_in b) (handle_of m) c (seat_fits b m reply msg 2 a).0 (seat_fits b m reply msg 2 a).1 k

      held_is : cursor_held (part b (cursor_place (handle_of m)) cursor_size) ≡ c
      held_is = ap cursor_held part_is_words ∙ some_is (cursor_words_lem (Some c) fits).held

      below : cursor_below (length (rows_of (catalogue s))) (Some c) ≡ true
      below =
          cursor_below_lem (length (rows_of (catalogue s))) (seat_in b) (handle_of m) c
          (subst (λ (o : Option Seat). seat_below (length (rows_of (catalogue s))) o ≡ true) (held b m reply msg 2 a) z.below) k

      pub fetch_ready : FetchReady (part b (cursor_place (handle_of m)) cursor_size) s places q (length reply)
      fetch_ready =
          record {
            held = part_is_words ∙ ap (λ (x : Cursor). cursor_words (Some x)) (sym held_is);
            fits = subst CursorFits (sym held_is) fits;
            below = subst (λ (x : Cursor). cursor_below (length (rows_of (catalogue s))) (Some x) ≡ true) (sym held_is) below;
            placed = z.placed;
            sound = request_sound m q e;
            room = omega (arith, (request_sound m q e).most, a.given.room);
          }

      causes_are : first_cause (body_causes (rows_of (catalogue s)) 2 (seat_in b) m)
          ≡ first_cause (fetch_causes (rows_of (catalogue s)) (cursor_held (part b (cursor_place (handle_of m)) cursor_size)) q)
      unfolding first_cause
      causes_are = rw (e, k) (ap (λ (x : Cursor). first_cause (fetch_causes (rows_of (catalogue s)) x q)) (sym held_is))

      -- refused: the cursor's part is as it was, and so are the seat's words
      pub rows_refused : (n : Refusal) (words mid exit : List ℕ) (r : Result ℕ Refusal) → Fetched (part b (cursor_place (handle_of m)) cursor_size) s q (Err n) words reply mid
          → RefusesFor msg n r mid exit → Answers (seat_message (rows_of (catalogue s)) (seat_of b) m) r b reply exit
      rows_refused n words mid exit r f w =
          refused_by_lem b m reply msg 2 a (rows_of (catalogue s)) n (causes_are ∙ sym f.refused) r reply exit
          (subst (λ (x : List ℕ). RefusesFor msg n r x exit) (f.unwritten (number_least n)) w)

      pub words_back : (n : Refusal) (words mid : List ℕ) → Fetched (part b (cursor_place (handle_of m)) cursor_size) s q (Err n) words reply mid
          → put b (cursor_place (handle_of m)) cursor_size words ≡ b
      words_back n words mid f =
          ap (put b (cursor_place (handle_of m)) cursor_size) (f.unmoved (number_least n))
          ∙ ap (λ (x : List ℕ). take (cursor_place (handle_of m)) b ++ x) (take-append-drop cursor_size (drop (cursor_place (handle_of m)) b))
          ∙ take-append-drop (cursor_place (handle_of m)) b

      -- done: the cursor is moved, and the reply is the page
      pub rows_answered : (words exit : List ℕ) → Fetched (part b (cursor_place (handle_of m)) cursor_size) s q (Ok tt) words reply exit
          → Answers (seat_message (rows_of (catalogue s)) (seat_of b) m) (Ok q.size)
          (put b (cursor_place (handle_of m)) cursor_size words) reply exit
      rows_answered words exit f =
          let d : seat_message (rows_of (catalogue s)) (seat_of b) m ≡ rows_done (rows_of (catalogue s)) (seat_in b) (handle_of m) (Some c) (Some q)
          = body_done b m reply msg 2 a (rows_of (catalogue s)) (causes_are ∙ sym f.refused)
          ∙ ap₂ (rows_done (rows_of (catalogue s)) (seat_in b) (handle_of m)) k e in
          let l : length (fetch_reply (rows_of (catalogue s)) c q) ≡ q.size
          = ap (λ (x : Cursor). length (fetch_reply (rows_of (catalogue s)) x q)) (sym held_is)
          ∙ reply_length (part b (cursor_place (handle_of m)) cursor_size) s places q (length reply) fetch_ready (sym f.refused) in
          rw d
          record {
            refused = refl;
            counted = sym l;
            kept = ap (put b (cursor_place (handle_of m)) cursor_size) (f.moved refl ∙ ap (λ (x : Cursor). cursor_words (Some (fetched (rows_of (catalogue s)) x q))) held_is)
                ∙ ap (λ (x : List ℕ). put x (cursor_place (handle_of m)) cursor_size (cursor_words (Some (fetched (rows_of (catalogue s)) c q)))) (seat_is b m reply msg 2 a)
                ∙ put_handle (seat_in b) (handle_of m) (Some (fetched (rows_of (catalogue s)) c q)) (seat_fits b m reply msg 2 a).0 (seat_fits b m reply msg 2 a).1;
            written = f.written refl
                ∙ ap₂ (λ (x : Cursor) (n : ℕ). fetch_reply (rows_of (catalogue s)) x q ++ drop n reply) held_is (sym l);
          }

    pub found_inside : (at : ℕ) → at ≡ cursor_place q.handle → at + cursor_size ≤ length b
    found_inside at p = omega (arith, p, place_inside q.handle, a.given.size)

    -- the same by the place that the code found
    module _ (o : is_open (cursor_in (seat_in b) q.handle) ≡ true) (at : ℕ) (p : at ≡ cursor_place q.handle) where
      handle_is : q.handle ≡ handle_of m
      handle_is = request_handle m q e

      cursor : (c : Cursor) × (cursor_in (seat_in b) (handle_of m) ≡ Some c)
      cursor = open_some (cursor_in (seat_in b) (handle_of m)) (ap (λ (h : ℕ). is_open (cursor_in (seat_in b) h)) (sym handle_is) ∙ o)

      place_is : at ≡ cursor_place (handle_of m)
      place_is = p ∙ ap cursor_place handle_is

      lent_is : take (at + cursor_size - at) (drop at b) ≡ part b (cursor_place (handle_of m)) cursor_size
      lent_is = part_is b at cursor_size ∙ ap (λ (x : ℕ). part b x cursor_size) place_is

      left_is : (words : List ℕ) → put b at (at + cursor_size - at) words ≡ put b (cursor_place (handle_of m)) cursor_size words
      left_is words = put_is b at words ∙ ap (λ (x : ℕ). put b x cursor_size words) place_is

      pub ready_at : FetchReady (take (at + cursor_size - at) (drop at b)) s places q (length reply)
      ready_at = subst (λ (x : List ℕ). FetchReady x s places q (length reply)) (sym lent_is) (fetch_ready cursor.0 cursor.1)

      module _ (words mid : List ℕ) where
        fetched_is : (n : Result Unit Refusal) → Fetched (take (at + cursor_size - at) (drop at b)) s q n words reply mid
            → Fetched (part b (cursor_place (handle_of m)) cursor_size) s q n words reply mid
        fetched_is n f = subst (λ (x : List ℕ). Fetched x s q n words reply mid) lent_is f

        pub refused_at : (n : Refusal) → Fetched (take (at + cursor_size - at) (drop at b)) s q (Err n) words reply mid
            → (exit : List ℕ) (r : Result ℕ Refusal) → RefusesFor msg n r mid exit
            → Answers (seat_message (rows_of (catalogue s)) (seat_of b) m) r (put b at (at + cursor_size - at) words) reply exit
        refused_at n f exit r w =
            rw (left_is words, words_back cursor.0 cursor.1 n words mid (fetched_is (Err n) f))
            (rows_refused cursor.0 cursor.1 n words mid exit r (fetched_is (Err n) f) w)

        pub answered_at : Fetched (take (at + cursor_size - at) (drop at b)) s q (Ok tt) words reply mid
            → Answers (seat_message (rows_of (catalogue s)) (seat_of b) m) (Ok q.size) (put b at (at + cursor_size - at) words) reply mid
        answered_at f = rw (left_is words) (rows_answered cursor.0 cursor.1 words mid (fetched_is (Ok tt) f))
