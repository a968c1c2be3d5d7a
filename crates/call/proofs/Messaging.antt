-- The ways that a message can go: refused before its seat is looked at, or answered by its seat. Assumes nothing.
use mathlib.Core.Path.{◌≡◌, refl, ◌∙◌}
use mathlib.Core.Bool.{false}
use mathlib.Core.List.{List, ◌++◌}
use Rattle.std.specs.Prelude.{Result, Err}
use Rattle.refusal.specs.declared.Refusal.{Refusal}
use Rattle.refusal.specs.declared.Refusal.TheVariants.{BufferShort, MessageSize}
use Rattle.refusal.specs.Numbers.{refusal_number}
use Rattle.refusal.proofs.Numbers.{number_least}
use Prim.Native.Nat.{ℕ, ◌+◌, ◌-◌, ◌≤◌, ◌<◌}
use native.Mathlib.Omega.{arith}
use borrow.Author.Tests.{ne_eqb, lt-ltb, le-ltb, le-leb, lt-leb}
use lib.ListN.{length}
use Rattle.wire.specs.Checksum.{message_sized}
use Rattle.table.specs.Layout.{seat_size, seat_at}
use Rattle.lists.specs.Parts.{put}
use Rattle.catalogue.specs.Plain.{rows_of}
use Rattle.refusal.specs.Refusal.{first_cause}
use Rattle.message.specs.Message.{seat_message}
use Rattle.message.specs.AnswerTold.{Answers}
use Rattle.refusal.proofs.First.{first_stop, first_go, first_under}
use Rattle.call.specs.Step.{Sources, MessageKeeps, judging, seat_held, sizing, message_step}
use Rattle.call.proofs.Causes.{judging_numbered}
use Rattle.call.proofs.Seating.{seated_is}

module _ (src : Sources) (t : List ℕ) (seat : ℕ) (m : List ℕ) (entry : List ℕ) where
  -- a refusal up to 5 writes nothing
  by_cause : (n : Refusal) → first_cause (judging src t seat ++ sizing m (length entry)) ≡ refusal_number n → refusal_number n < 6
      → MessageKeeps (message_step src t seat m (length entry)) (Err n) t entry entry
  unfolding message_step
  by_cause n e l =
      rw (e, ne_eqb (refusal_number n) 0 (number_least n))
      record { refused = refl; given = refl; counted = rw (lt-leb 6 (refusal_number n) l); kept = refl; written = refl }

  pub message_judged : (n : Refusal) → first_cause (judging src t seat) ≡ refusal_number n → MessageKeeps (message_step src t seat m (length entry)) (Err n) t entry entry
  message_judged n e =
      by_cause n (first_stop (judging src t seat) (sizing m (length entry)) (refusal_number n) e (number_least n))
      (omega (arith, e, first_under 4 (judging src t seat) (omega arith) (omega arith, (omega arith, (omega arith, tt)))))

  module _ (e : first_cause (judging src t seat) ≡ 0) where
    sizes : first_cause (judging src t seat ++ sizing m (length entry)) ≡ first_cause (sizing m (length entry))
    sizes = first_go (judging src t seat) (sizing m (length entry)) (judging_numbered src t seat) e

    pub room_refused : length entry < 16384 → MessageKeeps (message_step src t seat m (length entry)) (Err BufferShort) t entry entry
    unfolding first_cause
    room_refused h = by_cause BufferShort (sizes ∙ rw (lt-ltb (length entry) 16384 h)) (omega arith)

    pub size_refused : 16384 ≤ length entry → message_sized m ≡ false → MessageKeeps (message_step src t seat m (length entry)) (Err MessageSize) t entry entry
    unfolding first_cause
    size_refused r h = by_cause MessageSize (sizes ∙ rw (le-ltb (length entry) 16384 r, h)) (omega arith)

    pub message_answered : 16384 ≤ length entry → 16 ≤ length m → length m ≤ 16384 → (r : Result ℕ Refusal) (words exit : List ℕ)
        → Answers (seat_message (rows_of src.rows) (seat_held t seat) m) r words entry exit
        → MessageKeeps (message_step src t seat m (length entry)) r (put t (seat_at seat) (seat_at seat + seat_size - seat_at seat) words) entry exit
    unfolding first_cause message_step
    message_answered h l k r words exit a =
        let f : first_cause (judging src t seat ++ sizing m (length entry)) ≡ 0
        = sizes ∙ rw (le-ltb (length entry) 16384 h, le-leb 16 (length m) l, le-leb (length m) 16384 k) in
        rw f
        record {
          refused = a.refused;
          given = refl;
          counted = a.counted;
          kept = seated_is t seat words (seat_message (rows_of src.rows) (seat_held t seat) m).after a.kept;
          written = a.written;
        }

    -- a message of another size
    pub short_unsized : length m < 16 → message_sized m ≡ false
    short_unsized h = rw (lt-leb 16 (length m) h)

    pub long_unsized : 16 ≤ length m → 16384 < length m → message_sized m ≡ false
    long_unsized l h = rw (le-leb 16 (length m) l, lt-leb (length m) 16384 h)
