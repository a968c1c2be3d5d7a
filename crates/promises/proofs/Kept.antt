-- The promises as a caller of `call_connect::connect`, `call_open::open` and `call_message::message` has them: of what the function returns and leaves in each lent slice.
-- Assumes nothing.
use mathlib.Core.Path.{◌≡◌, sym, ap, ◌∙◌}
use mathlib.Core.List.{List, [], ◌++◌}
use Prim.Native.Nat.{ℕ, ◌≤◌}
use native.Mathlib.Omega.{arith}
use borrow.Author.Tests.{lt-ltb, le-ltb}
use lib.ListN.{length, drop}
use Rattle.wire.specs.Word.{le}
use Rattle.wire.specs.Laid.{four_words}
use Rattle.refusal.specs.Refusal.{status_of}
use Rattle.message.specs.Message.{msg_of}
use Rattle.call.specs.Step.{Sources, Keeps, Same}
use Rattle.call.proofs.Once.{keeps_once}
use Rattle.promises.specs.Calls.{Call, messaging, step}
use Rattle.promises.specs.Causes.{refusal_reply}
use Rattle.promises.proofs.Unchanged.{refused_leaves}

-- a call's statement: its refusal, handle and count of reply bytes, the table afterwards, and its reply buffer before and after
module _ (src : Sources) (t : List ℕ) (c : Call) (r h n : ℕ) (w entry exit : List ℕ) (k : Keeps (step src t c) r h n w entry exit) where
  -- any two outcomes that it allows agree
  pub once : (r' h' n' : ℕ) (w' exit' : List ℕ) → Keeps (step src t c) r' h' n' w' entry exit' → Same r r' h h' n n' w w' exit exit'
  once r' h' n' w' exit' l = keeps_once (step src t c) r r' h h' n n' w w' entry exit exit' k l

  -- a refusal: no handle, the table as it was, and the buffer as it was but for what the refusal writes
  module _ (z : r ≡ 0 → ⊥) where
    reply_is : (step src t c).reply ≡ refusal_reply c r
    reply_is = (refused_leaves src t c (λ e. z (k.refused ∙ e))).reply ∙ ap (refusal_reply c) (sym k.refused)

    pub refused_handle : h ≡ 0
    refused_handle = k.given ∙ (refused_leaves src t c (λ e. z (k.refused ∙ e))).handle

    pub refused_table : w ≡ t
    refused_table = k.kept ∙ (refused_leaves src t c (λ e. z (k.refused ∙ e))).words

    pub refused_count : n ≡ length (refusal_reply c r)
    refused_count = k.counted ∙ ap length reply_is

    pub refused_buffer : exit ≡ refusal_reply c r ++ drop (length (refusal_reply c r)) entry
    refused_buffer = k.written ∙ ap (λ (x : List ℕ). x ++ drop (length x) entry) reply_is

-- so a message that 1 to 5 refuse leaves the buffer as it was, and one that a later number refuses has the sixteen bytes of the header
-- in it and nothing else
module _ (src : Sources) (t : List ℕ) (seat : ℕ) (m : List ℕ) (r h n : ℕ) (w entry exit : List ℕ)
    (k : Keeps (step src t (messaging seat m (length entry))) r h n w entry exit) (z : r ≡ 0 → ⊥) where
  pub nothing_written : r ≤ 5 → (n ≡ 0) × (exit ≡ entry)
  nothing_written l =
      let e : refusal_reply (messaging seat m (length entry)) r ≡ [] = rw (lt-ltb r 6 (omega arith)) in (
        refused_count src t (messaging seat m (length entry)) r h n w entry exit k z ∙ ap length e,
        refused_buffer src t (messaging seat m (length entry)) r h n w entry exit k z ∙ ap (λ (x : List ℕ). x ++ drop (length x) entry) e,
      )

  pub header_written : 6 ≤ r → (n ≡ 16) × (exit ≡ four_words (msg_of m) (status_of r) 0 0 ++ drop 16 entry)
  unfolding le
  header_written l =
      let e : refusal_reply (messaging seat m (length entry)) r ≡ four_words (msg_of m) (status_of r) 0 0 = rw (le-ltb r 6 l) in (
        refused_count src t (messaging seat m (length entry)) r h n w entry exit k z ∙ ap length e,
        refused_buffer src t (messaging seat m (length entry)) r h n w entry exit k z ∙ ap (λ (x : List ℕ). x ++ drop (length x) entry) e,
      )
