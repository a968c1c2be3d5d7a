-- From what the server's functions and the writers of answers leave to what a call answers. Assumes nothing.
use mathlib.Core.Path.{◌≡◌, refl, sym, ap, ◌∙◌}
use mathlib.Core.Bool.{false}
use mathlib.Core.List.{List, [], ◌++◌}
use Prim.Native.Nat.{ℕ, zero, suc, ◌+◌, ◌-◌, ◌/◌, ◌≤◌}
use native.Mathlib.Omega.{arith}
use lib.ListN.{length, take, drop, replicate, length-append, length-replicate}
use lib.Seq.{take_at, take-length, drop-length, take-append_seam, drop-append_seam, drop-nil, length-take-le}
use Rattle.line.specs.Digits.{hex_bytes}
use Rattle.line.proofs.DigitLaws.{hex_count}
use Rattle.line.specs.Line.{room_most}
use Rattle.line.specs.declared.Reason.{Reason}
use Rattle.line.specs.declared.Out.{Out}
use Rattle.line.specs.Text.{Written, fill_byte, changed}
use Rattle.line.proofs.TextLaws.{put_none}
use Rattle.line.specs.Answer.{error_text, connect_text, open_text, message_text}
use Rattle.line.proofs.Short.{error_short, connect_short, open_short, message_short}
use Rattle.call.specs.Step.{Outcome, Keeps}
use Rattle.file.specs.Served.{Answer, silent, connected, opened, replied, ServesOut, answer_most}
use Rattle.file.proofs.Short.{part_short}

-- the bytes that were loaded are the first of their buffer
pub loaded : (digits rest : List ℕ) (n : ℕ) → n ≡ length digits / 2 → take n (hex_bytes digits ++ rest) ≡ hex_bytes digits
loaded digits rest n e = take_at (hex_bytes digits) rest n (hex_count digits ∙ sym e)

-- a buffer that was filled has no byte that changed
pub never_changed : (n k : ℕ) → changed (drop k (replicate n fill_byte)) ≡ false
unfolding changed
never_changed zero k = rw (drop-nil {A = ℕ} k)
never_changed (suc n) zero = never_changed n zero
never_changed (suc n) (suc k) = never_changed n k

-- so the answer to a message tells the reply alone
pub sent : (refusal n : ℕ) (reply : List ℕ) →
    message_text refusal (length reply) (reply ++ drop (length reply) (replicate n fill_byte)) ≡ message_text refusal (length reply) reply
unfolding changed message_text
sent refusal n reply =
    rw (take-append_seam reply (drop (length reply) (replicate n fill_byte)), drop-append_seam reply (drop (length reply) (replicate n fill_byte)), never_changed n (length reply), take-length reply, drop-length reply)

-- and it has no more bytes than the buffer
pub kept_count : {o : Outcome} {refusal handle count : ℕ} {words entry exit : List ℕ} → Keeps o refusal handle count words entry exit
    → length exit ≡ length entry → count ≤ length entry
kept_count {o} {refusal} {handle} {count} {words} {entry} {exit} k h =
    let l : length exit ≡ length o.reply + length (drop (length o.reply) entry) = ap length k.written ∙ length-append o.reply (drop (length o.reply) entry) in
    omega (arith, l, h, k.counted)

-- a part of so many bytes
pub part_size : (n : ℕ) (s : List ℕ) → n ≤ length s → length (take (n - 0) s) ≡ n
part_size n s h = let same : n - 0 ≡ n = omega arith in rw same (length-take-le n s h)

-- an answer that was laid in an output
pub served : {a : Answer} {words : List ℕ} {before after : Out} → words ≡ a.words → Written a.text before after
    → length a.text ≤ answer_most → ServesOut a words before after
served k w h = record { serves = record { kept = k; said = w.put; fits = omega (arith, w.put.next, h) }; stays = w.stays }

module _ (words : List ℕ) (before after : Out) where
  pub served_message : (o : Outcome) (refusal handle count n : ℕ) (entry exit : List ℕ) → n ≤ room_most → entry ≡ replicate n fill_byte
      → Keeps o refusal handle count words entry exit → length exit ≡ length entry → Written (message_text refusal count exit) before after
      → ServesOut (replied o) words before after
  served_message o refusal handle count n entry exit m e k h p = record {
    serves = record {
      kept = k.kept;
      said = rw (sent o.refusal n o.reply) at (rw (k.refused, k.counted, k.written, e) at p.put);
      fits = omega (arith, p.put.next, message_short refusal count exit, part_short count exit, kept_count k h, ap length e, length-replicate n fill_byte);
    };
    stays = p.stays;
  }

  pub served_open : (o : Outcome) (refusal handle : ℕ) → Keeps o refusal handle 0 words [] [] → Written (open_text refusal handle) before after
      → ServesOut (opened o) words before after
  served_open o refusal handle k p = served k.kept (rw (k.refused, k.given) at p) (omega (arith, open_short o.refusal o.handle))

  pub served_connect : (o : Outcome) (refusal : ℕ) → Keeps o refusal 0 0 words [] [] → Written (connect_text refusal) before after
      → ServesOut (connected o) words before after
  served_connect o refusal k p = served k.kept (rw k.refused at p) (omega (arith, connect_short o.refusal))

  pub served_error : (number : ℕ) (reason : Reason) → Written (error_text number reason) before after
      → ServesOut (record { text = error_text number reason; words = words }) words before after
  served_error number reason p = served refl p (omega (arith, error_short number reason))

-- nothing is said
pub served_none : (words : List ℕ) (o : Out) → ServesOut (silent words) words o o
served_none words o = record {
  serves = record { kept = refl; said = put_none o.used o.bytes.now; fits = omega arith };
  stays = record { long = refl; same = refl };
}
