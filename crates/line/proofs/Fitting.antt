-- A call that fits a part of a line fits the line, and a part is no longer than the whole. Assumes nothing.
use mathlib.Core.Path.{ap}
use mathlib.Core.List.{List}
use Rattle.std.specs.Prelude.{Result, Ok, Err}
use Prim.Native.Nat.{ℕ, ◌≤◌}
use native.Mathlib.Omega.{arith}
use lib.ListN.{length, take, length-append, take-append-drop}
use Rattle.line.specs.declared.Call.{Call}
use Rattle.line.specs.declared.Call.TheVariants as call
use Rattle.line.specs.declared.Reason.{Reason}
use Rattle.line.specs.declared.Digits.{Digits}
use Rattle.line.specs.CallReady.{DigitsReady, CallReady, LineReady}

pub part_length : (k : ℕ) (s : List ℕ) → length (take k s) ≤ length s
part_length k s = omega (arith, simp length-append at (ap length (take-append-drop k s)))

pub digits_more : (most m n : ℕ) (d : Digits) → m ≤ n → DigitsReady most m d → DigitsReady most n d
digits_more most m n d h f = record { ordered = f.ordered; inside = omega (arith, f.inside); few = f.few }

pub fits_more : (m n : ℕ) (c : Call) → m ≤ n → CallReady m c → CallReady n c
fits_more m n call.Nothing h f = omega arith
fits_more m n (call.Catalogue hex) h f = digits_more _ m n hex h f
fits_more m n (call.Connect seat version) h f = omega arith
fits_more m n (call.Open seat tree) h f = digits_more _ m n tree h f
fits_more m n (call.Message seat room bytes) h f = (f.0, digits_more _ m n bytes h f.1)
fits_more m n (call.Word index value) h f = f

pub line_more : (m n : ℕ) (r : Result Call Reason) → m ≤ n → LineReady m r → LineReady n r
line_more m n (Ok c) h f = fits_more m n c h f
line_more m n (Err reason) h f = tt
