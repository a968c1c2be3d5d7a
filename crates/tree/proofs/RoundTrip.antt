-- What reads as a tree is exactly what is written of a tree within the limits, whatever its weights and locales. Assumes nothing.
use mathlib.Core.Path.{◌≡◌, refl, sym, ap, ◌∙◌}
use mathlib.Core.List.{List}
use mathlib.Core.Logic.{◌↔◌}
use Rattle.std.specs.Prelude.{Option, None, Some}
use Prim.Native.Nat.{ℕ, ◌+◌, ◌-◌, ◌≤◌}
use native.Mathlib.Nat.{zero-add}
use native.Mathlib.Omega.{arith}
use borrow.Author.Tests.{le-leb, eq-eqb}
use lib.ListN.{length, get_or, length-map, get_or-map}
use Rattle.lists.proofs.Options.{none≢some, some_is}
use Rattle.wire.specs.Word.{Bytes}
use Rattle.tree.specs.Limits.{bytes_most, nodes_most, levels_most}
use Rattle.tree.specs.Tree.{Tree, nodes_of}
use Rattle.tree.specs.Reader.{restriction}
use Rattle.tree.specs.Writer.{tree_form, written, write, positioned, Within, Alike}
use Rattle.tree.proofs.FormLaws.{Stands}
use Rattle.tree.proofs.TreeWritten.{tree_there}
use Rattle.tree.proofs.TreeRead.{tree_back}
use Rattle.tree.proofs.TreeFacts.{held, within_limits}

-- what is written, where a byte is given
write_long : (t : Tree) → length (write 0 t) ≡ length (tree_form t 0)
write_long t = length-map (tree_form t 0) written

write_byte : (t : Tree) (i b : ℕ) → get_or (tree_form t 0) i None ≡ Some b → get_or (write 0 t) i 0 ≡ b
write_byte t i b e = get_or-map written (tree_form t 0) i None ∙ ap written e

-- in bytes that differ from these in weights and locales alone the tree stands from the first to the last
alike_stands : (t : Tree) (s : List ℕ) → Alike t s (write 0 t) → Stands (tree_form t 0) s 0 (length s)
alike_stands t s h =
    record {
      ends = omega (arith, h.size, write_long t);
      room = omega arith;
      each = λ i b e. ap (λ (j : ℕ). get_or s j 0) (zero-add i) ∙ h.each i b e ∙ write_byte t i b e;
    }

stands_alike : (t : Tree) (s : List ℕ) → Stands (tree_form t 0) s 0 (length s) → Alike t s (write 0 t)
stands_alike t s h =
    record {
      size = omega (arith, h.ends, write_long t);
      each = λ i b e. ap (λ (j : ℕ). get_or s j 0) (sym (zero-add i)) ∙ h.each i b e ∙ sym (write_byte t i b e);
    }

-- so they read as that tree, with its positions, if it is within the limits
pub reads_alike : (t : Tree) (s : List ℕ) → Within t → Alike t s (write 0 t) → restriction s ≡ Some (positioned 0 t)
unfolding restriction
reads_alike t s fits h =
    let short : length s ≤ bytes_most = omega (arith, h.size, fits.bytes) in
    let nodes : nodes_most ≡ nodes_of t + (nodes_most - nodes_of t) = omega (arith, fits.nodes) in
    let read =
    tree_there t levels_most fits.levels fits.leaves nodes_most (nodes_most - nodes_of t) 0 (length s) s nodes (omega arith) (alike_stands t s h) in
    rw (le-leb (length s) bytes_most short, read, eq-eqb (length s) (length s) refl)

-- what is written of a tree within the limits reads back
pub reads_written : (t : Tree) → Within t → restriction (write 0 t) ≡ Some (positioned 0 t)
reads_written t fits = reads_alike t (write 0 t) fits (record { size = refl; each = λ i b e. refl })

-- and what reads as a tree is what is written of it, but for weights and locales; the tree is within the limits, and has its positions
pub written_reads : (s : List ℕ) (t : Tree) → Bytes s → restriction s ≡ Some t → Within t × Alike t s (write 0 t) × (positioned 0 t ≡ t)
written_reads s t bytes e =
    let h = held s t e in
    let back = tree_back levels_most nodes_most 0 s (record { tree = t; used = length s; nodes = h.left }) bytes h.read in
    let limits = within_limits s t e in
    let same = stands_alike t s back.0 in
    let within : Within t =
    record {
      leaves = back.1;
      nodes = limits.1;
      levels = limits.2;
      bytes = omega (arith, same.size, limits.0);
    } in
    (within, same, some_is (sym (reads_alike t s within same) ∙ e))

-- two byte strings that differ in weights and locales alone read alike
pub alike : (s other : List ℕ) (t : Tree) → Bytes s → restriction s ≡ Some t → Alike t s other → restriction other ≡ Some t
alike s other t bytes e h =
    let back = written_reads s t bytes e in
    let same : Alike t other (write 0 t) =
    record { size = sym h.size ∙ back.1.size; each = λ i b f. sym (h.each i b f) ∙ back.1.each i b f } in
    reads_alike t other back.0 same ∙ ap Some back.2

-- refusal 16 of bytes, by the writer alone: they are those of no tree within the limits, whatever its weights and locales
pub no_tree : (s : List ℕ) → Bytes s → (restriction s ≡ None) ↔ ((t : Tree) → Within t → Alike t s (write 0 t) → ⊥)
no_tree s bytes = (λ e t w a. none≢some (sym e ∙ reads_alike t s w a), λ h. go (restriction s) refl h)
  where
    go : (o : Option Tree) → restriction s ≡ o → ((t : Tree) → Within t → Alike t s (write 0 t) → ⊥) → restriction s ≡ None
    go None e h = e
    go (Some t) e h = let back = written_reads s t bytes e in absurd (h t back.0 back.1)
