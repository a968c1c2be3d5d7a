-- The whole case: four calls from the fresh table to the 512 bytes, by computation over the calls' own seat. Assumes nothing.
use mathlib.Core.Path.{◌≡◌, refl, sym, ap, ap₂, ◌∙◌}
use mathlib.Core.List.{List, [], ◌∷◌}
use Rattle.std.specs.Prelude.{Option, None, Some}
use Prim.Native.Nat.{ℕ, ◌<◌}
use native.Mathlib.Omega.{arith}
use Rattle.lists.specs.Below.{every_below}
use Rattle.wire.specs.Word.{number, number_at, le}
use Rattle.catalogue.specs.Writer.{unit_bytes}
use Rattle.catalogue.proofs.Vectors.{case_parses}
use Rattle.catalogue.specs.Examples.{case_bytes, case_rows}
use Rattle.lists.specs.Every.{every, pairwise}
use Rattle.bindings.specs.Fit.{spans_of, columns_fit, fit}
use Rattle.bindings.specs.Plain.{zero_bytes, flag, spot, value, property, column, columns, bindings}
use Rattle.wire.specs.Padding.{zero_at}
use Rattle.wire.specs.PropertySpec.{set_ours, property_at}
use Rattle.tree.specs.Parts.{relation_at}
use Rattle.tree.specs.TreeHolds.{says}
use Rattle.tree.specs.Reader.{read_tree, restriction}
use Rattle.tree.specs.Select.{numbers_from}
use Rattle.lists.specs.Each.{Each}
use Rattle.wire.specs.Laid.{lay, lays}
use Rattle.page.specs.Cell.{column_spans}
use Rattle.refusal.specs.Refusal.{first_cause}
use Rattle.fetch.specs.Request.{request}
use Rattle.page.specs.Rows.{blocks, returned, row_spans, rows_spans}
use Rattle.page.specs.Page.{page_bytes}
use Rattle.table.specs.Layout.{seats}
use Rattle.table.specs.Seat.{Seat}
use Rattle.message.specs.Message.{kind_from, seat_message}
use Rattle.call.specs.Step.{Sources, sources_of, seat_held}
use Rattle.call.specs.Passing.{Passing}
use Rattle.promises.specs.Calls.{Call, seat_of_call, step, Answer, Event, history, fresh_table}
use Rattle.promises.specs.Case.{case_calls, case_events, case_notes}
use Rattle.promises.specs.Client.{told}
use Rattle.promises.specs.Walk.{notes_told}
use Rattle.promises.proofs.Reached.{step_passes, fresh_seat, fresh_passes}
use Rattle.promises.proofs.Alone.{own_step, step_alone}

-- the calls of one seat, by that seat alone
unfoldable own_history : Sources → Option Seat → List Call → List Event
own_history src held [] = []
own_history src held (c ∷ calls) = record { call = c; answer = (own_step src held c).answer } ∷ own_history src (own_step src held c).after calls

by_own : (s t : List ℕ) (seat : ℕ) → seat < seats → (calls : List Call) → Each (λ c. seat_of_call c ≡ seat) calls → Passing (sources_of s) t
    → history (sources_of s) t calls ≡ own_history (sources_of s) (seat_held t seat) calls
unfolding history own_history Each
by_own s t seat h [] w p = refl
by_own s t seat h (c ∷ calls) w p =
    let l = step_alone s t p c (omega (arith, w.0)) in
    let held : seat_held t (seat_of_call c) ≡ seat_held t seat = ap (seat_held t) w.0 in
    ap₂ (λ (a : Answer) (rest : List Event). record { call = c; answer = a } ∷ rest)
    (l.answer ∙ ap (λ (o : Option Seat). (own_step (sources_of s) o c).answer) held)
    (by_own s (step (sources_of s) t c).words seat h calls w.1 (step_passes s t c p)
    ∙ ap (λ (o : Option Seat). own_history (sources_of s) o calls)
    (ap (seat_held (step (sources_of s) t c).words) (sym w.0) ∙ l.held ∙ ap (λ (o : Option Seat). (own_step (sources_of s) o c).after) held))

computed : own_history (record { rows = Some case_rows }) None case_calls ≡ case_events
unfolding own_history first_cause seat_message kind_from number_at number le restriction read_tree relation_at property_at set_ours zero_at every_below says numbers_from bindings columns column property value spot flag zero_bytes fit columns_fit every pairwise spans_of request blocks returned page_bytes lays lay rows_spans row_spans column_spans unit_bytes
computed = refl

pub whole_case : history (sources_of case_bytes) fresh_table case_calls ≡ case_events
unfolding Each
whole_case =
    by_own case_bytes fresh_table 0 (omega arith) case_calls (refl, (refl, (refl, (refl, tt)))) (fresh_passes case_bytes case_rows case_parses)
    ∙ ap (λ (o : Option Seat). own_history (sources_of case_bytes) o case_calls) (fresh_seat 0 (omega arith))
    ∙ ap (λ (src : Sources). own_history src None case_calls) (ap (λ o. record { rows = o }) case_parses)
    ∙ computed

-- so a client notes one page, whose reply is the 512 bytes
pub case_noted : notes_told 0 1 (history (sources_of case_bytes) fresh_table case_calls) ≡ Some case_notes
unfolding told number_at number le set_ours every_below bindings columns column property value spot flag zero_bytes
case_noted = ap (notes_told 0 1) whole_case ∙ noted
  where
    noted : notes_told 0 1 case_events ≡ Some case_notes
    noted = refl
