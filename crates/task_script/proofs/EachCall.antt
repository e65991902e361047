-- What holds of each row holds of each call that is one.
use Rattle.std.proofs.Common.{ℕ, zero, suc, ◌+◌, List, [], ◌∷◌, map}
use Rattle.std.specs.List.{AllByRecursion}
use Rattle.std.proofs.lemmas.List.Elements.{All-from_recursion, recursion_from_All}
use Rattle.slot_types.specs.Arriving.{arrivals_by, arrivals_after}
use Rattle.slot_types.proofs.Arriving.{arrived_hold, later_hold}
use Rattle.die_log.proofs.Known.{all_append}
use Rattle.script_texts.specs.declared.script_rows.ScriptItem.{ScriptItem}
use Rattle.task_script.specs.DieRuns.{ScriptCall, Row, Slot, calls_from, row_slot}

abbrev pub IsCallOf : (ScriptItem → Type 0) → ScriptCall → Type 0
IsCallOf P (Row item) = P item
IsCallOf P Slot = Unit {0}

each_row : (P : ScriptItem → Type 0) (items : List ScriptItem) → AllByRecursion P items → AllByRecursion (IsCallOf P) (map Row items)
each_row P [] h = tt
each_row P (item ∷ items) h = (h.0, each_row P items h.1)

each_arrived : (P : ScriptItem → Type 0) (slot : ℕ) (items : List ScriptItem) → AllByRecursion P items
    → AllByRecursion P (arrivals_by row_slot slot items)
each_arrived P slot items h = recursion_from_All P (arrivals_by row_slot slot items)
    (arrived_hold row_slot slot P items (All-from_recursion P items h))

each_later : (P : ScriptItem → Type 0) (slot : ℕ) (items : List ScriptItem) → AllByRecursion P items
    → AllByRecursion P (arrivals_after row_slot slot items)
each_later P slot items h = recursion_from_All P (arrivals_after row_slot slot items)
    (later_hold row_slot slot P items (All-from_recursion P items h))

pub each_call : (P : ScriptItem → Type 0) (slot left : ℕ) (items : List ScriptItem) → AllByRecursion P items
    → AllByRecursion (IsCallOf P) (calls_from slot left items)
each_call P slot zero items h = each_row P items h
each_call P slot (suc left) items h =
    all_append (IsCallOf P) (map Row (arrivals_by row_slot slot items)) (Slot ∷ calls_from (slot + 1) left (arrivals_after row_slot slot items))
    (each_row P (arrivals_by row_slot slot items) (each_arrived P slot items h))
    (tt, each_call P (slot + 1) left (arrivals_after row_slot slot items) (each_later P slot items h))
