-- A row of a script, of its head and its operations.
use Rattle.std.specs.Prelude.{◌≡◌, true, List, [], Option, Some, None, Result, Ok, Err}
use Rattle.slot_types.specs.Arrivals.{arrival_of}
use Rattle.slot_types.specs.declared.events.Op.{Op}
use Rattle.slot_types.specs.declared.refusals.Refusal.{Refusal}
use Rattle.script_texts.specs.declared.script_rows.RowHead.{RowHead}
use Rattle.script_texts.specs.declared.script_rows.ScriptItem.{ScriptItem}

-- the row of a head and its operations
abbrev pub row_of : RowHead → List Op → ScriptItem
row_of head ops = record { line = head.line; at = head.at; die = head.die; event = arrival_of head.job ops }

-- what was read, as rows
abbrev pub row_read : Result (Option RowHead) Refusal → List Op → Result (Option ScriptItem) Refusal
row_read (Ok None) ops = Ok None
row_read (Ok (Some head)) ops = Ok (Some (row_of head ops))
row_read (Err e) ops = Err e

-- a collection has no operations
abbrev pub HasOwnOps : RowHead → List Op → Type 0
HasOwnOps head ops = head.job.collects ≡ true → ops ≡ []
