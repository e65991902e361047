-- Rows of a script as they stand: their operations are still a text.
use Rattle.std.specs.Prelude.{ℕ, List, [], ◌∷◌, Option, Some, None, Result, Ok, Err}
use Rattle.slot_types.specs.declared.events.Event.{Event}
use Rattle.slot_types.specs.declared.refusals.Refusal.{Refusal}
use Rattle.text_base.specs.Fields.{field_or}
use Rattle.text_base.specs.Readings.{◌>>=◌}
use Rattle.script_texts.specs.ScriptRows.{event_of, head_of}
use Rattle.script_texts.specs.declared.script_rows.RowHead.{RowHead}
use Rattle.script_texts.specs.declared.script_rows.ScriptItem.{ScriptItem}

-- a row: its head, and the text of its operations
pub record RowText : Type 0 where
  pub head : RowHead
  pub ops : List ℕ

abbrev pub row_text : RowHead → List ℕ → RowText
row_text head ops = record { head = head; ops = ops }

-- rows of these heads, and these texts of their operations
abbrev pub rows_with : List RowHead → List (List ℕ) → List RowText
rows_with (head ∷ heads) (text ∷ texts) = row_text head text ∷ rows_with heads texts
rows_with _ _ = []

-- the row of a record, by the slots to run, the last slot of a row by die, and the number of the record
abbrev pub row_at : ℕ → List ℕ → ℕ → List (List ℕ) → Result RowText Refusal
row_at slots lasts line fields = head_of slots lasts line fields >>= (λ head. Ok (row_text head (field_or fields 6)))

abbrev pub item_with : RowHead → Event → ScriptItem
item_with head event = record { line = head.line; at = head.at; die = head.die; event = event }

-- the item that a row is, once its operations are read, or the fault of its record
abbrev pub item_in : RowText → Result ScriptItem Refusal
item_in row =
    event_of row.head.line row.head.job.collects row.head.job.task row.head.job.release row.head.job.due row.ops
    >>= (λ event. Ok (item_with row.head event))

-- what was read, as rows with this text
abbrev pub row_with_text : Result (Option RowHead) Refusal → List ℕ → Result (Option RowText) Refusal
row_with_text (Ok None) ops = Ok None
row_with_text (Ok (Some head)) ops = Ok (Some (row_text head ops))
row_with_text (Err e) ops = Err e
