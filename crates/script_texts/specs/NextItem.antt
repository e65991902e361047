-- What reading the next item or row of a script answers and leaves.
use Rattle.std.specs.Prelude.{◌≡◌, ℕ, ◌+◌, ◌≤◌, List, Option, Result, IfOk, IfSome}
use Rattle.slot_types.specs.declared.refusals.Refusal.{Refusal}
use Rattle.script_texts.specs.declared.script_rows.RowHead.{RowHead}
use Rattle.script_texts.specs.declared.script_rows.ScriptItem.{ScriptItem}
use Rattle.script_texts.specs.declared.scripts.ScriptReader.{ScriptReader}
use Rattle.script_texts.specs.Arrivals.{IsHeadFor, IsRowFor}
use Rattle.script_texts.specs.AskedPages.{RowHasPages}
use Rattle.script_texts.specs.Script.{EndsFit, Gives, Yields}
use Rattle.script_texts.specs.ScriptLeft.{Recalls, dies_of, line_of, ops_text, reader_failed, reading_left, script_fits, script_left, script_rows_left}
use Rattle.text_base.specs.Readings.{FailsAtReadFault}
use Rattle.script_texts.specs.ScriptLeft.{slots_of}
use Rattle.script_texts.specs.RowTexts.{row_with_text}

-- the next item is read, or that there is none, or the first fault, which is answered again
pub record ReadsNext {R : Type 0} (remaining : R → Option (List ℕ)) (old new : ScriptReader R) (result : Result (Option ScriptItem) Refusal)
    : Type 0 where
  pub gives : Gives (reading_left remaining old) (reading_left remaining new) result
  pub item : Yields (script_left remaining old) (script_left remaining new) result
  pub bound : EndsFit (script_fits remaining old) (script_fits remaining new) result
  pub row : IfOk result (λ o. IfSome o (IsRowFor (dies_of old) (slots_of old)))
  pub pages : IfOk result (λ o. IfSome o RowHasPages)
  pub dies : dies_of new ≡ dies_of old
  pub slots : slots_of new ≡ slots_of old
  pub again : Recalls old new result
  pub failed : FailsAtReadFault (reader_failed old) (reader_failed new) result

-- the next row is read as it stands, or that there is none, or the first fault, except those of operations, which is
-- answered again
pub record ReadsRow {R : Type 0} (remaining : R → Option (List ℕ)) (old new : ScriptReader R) (result : Result (Option RowHead) Refusal)
    : Type 0 where
  pub gives : Gives (script_rows_left remaining old) (script_rows_left remaining new) (row_with_text result (ops_text new))
  pub bound : EndsFit (script_fits remaining old) (script_fits remaining new) result
  pub row : IfOk result (λ o. IfSome o (IsHeadFor (dies_of old) (slots_of old)))
  pub line : IfOk result (λ o. IfSome o (λ head. (line_of old ≤ head.line) × (line_of new ≡ head.line + 1)))
  pub few : IfOk result (λ o. IfSome o (λ head. head.line ≤ 1000001))
  pub dies : dies_of new ≡ dies_of old
  pub slots : slots_of new ≡ slots_of old
  pub again : Recalls old new result
  pub failed : FailsAtReadFault (reader_failed old) (reader_failed new) result
