-- What a reader of scripts has left.
use Rattle.std.specs.Prelude.{◌≡◌, ℕ, Bool, true, List, length, Option, Some, None, IfSome, option_map, Result, Ok, Err, if◌then◌else◌}
use Rattle.slot_types.specs.declared.refusals.Refusal.{Refusal}
use Rattle.script_texts.specs.declared.scripts.ScriptReader.{ScriptReader}
use Rattle.csv.specs.Reading.{has_failed}
use Rattle.csv.specs.Records.{fields_of}
use Rattle.text_base.specs.Fields.{field_or}
use Rattle.text_base.specs.CsvRecordsLeft.{fits_left, rows_left}
use Rattle.script_texts.specs.RowTexts.{RowText}
use Rattle.script_texts.specs.Script.{Reading, Script, at_end, items_in, script_at, whole}
use Rattle.script_texts.specs.declared.script_rows.ScriptItem.{ScriptItem}

-- nothing is said of what is left after a refusal
abbrev pub unless_refused : {A : Type 0} → Option Refusal → Option A → Option A
unless_refused None known = known
unless_refused (Some refusal) known = None

-- the rows that a reader has left of its script, where it is known
abbrev pub script_rows_left : {R : Type 0} → (R → Option (List ℕ)) → ScriptReader R → Option (Reading RowText)
script_rows_left rem s = unless_refused s.refused (if s.ended then Some at_end else option_map (script_at s.slots s.lasts.items s.line)
    (rows_left rem s.rows))

-- what they mean
abbrev pub reading_left : {R : Type 0} → (R → Option (List ℕ)) → ScriptReader R → Option (Reading ScriptItem)
reading_left rem s = option_map items_in (script_rows_left rem s)

-- the same as a whole
abbrev pub script_left : {R : Type 0} → (R → Option (List ℕ)) → ScriptReader R → Option Script
script_left rem s = option_map whole (reading_left rem s)

-- whether a reader's text fits its bound, where it is known
abbrev pub script_fits : {R : Type 0} → (R → Option (List ℕ)) → ScriptReader R → Option Bool
script_fits rem s = unless_refused s.refused (if s.ended then Some true else fits_left rem s.rows)

-- whether its reader of records has failed
abbrev pub reader_failed : {R : Type 0} → ScriptReader R → Bool
reader_failed s = has_failed s.rows

-- for how many dies a reader reads
abbrev pub dies_of : {R : Type 0} → ScriptReader R → ℕ
dies_of s = length s.lasts.items

-- for how many slots
abbrev pub slots_of : {R : Type 0} → ScriptReader R → ℕ
slots_of s = s.slots

-- the number of its next record
abbrev pub line_of : {R : Type 0} → ScriptReader R → ℕ
line_of s = s.line

-- the text of the operations of the row that it read last
abbrev pub ops_text : {R : Type 0} → ScriptReader R → List ℕ
ops_text s = field_or (fields_of s.row) 6

-- a reader that was refused answers the same again, and one that is refused now will
abbrev pub Recalls : {R A : Type 0} → ScriptReader R → ScriptReader R → Result (Option A) Refusal → Type 0
Recalls old new (Ok x) = (old.refused ≡ None) × (new.refused ≡ None)
Recalls old new (Err e) = (new.refused ≡ Some e) × IfSome old.refused (λ was. e ≡ was)
