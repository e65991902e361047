-- What a script means: its rows, then its items, and how it ends.
use Rattle.std.specs.Prelude.{◌≡◌, ℕ, ◌+◌, ◌==◌, nat_lt, Bool, true, List, [], ◌∷◌, ⊤, ◌⊎◌, Option, Some, None, Result, Ok, Err, replicate}
use Rattle.std.specs.Prelude.{slice_set, if◌then◌else◌}
use Rattle.slot_types.specs.declared.refusals.Cause.TheVariants as cause
use Rattle.slot_types.specs.declared.refusals.Refusal.{Refusal}
use Rattle.slot_types.specs.declared.refusals.Refusal.TheVariants.{ScriptRow}
use Rattle.script_texts.specs.ScriptHeader.{is_script_header}
use Rattle.script_texts.specs.RowTexts.{RowText, item_in, row_at}
use Rattle.text_base.specs.Readings.{IsOutside}
use Rattle.text_base.specs.CsvRecords.{Fields, rows_of}
use Rattle.script_texts.specs.declared.script_rows.ScriptItem.{ScriptItem}

-- what is read of a script, its rows or its items: all to its end, or those before its first fault, and that fault
pub record Reading (A : Type 0) : Type 0 where
  pub items : List A
  pub fault : Option Refusal

-- the end, and nothing before it
abbrev pub at_end : {A : Type 0} → Reading A
at_end = record { items = []; fault = None }

-- a fault, and nothing before it
abbrev pub at_fault : {A : Type 0} → Refusal → Reading A
at_fault e = record { items = []; fault = Some e }

-- one, and then the others
abbrev pub with_first : {A : Type 0} → A → Reading A → Reading A
with_first x more = record { items = x ∷ more.items; fault = more.fault }

-- one that was read, and then what follows it
abbrev pub then_rest : {A : Type 0} → (A → Reading A) → Result A Refusal → Reading A
then_rest more (Ok x) = with_first x (more x)
then_rest more (Err e) = at_fault e

-- by die the slot of its last row, after a row
abbrev pub after_row : List ℕ → RowText → List ℕ
after_row lasts row = slice_set lasts row.head.die row.head.at

-- the rows of the records from this number on
unfoldable pub rows_from : ℕ → List ℕ → ℕ → List Fields → Reading RowText
rows_from slots lasts line [] = at_end
rows_from slots lasts line (fields ∷ records) =
    if nat_lt 1000001 line then at_fault (ScriptRow line cause.TooManyRows)
    else then_rest (λ row. rows_from slots (after_row lasts row) (line + 1) records) (row_at slots lasts line fields)

-- the header, and then the rows
abbrev pub script_from : ℕ → List ℕ → List Fields → Reading RowText
script_from slots lasts [] = at_fault (ScriptRow 1 cause.Header)
script_from slots lasts (fields ∷ records) =
    if is_script_header fields then rows_from slots lasts 2 records else at_fault (ScriptRow 1 cause.Header)

-- what is left at the record of this number
abbrev pub script_at : ℕ → List ℕ → ℕ → List Fields → Reading RowText
script_at slots lasts line records = if line == 1 then script_from slots lasts records else rows_from slots lasts line records

-- the items of rows: those up to the first whose operations are at fault
unfoldable pub items_from : List RowText → Option Refusal → Reading ScriptItem
items_from [] fault = record { items = []; fault = fault }
items_from (row ∷ rows) fault = then_rest (λ x. items_from rows fault) (item_in row)

abbrev pub items_in : Reading RowText → Reading ScriptItem
items_in rows = items_from rows.items rows.fault

-- the rows of a text for `dies` dies and `slots` slots
abbrev pub rows_in : ℕ → ℕ → List ℕ → Reading RowText
rows_in dies slots text = script_from slots (replicate dies 0) (rows_of text)

-- what a text means for `dies` dies and `slots` slots
abbrev pub reading_of : ℕ → ℕ → List ℕ → Reading ScriptItem
reading_of dies slots text = items_in (rows_in dies slots text)

-- As a whole

-- the items of a script, or its first fault
abbrev pub Script : Type 0
Script = Result (List ScriptItem) Refusal

abbrev pub items_or : List ScriptItem → Option Refusal → Script
items_or items None = Ok items
items_or items (Some e) = Err e

abbrev pub whole : Reading ScriptItem → Script
whole reading = items_or reading.items reading.fault

-- the items of a text for `dies` dies and `slots` slots, or its first fault
abbrev pub script_of : ℕ → ℕ → List ℕ → Script
script_of dies slots text = whole (reading_of dies slots text)

-- one item, and then the others
abbrev pub with_front : ScriptItem → Script → Script
with_front x (Ok items) = Ok (x ∷ items)
with_front x (Err e) = Err e

-- Step by step

-- what was left gave this, and then that is left: a row or an item is the next one, whatever comes after it, and a fault comes
-- where none is left before it
abbrev pub Gives : {A : Type 0} → Option (Reading A) → Option (Reading A) → Result (Option A) Refusal → Type 0
Gives None new result = ⊤
Gives (Some all) new (Ok None) = (all ≡ at_end) × (new ≡ Some at_end)
Gives {A = A} (Some all) new (Ok (Some x)) = (more : Reading A) × (new ≡ Some more) × (all ≡ with_first x more)
Gives (Some all) new (Err e) = IsOutside e ⊎ (all ≡ at_fault e)

-- the same of the script as a whole, whose items before a fault don't count
abbrev pub Yields : Option Script → Option Script → Result (Option ScriptItem) Refusal → Type 0
Yields None new result = ⊤
Yields (Some all) new (Ok None) = (all ≡ Ok []) × (new ≡ Some (Ok []))
Yields (Some all) new (Ok (Some x)) = (more : Script) × (new ≡ Some more) × (all ≡ with_front x more)
Yields (Some all) new (Err e) = IsOutside e ⊎ (all ≡ Err e)

-- the same of the records: what they say before, and what those after the row say
abbrev pub StepOf : (List Fields → Reading RowText) → (RowText → List Fields → Reading RowText) → Option (List Fields)
    → Option (List Fields) → Result (Option RowText) Refusal → Type 0
StepOf before after None new result = ⊤
StepOf before after (Some rows) new (Ok None) = before rows ≡ at_end
StepOf before after (Some rows) new (Ok (Some x)) = (rest : List Fields) × (new ≡ Some rest) × (before rows ≡ with_first x (after x rest))
StepOf before after (Some rows) new (Err e) = IsOutside e ⊎ (before rows ≡ at_fault e)

-- after a step the text still fits its bound or not; where it gave the end, it fits
abbrev pub EndsFit : {A : Type 0} → Option Bool → Option Bool → Result (Option A) Refusal → Type 0
EndsFit None new result = ⊤
EndsFit (Some fits) new (Ok None) = (fits ≡ true) × (new ≡ Some true)
EndsFit (Some fits) new (Ok (Some x)) = new ≡ Some fits
EndsFit (Some fits) new (Err e) = ⊤

-- the same of a step of the records, but that nothing is said of what is left after the end
abbrev pub StepFits : {A : Type 0} → Option Bool → Option Bool → Result (Option A) Refusal → Type 0
StepFits None new result = ⊤
StepFits (Some fits) new (Ok None) = fits ≡ true
StepFits (Some fits) new (Ok (Some x)) = new ≡ Some fits
StepFits (Some fits) new (Err e) = ⊤
