-- Rows of a script as they stand, by die, and what reading their operations gives.
use Rattle.std.specs.Prelude.{◌≡◌, ◌==◌, ◌⊎◌, ⊤, ℕ, ◌<◌, ◌≤◌, ◌+◌, Bool, true, List, [], ◌∷◌, ◌++◌}
use Rattle.std.specs.Prelude.{All, filter, get_or, length, map, Option, Some, None, IfSome, Ok, Err}
use Rattle.slot_types.specs.declared.refusals.Refusal.{Refusal}
use Rattle.slot_types.specs.declared.refusals.Refusal.TheVariants.{NoMemory, ReadFault, ScriptRow}
use Rattle.script_texts.specs.Arrivals.{IsHeadFor}
use Rattle.script_texts.specs.RowTexts.{RowText}
use Rattle.script_texts.specs.Script.{Reading, Script, at_end, at_fault, items_from, whole}
use Rattle.script_texts.specs.declared.script_rows.ScriptItem.{ScriptItem}
use Rattle.text_base.specs.Readings.{IsOutside}
use Rattle.task_script.specs.declared.feeds.ReadEnd.{ReadEnd}
use Rattle.task_script.specs.declared.feeds.ReadEnd.TheVariants.{More, Ended, Refused}

-- Of one die

-- they are all of one die
abbrev pub AreOfOneDie : List RowText → Type 0
AreOfOneDie rows = (die : ℕ) × All (λ (row : RowText). row.head.die ≡ die) rows

-- what reading their operations gives: their items, or the fault of the first that has one
abbrev pub read_of : List RowText → Script
read_of rows = whole (items_from rows None)

-- By die

-- the rows of a die, in their order
abbrev pub texts_of : List RowText → ℕ → List RowText
texts_of rows die = filter (λ row. row.head.die == die) rows

-- the numbers of their records ascend, from the first number on, and all are below the second
abbrev pub Ascend : ℕ → List RowText → ℕ → Type 0
Ascend from [] behind = from ≤ behind
Ascend from (row ∷ rows) behind = (from ≤ row.head.line) × Ascend (row.head.line + 1) rows behind

-- rows for `dies` dies and `slots` slots, whose records are numbered from `from` on and below `behind`, by die
pub record AreDealt (dies slots from behind : ℕ) (rows : List RowText) (texts : List (List RowText)) : Type 0 where
  pub all : length texts ≡ dies
  pub own : (die : ℕ) → die < dies → get_or texts die [] ≡ texts_of rows die
  pub heads : All (λ (row : RowText). IsHeadFor dies slots row.head) rows
  pub ascend : Ascend from rows behind

-- While a script is read

-- these rows, and then what is left
abbrev pub rows_then : List RowText → Reading RowText → Reading RowText
rows_then rows more = record { items = rows ++ more.items; fault = more.fault }

-- how the reading goes on: something may be left, or nothing is, or a fault comes next
abbrev pub LeavesOff : Option (Reading RowText) → Reading RowText → ReadEnd → Type 0
LeavesOff new more More = new ≡ Some more
LeavesOff new more Ended = more ≡ at_end
LeavesOff new more (Refused e) = IsOutside e ⊎ (more ≡ at_fault e)

-- ReadFault ends the reading only where the script's reader of records has failed
abbrev pub EndsWithReader : Bool → ReadEnd → Type 0
EndsWithReader failed More = ⊤
EndsWithReader failed Ended = ⊤
EndsWithReader failed (Refused e) = e ≡ ReadFault → failed ≡ true

-- where more may be left, the next record's number has grown, and it is at most one above 1,000,001, the greatest of a row
abbrev pub GoesOn : ℕ → ℕ → ReadEnd → Type 0
GoesOn old new More = (old < new) × (new ≤ 1000002)
GoesOn old new Ended = ⊤
GoesOn old new (Refused e) = ⊤

-- where more may be left, a record's number is at most that of the next record
abbrev pub IsBelowNext : ℕ → ℕ → ReadEnd → Type 0
IsBelowNext behind next More = behind ≤ next
IsBelowNext behind next Ended = ⊤
IsBelowNext behind next (Refused e) = ⊤

-- of what was left, from the record of one number up to that of another, these rows were read, by die
pub record HasReadTexts (old new : Option (Reading RowText)) (dies slots from next : ℕ) (texts : List (List RowText)) (end : ReadEnd)
    : Type 0 where
  pub rows : List RowText
  pub behind : ℕ
  pub below : IsBelowNext behind next end
  pub dealt : AreDealt dies slots from behind rows texts
  pub read : IfSome old (λ all. (more : Reading RowText) × (all ≡ rows_then rows more) × LeavesOff new more end)

-- When their operations are read

-- in which order refusals are reported: out of memory, and then the faults by their records
abbrev pub order_of : Refusal → ℕ
order_of NoMemory = 0
order_of (ScriptRow line cause) = line + 1
order_of _ = 1

-- the fault of one die's rows, of all dies' faults the one of the least record
pub record IsFirstFault (texts : List (List RowText)) (e : Refusal) : Type 0 where
  pub die : ℕ
  pub below : die < length texts
  pub fault : read_of (get_or texts die []) ≡ Err e
  pub first : (k : ℕ) (f : Refusal) → k < length texts → read_of (get_or texts k []) ≡ Err f → order_of e ≤ order_of f

-- memory ran out, or the operations of these rows have this fault first
abbrev pub FailsToRead : List (List RowText) → Refusal → Type 0
FailsToRead texts e = (e ≡ NoMemory) ⊎ IsFirstFault texts e

-- these are the items of each die's rows
abbrev pub AreRead : List (List RowText) → List (List ScriptItem) → Type 0
AreRead texts items = map read_of texts ≡ map Ok items
