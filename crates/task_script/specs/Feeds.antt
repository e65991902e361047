-- The rows of a script, by die.
use Rattle.std.specs.Prelude.{◌≡◌, ◌==◌, ◌⊎◌, ℕ, ◌<◌, List, All, filter, length, sum_by, Option, IfSome, Ok, Err}
use Rattle.slot_types.specs.declared.refusals.Refusal.{Refusal}
use Rattle.script_texts.specs.Arrivals.{Arrives}
use Rattle.script_texts.specs.AskedPages.{RowsHavePages}
use Rattle.text_base.specs.Readings.{IsOutside}
use Rattle.script_texts.specs.Script.{script_of}
use Rattle.script_texts.specs.declared.script_rows.ScriptItem.{ScriptItem}

-- so do all of these rows: each asks for any event except a slot, by the end of `slots` slots
abbrev pub AllArrive : ℕ → List ScriptItem → Type 0
AllArrive slots items = All (Arrives slots) items

-- the rows of a die, in their order
abbrev pub feed_of : List ScriptItem → ℕ → List ScriptItem
feed_of items die = filter (λ item. item.die == die) items

-- the items of the script, where its text is known
abbrev pub AreItemsOf : Option (List ℕ) → ℕ → ℕ → List ScriptItem → Type 0
AreItemsOf text dies slots items = IfSome text (λ bytes. script_of dies slots bytes ≡ Ok items)

-- how many rows these are, of all dies
abbrev pub rows_dealt : {A : Type 0} → List (List A) → ℕ
rows_dealt {A = A} feeds = sum_by (λ (rows : List A). length rows) feeds

-- memory ran out, or the reader failed; or the script has this fault
abbrev pub RefusesScript : Option (List ℕ) → ℕ → ℕ → Refusal → Type 0
RefusesScript text dies slots refusal = IsOutside refusal ⊎ IfSome text (λ bytes. script_of dies slots bytes ≡ Err refusal)

-- the rows of each of `dies` dies arrive by the end of `slots` slots, and what they write are pages
pub record AreInTime (dies slots : ℕ) (items : List ScriptItem) : Type 0 where
  pub arrive : (die : ℕ) → die < dies → AllArrive slots (feed_of items die)
  pub pages : (die : ℕ) → die < dies → RowsHavePages (feed_of items die)
