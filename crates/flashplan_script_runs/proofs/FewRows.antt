-- No script has more rows than a reader of one may be asked for.
use Rattle.std.proofs.Common.{◌≡◌, ℕ, suc, ◌+◌, ◌≤◌, Bool, true, false, List, [], ◌∷◌, length, refl, ap, sym, subst, inr, arith}
use Rattle.std.proofs.Common.{Option, Some, None, Result, Ok, Err}
use Rattle.std.specs.Prelude.{◌-◌, ◌==◌, ⊤, IfSome, nat_lt, option_map, if◌then◌else◌}
use Rattle.std.proofs.lemmas.Bool.Decides.{nat_tests}
use Rattle.slot_types.specs.declared.refusals.Cause.TheVariants.{Header, TooManyRows}
use Rattle.slot_types.specs.declared.refusals.Refusal.{Refusal}
use Rattle.slot_types.specs.declared.refusals.Refusal.TheVariants.{ScriptRow}
use Rattle.text_base.specs.CsvRecords.{Fields}
use Rattle.text_base.specs.CsvRecordsLeft.{rows_left}
use Rattle.script_texts.specs.RowTexts.{RowText, item_in, row_at}
use Rattle.script_texts.specs.Script.{Gives, Reading, after_row, at_end, at_fault, items_from, items_in, rows_from, script_at, script_from}
use Rattle.script_texts.specs.Script.{then_rest, whole}
use Rattle.script_texts.specs.ScriptHeader.{is_script_header}
use Rattle.script_texts.specs.ScriptLeft.{reading_left, script_left, script_rows_left, unless_refused}
use Rattle.script_texts.specs.declared.script_rows.ScriptItem.{ScriptItem}
use Rattle.script_texts.specs.declared.scripts.ScriptReader.{ScriptReader}
use Rattle.flashplan_script_runs.specs.ScriptRuns.{RefusesScript}

-- Rows of a text

rows_few : (slots : ℕ) (lasts : List ℕ) (line : ℕ) (records : List Fields) → length (rows_from slots lasts line records).items ≤ 1000002 - line
unfolding rows_from
rows_few slots lasts line [] = omega arith
rows_few slots lasts line (fields ∷ records) = by (λ later. rows_few slots later (line + 1) records) (nat_lt 1000001 line) refl
  where
    one : ((later : List ℕ) → length (rows_from slots later (line + 1) records).items ≤ 1000002 - (line + 1))
        → (row : Result RowText Refusal) → line ≤ 1000001
        → length (then_rest (λ r. rows_from slots (after_row lasts r) (line + 1) records) row).items ≤ 1000002 - line
    one rest (Ok row) below = omega (arith, below, rest (after_row lasts row))
    one rest (Err e) below = omega arith

    by : ((later : List ℕ) → length (rows_from slots later (line + 1) records).items ≤ 1000002 - (line + 1))
        → (b : Bool) → nat_lt 1000001 line ≡ b
        → length (if b then at_fault (ScriptRow line TooManyRows)
        else then_rest (λ r. rows_from slots (after_row lasts r) (line + 1) records) (row_at slots lasts line fields)).items ≤ 1000002 - line
    by rest true is = omega arith
    by rest false is = let below : line ≤ 1000001 = grind (arith, nat_tests) in one rest (row_at slots lasts line fields) below

from_few : (slots : ℕ) (lasts : List ℕ) (records : List Fields) → length (script_from slots lasts records).items ≤ 1000002
from_few slots lasts [] = omega arith
from_few slots lasts (fields ∷ records) = by (is_script_header fields)
  where
    by : (b : Bool) → length (if b then rows_from slots lasts 2 records else at_fault (ScriptRow 1 Header)).items ≤ 1000002
    by true = omega (arith, rows_few slots lasts 2 records)
    by false = omega arith

at_few : (slots : ℕ) (lasts : List ℕ) (line : ℕ) (records : List Fields) → length (script_at slots lasts line records).items ≤ 1000002
at_few slots lasts line records = by (line == 1)
  where
    by : (b : Bool) → length (if b then script_from slots lasts records else rows_from slots lasts line records).items ≤ 1000002
    by true = from_few slots lasts records
    by false = omega (arith, rows_few slots lasts line records)

items_few : (rows : List RowText) (fault : Option Refusal) → length (items_from rows fault).items ≤ length rows
unfolding items_from
items_few [] fault = omega arith
items_few (row ∷ rows) fault = by (items_few rows fault) (item_in row)
  where
    by : length (items_from rows fault).items ≤ length rows → (item : Result ScriptItem Refusal)
        → length (then_rest (λ x. items_from rows fault) item).items ≤ suc (length rows)
    by rest (Ok item) = omega (arith, rest)
    by rest (Err e) = omega arith

-- What a reader has left

abbrev AreFew : {A : Type 0} → Option (Reading A) → Type 0
AreFew left = IfSome left (λ all. length all.items ≤ 1000002)

module _ {R : Type 0} (rem : R → Option (List ℕ)) (s : ScriptReader R) where
  rows_left_few : AreFew (script_rows_left rem s)
  rows_left_few = by s.refused s.ended (rows_left rem s.rows)
    where
      by : (r : Option Refusal) (ended : Bool) (records : Option (List Fields))
          → AreFew (unless_refused r (if ended then Some at_end else option_map (script_at s.slots s.lasts.items s.line) records))
      by (Some e) ended records = tt
      by None true records = omega arith
      by None false None = tt
      by None false (Some records) = at_few s.slots s.lasts.items s.line records

  left_few : AreFew (reading_left rem s)
  left_few = by (script_rows_left rem s) rows_left_few
    where
      by : (rows : Option (Reading RowText)) → AreFew rows → AreFew (option_map items_in rows)
      by None few = tt
      by (Some rows) few = omega (arith, few, items_few rows.items rows.fault)

-- `read` items of the whole were read, and these are left
abbrev pub LeftAfter : ℕ → Option (Reading ScriptItem) → Option (Reading ScriptItem) → Type 0
LeftAfter read None left = ⊤
LeftAfter read (Some all) None = ⊥
LeftAfter read (Some all) (Some more) = length more.items + read ≡ length all.items

pub left_first : (all : Option (Reading ScriptItem)) → LeftAfter 0 all all
left_first None = tt
left_first (Some all) = omega arith

pub left_next : (read : ℕ) (all left new : Option (Reading ScriptItem)) (item : ScriptItem) → LeftAfter read all left
    → Gives left new (Ok (Some item)) → LeftAfter (read + 1) all new
left_next read None left new item so_far step = tt
left_next read (Some all) None new item so_far step = absurd so_far
left_next read (Some all) (Some more) new item so_far (rest, is, first) =
    subst (λ (o : Option (Reading ScriptItem)). LeftAfter (read + 1) (Some all) o) (sym is)
    (omega (arith, so_far, ap (λ (r : Reading ScriptItem). length r.items) first))

-- 1,000,003 or more aren't read of any script
pub not_so_many : {R : Type 0} (rem : R → Option (List ℕ)) (s : ScriptReader R) (left : Option (Reading ScriptItem)) (read : ℕ) (e : Refusal)
    → 1000003 ≤ read → LeftAfter read (reading_left rem s) left → RefusesScript (script_left rem s) e
not_so_many rem s left read e many so_far = by (reading_left rem s) left (left_few rem s) so_far
  where
    by : (all left : Option (Reading ScriptItem)) → AreFew all → LeftAfter read all left → RefusesScript (option_map whole all) e
    by None left few so_far = inr tt
    by (Some all) None few so_far = absurd so_far
    by (Some all) (Some more) few so_far = absurd (omega (arith, few, so_far, many))
