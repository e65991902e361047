-- How many rows a run refused, and with what.
use Rattle.std.specs.Prelude.{◌≡◌, ℕ, ◌+◌, ◌<◌, ◌==◌, if◌then◌else◌, min, List, length, Option, Some, None, count_by, get_or, option_map, slice_get}
use Rattle.slot_types.specs.Refusal.{number_of}
use Rattle.flashplan_script_runs.specs.declared.counted.RefusedRows.{RefusedRows}
use Rattle.flashplan_script_runs.specs.declared.refused.RefusedRow.{RefusedRow}

-- a count of 32 bits, which stays at the greatest one
abbrev pub capped : ℕ → ℕ
capped n = min n 4294967295

-- the record of a row, and the number of its refusal
abbrev pub told_of : RefusedRow → ℕ × ℕ
told_of row = (row.asker.line, number_of row.refusal)

-- how many were refused, which is the first, and by number how many each refusal refused
pub record CountsRows (rows : List RefusedRow) (counts : RefusedRows) : Type 0 where
  pub count : counts.count ≡ capped (length rows)
  pub first : counts.first ≡ option_map told_of (slice_get rows 0)
  pub kinds : (number : ℕ) → number < 25
      → get_or counts.kinds number 0 ≡ capped (count_by (λ (row : RefusedRow). number_of row.refusal == number) rows)

-- One more

abbrev pub first_of : Option (ℕ × ℕ) → ℕ × ℕ → Option (ℕ × ℕ)
first_of None row = Some row
first_of (Some first) row = Some first

-- the counts with one row more
pub record IsCountOf (row : RefusedRow) (old new : RefusedRows) : Type 0 where
  pub count : new.count ≡ capped (old.count + 1)
  pub first : new.first ≡ first_of old.first (told_of row)
  pub kinds : (number : ℕ) → number < 25
      → get_or new.kinds number 0
      ≡ (if number_of row.refusal == number then capped (get_or old.kinds number 0 + 1) else get_or old.kinds number 0)
