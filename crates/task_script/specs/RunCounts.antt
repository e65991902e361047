-- What became of the rows of a script, and their counts.
use Rattle.std.specs.Prelude.{ℕ, ◌+◌, ◌==◌, nat_lt, min, Bool, false, if◌then◌else◌, List, [], ◌∷◌, map, Option, Some, None, is_none, is_some}
use Rattle.std.specs.Prelude.{count_by, get_or}
use Rattle.std.specs.List.{range_with_len}
use Rattle.slot_types.specs.Refusal.{number_of}
use Rattle.slot_types.specs.declared.refusals.Refusal.{Refusal}
use Rattle.task_script.specs.declared.run_counts.RowEnd.{RowEnd}
use Rattle.task_script.specs.declared.run_counts.RunCount.{RunCount}

abbrev pub was_accepted : RowEnd → Bool
was_accepted end = is_none end.refusal

abbrev pub was_refused : RowEnd → Bool
was_refused end = is_some end.refusal

-- the record and the number of a refusal, unless an earlier record was refused
abbrev pub or_earlier : ℕ → Refusal → Option (ℕ × ℕ) → Option (ℕ × ℕ)
or_earlier line refusal None = Some (line, number_of refusal)
or_earlier line refusal (Some first) = if nat_lt line first.0 then Some (line, number_of refusal) else Some first

abbrev pub first_by : ℕ → Option Refusal → Option (ℕ × ℕ) → Option (ℕ × ℕ)
first_by line None first = first
first_by line (Some refusal) first = or_earlier line refusal first

-- of these rows and a refused one before them the refused one of the smallest record: its record and the refusal's
-- number
abbrev pub first_after : Option (ℕ × ℕ) → List RowEnd → Option (ℕ × ℕ)
first_after first [] = first
first_after first (end ∷ ends) = first_after (first_by end.line end.refusal first) ends

abbrev pub first_refused : List RowEnd → Option (ℕ × ℕ)
first_refused ends = first_after None ends

-- By refusals

-- a count of 32 bits, which stays at the greatest one
abbrev pub capped : ℕ → ℕ
capped n = min n 4294967295

-- whether this is the refusal of this number
abbrev pub has_number : ℕ → Option Refusal → Bool
has_number number None = false
has_number number (Some refusal) = number_of refusal == number

-- how many rows the refusal of this number refused
abbrev pub refused_with : List RowEnd → ℕ → ℕ
refused_with ends number = capped (count_by (λ (end : RowEnd). has_number number end.refusal) ends)

-- what each refusal has, by its number from 0 to 24
unfoldable pub by_number : (ℕ → ℕ) → List ℕ
by_number f = map f (range_with_len 0 25)

-- Counts

-- how many rows were accepted and refused, the first refused one, and how many each refusal refused
abbrev pub count_of : List RowEnd → RunCount
count_of ends = record {
  accepted = count_by was_accepted ends;
  refused = count_by was_refused ends;
  first = first_refused ends;
  kinds = by_number (refused_with ends);
}

-- the first refused row, of those of some rows and of other rows after them
abbrev pub joined_first : Option (ℕ × ℕ) → Option (ℕ × ℕ) → Option (ℕ × ℕ)
joined_first first None = first
joined_first None (Some second) = Some second
joined_first (Some first) (Some second) = if nat_lt second.0 first.0 then Some second else Some first

-- the rows of two counts, those of the second after those of the first
abbrev pub sum_of_counts : RunCount → RunCount → RunCount
sum_of_counts count more = record {
  accepted = count.accepted + more.accepted;
  refused = count.refused + more.refused;
  first = joined_first count.first more.first;
  kinds = by_number (λ number. capped (get_or count.kinds number 0 + get_or more.kinds number 0));
}

-- how many rows were counted
abbrev pub rows_in : RunCount → ℕ
rows_in count = count.accepted + count.refused

-- Row by row

-- what the refusal of a number has, with one row more
abbrev pub kind_with : Option Refusal → List ℕ → ℕ → ℕ
kind_with refusal kinds number = if has_number number refusal then capped (get_or kinds number 0 + 1) else get_or kinds number 0

-- one row more is counted
abbrev pub counted_with : RunCount → RowEnd → RunCount
counted_with count end = record {
  accepted = count.accepted + (if was_accepted end then 1 else 0);
  refused = count.refused + (if was_refused end then 1 else 0);
  first = first_by end.line end.refusal count.first;
  kinds = by_number (kind_with end.refusal count.kinds);
}

-- these rows are counted besides
abbrev pub counted_after : RunCount → List RowEnd → RunCount
counted_after count [] = count
counted_after count (end ∷ ends) = counted_after (counted_with count end) ends
