-- What a row of a report says, if it is of the right shape and its numbers agree.
use Rattle.std.specs.Prelude.{ℕ, ◌-◌, ◌==◌, ◌&&◌, nat_lt, nat_le, is_some, is_none, Bool, false, List, [], ◌∷◌, codes, length, Option, Some}
use Rattle.std.specs.Prelude.{None, option_map, option_and_then, ℤ, pos, negsuc, if◌then◌else◌}
use Rattle.std.specs.Ordering.{int_eq}
use Rattle.csv.specs.Records.{field_at}
use Rattle.late_cert.specs.Schedule.{lateness_of}
use Rattle.text_base.specs.Fields.{has_text}
use Rattle.text_base.specs.Fields.{field_or}
use Rattle.text_base.specs.Number.{number_of}
use Rattle.text_base.specs.Words.{list_of}
use Rattle.text_base.specs.Pages.{page_of}
use Rattle.report_texts.specs.declared.report_rows.DieRow.{DieRow}
use Rattle.report_texts.specs.declared.reports.ReportRow.{ReportRow}
use Rattle.report_texts.specs.declared.reports.RowKind.{RowKind}
use Rattle.report_texts.specs.declared.reports.RowKind.TheVariants as kind

-- the second step, if the first gave a value
infixl 10 ◌>>=◌
abbrev pub ◌>>=◌ : {A B : Type 0} → Option A → (A → Option B) → Option B
None >>= f = None
(Some x) >>= f = f x

-- the number in a field
abbrev pub number_at : List (List ℕ) → ℕ → Option ℕ
number_at fields i = option_and_then number_of (field_at fields i)

-- a lateness below 0 from its digits, which aren't all 0
abbrev pub below_zero : Option ℕ → Option ℤ
below_zero None = None
below_zero (Some n) = if n == 0 then None else Some (negsuc (n - 1))

abbrev pub above_zero : Option ℕ → Option ℤ
above_zero None = None
above_zero (Some n) = Some (pos n)

-- a lateness: a number, with `-` before it where it is below 0
abbrev pub lateness_in : List ℕ → Option ℤ
lateness_in [] = None
lateness_in (c ∷ digits) = if c == 45 then below_zero (number_of digits) else above_zero (number_of (c ∷ digits))

-- what a field says that may be empty
abbrev pub if_filled : {A : Type 0} → (List ℕ → Option A) → List ℕ → Option (Option A)
if_filled read [] = Some None
if_filled read (b ∷ bytes) = option_map Some (read (b ∷ bytes))

-- what a row is about
abbrev pub kind_in : Option (List ℕ) → Option RowKind
kind_in field =
    if has_text field (codes "job") then Some kind.Job
    else if has_text field (codes "collect") then Some kind.Collect
    else if has_text field (codes "waived") then Some kind.Waived
    else None

-- the row of a record, and its die
unfoldable pub row_in : List (List ℕ) → Option DieRow
row_in fields = do
  k ← kind_in (field_at fields 0)
  die ← number_at fields 1
  job ← number_at fields 2
  task ← number_at fields 3
  release ← number_at fields 4
  due ← number_at fields 5
  work ← number_at fields 6
  completion ← if_filled number_of (field_or fields 7)
  lateness ← if_filled lateness_in (field_or fields 8)
  given ← if_filled number_of (field_or fields 9)
  reads ← list_of page_of (field_or fields 10)
  Some (record {
    die = die;
    row = record {
      row = k;
      job = job;
      task = task;
      release = release;
      due = due;
      work = work;
      completion =
          completion;
      lateness = lateness;
      given = given;
      reads = reads;
    };
  })

abbrev pub is_late : Option ℤ → ℤ → Bool
is_late None late = false
is_late (Some said) late = int_eq said late

-- a done row has work, and its lateness is its completion less its deadline
abbrev pub is_done : ReportRow → ℕ → Bool
is_done row completion = nat_le completion 1048576 && (nat_le 1 row.work && is_late row.lateness (lateness_of completion row.due))

-- which fields a row fills: a done job what its reads gave, a done or waived collection what it gave its task
abbrev pub has_outcome : ReportRow → RowKind → Option ℕ → Bool
has_outcome row kind.Job (Some completion) = is_done row completion && (is_none row.given && nat_le (length row.reads) 64)
has_outcome row kind.Collect (Some completion) = is_done row completion && (is_some row.given && (length row.reads == 0))
has_outcome row kind.Waived (Some completion) = false
has_outcome row kind.Job None = is_none row.lateness && (is_none row.given && (length row.reads == 0))
has_outcome row kind.Collect None = is_none row.lateness && (is_none row.given && (length row.reads == 0))
has_outcome row kind.Waived None = is_none row.lateness && (is_some row.given && ((length row.reads == 0) && (row.work == 0)))

-- the numbers of die, task and job are within their limits
abbrev pub is_placed : DieRow → Bool
is_placed x = nat_lt x.die 8 && (nat_lt x.row.task 16 && nat_lt x.row.job 65536)

-- the deadline is above the release, and within its limit
abbrev pub is_timed : ReportRow → Bool
is_timed row = nat_lt row.release row.due && nat_le row.due 1048576

abbrev pub is_sound : DieRow → Bool
is_sound x = is_placed x && (is_timed x.row && has_outcome x.row x.row.row x.row.completion)

abbrev pub if_sound : DieRow → Option DieRow
if_sound x = if is_sound x then Some x else None

-- the row that a record says, if it is of the right shape
abbrev pub sound_row : List (List ℕ) → Option DieRow
sound_row fields = if length fields == 11 then row_in fields >>= if_sound else None
