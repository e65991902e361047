-- The verdict on a certificate: that it holds, or the first fault.
use Rattle.std.specs.Prelude.{ℕ, ◌+◌, Bool, true, if◌then◌else◌, ◌==◌, nat_lt, ◌&&◌, ◌||◌, List, [], ◌∷◌, Option, Some, None, is_none}
use Rattle.std.specs.Prelude.{sum_by}
use Rattle.late_cert.specs.declared.rows.JobRow.{JobRow}
use Rattle.late_cert.specs.declared.verdicts.Verdict.{Verdict}
use Rattle.late_cert.specs.declared.verdicts.Verdict.TheVariants.{Holds, Empty, NotRising, UnknownJob, Unfinished, EarlyRelease, LateDue}
use Rattle.late_cert.specs.declared.verdicts.Verdict.TheVariants.{WrongSum}
use Rattle.late_cert.specs.Rows.{row_of, work_of}

-- each number is below the next one
abbrev pub is_rising_after : ℕ → List ℕ → Bool
is_rising_after x [] = true
is_rising_after x (y ∷ ys) = nat_lt x y && is_rising_after y ys

abbrev pub is_rising : List ℕ → Bool
is_rising [] = true
is_rising (x ∷ xs) = is_rising_after x xs

-- what is wrong with the row of a listed number, if anything is
abbrev pub fault_of : ℕ → ℕ → Option JobRow → Option Verdict
fault_of start due None = Some UnknownJob
fault_of start due (Some row) =
    if is_none row.completion || (row.work == 0) then Some Unfinished
    else (if nat_lt row.release start then Some EarlyRelease else (if nat_lt due row.due then Some LateDue else None))

-- the first of two faults
abbrev pub or_else : Option Verdict → Option Verdict → Option Verdict
or_else None o = o
or_else (Some v) o = Some v

-- the first fault of the listed numbers, in their order
abbrev pub first_fault : List JobRow → ℕ → ℕ → List ℕ → Option Verdict
first_fault rows start due [] = None
first_fault rows start due (j ∷ js) = or_else (fault_of start due (row_of rows j)) (first_fault rows start due js)

-- the verdict where the list is neither empty nor wrong in order: the first fault, then the sum
abbrev pub last_verdict : Option Verdict → Bool → Verdict
last_verdict (Some v) fits = v
last_verdict None fits = if fits then Holds else WrongSum

-- the verdict on a certificate of this start, deadline, completion and jobs
abbrev pub verdict_of : List JobRow → ℕ → ℕ → ℕ → List ℕ → Verdict
verdict_of rows start due completion [] = Empty
verdict_of rows start due completion (j ∷ js) =
    if is_rising (j ∷ js)
    then last_verdict (first_fault rows start due (j ∷ js)) (sum_by (work_of rows) (j ∷ js) + start == completion)
    else NotRising
