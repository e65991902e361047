-- How a verdict is reported.
use Rattle.std.specs.Prelude.{ℕ, Bool, List, Option, Some, None, is_none, codes}
use Rattle.late_cert.specs.declared.verdicts.Verdict.{Verdict}
use Rattle.late_cert.specs.declared.verdicts.Verdict.TheVariants.{Holds, Empty, NotRising, UnknownJob, Unfinished, EarlyRelease, LateDue}
use Rattle.late_cert.specs.declared.verdicts.Verdict.TheVariants.{WrongSum}

-- the number of the fault; a certificate that holds has none
abbrev pub fault_number : Verdict → Option ℕ
fault_number Holds = None
fault_number Empty = Some 1
fault_number NotRising = Some 2
fault_number UnknownJob = Some 3
fault_number Unfinished = Some 4
fault_number EarlyRelease = Some 5
fault_number LateDue = Some 6
fault_number WrongSum = Some 7

-- a verdict that names no fault
abbrev pub is_holds : Verdict → Bool
is_holds verdict = is_none (fault_number verdict)

-- the name of the verdict
abbrev pub name_of : Verdict → List ℕ
name_of Holds = codes "Holds"
name_of Empty = codes "Empty"
name_of NotRising = codes "NotRising"
name_of UnknownJob = codes "UnknownJob"
name_of Unfinished = codes "Unfinished"
name_of EarlyRelease = codes "EarlyRelease"
name_of LateDue = codes "LateDue"
name_of WrongSum = codes "WrongSum"
