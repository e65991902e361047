-- Refusals.
use Rattle.std.specs.Prelude.{◌≡◌, ℕ, Result, IfErr}
use Rattle.slot_types.specs.declared.refusals.Refusal.{Refusal}
use Rattle.slot_types.specs.declared.refusals.Refusal.TheVariants.{NoMemory, BadShape, BadPlan, UnknownDie, UnknownTask, EmptyJob}
use Rattle.slot_types.specs.declared.refusals.Refusal.TheVariants.{TooManyOps, BadPage, ReleasePast, BadDue, JobsFull, NoTokens}
use Rattle.slot_types.specs.declared.refusals.Refusal.TheVariants.{CollectorBusy, ClockEnd, DeviceFault, DieStopped, UnknownJob, PlanText}
use Rattle.slot_types.specs.declared.refusals.Refusal.TheVariants.{ScriptRow, ReportText, ReadFault, WriteFault, PassesFull, PassesOut}

-- the number under which a refusal is known
abbrev pub number_of : Refusal → ℕ
number_of NoMemory = 1
number_of BadShape = 2
number_of BadPlan = 3
number_of UnknownDie = 4
number_of UnknownTask = 5
number_of EmptyJob = 6
number_of TooManyOps = 7
number_of (BadPage page) = 8
number_of (ReleasePast now) = 9
number_of BadDue = 10
number_of JobsFull = 11
number_of (NoTokens have need) = 12
number_of CollectorBusy = 13
number_of ClockEnd = 14
number_of DeviceFault = 15
number_of DieStopped = 16
number_of UnknownJob = 17
number_of (PlanText cause) = 18
number_of (ScriptRow line cause) = 19
number_of (ReportText line) = 20
number_of ReadFault = 21
number_of WriteFault = 22
number_of PassesFull = 23
number_of (PassesOut out) = 24

-- if a call was refused, it was out of memory alone
abbrev pub FailsForMemory : {A : Type 0} → Result A Refusal → Type 0
FailsForMemory result = IfErr result (λ refusal. refusal ≡ NoMemory)
