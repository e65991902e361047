-- How a refusal is reported.
use Rattle.std.specs.Prelude.{ℕ, List, ◌++◌, codes, decimal}
use Rattle.slot_types.specs.declared.refusals.Cause.{Cause}
use Rattle.slot_types.specs.declared.refusals.Cause.TheVariants.{TooLong, NotToml, ExtraKey, MissingKey, WrongKind, BadVersion, TooManyRows}
use Rattle.slot_types.specs.declared.refusals.Cause.TheVariants.{Header, Fields, Number, Kind, Die, At, Ops}
use Rattle.slot_types.specs.declared.refusals.Refusal.{Refusal}
use Rattle.slot_types.specs.declared.refusals.Refusal.TheVariants.{NoMemory, BadShape, BadPlan, UnknownDie, UnknownTask, EmptyJob}
use Rattle.slot_types.specs.declared.refusals.Refusal.TheVariants.{TooManyOps, BadPage, ReleasePast, BadDue, JobsFull, NoTokens}
use Rattle.slot_types.specs.declared.refusals.Refusal.TheVariants.{CollectorBusy, ClockEnd, DeviceFault, DieStopped, UnknownJob, PlanText}
use Rattle.slot_types.specs.declared.refusals.Refusal.TheVariants.{ScriptRow, ReportText, ReadFault, WriteFault, PassesFull, PassesOut}

-- the cause's name
abbrev pub cause_text : Cause → List ℕ
cause_text TooLong = codes "TooLong"
cause_text NotToml = codes "NotToml"
cause_text ExtraKey = codes "ExtraKey"
cause_text MissingKey = codes "MissingKey"
cause_text WrongKind = codes "WrongKind"
cause_text BadVersion = codes "BadVersion"
cause_text TooManyRows = codes "TooManyRows"
cause_text Header = codes "Header"
cause_text Fields = codes "Fields"
cause_text Number = codes "Number"
cause_text Kind = codes "Kind"
cause_text Die = codes "Die"
cause_text At = codes "At"
cause_text Ops = codes "Ops"

-- the refusal's name, its numbers and the name of its cause, each after one space
abbrev pub refusal_text : Refusal → List ℕ
refusal_text NoMemory = codes "NoMemory"
refusal_text BadShape = codes "BadShape"
refusal_text BadPlan = codes "BadPlan"
refusal_text UnknownDie = codes "UnknownDie"
refusal_text UnknownTask = codes "UnknownTask"
refusal_text EmptyJob = codes "EmptyJob"
refusal_text TooManyOps = codes "TooManyOps"
refusal_text (BadPage page) = codes "BadPage " ++ decimal page
refusal_text (ReleasePast now) = codes "ReleasePast " ++ decimal now
refusal_text BadDue = codes "BadDue"
refusal_text JobsFull = codes "JobsFull"
refusal_text (NoTokens have need) = codes "NoTokens " ++ decimal have ++ codes " " ++ decimal need
refusal_text CollectorBusy = codes "CollectorBusy"
refusal_text ClockEnd = codes "ClockEnd"
refusal_text DeviceFault = codes "DeviceFault"
refusal_text DieStopped = codes "DieStopped"
refusal_text UnknownJob = codes "UnknownJob"
refusal_text (PlanText cause) = codes "PlanText " ++ cause_text cause
refusal_text (ScriptRow line cause) = codes "ScriptRow " ++ decimal line ++ codes " " ++ cause_text cause
refusal_text (ReportText line) = codes "ReportText " ++ decimal line
refusal_text ReadFault = codes "ReadFault"
refusal_text WriteFault = codes "WriteFault"
refusal_text PassesFull = codes "PassesFull"
refusal_text (PassesOut out) = codes "PassesOut " ++ decimal out
