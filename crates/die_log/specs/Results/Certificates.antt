-- What is said of a certificate of a log.
use Rattle.std.specs.Prelude.{◌≡◌, Some, Contains, IsFalse}
use Rattle.slot_types.specs.declared.plans.DiePlan.{DiePlan}
use Rattle.late_cert.specs.declared.certificates.Certificate.{Certificate}
use Rattle.late_cert.specs.declared.verdicts.Verdict.TheVariants.{Holds}
use Rattle.late_cert.specs.Bound.{BindsEverySchedule}
use Rattle.late_cert.specs.Build.{verdict_on}
use Rattle.die_log.specs.Model.Log.{Log, Job, jobs}
use Rattle.die_log.specs.Model.Work.{is_done, worst}
use Rattle.die_log.specs.Model.Rows.{rows, IsCertified}

-- no job or collection is done
abbrev pub NothingDone : DiePlan → Log → Type 0
NothingDone plan log = (j : Job) → Contains (jobs log) j → IsFalse (is_done plan log j)

-- it is of the busy interval of the log's worst job
abbrev pub IsOfWorst : DiePlan → Log → Certificate → Type 0
IsOfWorst plan log c = (j : Job) × (worst plan log ≡ Some j) × IsCertified plan log j c

-- by the log's rows it holds
abbrev pub HoldsOver : DiePlan → Log → Certificate → Type 0
HoldsOver plan log c = verdict_on (rows plan log) c ≡ Holds

-- every schedule that serves its jobs completes one of them at least as late as it says
abbrev pub BindsAll : DiePlan → Log → Certificate → Type 0
BindsAll plan log c = BindsEverySchedule (rows plan log) c.due c.completion c.jobs
