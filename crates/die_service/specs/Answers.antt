-- What a die behind its lock may answer to a question.
use Rattle.std.specs.Prelude.{◌≡◌, ℕ, ◌⊎◌, ◌↔◌, List, [], Option, Some, None, Result, Err, IsOk, IfOk, IfErr, IfSome}
use Rattle.slot_types.specs.declared.refusals.Refusal.{Refusal}
use Rattle.slot_types.specs.declared.refusals.Refusal.TheVariants.{NoMemory, UnknownJob}
use Rattle.late_cert.specs.declared.certificates.Certificate.{Certificate}
use Rattle.die_log.specs.Model.Log.{Log, job_at, now}
use Rattle.die_log.specs.Model.Rows.{certificate}
use Rattle.slot_core.specs.declared.outcomes.Outcome.{Outcome}
use Rattle.slot_core.specs.Outcomes.{outcome_at, reads_given, worst_of}
use Rattle.die_log.specs.Results.Certificates.{NothingDone, IsOfWorst, HoldsOver, BindsAll}
use Rattle.die_service.specs.declared.queries.Query.{Query}
use Rattle.die_service.specs.declared.queries.Query.TheVariants as asks
use Rattle.die_service.specs.declared.queries.Answer.{Answer}
use Rattle.die_service.specs.declared.queries.Answer.TheVariants as says
use Rattle.die_service.specs.Logs.{DieCall, log_of}
use Rattle.die_log.specs.Model.Start.{Start}

-- what became of the job or collection of this number; refused where the log has none of it, or memory is refused, which
-- it never is where no read gave anything
pub record SaysOutcome (start : Start) (log : Log) (job : ℕ) (result : Result Outcome Refusal) : Type 0 where
  pub ok : IfOk result (λ outcome. outcome_at start log job ≡ Some outcome)
  pub unknown : (result ≡ Err UnknownJob) ↔ (job_at log job ≡ None)
  pub nothing : (outcome : Outcome) → outcome_at start log job ≡ Some outcome → reads_given outcome ≡ [] → IsOk result
  pub refused : IfErr result (λ refusal. (refusal ≡ UnknownJob) ⊎ (refusal ≡ NoMemory))

-- the certificate of the log's worst job, none where nothing is done; refused where memory is refused, which it never
-- is where nothing is done
pub record SaysCertificate (start : Start) (log : Log) (result : Result (Option Certificate) Refusal) : Type 0 where
  pub ok : IfOk result (λ built. built ≡ certificate start.plan log)
  pub none : IfOk result (λ built. (built ≡ None) ↔ NothingDone start.plan log)
  pub worst : IfOk result (λ built. IfSome built (IsOfWorst start.plan log))
  pub holds : IfOk result (λ built. IfSome built (HoldsOver start.plan log))
  pub binds : IfOk result (λ built. IfSome built (BindsAll start.plan log))
  pub nothing : NothingDone start.plan log → IsOk result
  pub refused : IfErr result (λ refusal. refusal ≡ NoMemory)

abbrev pub Says : Start → Log → Query → Answer → Type 0
Says start log (asks.Outcome job) (says.Outcome result) = SaysOutcome start log job result
Says start log asks.Worst (says.Worst result) = result ≡ worst_of start.plan log
Says start log asks.Certificate (says.Certificate result) = SaysCertificate start log result
Says start log asks.Now (says.Now result) = result ≡ now log
Says start log _ _ = ⊥

abbrev pub MayAnswer : Start → List DieCall → Query → Answer → Type 0
MayAnswer start calls query answer = Says start (log_of calls) query answer
