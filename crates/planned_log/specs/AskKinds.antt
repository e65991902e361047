-- The two kinds of asks, for a job and for a burst: why one is refused, and which jobs it becomes.
use Rattle.std.specs.Prelude.{ℕ, List, [], ◌∷◌, length, Option}
use Rattle.slot_types.specs.declared.events.Op.{Op}
use Rattle.slot_types.specs.declared.plans.DiePlan.{DiePlan}
use Rattle.slot_types.specs.Operations.{writes}
use Rattle.demand_rules.specs.declared.terms.TaskTerms.{TaskTerms}
use Rattle.demand_rules.specs.declared.terms.Terms.{Terms}
use Rattle.demand_rules.specs.Demand.{terms_of}
use Rattle.die_log.specs.Model.Log.{Log, now}
use Rattle.die_log.specs.Model.Start.{Start}
use Rattle.die_log.specs.Model.Lives.{Lives, all_slots}
use Rattle.die_log.specs.Model.Answers.{after_call}
use Rattle.planned_log.specs.declared.ask_kinds.AskKind.{AskKind}
use Rattle.planned_log.specs.declared.ask_kinds.AskKind.TheVariants as kinds
use Rattle.planned_log.specs.declared.refusals.AskRefusal.{AskRefusal}
use Rattle.planned_log.specs.Asks.{Asked, asked_by, asked_job, most_operations, refusals_above, first_refusal}
use Rattle.planned_log.specs.Bursts.{jobs_of}

-- the most operations that a task may ask for at once
abbrev pub most_of : AskKind → TaskTerms → ℕ
most_of kinds.Job t = most_operations t
most_of kinds.Burst t = t.work

-- Why an ask of either kind is refused after a log: `ask_refusal` for a job, `burst_refusal` for a burst
abbrev pub refusal_as : AskKind → DiePlan → Terms → ℕ → Lives → Log → ℕ → List Op → Option AskRefusal
refusal_as kind plan terms life earlier log task ops =
    first_refusal (refusals_above (most_of kind (terms_of terms task)) plan terms life (all_slots earlier) (now log)
    (asked_by task (log ∷ earlier)) task ops)

-- the jobs that are asked for
abbrev pub jobs_as : AskKind → List Op → List (List Op)
jobs_as kinds.Job ops = ops ∷ []
jobs_as kinds.Burst ops = jobs_of ops

-- the log with these jobs of a task, one after the other
abbrev pub with_jobs : Start → Terms → Log → (caller task : ℕ) → List (List Op) → Log
with_jobs start terms log caller task [] = log
with_jobs start terms log caller task (ops ∷ jobs) =
    with_jobs start terms (after_call start log (caller, asked_job terms log task ops)) caller task jobs

-- what the task has asked for then, where the jobs came in this slot of the clock
abbrev pub with_asked : ℕ → List (List Op) → List Asked → List Asked
with_asked at [] asked = asked
with_asked at (ops ∷ jobs) asked = with_asked at jobs (record { at = at; operations = length ops; writes = writes ops } ∷ asked)
