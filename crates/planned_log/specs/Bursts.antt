-- A burst: operations that are asked for in one call, and become one job or more.
use Rattle.std.specs.Prelude.{◌≡◌, ℕ, zero, suc, ◌+◌, ◌-◌, ◌/◌, List, [], ◌∷◌, length, take, drop, None}
use Rattle.slot_types.specs.declared.limits.TheConstants.{MAX_OPS}
use Rattle.slot_types.specs.declared.events.Op.{Op}
use Rattle.demand_rules.specs.declared.terms.Terms.{Terms}
use Rattle.die_log.specs.Model.Log.{Log}
use Rattle.die_log.specs.Model.Start.{Start}
use Rattle.die_log.specs.Model.Answers.{after_call}
use Rattle.die_log.specs.Model.Lives.{Lives}
use Rattle.planned_log.specs.Asks.{asked_job, ask_refusal}

-- the first `n` jobs of these operations, in order: each has `MAX_OPS` operations, while that many are left
abbrev pub first_jobs : ℕ → List Op → List (List Op)
first_jobs zero ops = []
first_jobs (suc n) ops = take MAX_OPS ops ∷ first_jobs n (drop MAX_OPS ops)

-- how many jobs these operations are, of which the last may have fewer than the others
abbrev pub job_count : ℕ → ℕ
job_count operations = (operations + (MAX_OPS - 1)) / MAX_OPS

-- the jobs of a burst
unfoldable pub jobs_of : List Op → List (List Op)
jobs_of ops = first_jobs (job_count (length ops)) ops

-- each of these jobs of a task in turn is an ask that the plan doesn't refuse
abbrev pub AreUnrefused : Start → Terms → Lives → ℕ → Log → (caller task : ℕ) → List (List Op) → Type 0
AreUnrefused start terms earlier life log caller task [] = Unit {0}
AreUnrefused start terms earlier life log caller task (ops ∷ jobs) =
    (ask_refusal start.plan terms life earlier log task ops ≡ None)
    × AreUnrefused start terms earlier life (after_call start log (caller, asked_job terms log task ops)) caller task jobs
