-- What may be asked of any number of slots, and the test that it always fits.
use Rattle.std.specs.Prelude.{ℕ, ◌≡◌, ◌+◌, ◌-◌, ◌*◌, ◌/◌, ◌≤◌, nat_le, if◌then◌else◌, length, slice_index_or, sum_by, All}
use Rattle.slot_types.specs.declared.plans.DiePlan.{DiePlan}
use Rattle.slot_types.specs.declared.limits.TheConstants.{MAX_SLOT}
use Rattle.plan_rules.specs.Times.{collection_work}
use Rattle.demand_rules.specs.declared.terms.TaskTerms.{TaskTerms}
use Rattle.demand_rules.specs.declared.terms.Terms.{Terms}

-- the terms of a task; a task that the plan doesn't have asks for nothing
abbrev pub no_terms : TaskTerms
no_terms = record { period = 0; deadline = 0; held = 0; work = 0; writes = 0; collect_period = 0; collect_deadline = 0 }

abbrev pub terms_of : Terms → ℕ → TaskTerms
terms_of terms task = slice_index_or terms.tasks task no_terms

-- the number of periods whose work may be released in an interval of `slots` slots and be due by its end, where each
-- job has `deadline` slots
abbrev pub periods_within : (period deadline slots : ℕ) → ℕ
periods_within period deadline slots = if nat_le deadline slots then (slots - deadline) / period + 1 else 0

-- the slots that the jobs and collections of a task take then at most
abbrev pub task_demand_in : DiePlan → ℕ → TaskTerms → ℕ
task_demand_in plan slots t =
    t.work * periods_within t.period t.deadline slots
    + collection_work plan * periods_within t.collect_period t.collect_deadline slots

-- and those of all tasks
abbrev pub demand_in : DiePlan → Terms → ℕ → ℕ
demand_in plan terms slots = sum_by (task_demand_in plan slots) terms.tasks

-- the terms of a task are within their limits
pub record IsTaskTerms (t : TaskTerms) : Type 0 where
  pub some_period : 1 ≤ t.period
  pub some_deadline : 1 ≤ t.deadline
  pub few_deadline : t.deadline ≤ t.held
  pub few_held : t.held ≤ MAX_SLOT
  pub some_work : 1 ≤ t.work
  pub few_work : t.work ≤ MAX_SLOT
  pub few_writes : t.writes ≤ t.work
  pub some_collect_period : 1 ≤ t.collect_period
  pub few_collect_period : t.collect_period ≤ MAX_SLOT
  pub some_collect_deadline : 1 ≤ t.collect_deadline
  pub few_collect_deadline : t.collect_deadline ≤ t.collect_period

-- each task has its terms, all within their limits
pub record HasTerms (plan : DiePlan) (terms : Terms) : Type 0 where
  pub one_each : length terms.tasks ≡ length plan.caps
  pub each : All IsTaskTerms terms.tasks

-- of a million slots, how many the jobs of a task take at most in the long run, and its collections; each rounded down
abbrev pub task_load : DiePlan → TaskTerms → ℕ
task_load plan t = (t.work * 1000000) / t.period + (collection_work plan * 1000000) / t.collect_period

-- and those of all tasks
abbrev pub load : DiePlan → Terms → ℕ
load plan terms = sum_by (task_load plan) terms.tasks

-- whatever is asked of `slots` slots fits into them; no interval of a life is longer than the last slot that there may
-- be, so the periods need no common multiple
abbrev pub FitsAllSlots : DiePlan → Terms → Type 0
FitsAllSlots plan terms = (slots : ℕ) → slots ≤ MAX_SLOT → demand_in plan terms slots ≤ slots

-- and in the long run no more is asked than there are slots, which no life is long enough to show
pub record PassesDemand (plan : DiePlan) (terms : Terms) : Type 0 where
  pub has : HasTerms plan terms
  pub lasts : load plan terms ≤ 1000000
  pub fits : FitsAllSlots plan terms
