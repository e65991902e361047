-- How long a life is, and what came in all lives, on one clock.
use Rattle.std.specs.Prelude.{◌≡◌, ℕ, ◌+◌, ◌*◌, ◌%◌, ◌≤◌, ◌<◌, List, [], ◌∷◌, ◌++◌, map, length, sum_by, All}
use Rattle.slot_types.specs.declared.limits.TheConstants.{MAX_SLOT, MAX_JOBS}
use Rattle.slot_types.specs.declared.events.Event.{Event}
use Rattle.slot_types.specs.declared.events.Event.TheVariants as events
use Rattle.slot_types.specs.declared.plans.DiePlan.{DiePlan}
use Rattle.plan_rules.specs.Keeping.{TaskArrival, arrivals, slots}
use Rattle.demand_rules.specs.declared.terms.TaskTerms.{TaskTerms}
use Rattle.demand_rules.specs.declared.terms.Terms.{Terms}
use Rattle.demand_rules.specs.Demand.{terms_of, periods_within}
use Rattle.die_log.specs.Model.Log.{Log, now}
use Rattle.die_log.specs.Model.Lives.{Lives, all_slots}
use Rattle.die_log.specs.Results.InTime.{events_of_log}
use Rattle.die_log.specs.Results.DemandedLives.{at_later}

-- how many jobs and collections of a task may be released in `slots` slots and be due by their end; each job has an
-- operation
abbrev pub task_arrivals : ℕ → TaskTerms → ℕ
task_arrivals slots t = t.work * periods_within t.period t.deadline slots + periods_within t.collect_period t.collect_deadline slots

-- and how many of all tasks
abbrev pub most_arrivals : Terms → ℕ → ℕ
most_arrivals terms slots = sum_by (task_arrivals slots) terms.tasks

-- what an event counts for among what may come in a life: a job for its operations, of which it has one at least, and a
-- collection for one
abbrev pub weight_of : Event → ℕ
weight_of (events.Submit task release due ops) = length ops
weight_of (events.Collect task release due) = 1
weight_of events.Slot = 0

-- how much came by this log of a life
abbrev pub came_in : Log → ℕ
came_in [] = 0
came_in (e ∷ past) = weight_of e.event + came_in past

-- a life of `life` slots: each collection that comes in it is due by its end, and there is a number for each job and
-- each collection
pub record IsLife (plan : DiePlan) (terms : Terms) (life : ℕ) : Type 0 where
  pub within : life ≤ MAX_SLOT
  pub collected : (task slot : ℕ) → task < length plan.caps → slot < life → slot % (terms_of terms task).collect_period ≡ 0
      → slot + (terms_of terms task).collect_deadline ≤ life
  pub few : most_arrivals terms life ≤ MAX_JOBS

-- what came in the lives of these logs, on the clock of all lives
abbrev pub all_came : Lives → List TaskArrival
all_came [] = []
all_came (log ∷ earlier) = all_came earlier ++ map (at_later (all_slots earlier)) (arrivals 0 (events_of_log log))

-- jobs and collections are released in the slot in which they come, and due by the end of the life
pub record IsWithinLife (life : ℕ) (a : TaskArrival) : Type 0 where
  pub comes : a.release ≡ a.at
  pub due : a.due ≤ life

abbrev pub AreWithinLife : ℕ → Log → Type 0
AreWithinLife life log = All (IsWithinLife life) (arrivals 0 (events_of_log log))

-- so it is in each of these lives, in which as many slots were carried out as events say
abbrev pub ArePlannedLives : ℕ → Lives → Type 0
ArePlannedLives life [] = Unit {0}
ArePlannedLives life (log ∷ earlier) = ArePlannedLives life earlier × AreWithinLife life log × (slots (events_of_log log) ≡ now log)
