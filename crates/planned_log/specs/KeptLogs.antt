-- Which logs keep a plan so far, where a die enters its collections itself.
use Rattle.std.specs.Prelude.{ℕ, ◌+◌, ◌%◌, ◌==◌, ◌≤◌, ◌<◌, ◌&&◌, nat_lt, nat_le, Bool, if◌then◌else◌, List, [], ◌∷◌}
use Rattle.std.specs.Prelude.{◌++◌, length, drop, sum_by}
use Rattle.slot_types.specs.declared.events.Event.{Event}
use Rattle.slot_types.specs.declared.events.Event.TheVariants as events
use Rattle.slot_types.specs.declared.plans.DiePlan.{DiePlan}
use Rattle.demand_rules.specs.declared.terms.TaskTerms.{TaskTerms}
use Rattle.demand_rules.specs.declared.terms.Terms.{Terms}
use Rattle.demand_rules.specs.Demand.{terms_of}
use Rattle.demand_rules.specs.Keeping.{KeepsDemandPlan}
use Rattle.die_log.specs.Model.Log.{Log, now}
use Rattle.die_log.specs.Model.Lives.{Lives}
use Rattle.die_log.specs.Results.InTime.{events_of_log}
use Rattle.planned_log.specs.Asks.{Asked, asked_by}
use Rattle.planned_log.specs.Lives.{AreWithinLife}

-- a collection of this period comes in the slot
abbrev pub comes_at : (period slot : ℕ) → Bool
comes_at period slot = slot % period == 0

-- the collections that the plan has in slot `now`, of the tasks from this one on, whose terms these are
abbrev pub collections_at : List TaskTerms → ℕ → ℕ → List Event
collections_at [] task now = []
collections_at (t ∷ rest) task now =
    if comes_at t.collect_period now
    then events.Collect task now (now + t.collect_deadline) ∷ collections_at rest (task + 1) now
    else collections_at rest (task + 1) now

-- what is left of a slot where the collections of the first `entered` tasks have come: those of the others, and the
-- slot
abbrev pub left_of_slot : Terms → ℕ → ℕ → List Event
left_of_slot terms entered now = collections_at (drop entered terms.tasks) entered now ++ events.Slot ∷ []

-- and what is left of the present one, unless the life has ended
abbrev pub left_of : Terms → ℕ → ℕ → ℕ → List Event
left_of terms life entered now = if nat_lt now life then left_of_slot terms entered now else []

-- With what is left of the present slot the events keep the plan; jobs are released as they come, and all is due by
-- the end of the life. Of the present slot the collections of the first `entered` tasks have come.
pub record KeepsSoFar (plan : DiePlan) (terms : Terms) (life entered : ℕ) (log : Log) : Type 0 where
  pub keeps : KeepsDemandPlan plan terms (events_of_log log ++ left_of terms life entered (now log))
  pub within : now log ≤ life
  pub few_entered : entered ≤ length plan.caps
  pub each : AreWithinLife life log

-- the collection that the die enters for a task in the present slot
abbrev pub own_collection : Terms → Log → ℕ → Event
own_collection terms log task = events.Collect task (now log) (now log + (terms_of terms task).collect_deadline)

-- what a task asked for in some slots of the clock, the last one not among them
abbrev pub is_asked_in : ℕ → ℕ → Asked → Bool
is_asked_in start end a = nat_le start a.at && nat_lt a.at end

abbrev pub amount_in : (Asked → ℕ) → ℕ → ℕ → List Asked → ℕ
amount_in amount start end asked = sum_by (λ a. if is_asked_in start end a then amount a else 0) asked

-- in no period of the clock of all lives a task asked for more than it may
pub record AskForFew (plan : DiePlan) (terms : Terms) (lives : Lives) : Type 0 where
  pub operations : (task slot : ℕ) → task < length plan.caps → let t = terms_of terms task in
      amount_in (λ a. a.operations) slot (slot + t.period) (asked_by task lives) ≤ t.work
  pub writes : (task slot : ℕ) → task < length plan.caps → let t = terms_of terms task in
      amount_in (λ a. a.writes) slot (slot + t.period) (asked_by task lives) ≤ t.writes
