-- Why no die is made that goes on by itself.
use Rattle.std.specs.Prelude.{ℕ, ◌<◌, ◌≤◌, length}
use Rattle.slot_types.specs.declared.plans.DiePlan.{DiePlan}
use Rattle.slot_types.specs.declared.plans.Shape.{Shape}
use Rattle.demand_rules.specs.declared.terms.Terms.{Terms}
use Rattle.demand_rules.specs.Demand.{terms_of, PassesDemand}
use Rattle.demand_rules.specs.Supply.{PassesSupply}
use Rattle.plan_rules.specs.Bound.{MeetsBound}
use Rattle.planned_die.specs.NewPlans.{RefusesPlan, IsSomeLife}
use Rattle.ongoing_die.specs.declared.refusals.OngoingRefusal.{OngoingRefusal}
use Rattle.ongoing_die.specs.declared.refusals.OngoingRefusal.TheVariants as refuses

-- the longest life of at most so many slots
pub record IsLongestLife (plan : DiePlan) (terms : Terms) (longest life : ℕ) : Type 0 where
  pub is_life : IsSomeLife plan terms longest life
  pub longer : (other : ℕ) → IsSomeLife plan terms longest other → other ≤ life

-- a life has fewer slots than the deadline of this task, and is long enough for the tasks before it
pub record IsFirstTooLate (terms : Terms) (life task : ℕ) : Type 0 where
  pub known : task < length terms.tasks
  pub late : life < (terms_of terms task).deadline
  pub first : (before : ℕ) → before < task → (terms_of terms before).deadline ≤ life

-- as a die that keeps its plan isn't made; or one could be, and the longest life is too short for a job of this task
abbrev pub RefusesOngoing : DiePlan → Terms → ℕ → Shape → OngoingRefusal → Type 0
RefusesOngoing plan terms longest shape (refuses.Plan refusal) = RefusesPlan plan terms longest shape refusal
RefusesOngoing plan terms longest shape (refuses.ShortLife task) = MeetsBound plan × PassesDemand plan terms × PassesSupply plan terms
    × ((life : ℕ) × IsLongestLife plan terms longest life × IsFirstTooLate terms life task)
