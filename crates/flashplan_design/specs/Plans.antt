-- A plan with one of its numbers changed: would all of its dies do?
use Rattle.std.specs.Prelude.{◌≡◌, ℕ, ◌<◌, All}
use Rattle.plan_texts.specs.Stores.{IsUsable, die_of}
use Rattle.plan_texts.specs.declared.numbers.PlanNumbers.{PlanNumbers}
use Rattle.plan_texts.specs.declared.numbers.TaskNumbers.{TaskNumbers}
use Rattle.flashplan_design.specs.Numbers.{DieDoes}
use Rattle.flashplan_design.specs.declared.numbers.Number.{Number}

-- each task names a die that is there
abbrev pub AreNamed : PlanNumbers → Type 0
AreNamed plan = All (λ (task : TaskNumbers). task.die < plan.top.dies) plan.tasks

-- with this number, which all dies share, each die would do
pub record AllDo (which : Number) (plan : PlanNumbers) (n : ℕ) : Type 0 where
  pub named : AreNamed plan
  pub each : (die : ℕ) → die < plan.top.dies → DieDoes which (die_of plan die) n

-- each die but this one would do as it is
pub record OthersDo (plan : PlanNumbers) (own : ℕ) : Type 0 where
  pub named : AreNamed plan
  pub each : (die : ℕ) → die < plan.top.dies → ¬ (die ≡ own) → IsUsable (die_of plan die)

-- with this number of a task of this die it would do, and the others do as they are
pub record OneDoes (die : ℕ) (which : Number) (plan : PlanNumbers) (n : ℕ) : Type 0 where
  pub own : DieDoes which (die_of plan die) n
  pub others : OthersDo plan die
