-- The bound that a plan has to meet, and its three figures.
use Rattle.std.specs.Prelude.{ℕ, ◌+◌, ◌-◌, ◌*◌, ◌/◌, ◌<◌, ◌≤◌, length, sum, All}
use Rattle.slot_types.specs.declared.plans.DiePlan.{DiePlan}
pub use Rattle.slot_types.specs.Shapes.{IsShape}

-- the most pages that may be free while fewer than alpha of them are spare: those, each collector's reserve, and all
-- that the tasks may own
abbrev pub fmax_of : DiePlan → ℕ
fmax_of plan = plan.alpha - 1 + length plan.caps * (plan.shape.pages - plan.alpha) + sum plan.caps

-- the blocks that are then closed and collected by nobody, at least
abbrev pub closed_of : DiePlan → ℕ
closed_of plan = plan.shape.blocks - fmax_of plan / plan.shape.pages - length plan.caps

-- how many valid pages there would be if each of those had too many to be a victim
abbrev pub live_of : DiePlan → ℕ
live_of plan = closed_of plan * (plan.shape.pages - plan.alpha + 1)

-- the plan's other numbers are within their limits
pub record HasLimits (plan : DiePlan) : Type 0 where
  pub some_tasks : 1 ≤ length plan.caps
  pub few_tasks : length plan.caps ≤ 16
  pub some_logical : 1 ≤ plan.logical
  pub some_alpha : 1 ≤ plan.alpha
  pub alpha_fits : plan.alpha ≤ plan.shape.pages
  pub some_cap : All (λ cap. 1 ≤ cap) plan.caps

-- a plan that may be used
pub record MeetsBound (plan : DiePlan) : Type 0 where
  pub shape : IsShape plan.shape
  pub limits : HasLimits plan
  pub closed : fmax_of plan / plan.shape.pages + length plan.caps < plan.shape.blocks
  pub live : plan.logical < live_of plan
