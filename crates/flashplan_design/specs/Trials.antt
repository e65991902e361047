-- Plans with one number changed, put to the test.
use Rattle.std.specs.Prelude.{ℕ, ◌<◌, Option, Some, None}
use Rattle.plan_rules.specs.Bound.{MeetsBound}
use Rattle.slot_types.specs.declared.plans.DiePlan.{DiePlan}

-- the plan with another number of blocks
abbrev pub with_blocks : DiePlan → ℕ → DiePlan
with_blocks plan blocks = record plan { shape = record plan.shape { blocks = blocks } }

-- the plan with another number of logical pages
abbrev pub with_logical : DiePlan → ℕ → DiePlan
with_logical plan logical = record plan { logical = logical }

-- with `blocks` blocks it meets its bound, and with fewer it doesn't
pub record IsLeastBlocks (plan : DiePlan) (blocks : ℕ) : Type 0 where
  pub meets : MeetsBound (with_blocks plan blocks)
  pub least : (fewer : ℕ) → fewer < blocks → ¬ MeetsBound (with_blocks plan fewer)

-- with `logical` logical pages it meets its bound, and with more it doesn't
pub record IsGreatestLogical (plan : DiePlan) (logical : ℕ) : Type 0 where
  pub meets : MeetsBound (with_logical plan logical)
  pub greatest : (more : ℕ) → logical < more → ¬ MeetsBound (with_logical plan more)

-- such a number of blocks, or none where no number would do
abbrev pub FindsBlocks : DiePlan → Option ℕ → Type 0
FindsBlocks plan (Some blocks) = IsLeastBlocks plan blocks
FindsBlocks plan None = (blocks : ℕ) → ¬ MeetsBound (with_blocks plan blocks)

-- such a number of logical pages, or none where no number would do
abbrev pub FindsLogical : DiePlan → Option ℕ → Type 0
FindsLogical plan (Some logical) = IsGreatestLogical plan logical
FindsLogical plan None = (logical : ℕ) → ¬ MeetsBound (with_logical plan logical)
