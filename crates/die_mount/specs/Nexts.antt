-- How a mount begins, whatever was seen, and which stage comes after which.
use Rattle.std.specs.Prelude.{◌≡◌, ◌⊎◌, ℕ, ◌+◌, ◌<◌, ◌≤◌, replicate, slice_set}
use Rattle.slot_types.specs.declared.pages.Place.{Place}
use Rattle.slot_types.specs.declared.plans.DiePlan.{DiePlan}
use Rattle.die_log.specs.Model.Flash.{free_block}
use Rattle.power_loss.specs.Aside.{most_rounds_beside}
use Rattle.die_mount.specs.declared.stage.Stage.{Stage}
use Rattle.die_mount.specs.declared.stage.Stage.TheVariants as stage
use Rattle.die_mount.specs.Mounting.{Mounting}
use Rattle.die_mount.specs.PartState.{closed_block}

-- it begins with the erase of a block, and each other one counts as closed
pub record BeginsFirst (plan : DiePlan) (m : Mounting) : Type 0 where
  pub block : ℕ
  pub stands : block < plan.shape.blocks + 1
  pub plan_is : m.plan ≡ plan
  pub stage_is : m.stage ≡ stage.First block 0
  pub rounds_is : m.rounds ≡ most_rounds_beside plan
  pub blocks : m.cells.blocks ≡ slice_set (replicate (plan.shape.blocks + 1) (closed_block plan.shape.pages)) block free_block

-- its first block is erased, and no page was read that isn't programmed yet
abbrev pub IsPastFirst : Stage → Type 0
IsPastFirst (stage.First block slots) = ⊥
IsPastFirst (stage.Read page from) = Unit {0}
IsPastFirst (stage.Program page from to) = ⊥
IsPastFirst (stage.Erase block slots) = Unit {0}
IsPastFirst stage.Done = Unit {0}

-- where an erase takes `all` slots: the first block has them one after the other, and a page that was read is
-- programmed
abbrev pub IsNextStage : (all : ℕ) → (before after : Stage) → Type 0
IsNextStage all (stage.First block slots) after =
    ((slots + 1 < all) × (after ≡ stage.First block (slots + 1))) ⊎ ((all ≤ slots + 1) × IsPastFirst after)
IsNextStage all (stage.Read page from) after = (to : Place) × (after ≡ stage.Program page from to)
IsNextStage all (stage.Program page from to) after = IsPastFirst after
IsNextStage all (stage.Erase block slots) after = IsPastFirst after
IsNextStage all stage.Done after = ⊥
