-- What is true of a volume.
use Rattle.std.specs.Prelude.{◌≡◌, ℕ, List, length, Option}
use Rattle.slot_types.specs.declared.plans.Shape.{Shape}
use Rattle.plan_rules.specs.Bound.{MeetsBound}
use Rattle.plan_rules.specs.Accounts.{Accounts, total_of}
use Rattle.victim_pick.specs.Candidates.{Candidates}
use Rattle.page_map.specs.Placing.{Placing}
use Rattle.flash_die.specs.Flash.{Block}
use Rattle.flash_volume.specs.Cells.{fills_of, erases_in, opened_in, free_cells}
use Rattle.flash_volume.specs.Array.{IsSoundState}
use Rattle.flash_volume.specs.Running.{RunsWell}
use Rattle.flash_volume.specs.Picks.{PicksWell}
use Rattle.flash_volume.specs.declared.collection.Collection.{Collection}

-- of one that has not failed: its device is the plan's, and its accounts hold the free cells
pub record IsSoundVolume (accounts : Accounts) (shape : Shape) (failures : ℕ) (blocks : List Block) (placing : Placing) (candidates : Candidates)
    (running : List (Option Collection)) : Type 0 where
  pub stands : IsSoundState shape failures blocks placing (fills_of blocks) (erases_in blocks) (opened_in shape.pages blocks) candidates
  pub bound : MeetsBound accounts.plan
  pub shape_is : shape ≡ accounts.plan.shape
  pub map_len : length placing.places ≡ accounts.plan.logical
  pub total : free_cells shape.pages blocks ≡ total_of accounts
  pub runs : RunsWell accounts shape.pages blocks placing.places running
  pub picks : PicksWell shape.pages blocks candidates.counts running
