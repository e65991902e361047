-- Why a checkpoint doesn't fit a plan: the first cause that stands.
use Rattle.std.specs.Prelude.{◌≡◌, ◌≢◌, ℕ, ◌+◌, ◌<◌, ◌≤◌, List, position, slice_index, Some}
use Rattle.slot_types.specs.declared.plans.DiePlan.{DiePlan}
use Rattle.plan_rules.specs.Bound.{MeetsBound}
use Rattle.page_map.specs.PlacesFaults.{IsFirstShared}
use Rattle.die_checkpoint.specs.declared.checkpoint.BlockCounts.{BlockCounts}
use Rattle.die_checkpoint.specs.declared.checkpoint.Checkpoint.{Checkpoint}
use Rattle.die_checkpoint.specs.declared.fault.CheckpointFault.{CheckpointFault}
use Rattle.die_checkpoint.specs.declared.fault.CheckpointFault.TheVariants as faults
use Rattle.die_checkpoint.specs.Counts.{is_overfull, is_open, open_from, is_worn, is_astray}
use Rattle.die_checkpoint.specs.Fits.{IsOfShape, IsOfPlan, AreWithin, HasOneOpen, HasBlocks, ArePlaced, AreCapped, FitsButShared}
use Rattle.die_checkpoint.specs.Fits.{in_accounts, free_pages}

-- the second open block
pub record IsSecondOpen (pages : ℕ) (blocks : List BlockCounts) (block : ℕ) : Type 0 where
  pub first : ℕ
  pub first_is : position (is_open pages) blocks ≡ Some first
  pub second_is : open_from pages (first + 1) blocks ≡ Some block

-- the first task whose balance is above its cap
pub record IsFirstAbove (caps balances : List ℕ) (task : ℕ) : Type 0 where
  pub above : slice_index caps task < slice_index balances task
  pub first : (earlier : ℕ) → earlier < task → slice_index balances earlier ≤ slice_index caps earlier

-- a cause stands, and none before it does
abbrev pub HasCheckpointFault : DiePlan → Checkpoint → CheckpointFault → Type 0
HasCheckpointFault plan c faults.OtherShape = ¬ IsOfShape plan c
HasCheckpointFault plan c faults.BadPlan = IsOfShape plan c × ¬ MeetsBound plan
HasCheckpointFault plan c (faults.Overfull block) = IsOfPlan plan c × (position (is_overfull plan.shape.pages) c.blocks ≡ Some block)
HasCheckpointFault plan c (faults.SecondOpen block) = IsOfPlan plan c × AreWithin plan.shape.pages c.blocks
    × IsSecondOpen plan.shape.pages c.blocks block
HasCheckpointFault plan c (faults.WornOut block) = IsOfPlan plan c × AreWithin plan.shape.pages c.blocks × HasOneOpen plan.shape.pages c.blocks
    × (position is_worn c.blocks ≡ Some block)
HasCheckpointFault plan c (faults.Unprogrammed page) = HasBlocks plan c × (position (is_astray c.blocks) c.places ≡ Some page)
HasCheckpointFault plan c (faults.AboveCap task) = HasBlocks plan c × ArePlaced c × IsFirstAbove plan.caps c.balances task
HasCheckpointFault plan c (faults.OtherSum accounts free) = HasBlocks plan c × ArePlaced c × AreCapped plan c × (accounts ≡ in_accounts plan c)
    × (free ≡ free_pages plan c) × (accounts ≢ free)
HasCheckpointFault plan c faults.NoMemory = FitsButShared plan c
HasCheckpointFault plan c (faults.SharedCell page) = FitsButShared plan c × IsFirstShared c.places page
