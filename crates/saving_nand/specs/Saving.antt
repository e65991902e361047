-- What a clean shutdown saves of a die: when it stands for the cells of its part, and how long it stays saved.
use Rattle.std.specs.Prelude.{◌≡◌, ◌⊎◌, ℕ, ◌+◌, ◌-◌, ◌<◌, List, length, map, replicate, ◌++◌, Option, Some, None}
use Rattle.std.proofs.Common.{◌∙◌, inl, inr}
use Rattle.slot_types.specs.declared.plans.Shape.{Shape}
use Rattle.slot_types.specs.declared.refusals.Refusal.{Refusal}
use Rattle.slot_types.specs.declared.refusals.Refusal.TheVariants as refusals
use Rattle.flash_die.specs.Flash.{Block, free_block}
use Rattle.flash_die.specs.declared.nand.NandCall.{NandCall}
use Rattle.flash_die.specs.declared.nand.NandCall.TheVariants as calls
use Rattle.flash_volume.specs.Checkpoints.{IsAsLeft}
use Rattle.power_loss.specs.Aside.{without_aside}
use Rattle.power_loss.specs.Labels.{Labels, Shown}
use Rattle.saving_nand.specs.declared.saved.Saved.{Saved}

-- A part is as it was left for what is saved: it has the block aside, and the others are as the checkpoint says, by the
-- numbers that they have beside that one.
pub record IsLeftFor (shape : Shape) (blocks : List Block) (labels : Labels) (failures : ℕ) (saved : Saved) : Type 0 where
  pub count : length blocks ≡ shape.blocks
  pub labelled : length labels.blocks ≡ shape.blocks
  pub stands : saved.aside < shape.blocks
  pub left : IsAsLeft saved.checkpoint (without_aside (shape.blocks - 1) saved.aside free_block blocks) failures

-- What a call leaves of what was saved before: a read the same, or nothing; a program or a slot of an erase nothing.
abbrev pub StaysSaved : NandCall → (before after : Option Saved) → Type 0
StaysSaved (calls.Read place) before after = (after ≡ before) ⊎ (after ≡ None)
StaysSaved (calls.Program place page bytes) before after = after ≡ None
StaysSaved (calls.EraseSlot block) before after = after ≡ None

-- so a call makes nothing saved
pub void_stays : (call : NandCall) (before after : Option Saved) → StaysSaved call before after → before ≡ None → after ≡ None
void_stays (calls.Read place) before after (inl same) void = same ∙ void
void_stays (calls.Read place) before after (inr gone) void = gone
void_stays (calls.Program place page bytes) before after gone void = gone
void_stays (calls.EraseSlot block) before after gone void = gone

-- programs are numbered from what was saved on
abbrev pub numbered : Option Saved → Labels → Labels
numbered None labels = labels
numbered (Some saved) labels = record labels { next = saved.next }

-- the labels of blocks that count as closed, with `pages` pages: the other cells are without a label
abbrev pub closed_labels : (pages : ℕ) → Shown → Shown
closed_labels pages blocks = map (λ cells. cells ++ replicate (pages - length cells) None) blocks

-- why nothing is saved: there is no memory, or the device has failed once more
abbrev pub RefusesSave : (before after : ℕ) → Refusal → Type 0
RefusesSave before after refusals.NoMemory = after ≡ before
RefusesSave before after refusals.DeviceFault = after ≡ before + 1
RefusesSave before after _ = ⊥
