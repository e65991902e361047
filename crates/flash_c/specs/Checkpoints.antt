-- A checkpoint as C has it: an array by logical page, one by block, one by task.
use Rattle.std.specs.Prelude.{◌≡◌, true, ◌==◌, ℕ, List, map, Option, Some, None, if◌then◌else◌}
use Rattle.slot_types.specs.declared.pages.Place.{Place}
use Rattle.slot_types.specs.declared.plans.DiePlan.{DiePlan}
use Rattle.die_checkpoint.specs.declared.checkpoint.BlockCounts.{BlockCounts}
use Rattle.die_checkpoint.specs.declared.checkpoint.Checkpoint.{Checkpoint}
use Rattle.die_checkpoint.specs.declared.fault.CheckpointFault.{CheckpointFault}
use Rattle.die_checkpoint.specs.declared.fault.CheckpointFault.TheVariants as faults
use Rattle.die_checkpoint.specs.Faults.{HasCheckpointFault}
use Rattle.slot_core.specs.declared.resumptions.CheckpointRefusal.TheVariants as untaken
use Rattle.stepped_die.specs.declared.refusals.StepCheckpointRefusal.{StepCheckpointRefusal}
use Rattle.stepped_die.specs.declared.refusals.StepCheckpointRefusal.TheVariants as steps
use Rattle.stepped_die.specs.declared.refusals.StepRenewalRefusal.{StepRenewalRefusal}
use Rattle.stepped_die.specs.declared.refusals.StepRenewalRefusal.TheVariants as renewals
use Rattle.stepped_die.specs.declared.part.Part.{Part}
use Rattle.stepped_die.specs.Stepped.{Stepped}
use Rattle.stepped_die.specs.Steps.{RefusesRenewing}
use Rattle.stepped_die.specs.Names.{RefusesNames}
use Rattle.flash_c.specs.declared.shapes.FlashBlock.{FlashBlock}
use Rattle.flash_c.specs.declared.shapes.FlashPart.{FlashPart}
use Rattle.flash_c.specs.declared.shapes.FlashPlace.{FlashPlace}
use Rattle.flash_c.specs.declared.shapes.FlashWhy.{FlashWhy}
use Rattle.flash_c.specs.Codes.{renewal_code, renewal_why, two}
use Rattle.flash_c.specs.Conversions.{number_in}
use Rattle.flash_c.specs.Counts.{count_of}
use Rattle.flash_c.specs.Lists.{array_with}

-- the cell in which a page lies; in a block of this number it lies nowhere
abbrev pub nowhere : ℕ
nowhere = 4294967295

abbrev pub place_of : Option Place → FlashPlace
place_of None = record { block = nowhere; page = nowhere }
place_of (Some place) = record { block = place.block; page = place.page }

abbrev pub place_in : FlashPlace → Option Place
place_in place = if place.block == nowhere then None else Some (record { block = place.block; page = place.page })

-- the programmed pages and the erases of a block
abbrev pub counts_of : BlockCounts → FlashBlock
counts_of counts = record { filled = counts.filled; erases = counts.erases }

abbrev pub counts_in : FlashBlock → BlockCounts
counts_in block = record { filled = block.filled; erases = block.erases }

-- what is known of the part beneath a die: as it is reported, and as a resumed die has it, whose checkpoint stands
abbrev pub part_of : Part → FlashPart
part_of part = record { serial = part.serial; aside = part.aside }

abbrev pub part_in : FlashPart → Part
part_in part = record { aside = part.aside; serial = part.serial; stands = true }

-- the checkpoint that these stand for
abbrev pub checkpoint_in : List FlashPlace → List FlashBlock → List ℕ → ℕ → Checkpoint
checkpoint_in places blocks balances spare = record {
  places = map place_in places;
  blocks = map counts_in blocks;
  spare = spare;
  balances = balances;
}

-- The numbers of what is refused, and of what is wrong with a checkpoint

abbrev pub untaken_code : StepCheckpointRefusal → ℕ
untaken_code (steps.Die (untaken.NotRenewable why)) = renewal_code (renewals.Die why)
untaken_code (steps.Die untaken.NoMemory) = 1
untaken_code steps.Begun = 100

abbrev pub untaken_why : StepCheckpointRefusal → FlashWhy
untaken_why (steps.Die (untaken.NotRenewable why)) = renewal_why (renewals.Die why)
untaken_why (steps.Die untaken.NoMemory) = two 0 0
untaken_why steps.Begun = two 0 0

abbrev pub fault_code : CheckpointFault → ℕ
fault_code faults.OtherShape = 301
fault_code faults.BadPlan = 3
fault_code (faults.Overfull block) = 302
fault_code (faults.SecondOpen block) = 303
fault_code (faults.WornOut block) = 106
fault_code (faults.Unprogrammed page) = 304
fault_code (faults.AboveCap task) = 305
fault_code (faults.OtherSum accounts free) = 306
fault_code faults.NoMemory = 1
fault_code (faults.SharedCell page) = 307

abbrev pub fault_why : CheckpointFault → FlashWhy
fault_why faults.OtherShape = two 0 0
fault_why faults.BadPlan = two 0 0
fault_why (faults.Overfull block) = two block 0
fault_why (faults.SecondOpen block) = two block 0
fault_why (faults.WornOut block) = two block 0
fault_why (faults.Unprogrammed page) = two page 0
fault_why (faults.AboveCap task) = two task 0
fault_why (faults.OtherSum accounts free) = two (count_of accounts) (count_of free)
fault_why faults.NoMemory = two 0 0
fault_why (faults.SharedCell page) = two page 0

-- Answers

-- a checkpoint, put into these arrays as far as there is room
pub record SaysCheckpoint (c : Checkpoint) (places places_then : List FlashPlace) (blocks blocks_then : List FlashBlock)
    (balances balances_then : List ℕ) (spare_then : ℕ) : Type 0 where
  pub places_are : places_then ≡ array_with place_of places c.places
  pub blocks_are : blocks_then ≡ array_with counts_of blocks c.blocks
  pub balances_are : balances_then ≡ array_with number_in balances c.balances
  pub spare_is : spare_then ≡ c.spare

-- the number of why no checkpoint is taken, with its job or block
pub record SaysUntaken (die : Stepped) (code : ℕ) (why : FlashWhy) : Type 0 where
  pub refusal : StepCheckpointRefusal
  pub refuses : RefusesNames die refusal
  pub code_is : code ≡ untaken_code refusal
  pub why_is : why ≡ untaken_why refusal

-- the number of why the log isn't started anew, with its job or block
pub record SaysUnrenewed (die : Stepped) (code : ℕ) (why : FlashWhy) : Type 0 where
  pub refusal : StepRenewalRefusal
  pub refuses : RefusesRenewing die refusal
  pub code_is : code ≡ renewal_code refusal
  pub why_is : why ≡ renewal_why refusal

-- the number of a checkpoint's first fault, with what it names
pub record SaysFault (plan : DiePlan) (c : Checkpoint) (code : ℕ) (why : FlashWhy) : Type 0 where
  pub fault : CheckpointFault
  pub has : HasCheckpointFault plan c fault
  pub code_is : code ≡ fault_code fault
  pub why_is : why ≡ fault_why fault
