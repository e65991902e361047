-- The names of a die's pages at a quiet moment, and a mirror that has them.
use Rattle.std.specs.Prelude.{◌≡◌, ℕ, false, List, [], length, map, slice_index_or, Option, Some, None, IsSome}
use Rattle.std.specs.List.{range_with_len}
use Rattle.slot_types.specs.declared.pages.PageData.{PageData}
use Rattle.slot_types.specs.declared.pages.Place.{Place}
use Rattle.slot_types.specs.declared.plans.DiePlan.{DiePlan}
use Rattle.slot_types.specs.declared.plans.Shape.{Shape}
use Rattle.slot_types.specs.Places.{place_of, owner_of}
use Rattle.flash_die.specs.Flash.{Block, blank}
use Rattle.flash_die.specs.Memory.{Memory}
use Rattle.die_checkpoint.specs.declared.checkpoint.Checkpoint.{Checkpoint}
use Rattle.die_checkpoint.specs.Counts.{counts_at}
use Rattle.slot_core.specs.Core.{nothing_reserved}
use Rattle.slot_core.specs.Resumptions.{start_with, RefusesCheckpoint}
use Rattle.stepped_die.specs.declared.refusals.StepCheckpointRefusal.{StepCheckpointRefusal}
use Rattle.stepped_die.specs.declared.refusals.StepCheckpointRefusal.TheVariants as steps
use Rattle.stepped_die.specs.Stepped.{Stepped}

-- The pages

-- the name of a page, by number; of one that is none, or that these don't have, blank
abbrev pub name_of : List PageData → Option ℕ → PageData
name_of names None = blank
name_of names (Some page) = slice_index_or names page blank

-- a page that lies nowhere is blank, whatever its name
abbrev pub named_by : List PageData → ℕ → Option Place → PageData
named_by names page None = blank
named_by names page (Some place) = slice_index_or names page blank

abbrev pub page_named : List (Option Place) → List PageData → ℕ → PageData
page_named places names page = named_by names page (place_of places page)

-- what the pages of a die hold that lie in these places and have these names
abbrev pub pages_named : List (Option Place) → List PageData → List PageData
pages_named places names = map (page_named places names) (range_with_len 0 (length places))

-- The mirror

-- what a cell holds: the name of the page that lies there
abbrev pub name_in : List (Option Place) → List PageData → ℕ → ℕ → PageData
name_in places names block page = name_of names (owner_of places (record { block = block; page = page }))

-- the first `count` cells of a block
abbrev pub names_in : List (Option Place) → List PageData → ℕ → ℕ → List PageData
names_in places names block count = map (name_in places names block) (range_with_len 0 count)

abbrev pub block_left : Checkpoint → List PageData → ℕ → Block
block_left c names block = record {
  pages = names_in c.places names block (counts_at c.blocks block).filled;
  erasing = 0;
  erases = (counts_at c.blocks block).erases;
}

-- a device as the checkpoint says that it was left, with these names
abbrev pub memory_left : Shape → Checkpoint → List PageData → Memory
memory_left shape c names = record { shape = shape; blocks = map (block_left c names) (range_with_len 0 (length c.blocks)) }

-- The die

-- a die that goes on from a checkpoint, with the pages of these names
pub record GoesOn (plan : DiePlan) (c : Checkpoint) (names : List PageData) (die : Stepped) : Type 0 where
  pub start : die.core.start ≡ start_with plan c (pages_named c.places names)
  pub device : die.core.device ≡ record { memory = memory_left plan.shape c names }
  pub runs : die.core.stopped ≡ false
  pub reserves : die.core.reserved ≡ nothing_reserved
  pub lasts : die.core.lasting ≡ nothing_reserved
  pub log : die.core.log ≡ []
  pub idle : die.begun ≡ None

-- why no checkpoint is taken: as the die refuses it, or as a slot has begun
abbrev pub RefusesNames : Stepped → StepCheckpointRefusal → Type 0
RefusesNames die (steps.Die refusal) = RefusesCheckpoint die.core refusal
RefusesNames die steps.Begun = (die.core.stopped ≡ false) × IsSome die.begun
