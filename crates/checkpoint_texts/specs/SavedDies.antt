-- What is kept of a die, as a checkpoint.
use Rattle.std.specs.Prelude.{List, map, Option}
use Rattle.slot_types.specs.declared.pages.Place.{Place}
use Rattle.die_checkpoint.specs.declared.checkpoint.Checkpoint.{Checkpoint}
use Rattle.checkpoint_texts.specs.declared.saved.SavedDie.{SavedDie}
use Rattle.checkpoint_texts.specs.declared.saved.SavedPage.{SavedPage}

-- by logical page the cell in which it lies
abbrev pub places_of : List SavedPage → List (Option Place)
places_of pages = map (λ (page : SavedPage). page.place) pages

-- what stands on a die, without the bytes of its pages
abbrev pub checkpoint_of : SavedDie → Checkpoint
checkpoint_of die = record { places = places_of die.pages; blocks = die.blocks; spare = die.spare; balances = die.balances }
