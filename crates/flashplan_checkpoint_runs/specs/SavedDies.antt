-- Where a die starts that was saved, and what is saved of a die.
use Rattle.std.specs.Prelude.{◌≡◌, ◌&&◌, ℕ, Bool, List, [], ◌∷◌, map, Option, Some, None, is_none, is_some, option_map, slice_index_or, unwrap_or}
use Rattle.slot_types.specs.declared.pages.PageData.{PageData}
use Rattle.slot_types.specs.declared.pages.Place.{Place}
use Rattle.slot_types.specs.declared.plans.DiePlan.{DiePlan}
use Rattle.checkpoint_texts.specs.SavedDies.{checkpoint_of}
use Rattle.checkpoint_texts.specs.declared.saved.SavedDie.{SavedDie}
use Rattle.checkpoint_texts.specs.declared.saved.SavedPage.{SavedPage}
use Rattle.die_checkpoint.specs.Fits.{Fits}
use Rattle.die_checkpoint.specs.declared.checkpoint.Checkpoint.{Checkpoint}
use Rattle.die_log.specs.Model.Opening.{renewed_start}
use Rattle.die_log.specs.Model.Start.{Start}
use Rattle.flash_die.specs.Flash.{Block, blank, cell_at}
use Rattle.flash_die.specs.Memory.{Memory}
use Rattle.slot_core.specs.Core.{Core}
use Rattle.slot_core.specs.Resumptions as slots

-- what a page holds that was saved: the bytes that were kept of its cell, blank where it lies nowhere
abbrev pub held_in : Option Place → Option PageData → PageData
held_in None bytes = blank
held_in (Some place) bytes = unwrap_or bytes blank

abbrev pub held_by : SavedPage → PageData
held_by page = held_in page.place page.bytes

abbrev pub no_page : SavedPage
no_page = record { place = None; bytes = None }

-- a page lies in a cell, and has no bytes
abbrev pub is_bare : SavedPage → Bool
is_bare page = is_some page.place && is_none page.bytes

-- each page that lies in a cell has its bytes
abbrev pub HaveBytes : List SavedPage → Type 0
HaveBytes pages = (page : ℕ) → (slice_index_or pages page no_page).bytes ≡ None → (slice_index_or pages page no_page).place ≡ None

-- a die that was saved fits its plan
abbrev pub FitsDie : DiePlan → SavedDie → Type 0
FitsDie plan die = Fits plan (checkpoint_of die)

-- a die that was saved starts as its checkpoint says, with the bytes that were kept
abbrev pub saved_start : DiePlan → SavedDie → Start
saved_start plan saved = slots.start_with plan (checkpoint_of saved) (map held_by saved.pages)

-- by die, where it starts
abbrev pub saved_starts : List DiePlan → List SavedDie → List Start
saved_starts (plan ∷ plans) (die ∷ saved) = saved_start plan die ∷ saved_starts plans saved
saved_starts _ _ = []

-- a page as it is saved: its cell, if it lies in one, and what that holds
abbrev pub saved_page : List Block → Option Place → SavedPage
saved_page blocks place = record { place = place; bytes = option_map (cell_at blocks) place }

-- what is saved by this checkpoint and these blocks of a device
abbrev pub saved_by : Checkpoint → List Block → SavedDie
saved_by c blocks = record {
  pages = map (saved_page blocks) c.places;
  blocks = c.blocks;
  balances = c.balances;
  spare = c.spare;
}

-- what is saved of a die at its end: its checkpoint, which is what would stand if it were renewed, and the bytes of its device
abbrev pub saved_end : Core Memory → SavedDie
saved_end core = saved_by (slots.checkpoint_of (renewed_start core.start core.log)) core.device.blocks
