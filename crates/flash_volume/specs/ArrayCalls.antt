-- What the calls of an array of pages change.
use Rattle.std.specs.Prelude.{◌≡◌, ◌≢◌, ℕ, ◌+◌, ◌==◌, Bool, true, false, List, Result, is_err, is_some, IsSome, slice_set}
use Rattle.slot_types.specs.declared.pages.Place.{Place}
use Rattle.slot_types.specs.declared.pages.PageData.{PageData}
use Rattle.slot_types.specs.declared.plans.Shape.{Shape}
use Rattle.slot_types.specs.declared.refusals.Refusal.{Refusal}
use Rattle.victim_pick.specs.Candidates.{count_of}
use Rattle.page_map.specs.Placing.{placing_with}
use Rattle.flash_die.specs.Flash.{Block, block_at, blocks_after_program, blocks_after_erase_slot}
use Rattle.flash_die.specs.Calls.{FailsByFault}
use Rattle.flash_volume.specs.Cells.{filled_of, next_cell, contents, free_cells}
use Rattle.flash_volume.specs.Array.{ArrayState}

-- what its pages hold
abbrev pub pages_of : {N : Type 0} → (N → List Block) → ArrayState N → List PageData
pages_of blocks array = contents (blocks array.device) array.placing.places

-- its free cells
abbrev pub free_of : {N : Type 0} → (N → Shape) → (N → List Block) → ArrayState N → ℕ
free_of shape_of blocks array = free_cells (shape_of array.device).pages (blocks array.device)

-- the cell that it writes next
abbrev pub next_of : {N : Type 0} → (N → Shape) → (N → List Block) → ArrayState N → Place
next_of shape_of blocks array = next_cell (shape_of array.device).pages (blocks array.device)

-- Of the blocks only this one may have become a candidate, or be one no more; it is one if all its pages are
-- programmed.
pub record MayHaveClosed {N : Type 0} (shape_of : N → Shape) (blocks : N → List Block) (block : ℕ) (old new : ArrayState N) : Type 0 where
  pub others : (other : ℕ) → other ≢ block → is_some (count_of new.candidates.counts other) ≡ is_some (count_of old.candidates.counts other)
  pub closes : filled_of (block_at (blocks new.device) block) ≡ (shape_of old.device).pages → IsSome (count_of new.candidates.counts block)

-- The page was written to the free cell that was next: it holds the bytes and lies there, a free cell less is left, and
-- the cell's block alone may have become a candidate.
pub record HasPlaced {N : Type 0} (shape_of : N → Shape) (blocks : N → List Block) (page : ℕ) (bytes : PageData) (old new : ArrayState N)
    : Type 0 where
  pub cells : blocks new.device ≡ blocks_after_program (blocks old.device) (next_of shape_of blocks old).block bytes
  pub placing : new.placing ≡ placing_with old.placing page (next_of shape_of blocks old)
  pub pages : pages_of blocks new ≡ slice_set (pages_of blocks old) page bytes
  pub free : free_of shape_of blocks new + 1 ≡ free_of shape_of blocks old
  pub closed : MayHaveClosed shape_of blocks (next_of shape_of blocks old).block old new

-- The block had a slot of its erase, which was the last one or not. The last one frees its cells; what the pages hold
-- stays.
pub record HasErased {N : Type 0} (shape_of : N → Shape) (blocks : N → List Block) (block : ℕ) (last : Bool)
    (old new : ArrayState N) : Type 0
  where
    pub last_is : last ≡ ((block_at (blocks old.device) block).erasing + 1 == (shape_of old.device).erase_slots)
    pub cells : blocks new.device ≡ blocks_after_erase_slot (blocks old.device) (shape_of old.device).erase_slots block
    pub going : last ≡ false → free_of shape_of blocks new ≡ free_of shape_of blocks old
    pub freed : last ≡ true → free_of shape_of blocks new ≡ free_of shape_of blocks old + (shape_of old.device).pages
    pub pages : pages_of blocks new ≡ pages_of blocks old

-- The device alone makes the call fail, and by that the array has failed. The device keeps its shape.
pub record EndsWithDevice {N A : Type 0} (shape_of : N → Shape) (failures : N → ℕ) (never_fails : Bool) (result : Result A Refusal)
    (old new : ArrayState N) : Type 0 where
  pub by_fault : FailsByFault never_fails result (failures old.device) (failures new.device)
  pub failed : new.failed ≡ is_err result
  pub shape_stays : shape_of new.device ≡ shape_of old.device
