-- An array of pages on a device.
use Rattle.std.specs.Prelude.{◌≡◌, ℕ, ◌<◌, ◌≤◌, Bool, false, nat_lt, if◌then◌else◌, List, length, position, count_by, Option, Some, None}
use Rattle.std.specs.Prelude.{replicate, slice_index, slice_set}
use Rattle.slot_types.specs.declared.pages.Place.{Place}
use Rattle.slot_types.specs.declared.plans.Shape.{Shape}
use Rattle.slot_types.specs.Places.{place_of, is_in}
use Rattle.slot_types.specs.Shapes.{IsShape}
use Rattle.victim_pick.specs.Candidates.{Candidates, count_of, erases_of, one_page_less, without}
use Rattle.page_map.specs.Placing.{Placing}
use Rattle.flash_die.specs.Flash.{Block, block_at, IsProgrammed}
use Rattle.flash_volume.specs.Cells.{filled_of, fills_of, erases_in, is_open_with, opened_in}

-- an array as its callers see it: whether its device has failed, the device, where each page lies, and the closed
-- blocks that may be collected with their counts of pages that lie there
pub record ArrayState (N : Type 0) : Type 0 where
  pub failed : Bool
  pub device : N
  pub placing : Placing
  pub candidates : Candidates

-- what is true of an array whose device has not failed, with its counts of programmed cells and of erases by block and
-- the open block that it remembers
pub record IsSoundState (shape : Shape) (failures : ℕ) (blocks : List Block) (placing : Placing) (fills erases : List ℕ) (writing : Option ℕ)
    (candidates : Candidates) : Type 0 where
  pub limits : IsShape shape
  pub map_shape : placing.shape ≡ shape
  pub well : failures ≡ 0
  pub count : length blocks ≡ shape.blocks
  pub fills_are : fills ≡ fills_of blocks
  pub erases_are : erases ≡ erases_in blocks
  pub within : (block : ℕ) → slice_index fills block ≤ shape.pages
  pub one_open : (i j : ℕ) → 0 < slice_index fills i → slice_index fills i < shape.pages → 0 < slice_index fills j → slice_index fills j
      < shape.pages → i ≡ j
  pub writing_is : position (is_open_with shape.pages) fills ≡ writing
  pub quiet : (block : ℕ) → slice_index fills block < shape.pages → (block_at blocks block).erasing ≡ 0
  pub placed : (page : ℕ) (place : Place) → place_of placing.places page ≡ Some place → IsProgrammed blocks place
  pub few_valid : (block : ℕ) → count_by (is_in block) placing.places ≤ filled_of (block_at blocks block)
  pub candidates_len : length candidates.counts ≡ shape.blocks
  pub worn_len : length candidates.erases ≡ shape.blocks
  pub candidates_pages : candidates.pages ≡ shape.pages
  pub counted : (block n : ℕ) → count_of candidates.counts block ≡ Some n → (filled_of (block_at blocks block) ≡ shape.pages)
      × (n ≡ count_by (is_in block) placing.places)
  pub worn : (block n : ℕ) → count_of candidates.counts block ≡ Some n → erases_of candidates.erases block ≡ (block_at blocks block).erases

-- the same, as callers see it
abbrev pub IsSoundArray : {N : Type 0} → (N → Shape) → (N → ℕ) → (N → List Block) → ArrayState N → Type 0
IsSoundArray shape_of failures blocks array =
    array.failed ≡ false → IsSoundState (shape_of array.device) (failures array.device) (blocks array.device) array.placing
    (fills_of (blocks array.device)) (erases_in (blocks array.device)) (opened_in (shape_of array.device).pages (blocks array.device))
    array.candidates

abbrev pub no_candidates : Shape → Candidates
no_candidates shape = record { pages = shape.pages; counts = replicate shape.blocks None; erases = replicate shape.blocks None }

-- without a candidate
abbrev pub without_candidate : ℕ → Candidates → Candidates
without_candidate block candidates = record candidates {
  counts = without (Some block) candidates.counts;
  erases = without (Some block)
      candidates.erases;
}

-- a page that lay here leaves its block, which has a page less if it is a candidate
abbrev pub counts_after_leaving : Option Place → List (Option ℕ) → List (Option ℕ)
counts_after_leaving None counts = counts
counts_after_leaving (Some place) counts = slice_set counts place.block (one_page_less (count_of counts place.block))

-- a block that is closed becomes a candidate, with this count, or with these erases
abbrev pub closed_when_filled : ℕ → ℕ → ℕ → ℕ → List (Option ℕ) → List (Option ℕ)
closed_when_filled pages block filled valid counts = if nat_lt filled pages then counts else slice_set counts block (Some valid)
