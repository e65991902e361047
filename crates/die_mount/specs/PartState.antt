-- The cells of a part, as a mount goes on.
use Rattle.std.specs.Prelude.{◌≡◌, ℕ, ◌+◌, ◌-◌, ◌<◌, ◌≤◌, ◌==◌, ◌&&◌, nat_lt, Bool, if◌then◌else◌, List, Option, Some, None, length}
use Rattle.std.specs.Prelude.{replicate, slice_set, position, option_map}
use Rattle.slot_types.specs.Places.{owner_of, place_of}
use Rattle.slot_types.specs.declared.pages.Place.{Place}
use Rattle.slot_types.specs.declared.plans.DiePlan.{DiePlan}
use Rattle.slot_types.specs.declared.plans.Shape.{Shape}
use Rattle.slot_types.specs.declared.acts.Act.TheVariants as does
use Rattle.die_log.specs.Model.Flash.{Block, Cells, block_at, free_block, cells_after, cells_after_program_in, valid}

-- the part's cells; the block of the last program, no other than which is open; and how many pages are free, without
-- those of blocks in erase
pub record PartState : Type 0 where
  pub shape : Shape
  pub cells : Cells
  pub last : ℕ
  pub free : ℕ

abbrev pub closed_block : ℕ → Block
closed_block pages = record { filled = pages; erasing = 0; erases = 0 }

-- one block is wholly free, and each other one closed
abbrev pub closed_but : Shape → List (Option Place) → ℕ → PartState
closed_but shape places first = record {
  shape = shape;
  cells = record {
    blocks = slice_set (replicate shape.blocks (closed_block shape.pages)) first free_block;
    places = places;
  };
  last = first;
  free = shape.pages;
}

abbrev pub is_open_at : ℕ → Block → Bool
is_open_at pages s = nat_lt 0 s.filled && nat_lt s.filled pages

-- the next cell of the block of the last program, if that is open; else the first of the first wholly free block
abbrev pub next_cell_of : PartState → Option Place
next_cell_of s =
    if is_open_at s.shape.pages (block_at s.cells s.last)
    then Some (record { block = s.last; page = (block_at s.cells s.last).filled })
    else option_map (λ b. record { block = b; page = 0 }) (position (λ t. t.filled == 0) s.cells.blocks)

-- the page lies in that cell, the next one of its block
abbrev pub with_program : ℕ → Place → PartState → PartState
with_program page to s = record s {
  cells = cells_after_program_in page (Some to.block) s.cells;
  last = to.block;
  free = s.free - 1;
}

-- the last slot of its erase frees a block's pages
abbrev pub freed_by : DiePlan → Block → ℕ
freed_by plan s = if s.erasing + 1 == plan.shape.erase_slots then plan.shape.pages else 0

abbrev pub with_erase_slot : DiePlan → ℕ → PartState → PartState
with_erase_slot plan b s = record s {
  cells = cells_after plan (Some (0, does.Erase b)) s.cells;
  free = s.free + freed_by plan (block_at s.cells b);
}

-- a closed block, and no closed one has fewer pages
pub record IsFewest (pages : ℕ) (c : Cells) (b : ℕ) : Type 0 where
  pub stands : b < length c.blocks
  pub closed : (block_at c b).filled ≡ pages
  pub fewest : (other : ℕ) → other < length c.blocks → (block_at c other).filled ≡ pages → valid c b ≤ valid c other

-- the page lies in this cell of the block, and in no cell before it, from a cell on, one does
pub record IsFirstPage (c : Cells) (block from page : ℕ) (place : Place) : Type 0 where
  pub own : place.block ≡ block
  pub from_on : from ≤ place.page
  pub lies : place_of c.places page ≡ Some place
  pub first : (earlier : ℕ) → from ≤ earlier → earlier < place.page → owner_of c.places (record { block = block; page = earlier }) ≡ None
