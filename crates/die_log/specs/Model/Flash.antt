-- What the acts of a die did: the contents of its pages, and its cells.
use Rattle.std.specs.Prelude.{ℕ, ◌+◌, ◌-◌, ◌&&◌, ◌==◌, nat_lt, Bool, if◌then◌else◌, List, [], ◌∷◌, Option, Some, None}
use Rattle.std.specs.Prelude.{slice_index_or, slice_set, position, count_by, sum_by, option_map}
use Rattle.std.specs.List.{filter_map, range_with_len}
use Rattle.std.specs.Option.{option_or}
use Rattle.slot_types.specs.declared.plans.DiePlan.{DiePlan}
use Rattle.slot_types.specs.declared.pages.PageData.{PageData}
use Rattle.slot_types.specs.Places.{is_in, place_of, owner_of}
use Rattle.slot_types.specs.declared.acts.Act.TheVariants as does
use Rattle.slot_types.specs.declared.replies.Reply.{Reply}
use Rattle.slot_types.specs.declared.replies.Reply.TheVariants as replies
use Rattle.die_log.specs.Model.Log.{Log, Carried}
pub use Rattle.die_log.specs.Model.Start.{Start, Block, Cells, blank_page, free_block, fresh_cells}

-- what a slot of this reply carried
abbrev pub ran_by : Reply → Carried
ran_by (replies.Slot s) = s.ran
ran_by _ = None

-- Contents

abbrev pub contents_after : Carried → List PageData → List PageData
contents_after None pages = pages
contents_after (Some (n, does.Write page bytes)) pages = slice_set pages page bytes
contents_after (Some (n, does.Trim page)) pages = slice_set pages page blank_page
contents_after (Some (n, _)) pages = pages

-- the array of logical pages: what was written last stands, and a trimmed page is blank
abbrev pub contents : Start → Log → List PageData
contents start [] = start.contents
contents start (e ∷ past) = contents_after (ran_by e.reply) (contents start past)

abbrev pub content : Start → Log → ℕ → PageData
content start log page = slice_index_or (contents start log) page blank_page

-- Cells

abbrev pub block_at : Cells → ℕ → Block
block_at c b = slice_index_or c.blocks b free_block

-- all its pages are programmed; it stays closed until the last slot of its erase
abbrev pub is_closed : DiePlan → Block → Bool
is_closed plan s = s.filled == plan.shape.pages

-- some of its pages are programmed, and some aren't
abbrev pub is_open : DiePlan → Block → Bool
is_open plan s = nat_lt 0 s.filled && nat_lt s.filled plan.shape.pages

-- the block of the next program: the open one, or else the first that is wholly free
abbrev pub open_block : DiePlan → Cells → Option ℕ
open_block plan c = option_or (position (is_open plan) c.blocks) (position (λ s. s.filled == 0) c.blocks)

-- the next cell of the block holds the page
abbrev pub cells_after_program_in : ℕ → Option ℕ → Cells → Cells
cells_after_program_in page None c = c
cells_after_program_in page (Some b) c = let s = block_at c b in record {
  blocks = slice_set c.blocks b (record s { filled = s.filled + 1 });
  places = slice_set c.places page (Some (record { block = b; page = s.filled }));
}

abbrev pub cells_after_program : DiePlan → ℕ → Cells → Cells
cells_after_program plan page c = cells_after_program_in page (open_block plan c) c

-- a block after one more slot of its erase, of which the last frees it
abbrev pub block_after_erase_slot : DiePlan → Block → Block
block_after_erase_slot plan s =
    if s.erasing + 1 == plan.shape.erase_slots
    then record { filled = 0; erasing = 0; erases = s.erases + 1 }
    else record s { erasing = s.erasing + 1 }

abbrev pub cells_after : DiePlan → Carried → Cells → Cells
cells_after plan None c = c
cells_after plan (Some (n, does.Read page bytes)) c = c
cells_after plan (Some (n, does.Write page bytes)) c = cells_after_program plan page c
cells_after plan (Some (n, does.Trim page)) c = record c { places = slice_set c.places page None }
cells_after plan (Some (n, does.CopyRead page)) c = c
cells_after plan (Some (n, does.CopyProgram page)) c = cells_after_program plan page c
cells_after plan (Some (n, does.Erase block)) c = record c { blocks = slice_set c.blocks block (block_after_erase_slot plan (block_at c block)) }

abbrev pub cells : Start → Log → Cells
cells start [] = start.cells
cells start (e ∷ past) = cells_after start.plan (ran_by e.reply) (cells start past)

-- Places

-- the block in which a page is placed
abbrev pub block_of_page : Cells → ℕ → Option ℕ
block_of_page c page = option_map (λ place. place.block) (place_of c.places page)

-- how many pages are placed in a block
abbrev pub valid : Cells → ℕ → ℕ
valid c b = count_by (is_in b) c.places

-- the pages that are placed in a block, in the order of its cells
abbrev pub valid_pages : DiePlan → Cells → ℕ → List ℕ
valid_pages plan c b = filter_map (λ cell. owner_of c.places (record { block = b; page = cell })) (range_with_len 0 plan.shape.pages)

-- Free cells, those of blocks in erase not counted

abbrev pub free_in : DiePlan → Block → ℕ
free_in plan s = if s.erasing == 0 then plan.shape.pages - s.filled else 0

abbrev pub free : Start → Log → ℕ
free start log = sum_by (free_in start.plan) (cells start log).blocks
