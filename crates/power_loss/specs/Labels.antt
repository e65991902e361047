-- The labels of a die's cells: each program leaves, with the bytes, its logical page and its own number.
use Rattle.std.specs.Prelude.{◌≡◌, ◌≢◌, ℕ, ◌+◌, ◌<◌, ◌≤◌, ◌==◌, if◌then◌else◌, List, [], ◌∷◌, ◌++◌}
use Rattle.std.specs.Prelude.{Option, Some, None, length, replicate, is_some}
use Rattle.std.specs.Prelude.{slice_index_or, slice_set}
use Rattle.slot_types.specs.Places.{place_of}
use Rattle.slot_types.specs.declared.plans.DiePlan.{DiePlan}
use Rattle.slot_types.specs.declared.pages.PageData.{PageData}
use Rattle.slot_types.specs.declared.pages.Place.{Place}
use Rattle.slot_types.specs.declared.acts.Act.{Act}
use Rattle.slot_types.specs.declared.acts.Act.TheVariants as does
use Rattle.slot_types.specs.declared.replies.Entry.{Entry}
use Rattle.die_log.specs.Model.Log.{Log, Carried}
use Rattle.die_log.specs.Model.Flash.{Block, Cells, block_at, open_block, cells, contents, content, ran_by}
use Rattle.die_log.specs.Results.Promises.{HasEntry}
use Rattle.die_log.specs.Model.Start.{Start, blank_page}

-- what a program leaves in its cell: the logical page, the number of the program, and the page's bytes
pub record Label : Type 0 where
  pub page : ℕ
  pub serial : ℕ
  pub bytes : PageData

-- by block and by cell, from the first one on, the label there: none where nothing was programmed, or where a program
-- was cut, or an erase. A cell past the end of its block's list has none. A mount sees the cells of a part in this form
abbrev pub Shown : Type 0
Shown = List (List (Option Label))

-- the labels of a die, and the number of the next program
pub record Labels : Type 0 where
  pub blocks : Shown
  pub next : ℕ

abbrev pub labels_in : Shown → ℕ → List (Option Label)
labels_in blocks b = slice_index_or blocks b []

abbrev pub label_at : Shown → Place → Option Label
label_at blocks place = slice_index_or (labels_in blocks place.block) place.page None

-- a die on which nothing was written
abbrev pub fresh_labels : DiePlan → Labels
fresh_labels plan = record { blocks = replicate plan.shape.blocks []; next = 0 }

-- Along a log

-- the next cell of the block bears the page and the next number
abbrev pub labels_after_program : ℕ → PageData → Option ℕ → Labels → Labels
labels_after_program page bytes None l = l
labels_after_program page bytes (Some b) l = record {
  blocks = slice_set l.blocks b (labels_in l.blocks b ++ Some (record { page = page; serial = l.next; bytes = bytes }) ∷ []);
  next = l.next + 1;
}

-- the last slot of its erase takes a block's labels away
abbrev pub labels_after_erase_slot : DiePlan → Block → ℕ → Labels → Labels
labels_after_erase_slot plan s b l =
    if s.erasing + 1 == plan.shape.erase_slots then record l { blocks = slice_set l.blocks b [] } else l

-- where cells and contents were these; a copy has its page's bytes
abbrev pub labels_after : DiePlan → Cells → List PageData → Carried → Labels → Labels
labels_after plan c pages None l = l
labels_after plan c pages (Some (n, does.Write page bytes)) l = labels_after_program page bytes (open_block plan c) l
labels_after plan c pages (Some (n, does.CopyProgram page)) l =
    labels_after_program page (slice_index_or pages page blank_page) (open_block plan c) l
labels_after plan c pages (Some (n, does.Erase block)) l = labels_after_erase_slot plan (block_at c block) block l
labels_after plan c pages (Some (n, _)) l = l

-- the labels after a log that began with these
abbrev pub labels : Start → Labels → Log → Labels
labels start first [] = first
labels start first (e ∷ past) =
    labels_after start.plan (cells start past) (contents start past) (ran_by e.reply) (labels start first past)

-- The numbers from which they count

-- a trim ends what was programmed before it
abbrev pub counts_after : ℕ → ℕ → Carried → ℕ → ℕ
counts_after page next None before = before
counts_after page next (Some (n, does.Trim p)) before = if p == page then next else before
counts_after page next (Some (n, _)) before = before

-- a label of the page counts if its number is this or above: the one that was next when the page was last trimmed; or
-- where it wasn't, the one that was next when the log began, if it had no place then, and else 0
abbrev pub counts_from : Start → Labels → Log → ℕ → ℕ
counts_from start first [] page = if is_some (place_of start.cells.places page) then 0 else first.next
counts_from start first (e ∷ past) page =
    counts_after page (labels start first past).next (ran_by e.reply) (counts_from start first past page)

-- What programmed them

-- the page that an act programs, if it does one
abbrev pub Programs : Act → ℕ → Type 0
Programs (does.Write p bytes) page = p ≡ page
Programs (does.CopyProgram p) page = p ≡ page
Programs _ page = ⊥

-- a slot of the log programmed its page, as the program of its number, and its bytes are what the page's content was
-- then
pub record WasProgrammed (start : Start) (first : Labels) (log : Log) (x : Label) : Type 0 where
  pub e : Entry
  pub past : Log
  pub has : HasEntry log e past
  pub number : ℕ
  pub act : Act
  pub ran : ran_by e.reply ≡ Some (number, act)
  pub programs : Programs act x.page
  pub serial : x.serial ≡ (labels start first past).next
  pub bytes : x.bytes ≡ content start (e ∷ past) x.page

-- What stands of them

-- the cell bears the newest label of the page: any other label of the page has a smaller number
pub record IsNewest (blocks : Shown) (page : ℕ) (place : Place) : Type 0 where
  pub label : Label
  pub stands : label_at blocks place ≡ Some label
  pub own : label.page ≡ page
  pub newest : (other : Place) (x : Label) → label_at blocks other ≡ Some x → x.page ≡ page → other ≢ place → x.serial < label.serial

-- labels as programs on a die of this plan leave them: each is in a cell of its block, and of one of the die's pages,
-- and no two have the same number
pub record FitPlan (plan : DiePlan) (blocks : Shown) : Type 0 where
  pub cells : (place : Place) (x : Label) → label_at blocks place ≡ Some x → place.page < plan.shape.pages
  pub pages : (place : Place) (x : Label) → label_at blocks place ≡ Some x → x.page < plan.logical
  pub apart : (q r : Place) (x y : Label) → label_at blocks q ≡ Some x → label_at blocks r ≡ Some y → x.serial ≡ y.serial → q ≡ r

-- they fit the plan; in a block with room they are known of each programmed cell and of no other (one that a mount has
-- closed has cells without a label); each number is below the next; and where a page is placed, its newest label is
pub record AreLabelled (plan : DiePlan) (c : Cells) (l : Labels) : Type 0 where
  pub fit : FitPlan plan l.blocks
  pub blocks : length l.blocks ≡ length c.blocks
  pub filled : (b : ℕ) → (block_at c b).filled < plan.shape.pages → length (labels_in l.blocks b) ≡ (block_at c b).filled
  pub below : (place : Place) (x : Label) → label_at l.blocks place ≡ Some x → x.serial < l.next
  pub newest : (page : ℕ) (place : Place) → place_of c.places page ≡ Some place → IsNewest l.blocks page place

-- the cell in which a page is placed has its bytes
abbrev pub HaveBytes : Cells → Shown → List PageData → Type 0
HaveBytes c blocks pages = (page : ℕ) (place : Place) (x : Label) → place_of c.places page ≡ Some place → label_at blocks place ≡ Some x
    → x.bytes ≡ slice_index_or pages page blank_page

-- where the page is placed its label counts, and else none of its labels does
pub record CountFrom (c : Cells) (blocks : Shown) (from : ℕ → ℕ) : Type 0 where
  pub placed : (page : ℕ) (place : Place) (x : Label) → place_of c.places page ≡ Some place → label_at blocks place ≡ Some x → from page ≤ x.serial
  pub unplaced : (page : ℕ) → place_of c.places page ≡ None → (place : Place) (x : Label) → label_at blocks place ≡ Some x → x.page ≡ page
      → x.serial < from page

-- from these numbers on a mount may count labels: those of placed pages count; and so will those that are programmed
-- next. It may know of fewer trims than there were, as of none
pub record MayCountFrom (c : Cells) (l : Labels) (from : ℕ → ℕ) : Type 0 where
  pub placed : (page : ℕ) (place : Place) (x : Label) → place_of c.places page ≡ Some place → label_at l.blocks place ≡ Some x → from page ≤ x.serial
  pub below : (page : ℕ) → from page ≤ l.next

-- a start whose cells bear these labels
pub record IsLabelled (start : Start) (first : Labels) : Type 0 where
  pub labelled : AreLabelled start.plan start.cells first
  pub bytes : HaveBytes start.cells first.blocks start.contents
