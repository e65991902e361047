-- What stands on a die that can be recovered, and what a mount makes of it before another log starts.
use Rattle.std.specs.Prelude.{◌≡◌, ◌≢◌, ◌⊎◌, ℕ, ◌++◌, ◌+◌, ◌-◌, ◌*◌, ◌/◌, ◌<◌, ◌≤◌, ◌==◌}
use Rattle.std.specs.Prelude.{if◌then◌else◌, not, List, [], ◌∷◌, Some, None, map, length, sum, sum_by, count_by}
use Rattle.std.specs.Prelude.{slice_index_or, slice_set}
use Rattle.std.specs.List.{range_with_len}
use Rattle.slot_types.specs.Places.{place_of}
use Rattle.slot_types.specs.declared.plans.DiePlan.{DiePlan}
use Rattle.slot_types.specs.declared.pages.PageData.{PageData}
use Rattle.slot_types.specs.declared.pages.Place.{Place}
use Rattle.slot_types.specs.declared.acts.Act.{Act}
use Rattle.slot_types.specs.declared.acts.Act.TheVariants as does
use Rattle.plan_rules.specs.Accounts.{Accounts, opening_accounts}
use Rattle.die_log.specs.Model.Flash.{Block, Cells, block_at, block_of_page, free_in, valid, cells_after}
use Rattle.die_log.specs.Model.Opening.{IsOpening}
use Rattle.die_log.specs.Model.Work.{is_copy_program, is_erase}
use Rattle.die_log.specs.Model.Start.{Start, blank_page}
use Rattle.die_log.specs.Invariants.SoundCells.{AreSoundCells, IsClosed}
use Rattle.power_loss.specs.Labels.{Label, Labels, Shown, label_at, labels_after, AreLabelled, CountFrom, FitPlan}
use Rattle.power_loss.specs.Labels.{HaveBytes, IsLabelled}
use Rattle.power_loss.specs.Mounted.{mounted_place, mounted_places, mounted_contents}
use Rattle.power_loss.specs.Seen.{MaySee, MaySeeAfter, MaySeeDuring}

-- cells that fit the plan, their labels, and the numbers from which these count; and a page that is placed nowhere is
-- blank
pub record IsRecoverable (plan : DiePlan) (c : Cells) (pages : List PageData) (l : Labels) (from : ℕ → ℕ) : Type 0 where
  pub sound : AreSoundCells plan c
  pub labelled : AreLabelled plan c l
  pub bytes : HaveBytes c l.blocks pages
  pub counts : CountFrom c l.blocks from
  pub below : (page : ℕ) → from page ≤ l.next
  pub contents : length pages ≡ plan.logical
  pub blank : (page : ℕ) → place_of c.places page ≡ None → slice_index_or pages page blank_page ≡ blank_page

-- By what a mount goes of what it sees

-- it finds no page in this block
abbrev pub FindsNoneIn : DiePlan → (ℕ → ℕ) → Shown → ℕ → Type 0
FindsNoneIn plan from seen b = (page : ℕ) → page < plan.logical → (q : Place) → mounted_place (from page) page seen ≡ Some q → q.block ≢ b

-- the block with the greatest number that is seen
pub record IsNewestBlock (seen : Shown) (b : ℕ) : Type 0 where
  pub place : Place
  pub label : Label
  pub own : place.block ≡ b
  pub stands : label_at seen place ≡ Some label
  pub newest : (other : Place) (x : Label) → label_at seen other ≡ Some x → other.block ≢ b → x.serial < label.serial

-- what is seen of the other blocks
abbrev pub without_block : ℕ → Shown → Shown
without_block b seen = slice_set seen b []

-- which block it erases first: any one in which it finds no page; else the block with the greatest number, which it
-- undoes
abbrev pub MayErase : DiePlan → (ℕ → ℕ) → Shown → ℕ → Type 0
MayErase plan from seen b =
    ((b < plan.shape.blocks) × FindsNoneIn plan from seen b)
    ⊎ (((a : ℕ) → a < plan.shape.blocks → FindsNoneIn plan from seen a → ⊥) × IsNewestBlock seen b)

-- this block may be undone: its labels are newer than any other's, and bear the bytes that their pages have; and each
-- page is found without it as with it
pub record CanUndo (plan : DiePlan) (pages : List PageData) (from : ℕ → ℕ) (seen : Shown) (b : ℕ) : Type 0 where
  pub stands : b < plan.shape.blocks
  pub newer : (q r : Place) (x y : Label) → label_at seen q ≡ Some x → label_at seen r ≡ Some y → q.block ≡ b → r.block ≢ b → y.serial < x.serial
  pub copies : (q : Place) (x : Label) → label_at seen q ≡ Some x → q.block ≡ b → x.bytes ≡ slice_index_or pages x.page blank_page
  pub others : mounted_contents from plan.logical (without_block b seen) ≡ pages

-- What is seen is a state from which a mount can go on, with these pages: labels that fit the plan, by which just these
-- pages are found; and a block in which no page is, or one that may be undone
pub record IsMountable (plan : DiePlan) (pages : List PageData) (from : ℕ → ℕ) (seen : Shown) : Type 0 where
  pub blocks : length seen ≡ plan.shape.blocks
  pub fit : FitPlan plan seen
  pub found : mounted_contents from plan.logical seen ≡ pages
  pub room : ((b : ℕ) × (b < plan.shape.blocks) × FindsNoneIn plan from seen b) ⊎ ((b : ℕ) × CanUndo plan pages from seen b)

-- Then it erases that block, and counts each other one as closed, whatever it looks like: one that was open, since its
-- next cell may be torn; and one in which it finds no page, since that may have been in erase. How often each was
-- erased it takes to be anything

abbrev pub remounted_block : DiePlan → (erased : ℕ) → (erases : ℕ → ℕ) → ℕ → Block
remounted_block plan erased erases b =
    if b == erased
    then record { filled = 0; erasing = 0; erases = erases b }
    else record { filled = plan.shape.pages; erasing = 0; erases = erases b }

-- each page is placed where the newest of its labels is that are left
abbrev pub remounted_cells : DiePlan → (from : ℕ → ℕ) → (erased : ℕ) → (erases : ℕ → ℕ) → Shown → Cells
remounted_cells plan from erased erases seen = record {
  blocks = map (remounted_block plan erased erases) (range_with_len 0 plan.shape.blocks);
  places = mounted_places from plan.logical (without_block erased seen);
}

-- the labels that are left of those seen, and the number that the mount takes as the next
abbrev pub remounted_labels : (erased : ℕ) → Shown → ℕ → Labels
remounted_labels erased seen next = record { blocks = without_block erased seen; next = next }

-- above all numbers that are seen, and not below those from which labels count
pub record IsAbove (seen : Shown) (from : ℕ → ℕ) (next : ℕ) : Type 0 where
  pub labels : (place : Place) (x : Label) → label_at seen place ≡ Some x → x.serial < next
  pub counts : (page : ℕ) → from page ≤ next

-- Then it may copy pages together: it programs a page that is placed, where a page is free, and does slots of the erase
-- of a closed block in which no page is placed

abbrev pub MayMount : DiePlan → Cells → Act → Type 0
MayMount plan c (does.CopyProgram page) = (0 < sum_by (free_in plan) c.blocks) × ((b : ℕ) × (block_of_page c page ≡ Some b))
MayMount plan c (does.Erase block) = IsClosed plan c block × (valid c block ≡ 0)
MayMount plan c _ = ⊥

-- the cells after these acts, the newest first
abbrev pub cells_of : DiePlan → List Act → Cells → Cells
cells_of plan [] c = c
cells_of plan (act ∷ earlier) c = cells_after plan (Some (0, act)) (cells_of plan earlier c)

abbrev pub labels_of : DiePlan → List PageData → List Act → Cells → Labels → Labels
labels_of plan pages [] c l = l
labels_of plan pages (act ∷ earlier) c l = labels_after plan (cells_of plan earlier c) pages (Some (0, act)) (labels_of plan pages earlier c l)

abbrev pub AreMountActs : DiePlan → Cells → List Act → Type 0
AreMountActs plan c [] = Unit {0}
AreMountActs plan c (act ∷ earlier) = AreMountActs plan c earlier × MayMount plan (cells_of plan earlier c) act

-- no erase is under way
abbrev pub AreIdle : Cells → Type 0
AreIdle c = (b : ℕ) → (block_at c b).erasing ≡ 0

-- Where the power goes after copies into a block that was wholly free, and none is any longer, a mount may go back to
-- where the block was: the pages lie where they came from, still

-- no block has pages and room
abbrev pub NoneOpen : DiePlan → Cells → Type 0
NoneOpen plan c = (b : ℕ) → (block_at c b).filled < plan.shape.pages → (block_at c b).filled ≡ 0

abbrev pub IsCopy : Act → Type 0
IsCopy (does.CopyProgram page) = Unit {0}
IsCopy _ = ⊥

abbrev pub AreCopies : List Act → Type 0
AreCopies [] = Unit {0}
AreCopies (act ∷ earlier) = AreCopies earlier × IsCopy act

-- a wholly free block, not in erase
pub record IsFreeBlock (c : Cells) (b : ℕ) : Type 0 where
  pub stands : b < length c.blocks
  pub unfilled : (block_at c b).filled ≡ 0
  pub idle : (block_at c b).erasing ≡ 0

-- a block in which no page is placed
pub record HasUnplaced (c : Cells) : Type 0 where
  pub b : ℕ
  pub stands : b < length c.blocks
  pub none : valid c b ≡ 0

-- the last of the acts are copies, and before them no block was open, none was in erase, and one held no placed page
pub record CanGoBack (plan : DiePlan) (c : Cells) (acts : List Act) : Type 0 where
  pub copies : List Act
  pub earlier : List Act
  pub is : acts ≡ copies ++ earlier
  pub are : AreCopies copies
  pub idle : AreIdle (cells_of plan earlier c)
  pub none_open : NoneOpen plan (cells_of plan earlier c)
  pub unplaced : HasUnplaced (cells_of plan earlier c)

-- where the power goes after these acts, a mount has a block to erase first, or may go back to where it had one
abbrev pub IsSafe : DiePlan → Cells → List Act → Type 0
IsSafe plan c acts = HasUnplaced (cells_of plan acts c) ⊎ CanGoBack plan c acts

-- and so it is at each moment of them
abbrev pub AreSafe : DiePlan → Cells → List Act → Type 0
AreSafe plan c [] = IsSafe plan c []
AreSafe plan c (act ∷ earlier) = AreSafe plan c earlier × IsSafe plan c (act ∷ earlier)

-- Where no erase is under way, a log may start, with accounts that share out the free pages

abbrev pub mounted_start : DiePlan → Cells → List PageData → Accounts → Start
mounted_start plan c pages accounts = record { plan = plan; contents = pages; cells = c; accounts = accounts }

-- each balance is its cap, each reserve is whole, and the rest of `free` free pages is spare
abbrev pub full_accounts : DiePlan → ℕ → Accounts
full_accounts plan free =
    record (opening_accounts plan) { spare = free - sum plan.caps - length plan.caps * (plan.shape.pages - plan.alpha) }

-- a closed block from which a mount may copy the pages: each that it so erases brings alpha free pages or more
pub record IsWorthIt (plan : DiePlan) (c : Cells) (b : ℕ) : Type 0 where
  pub stands : b < length c.blocks
  pub closed : IsClosed plan c b
  pub few : valid c b ≤ plan.shape.pages - plan.alpha

-- as many free pages as full accounts share out
abbrev pub enough_of : DiePlan → ℕ
enough_of plan = sum plan.caps + length plan.caps * (plan.shape.pages - plan.alpha)

-- how many blocks a mount has to empty at most, until enough pages are free: one is wholly free, and each gives alpha
abbrev pub most_rounds : DiePlan → ℕ
most_rounds plan = (enough_of plan - plan.shape.pages + plan.alpha - 1) / plan.alpha

-- how many acts it takes at most: for each of these blocks, copies of its pages less alpha, and the slots of its erase
abbrev pub most_acts : DiePlan → ℕ
most_acts plan = most_rounds plan * (plan.shape.pages - plan.alpha + plan.shape.erase_slots)

-- `rounds` rounds do for these acts, each with copies of a block's pages less alpha, and the slots of one erase
pub record FitRounds (plan : DiePlan) (rounds : ℕ) (acts : List Act) : Type 0 where
  pub copies : count_by is_copy_program acts ≤ rounds * (plan.shape.pages - plan.alpha)
  pub slots : count_by is_erase acts ≤ rounds * plan.shape.erase_slots

-- acts of a mount, not too many, after which no erase is under way, and as many pages are free as all caps and reserves
-- come to; and at each moment of them the power may go again
pub record CanEnd (plan : DiePlan) (c : Cells) : Type 0 where
  pub acts : List Act
  pub few : length acts ≤ most_acts plan
  pub rounds : FitRounds plan (most_rounds plan) acts
  pub may : AreMountActs plan c acts
  pub safe : AreSafe plan c acts
  pub idle : AreIdle (cells_of plan acts c)
  pub enough : enough_of plan ≤ sum_by (free_in plan) (cells_of plan acts c).blocks

-- a log may start after these acts, with full accounts
pub record StartsAfter (plan : DiePlan) (c : Cells) (pages : List PageData) (l : Labels) (acts : List Act) (start : Start) : Type 0 where
  pub is : start ≡ mounted_start plan (cells_of plan acts c) pages (full_accounts plan (sum_by (free_in plan) (cells_of plan acts c).blocks))
  pub opens : IsOpening start
  pub labelled : IsLabelled start (labels_of plan pages acts c l)

-- acts of a mount after which a log may start
pub record CanStart (plan : DiePlan) (c : Cells) (pages : List PageData) (l : Labels) : Type 0 where
  pub acts : List Act
  pub may : AreMountActs plan c acts
  pub safe : AreSafe plan c acts
  pub start : Start
  pub starts : StartsAfter plan c pages l acts start

-- Where the power goes during a mount

-- Looks don't change by themselves: what a mount saw, the next one sees again, except for what the first one did. Where
-- the power goes in the erase of its first block, that one isn't whole
abbrev pub MaySeeInErase : (erased : ℕ) → (before seen : Shown) → Type 0
MaySeeInErase erased before seen = MaySee (λ b. not (b == erased)) before seen

-- after acts of a mount, or during the next one
pub record MaySeeInActs (plan : DiePlan) (c : Cells) (pages : List PageData) (l : Labels) (seen : Shown) : Type 0 where
  pub acts : List Act
  pub may : AreMountActs plan c acts
  pub safe : IsSafe plan c acts
  pub sees : MaySeeAfter (cells_of plan acts c) (labels_of plan pages acts c l) seen
      ⊎ ((act : Act) × MayMount plan (cells_of plan acts c) act × IsSafe plan c (act ∷ acts)
      × MaySeeDuring plan (cells_of plan acts c) pages (labels_of plan pages acts c l) (Some (0, act)) seen)

-- what may be seen after a mount that went by what was seen before, and was cut
pub record MaySeeAgain (plan : DiePlan) (from : ℕ → ℕ) (before seen : Shown) : Type 0 where
  pub erased : ℕ
  pub rule : MayErase plan from before erased
  pub next : ℕ
  pub above : IsAbove before from next
  pub erases : ℕ → ℕ
  pub sees : MaySeeInErase erased before seen
      ⊎ MaySeeInActs plan (remounted_cells plan from erased erases before) (mounted_contents from plan.logical before)
      (remounted_labels erased before next) seen
