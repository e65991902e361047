-- What stands of the cells of a die and of its collections, kept by each act.
use Rattle.std.specs.Prelude.{◌≡◌, ◌≢◌, ◌⊎◌, ℕ, ◌+◌, ◌<◌, ◌≤◌, Bool, true, false, List, length, Some, None, count_by, sum_by, Contains}
use Rattle.std.specs.List.{last_or}
use Rattle.slot_types.specs.Places.{place_of}
use Rattle.slot_types.specs.declared.plans.DiePlan.{DiePlan}
use Rattle.slot_types.specs.declared.pages.Place.{Place}
use Rattle.slot_types.specs.declared.acts.Act.{Act}
use Rattle.slot_types.specs.declared.acts.Act.TheVariants as does
use Rattle.die_log.specs.Model.Flash.{Cells, block_at, block_of_page, free_in, valid}
use Rattle.die_log.specs.Model.Work.{is_erase}

-- some of its pages are programmed, and some aren't
abbrev pub IsOpen : DiePlan → Cells → ℕ → Type 0
IsOpen plan c b = (0 < (block_at c b).filled) × ((block_at c b).filled < plan.shape.pages)

abbrev pub IsClosed : DiePlan → Cells → ℕ → Type 0
IsClosed plan c b = (block_at c b).filled ≡ plan.shape.pages

-- no page is placed in it
abbrev pub IsUnplaced : Cells → ℕ → Type 0
IsUnplaced c b = (page : ℕ) → block_of_page c page ≡ Some b → ⊥

-- cells fit the plan; a page is placed at a filled cell, no two at one; at most one block is open; and a
-- block in erase is closed, with no page placed in it
pub record AreSoundCells (plan : DiePlan) (c : Cells) : Type 0 where
  pub blocks : length c.blocks ≡ plan.shape.blocks
  pub places : length c.places ≡ plan.logical
  pub within : (b : ℕ) → (block_at c b).filled ≤ plan.shape.pages
  pub placed : (page : ℕ) (q : Place) → place_of c.places page ≡ Some q → q.page < (block_at c q.block).filled
  pub apart : (page other : ℕ) (q r : Place) → place_of c.places page ≡ Some q → place_of c.places other ≡ Some r → q.block ≡ r.block
      → q.page ≡ r.page → page ≡ other
  pub one_open : (a b : ℕ) → IsOpen plan c a → IsOpen plan c b → a ≡ b
  pub erasing : (b : ℕ) → 0 < (block_at c b).erasing → ((block_at c b).erasing < plan.shape.erase_slots) × IsClosed plan c b
      × IsUnplaced c b

-- a block with room, and the one that is open if any is
pub record TakesNext (plan : DiePlan) (c : Cells) (b : ℕ) : Type 0 where
  pub stands : b < length c.blocks
  pub room : (block_at c b).filled < plan.shape.pages
  pub alone : (a : ℕ) → IsOpen plan c a → a ≡ b

-- the next cell of block b holds the page
pub record IsProgram (plan : DiePlan) (page b : ℕ) (c d : Cells) : Type 0 where
  pub blocks : length d.blocks ≡ length c.blocks
  pub places : length d.places ≡ length c.places
  pub room : (block_at c b).filled < plan.shape.pages
  pub alone : (a : ℕ) → IsOpen plan c a → a ≡ b
  pub filled : (block_at d b).filled ≡ (block_at c b).filled + 1
  pub erasing : (block_at d b).erasing ≡ (block_at c b).erasing
  pub others : (a : ℕ) → a ≢ b → block_at d a ≡ block_at c a
  pub moved : (p : ℕ) (q : Place) → place_of d.places p ≡ Some q → ((p ≡ page) × (q.block ≡ b) × (q.page ≡ (block_at c b).filled))
      ⊎ ((p ≢ page) × (place_of c.places p ≡ Some q))

-- one slot of the erase of block b
pub record IsEraseSlot (plan : DiePlan) (b : ℕ) (c d : Cells) : Type 0 where
  pub blocks : length d.blocks ≡ length c.blocks
  pub places : d.places ≡ c.places
  pub others : (a : ℕ) → a ≢ b → block_at d a ≡ block_at c a
  pub slot : (((block_at c b).erasing + 1 ≡ plan.shape.erase_slots) × ((block_at d b).filled ≡ 0) × ((block_at d b).erasing ≡ 0))
      ⊎ (((block_at c b).erasing + 1 ≢ plan.shape.erase_slots) × ((block_at d b).filled ≡ (block_at c b).filled)
      × ((block_at d b).erasing ≡ (block_at c b).erasing + 1))

-- the page has no cell any longer
pub record IsTrim (page : ℕ) (c d : Cells) : Type 0 where
  pub blocks : d.blocks ≡ c.blocks
  pub places : length d.places ≡ length c.places
  pub gone : place_of d.places page ≡ None
  pub others : (p : ℕ) (q : Place) → place_of d.places p ≡ Some q → place_of c.places p ≡ Some q

-- what an act did to the cells
abbrev pub IsCellStep : DiePlan → Act → Cells → Cells → Type 0
IsCellStep plan (does.Read page bytes) c d = d ≡ c
IsCellStep plan (does.Write page bytes) c d = (b : ℕ) × IsProgram plan page b c d
IsCellStep plan (does.Trim page) c d = IsTrim page c d
IsCellStep plan (does.CopyRead page) c d = d ≡ c
IsCellStep plan (does.CopyProgram page) c d = (b : ℕ) × IsProgram plan page b c d
IsCellStep plan (does.Erase b) c d = IsEraseSlot plan b c d

-- a page is free for the act, if it programs one
abbrev pub HasFreePage : DiePlan → Cells → Act → Type 0
HasFreePage plan c (does.Write page bytes) = 0 < sum_by (free_in plan) c.blocks
HasFreePage plan c (does.CopyProgram page) = 0 < sum_by (free_in plan) c.blocks
HasFreePage plan c _ = Unit {0}

-- a running collection of block b with these acts, where `fresh page` says that a job wrote or trimmed the page since
-- its last act
pub record IsCollecting (plan : DiePlan) (c : Cells) (own : List Act) (fresh : ℕ → Bool) (b : ℕ) : Type 0 where
  pub closed : IsClosed plan c b
  pub erases : (block_at c b).erasing ≡ count_by is_erase own
  pub of_own : (a : ℕ) → Contains own (does.Erase a) → a ≡ b
  pub read : (page : ℕ) → Contains own (does.CopyRead page) → block_of_page c page ≡ Some b → last_or None own ≡ Some (does.CopyRead page)
  pub unchanged : (page : ℕ) → last_or None own ≡ Some (does.CopyRead page) → fresh page ≡ true → block_of_page c page ≡ Some b → ⊥

-- a page that is placed in the block is read; no page that was read is there any longer, and no erase has begun
pub record MayRead (c : Cells) (own : List Act) (b page : ℕ) : Type 0 where
  pub placed : block_of_page c page ≡ Some b
  pub none_left : (p : ℕ) → Contains own (does.CopyRead p) → block_of_page c p ≡ Some b → ⊥
  pub unerased : count_by is_erase own ≡ 0

-- the page that was just read is still there, and no job wrote or trimmed it in between
pub record MayProgram (c : Cells) (own : List Act) (fresh : ℕ → Bool) (b page : ℕ) : Type 0 where
  pub follows : last_or None own ≡ Some (does.CopyRead page)
  pub placed : block_of_page c page ≡ Some b
  pub unchanged : fresh page ≡ false

-- the block is its own, closed, with no page placed in it, and an erase slot is left
pub record MayEraseSlot (plan : DiePlan) (c : Cells) (own : List Act) (b block : ℕ) : Type 0 where
  pub same : block ≡ b
  pub left : count_by is_erase own < plan.shape.erase_slots
  pub closed : IsClosed plan c b
  pub valid_none : valid c b ≡ 0
  pub unplaced : IsUnplaced c b

-- what a collection of block b with these acts may do next
abbrev pub MayDo : DiePlan → Cells → List Act → (ℕ → Bool) → ℕ → Act → Type 0
MayDo plan c own fresh b (does.CopyRead page) = MayRead c own b page
MayDo plan c own fresh b (does.CopyProgram page) = MayProgram c own fresh b page
MayDo plan c own fresh b (does.Erase block) = MayEraseSlot plan c own b block
MayDo plan c own fresh b _ = ⊥
