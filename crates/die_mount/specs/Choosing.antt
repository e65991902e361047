-- What a mount does next, once a block is erased or a page is copied.
use Rattle.std.specs.Prelude.{◌≡◌, ◌⊎◌, ℕ, ◌+◌, ◌<◌, ◌≤◌, Some}
use Rattle.slot_types.specs.Places.{place_of}
use Rattle.slot_types.specs.declared.pages.Place.{Place}
use Rattle.die_log.specs.Model.Flash.{Cells, block_at, valid}
use Rattle.die_mount.specs.declared.stage.Stage.{Stage}
use Rattle.die_mount.specs.declared.stage.Stage.TheVariants as stage
use Rattle.die_mount.specs.PartState.{PartState, IsFewest, IsFirstPage}

-- pages lie in cells of their blocks
abbrev pub LieWithin : ℕ → Cells → Type 0
LieWithin pages c = (page : ℕ) (q : Place) → place_of c.places page ≡ Some q → q.page < pages

-- no page lies in the block before this cell
abbrev pub LieFrom : Cells → (block from : ℕ) → Type 0
LieFrom c block from = (page : ℕ) (q : Place) → place_of c.places page ≡ Some q → q.block ≡ block → from ≤ q.page

-- the block's first page from this cell on is read, or if none is left, the block is erased
abbrev pub IsNextIn : Cells → (block from : ℕ) → Stage → Type 0
IsNextIn c block from (stage.First b slots) = ⊥
IsNextIn c block from (stage.Read page place) = IsFirstPage c block from page place
IsNextIn c block from (stage.Program page place to) = ⊥
IsNextIn c block from (stage.Erase b slots) = (b ≡ block) × (valid c block ≡ 0) × (slots ≡ 0)
IsNextIn c block from stage.Done = ⊥

-- a round begins with this block
pub record BeginsRound (p : PartState) (goal rounds : ℕ) (next : Stage) (left : ℕ) : Type 0 where
  pub short : p.free < goal
  pub block : ℕ
  pub fewest : IsFewest p.shape.pages p.cells block
  pub is : IsNextIn p.cells block 0 next
  pub one : left + 1 ≡ rounds

-- enough pages are free
pub record EndsRounds (p : PartState) (goal rounds : ℕ) (next : Stage) (left : ℕ) : Type 0 where
  pub enough : goal ≤ p.free
  pub is : next ≡ stage.Done
  pub same : left ≡ rounds

abbrev pub IsChosen : PartState → (goal rounds : ℕ) → Stage → (left : ℕ) → Type 0
IsChosen p goal rounds next left = EndsRounds p goal rounds next left ⊎ BeginsRound p goal rounds next left

-- a block is closed
pub record HasClosed (pages : ℕ) (p : PartState) : Type 0 where
  pub b : ℕ
  pub stands : b < p.shape.blocks
  pub closed : (block_at p.cells b).filled ≡ pages
