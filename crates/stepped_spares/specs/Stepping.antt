-- A table of spare blocks that says which call of the part comes next.
use Rattle.std.specs.Prelude.{◌≡◌, ◌⊎◌, ℕ, ◌+◌, ◌-◌, ◌*◌, ◌<◌, ◌≤◌, Bool, true, false, length, Option, Some, None, if◌then◌else◌, nat_lt, ⊤}
use Rattle.slot_types.specs.declared.pages.Place.{Place}
use Rattle.spare_blocks.specs.declared.cells.BlockUse.{BlockUse}
use Rattle.spare_blocks.specs.declared.cells.BlockUse.TheVariants as use_as
use Rattle.spare_blocks.specs.Tables.{Table, IsSpare, use_of, on_part, spares_in, replaced, without_spare}
use Rattle.stepped_spares.specs.declared.moves.Move.{Move}
use Rattle.stepped_spares.specs.declared.moves.Move.TheVariants as moves
use Rattle.stepped_spares.specs.declared.moves.Outcome.{Outcome}
use Rattle.stepped_spares.specs.declared.moves.Outcome.TheVariants as outcome
use Rattle.stepped_spares.specs.declared.moves.Stage.{Stage}
use Rattle.stepped_spares.specs.declared.moves.Stage.TheVariants as stage

-- which block of the part has which number; how many pages a block has; how far the table is
pub record Stepping : Type 0 where
  pub table : Table
  pub pages : ℕ
  pub stage : Stage

abbrev pub cell_at : ℕ → ℕ → Place
cell_at block page = record { block = block; page = page }

-- of a block that failed the next cell is copied to the spare one, or the program that failed is made there
abbrev pub fill_move : (failed spare cells cell : ℕ) → Move
fill_move failed spare cells cell =
    if nat_lt cell cells then moves.Copy (cell_at failed cell) (cell_at spare cell) else moves.Program (cell_at spare cell)

abbrev pub move_at : Table → Stage → Option Move
move_at t (stage.Erasing block all) = Some (moves.Erase block)
move_at t stage.Working = None
move_at t (stage.Filling number spare cells cell) = Some (fill_move (on_part t number) spare cells cell)
move_at t stage.WornOut = None
move_at t stage.Faulted = None

abbrev pub next_move : Stepping → Option Move
next_move s = move_at s.table s.stage

-- whether a block is erased first: all that aren't bad, or the spare ones alone
abbrev pub must_erase : (all : Bool) → BlockUse → Bool
must_erase all (use_as.InPlan b) = all
must_erase all use_as.Spare = true
must_erase all use_as.Bad = false

-- the first block from this one on that is erased; or none is left
abbrev pub IsNextErase : (all : Bool) → Table → (from : ℕ) → Stage → Type 0
IsNextErase all t from (stage.Erasing x every) =
    (every ≡ all) × (from ≤ x) × (must_erase all (use_of t x) ≡ true) × ((y : ℕ) → from ≤ y → y < x → must_erase all (use_of t y) ≡ false)
IsNextErase all t from stage.Working = (y : ℕ) → from ≤ y → must_erase all (use_of t y) ≡ false
IsNextErase all t from (stage.Filling number spare cells cell) = ⊥
IsNextErase all t from stage.WornOut = ⊥
IsNextErase all t from stage.Faulted = ⊥

abbrev pub HasNoSpare : Table → Type 0
HasNoSpare t = (x : ℕ) → ¬ (IsSpare t x)

-- a spare block is to be filled for this number, from its first cell on; or none is left
abbrev pub IsNextFill : Table → (number cells : ℕ) → Stage → Type 0
IsNextFill t number cells (stage.Filling n spare c k) = (n ≡ number) × (c ≡ cells) × (k ≡ 0) × IsSpare t spare
IsNextFill t number cells stage.WornOut = HasNoSpare t
IsNextFill t number cells (stage.Erasing x all) = ⊥
IsNextFill t number cells stage.Working = ⊥
IsNextFill t number cells stage.Faulted = ⊥

-- the number of a block that failed goes to a spare one, and what comes then; or none is left, and the table stays
abbrev pub IsReplacedOr : (number : ℕ) → (goes : Table → Stage → Type 0) → (before after : Stepping) → Type 0
IsReplacedOr number goes before after =
    ((spare : ℕ) × IsSpare before.table spare × (after.table ≡ replaced number spare before.table) × goes after.table after.stage)
    ⊎ (HasNoSpare before.table × (after.table ≡ before.table) × (after.stage ≡ stage.WornOut))

-- The call that came next was carried out

-- a block that is for this was to be erased, and failed
abbrev pub IsLost : (all : Bool) → (x : ℕ) → BlockUse → (before after : Stepping) → Type 0
IsLost all x (use_as.InPlan number) before after = IsReplacedOr number (λ t s. IsNextErase all t (x + 1) s) before after
IsLost all x use_as.Spare before after = (after.table ≡ without_spare x before.table) × IsNextErase all after.table (x + 1) after.stage
IsLost all x use_as.Bad before after = ⊥

abbrev pub IsDone : Stage → (before after : Stepping) → Type 0
IsDone (stage.Erasing x all) before after = (after.table ≡ before.table) × IsNextErase all before.table (x + 1) after.stage
IsDone (stage.Filling number spare cells cell) before after =
    (cell < cells → (after.table ≡ before.table) × (after.stage ≡ stage.Filling number spare cells (cell + 1)))
    × (cells ≤ cell → (after.table ≡ replaced number spare before.table) × (after.stage ≡ stage.Working))
IsDone _ before after = ⊥

abbrev pub HasFailed : Stage → (before after : Stepping) → Type 0
HasFailed (stage.Erasing x all) before after = IsLost all x (use_of before.table x) before after
HasFailed (stage.Filling number spare cells cell) before after =
    (after.table ≡ without_spare spare before.table) × IsNextFill after.table number cells after.stage
HasFailed _ before after = ⊥

abbrev pub IsMovedBy : Outcome → (before after : Stepping) → Type 0
IsMovedBy outcome.Done before after = IsDone before.stage before after
IsMovedBy outcome.Failed before after = HasFailed before.stage before after
IsMovedBy outcome.Fault before after = (after.table ≡ before.table) × (after.stage ≡ stage.Faulted)

-- what a table is once a call was carried out so
pub record IsMoved (how : Outcome) (before after : Stepping) : Type 0 where
  pub pages : after.pages ≡ before.pages
  pub moved : IsMovedBy how before after

-- How many calls of the part may come yet: a copy counts for two, a whole erase for one.
abbrev pub calls_at : Table → Stage → ℕ
calls_at t (stage.Erasing x all) = length t.uses - x
calls_at t (stage.Filling number spare cells cell) = (2 * cells + 1) * spares_in t - 2 * cell
calls_at t stage.Working = 0
calls_at t stage.WornOut = 0
calls_at t stage.Faulted = 0

abbrev pub calls_left : Stepping → ℕ
calls_left s = calls_at s.table s.stage

-- the block that is erased next has to be, and the one that is filled is spare
abbrev pub IsSoundAt : Table → (pages : ℕ) → Stage → Type 0
IsSoundAt t pages (stage.Erasing x all) = must_erase all (use_of t x) ≡ true
IsSoundAt t pages (stage.Filling number spare cells cell) = (number < length t.blocks) × IsSpare t spare × (cell ≤ cells) × (cells < pages)
IsSoundAt t pages stage.Working = ⊤
IsSoundAt t pages stage.WornOut = ⊤
IsSoundAt t pages stage.Faulted = ⊤

abbrev pub IsSoundStepping : Stepping → Type 0
IsSoundStepping s = IsSoundAt s.table s.pages s.stage
