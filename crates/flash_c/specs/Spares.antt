-- A table of spare blocks as C has it: what it needs next, and what is reported to it.
use Rattle.std.specs.Prelude.{◌≡◌, ℕ, ◌+◌, ◌<◌, ◌≤◌, List, length, Option, Some, None, ◌==◌, if◌then◌else◌, nat_lt, map, ⊤}
use Rattle.slot_types.specs.declared.plans.Shape.{Shape}
use Rattle.spare_blocks.specs.declared.cells.BlockUse.{BlockUse}
use Rattle.spare_blocks.specs.declared.cells.BlockUse.TheVariants as use_as
use Rattle.spare_blocks.specs.declared.cells.Mark.{Mark}
use Rattle.spare_blocks.specs.Parts.{PartBlock, part_block}
use Rattle.spare_blocks.specs.Tables.{use_of, spares_in}
use Rattle.stepped_spares.specs.declared.moves.Move.{Move}
use Rattle.stepped_spares.specs.declared.moves.Move.TheVariants as moves
use Rattle.stepped_spares.specs.declared.moves.Outcome.{Outcome}
use Rattle.stepped_spares.specs.declared.moves.Outcome.TheVariants as outcome
use Rattle.stepped_spares.specs.declared.moves.Stage.{Stage}
use Rattle.stepped_spares.specs.declared.moves.Stage.TheVariants as stage
use Rattle.stepped_spares.specs.Beginning.{IsBegun}
use Rattle.stepped_spares.specs.Stepping.{Stepping, IsMoved, IsNextFill, IsReplacedOr, calls_left, next_move}
use Rattle.stepped_spares.specs.Telling.{Told, Tells, IsScanOf, IsPoweredUp}
use Rattle.flash_c.specs.declared.spare_tables.Spares.{Spares}
use Rattle.flash_c.specs.declared.spare_tables.Spares.TheVariants as spares
use Rattle.flash_c.specs.declared.shapes.FlashLabel.{FlashLabel}
use Rattle.flash_c.specs.declared.shapes.FlashMove.{FlashMove}
use Rattle.flash_c.specs.declared.shapes.FlashPlan.{FlashPlan}

-- the blocks of a plan, and the one that stands aside for a mount
abbrev pub shape_beside : FlashPlan → Shape
shape_beside plan = record { blocks = plan.blocks + 1; pages = plan.pages; erase_slots = plan.erase_slots }

-- the label that a struct stands for: none where the page is this number
abbrev pub mark_in : FlashLabel → Option Mark
mark_in label = if label.page == 4294967295 then None else Some (record { page = label.page; serial = label.serial })

-- What it needs next

abbrev pub move_as : Option Move → FlashMove
move_as None = record { kind = 0; block = 0; page = 0; from = 0 }
move_as (Some (moves.Erase block)) = record { kind = 2; block = block; page = 0; from = 0 }
move_as (Some (moves.Copy from to)) = record { kind = 3; block = to.block; page = to.page; from = from.block }
move_as (Some (moves.Program place)) = record { kind = 4; block = place.block; page = place.page; from = 0 }

abbrev pub move_of : Spares → FlashMove
move_of (spares.Scan told) = record { kind = 1; block = length told.all; page = 0; from = 0 }
move_of (spares.Table s) = move_as (next_move s)
move_of spares.Over = move_as None

-- the number of why no call helps: a block failed and no spare one is left, or the part had a fault
abbrev pub stage_code : Stage → ℕ
stage_code stage.WornOut = 501
stage_code stage.Faulted = 15
stage_code stage.Working = 0
stage_code (stage.Erasing x all) = 0
stage_code (stage.Filling number spare cells cell) = 0

abbrev pub stop_code : Spares → ℕ
stop_code (spares.Scan told) = 0
stop_code (spares.Table s) = stage_code s.stage
stop_code spares.Over = 112

-- What is reported to it

abbrev pub outcome_of : ℕ → Option Outcome
outcome_of how =
    if how == 0 then Some outcome.Done else if how == 1 then Some outcome.Failed else if how == 2 then Some outcome.Fault else None

abbrev pub IsMovedIn : Option Outcome → Spares → Spares → Type 0
IsMovedIn (Some how) (spares.Table before) (spares.Table after) = IsMoved how before after × (calls_left after < calls_left before)
IsMovedIn _ before after = ⊥

-- its next call was carried out so, and fewer calls come
abbrev pub IsMovedAs : ℕ → Spares → Spares → Type 0
IsMovedAs how before after = IsMovedIn (outcome_of how) before after

-- what was reported is this; of all blocks it makes a table
abbrev pub IsNow : Told → Spares → Type 0
IsNow told (spares.Scan s) = (s ≡ told) × ¬ (length told.all ≡ told.blocks)
IsNow told (spares.Table s) = IsPoweredUp told s × (length told.all ≡ told.blocks)
IsNow told spares.Over = ⊥

-- the next block was reported, with these labels
pub record HasToldOne (labels : List (Option Mark)) (before : Told) (after : Spares) : Type 0 where
  pub told : Told
  pub rest : told ≡ record before { all = told.all }
  pub one : length told.all ≡ length before.all + 1
  pub shows : (blocks : List PartBlock) → IsScanOf blocks before → Tells labels (part_block blocks (length before.all)) → IsScanOf blocks told
  pub now : IsNow told after

abbrev pub HasToldBlock : List (Option Mark) → Spares → Spares → Type 0
HasToldBlock labels (spares.Scan before) after = HasToldOne labels before after
HasToldBlock labels _ after = ⊥

-- A call of the driver's that failed

-- no call has to come, and there is this number and this page
abbrev pub MayFail : (number page : ℕ) → Spares → Type 0
MayFail number page (spares.Table s) = (s.stage ≡ stage.Working) × (number < length s.table.blocks) × (page < s.pages)
MayFail number page (spares.Scan told) = ⊥
MayFail number page spares.Over = ⊥

-- a spare block is filled next, and 0 is answered; or none is left, and its number is
abbrev pub IsFailedProgram : (number page : ℕ) → Spares → Spares → (code : ℕ) → Type 0
IsFailedProgram number page (spares.Table before) (spares.Table after) code =
    (after.table ≡ before.table) × (after.pages ≡ before.pages) × IsNextFill before.table number page after.stage × (code ≡ stage_code after.stage)
IsFailedProgram number page _ _ code = ⊥

-- a spare block has the number, and 0 is answered; or none is left, and its number is
abbrev pub IsFailedErase : (number : ℕ) → Spares → Spares → (code : ℕ) → Type 0
IsFailedErase number (spares.Table before) (spares.Table after) code =
    IsReplacedOr number (λ t s. s ≡ stage.Working) before after × (after.pages ≡ before.pages) × (code ≡ stage_code after.stage)
IsFailedErase number _ _ code = ⊥

-- What it is asked

-- it has a table, and that is so
abbrev pub IfTable : (Stepping → Type 0) → Spares → Type 0
IfTable P (spares.Table s) = P s
IfTable P (spares.Scan told) = ⊥
IfTable P spares.Over = ⊥

abbrev pub left_of : Spares → ℕ
left_of (spares.Table s) = spares_in s.table
left_of (spares.Scan told) = 0
left_of spares.Over = 0

-- what a block is for: 0 bad, 1 spare, 2 with a number
abbrev pub use_code : BlockUse → ℕ
use_code use_as.Bad = 0
use_code use_as.Spare = 1
use_code (use_as.InPlan number) = 2

abbrev pub use_number : BlockUse → ℕ
use_number use_as.Bad = 0
use_number use_as.Spare = 0
use_number (use_as.InPlan number) = number
