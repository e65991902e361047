-- The calls that a table asks for, carried out on a part.
use Rattle.std.specs.Prelude.{◌≡◌, ℕ, ◌+◌, ◌*◌, Bool, true, false, List, Option, Some, None, ⊤}
use Rattle.spare_blocks.specs.declared.cells.Cell.{Cell}
use Rattle.spare_blocks.specs.declared.cells.Ended.{Ended}
use Rattle.spare_blocks.specs.declared.cells.Ended.TheVariants as ended
use Rattle.spare_blocks.specs.Parts.{PartBlock, IsCell, IsFreeCell, part_block, cell_on, serial_after, blocks_after_program, blocks_after_erase}
use Rattle.spare_blocks.specs.Tables.{Table, replaced, spares_in}
use Rattle.spare_blocks.specs.Trying.{IsUsedUp, IsTriedOr}
use Rattle.stepped_spares.specs.declared.moves.Move.{Move}
use Rattle.stepped_spares.specs.declared.moves.Move.TheVariants as moves
use Rattle.stepped_spares.specs.declared.moves.Outcome.{Outcome}
use Rattle.stepped_spares.specs.declared.moves.Outcome.TheVariants as outcome
use Rattle.stepped_spares.specs.declared.moves.Stage.{Stage}
use Rattle.stepped_spares.specs.declared.moves.Stage.TheVariants as stage

-- whether a part may do the call
abbrev pub MayCarry : List PartBlock → (pages : ℕ) → Move → Type 0
MayCarry blocks pages (moves.Erase x) = (part_block blocks x).failed ≡ false
MayCarry blocks pages (moves.Copy from to) = IsCell blocks from × IsFreeCell blocks pages to
MayCarry blocks pages (moves.Program place) = IsFreeCell blocks pages place

-- its blocks once the call has ended; `cell` is what a program leaves
abbrev pub blocks_after_move : Move → Ended → (cell : Cell) → List PartBlock → List PartBlock
blocks_after_move (moves.Erase x) how cell blocks = blocks_after_erase how blocks x
blocks_after_move (moves.Copy from to) how cell blocks = blocks_after_program how blocks to.block (cell_on blocks from)
blocks_after_move (moves.Program place) how cell blocks = blocks_after_program how blocks place.block cell

-- the next serial then
abbrev pub serial_after_move : Move → Ended → Option ℕ → ℕ → ℕ
serial_after_move (moves.Erase x) how page serial = serial
serial_after_move (moves.Copy from to) how page serial = serial
serial_after_move (moves.Program place) how page serial = serial_after how page serial

-- a call of a whole erase may spend anything
abbrev pub IsShort : Move → Type 0
IsShort (moves.Erase x) = ⊥
IsShort (moves.Copy from to) = ⊤
IsShort (moves.Program place) = ⊤

-- what another one spends at most
abbrev pub cost_of : Move → ℕ
cost_of (moves.Erase x) = 0
cost_of (moves.Copy from to) = 2
cost_of (moves.Program place) = 1

abbrev pub IsCarriedBy : Ended → Move → (cell : Cell) → Option ℕ → (before after : List PartBlock) → (serial next : ℕ) → (faulted : Bool) → Type 0
IsCarriedBy how call cell page before after serial next faulted =
    (after ≡ blocks_after_move call how cell before) × (next ≡ serial_after_move call how page serial) × (faulted ≡ false)

-- what a call leaves that was carried out so
abbrev pub IsCarried : Outcome → Move → (cell : Cell) → Option ℕ → (before after : List PartBlock) → (serial next : ℕ) → (faulted : Bool) → Type 0
IsCarried outcome.Done call cell page before after serial next faulted = IsCarriedBy ended.Done call cell page before after serial next faulted
IsCarried outcome.Failed call cell page before after serial next faulted = IsCarriedBy ended.Failed call cell page before after serial next faulted
IsCarried outcome.Fault call cell page before after serial next faulted = faulted ≡ true

-- A program failed in a block, and all calls were carried out that the table asked for

-- a spare block was filled with these cells, and has the number
pub record IsFilledAnew (number : ℕ) (cells : List Cell) (before after : Table) (blocks_before blocks_after : List PartBlock) : Type 0 where
  pub spare : ℕ
  pub tried : Table
  pub used : IsUsedUp before tried
  pub taken : IsTriedOr (Some spare) cells before tried blocks_before blocks_after
  pub replaced_is : after ≡ replaced number spare tried

-- none was left: each number has the block that it had, with its cells
pub record IsFilledInVain (cells : List Cell) (before after : Table) (blocks_before blocks_after : List PartBlock) : Type 0 where
  pub used : IsUsedUp before after
  pub none : IsTriedOr None cells before after blocks_before blocks_after

abbrev pub HasFilled : Stage → (number : ℕ) → (cells : List Cell) → (before after : Table) → (blocks_before blocks_after : List PartBlock) → (faulted : Bool) → Type 0
HasFilled stage.Working number cells before after blocks_before blocks_after faulted =
    IsFilledAnew number cells before after blocks_before blocks_after × (faulted ≡ false)
HasFilled stage.WornOut number cells before after blocks_before blocks_after faulted =
    IsFilledInVain cells before after blocks_before blocks_after × (faulted ≡ false)
HasFilled stage.Faulted number cells before after blocks_before blocks_after faulted = IsUsedUp before after × (faulted ≡ true)
HasFilled (stage.Erasing x all) number cells before after blocks_before blocks_after faulted = ⊥
HasFilled (stage.Filling n spare c k) number cells before after blocks_before blocks_after faulted = ⊥

abbrev pub serial_at : Stage → Option ℕ → ℕ → ℕ
serial_at stage.Working page serial = serial_after ended.Done page serial
serial_at stage.WornOut page serial = serial
serial_at stage.Faulted page serial = serial
serial_at (stage.Erasing x all) page serial = serial
serial_at (stage.Filling n spare c k) page serial = serial

-- What was spent, with the most that the spare blocks can still cost: two for each cell before the one that failed, and one.
abbrev pub cost_by : (cells : ℕ) → Table → (spent : ℕ) → ℕ
cost_by cells t spent = spent + (2 * cells + 1) * spares_in t

-- what may be spent beyond that: on a block that is being filled, or was as the part had a fault
abbrev pub beyond : (cells : ℕ) → Stage → ℕ
beyond cells stage.Working = 0
beyond cells stage.WornOut = 0
beyond cells stage.Faulted = 2 * cells + 1
beyond cells (stage.Erasing x all) = 0
beyond cells (stage.Filling n spare c k) = 2 * k
