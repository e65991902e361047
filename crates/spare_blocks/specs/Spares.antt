-- A device on the blocks of a part that have a number in the plan, while others stand by for those that fail.
use Rattle.std.specs.Prelude.{◌≡◌, ℕ, ◌+◌, ◌*◌, ◌<◌, ◌≤◌, ◌==◌, ◌↔◌, if◌then◌else◌, Bool, true, false, List, [], ◌∷◌, ◌++◌, length, map, slice_index}
use Rattle.std.specs.Prelude.{⊤, Contains}
use Rattle.std.specs.List.{range_with_len}
use Rattle.slot_types.specs.declared.plans.Shape.{Shape}
use Rattle.slot_types.specs.Shapes.{IsShape}
use Rattle.flash_die.specs.Flash.{Block, IsFresh}
use Rattle.flash_die.specs.declared.nand.NandCall.{NandCall}
use Rattle.flash_die.specs.declared.nand.NandCall.TheVariants as calls
use Rattle.spare_blocks.specs.declared.blocks.Health.{Health}
use Rattle.spare_blocks.specs.declared.blocks.Health.TheVariants as health
use Rattle.spare_blocks.specs.declared.cells.BlockUse.TheVariants as use_as
use Rattle.spare_blocks.specs.declared.cells.Ended.TheVariants as ended
use Rattle.spare_blocks.specs.Parts.{PartBlock, part_block, free_part_block, programmed_cell, serial_after}
use Rattle.spare_blocks.specs.Tables.{Table, IsSpare, use_of, on_part}
use Rattle.spare_blocks.specs.Trying.{cost_with}

-- the part; the shape of the plan; which block of the part has which number; by number of the plan how many erases it has had; how
-- the part is; how many calls were refused
pub record Spared (N : Type 0) : Type 0 where
  pub part : N
  pub shape : Shape
  pub table : Table
  pub erases : List ℕ
  pub health : Health
  pub failures : ℕ

-- the part's block that has this number
abbrev pub numbered : {N : Type 0} → (N → List PartBlock) → Spared N → ℕ → PartBlock
numbered blocks d b = part_block (blocks d.part) (on_part d.table b)

-- the block of this number, as the store sees it: its erases are counted by number, whichever block has it
abbrev pub spared_block : {N : Type 0} → (N → List PartBlock) → Spared N → ℕ → Block
spared_block blocks d b = record {
  pages = map (λ cell. cell.bytes) (numbered blocks d b).cells;
  erasing = (numbered blocks d b).erasing;
  erases = slice_index d.erases b;
}

abbrev pub spared_blocks : {N : Type 0} → (N → List PartBlock) → Spared N → List Block
spared_blocks blocks d = map (spared_block blocks d) (range_with_len 0 d.shape.blocks)

-- a block with a number failed, and no spare block is left
pub record IsWornOut {N : Type 0} (blocks : N → List PartBlock) (d : Spared N) : Type 0 where
  pub none : (x : ℕ) → ¬ (IsSpare d.table x)
  pub failed : ((b : ℕ) × (b < d.shape.blocks) × ((numbered blocks d b).failed ≡ true))

-- How the part is says just this: it had a fault; or a block with a number failed and no spare block is left; or neither. Each
-- spare block is free until the part has a fault.
pub record IsSoundSpared {N : Type 0} (shape_of : N → Shape) (blocks : N → List PartBlock) (faulted : N → Bool) (d : Spared N) : Type 0 where
  pub pages : (shape_of d.part).pages ≡ d.shape.pages
  pub slots : (shape_of d.part).erase_slots ≡ d.shape.erase_slots
  pub count : length d.table.blocks ≡ d.shape.blocks
  pub counted : length d.erases ≡ d.shape.blocks
  pub faults : d.health ≡ health.Faulted → faulted d.part ≡ true
  pub well : ¬ (d.health ≡ health.Faulted) → faulted d.part ≡ false
  pub free : ¬ (d.health ≡ health.Faulted) → (x : ℕ) → IsSpare d.table x → part_block (blocks d.part) x ≡ free_part_block
  pub works : d.health ≡ health.Working → (b : ℕ) → b < d.shape.blocks → (numbered blocks d b).failed ≡ false
  pub worn : d.health ≡ health.WornOut → IsWornOut blocks d

-- the shape of a plan of `blocks` blocks on a part
abbrev pub plan_shape : ℕ → Shape → Shape
plan_shape blocks shape = record shape { blocks = blocks }

-- nothing was done on the plan's blocks yet, and each block that was listed as bad stays aside
pub record IsFreshSpared {N : Type 0} (blocks : N → List PartBlock) (shape : Shape) (known_bad : List ℕ) (d : Spared N) : Type 0 where
  pub shape_is : d.shape ≡ shape
  pub limits : IsShape shape
  pub works : d.health ≡ health.Working
  pub fresh : IsFresh shape (spared_blocks blocks d) d.failures
  pub known : (x : ℕ) → Contains known_bad x → use_of d.table x ≡ use_as.Bad

-- how the part has to be for a call to end well
abbrev pub IsFitFor : NandCall → Health → Type 0
IsFitFor (calls.Read place) h = ¬ (h ≡ health.Faulted)
IsFitFor (calls.Program place page bytes) h = h ≡ health.Working
IsFitFor (calls.EraseSlot b) h = h ≡ health.Working

-- whether the call may change the cells of the block with this number: a program that is refused doesn't
abbrev pub MayChange : NandCall → Bool → ℕ → Type 0
MayChange (calls.Read place) well b = ⊥
MayChange (calls.Program place page bytes) well b = (well ≡ true) × (b ≡ place.block)
MayChange (calls.EraseSlot x) well b = b ≡ x

-- a program leaves one cell more in the block of its number, with the label that it would have had on one that doesn't
-- fail; a slot of an erase leaves none if it was the last
abbrev pub IsLabelled : (keeps : Bool) → (next slots : ℕ) → NandCall → (before after : ℕ → PartBlock) → Type 0
IsLabelled keeps next slots (calls.Read place) before after = ⊤
IsLabelled keeps next slots (calls.Program place page bytes) before after =
    (after place.block).cells ≡ (before place.block).cells ++ programmed_cell keeps next page bytes ∷ []
IsLabelled keeps next slots (calls.EraseSlot b) before after =
    (after b).cells ≡ (if (before b).erasing + 1 == slots then [] else (before b).cells)

-- the next serial after a call that ended well
abbrev pub serial_after_call : NandCall → ℕ → ℕ
serial_after_call (calls.Read place) serial = serial
serial_after_call (calls.Program place page bytes) serial = serial_after ended.Done page serial
serial_after_call (calls.EraseSlot b) serial = serial

-- What a call leaves. It ends well unless the part had a fault, or a block failed and no spare one was left, and then the cells that
-- were there are still there. A cell keeps its label, whichever block holds it. Each spare block that is used up costs at most twice
-- the pages of a block, a block that is bad stays so, and a fault may come while a further spare block is filled.
pub record EndsSpared {N : Type 0} (blocks : N → List PartBlock) (next spent : N → ℕ) (keeps : Bool)
    (before : Spared N) (call : NandCall) (well : Bool) (after : Spared N) : Type 0 where
  pub shape : after.shape ≡ before.shape
  pub fit : (well ≡ true) ↔ IsFitFor call after.health
  pub kept : ¬ (after.health ≡ health.Faulted) → (b : ℕ) → b < before.shape.blocks → ¬ (MayChange call well b)
      → (numbered blocks after b).cells ≡ (numbered blocks before b).cells
  pub labelled : well ≡ true → IsLabelled keeps (next before.part) before.shape.erase_slots call (numbered blocks before) (numbered blocks after)
  pub serial : well ≡ true → next after.part ≡ serial_after_call call (next before.part)
  pub bad : (x : ℕ) → use_of before.table x ≡ use_as.Bad → use_of after.table x ≡ use_as.Bad
  pub cost : ¬ (after.health ≡ health.Faulted) → cost_with before.shape.pages after.table (spent after.part)
      ≤ cost_with before.shape.pages before.table (spent before.part) + 1
  pub cost_of_fault : cost_with before.shape.pages after.table (spent after.part)
      ≤ cost_with before.shape.pages before.table (spent before.part) + (1 + 2 * before.shape.pages)
