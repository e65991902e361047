-- A device on all blocks of a part but one, which stands aside.
use Rattle.std.specs.Prelude.{◌≡◌, ℕ, ◌+◌, ◌-◌, ◌<◌, Bool, true, false, List, length, refl}
use Rattle.std.proofs.Common.{subst, sym}
use Rattle.slot_types.specs.declared.plans.Shape.{Shape}
use Rattle.flash_die.specs.Flash.{Block, free_block}
use Rattle.flash_die.specs.declared.nand.NandCall.{NandCall}
use Rattle.flash_die.specs.declared.nand.NandCall.TheVariants as calls
use Rattle.labelled_nand.specs.Calls.{labels_after_call}
use Rattle.power_loss.specs.Aside.{die_labels, on_part, renumbered, without_aside}
use Rattle.power_loss.specs.Labels.{Labels}

-- the part, the shape without the block aside, which block that is, whether a call of the part has failed, and how many
-- calls were refused after that
pub record Beside (N : Type 0) : Type 0 where
  pub part : N
  pub shape : Shape
  pub aside : ℕ
  pub failed : Bool
  pub refused : ℕ

abbrev pub beside_of : {N : Type 0} → Shape → N → ℕ → Beside N
beside_of shape part aside = record {
  part = part;
  shape = record shape { blocks = shape.blocks - 1 };
  aside = aside;
  failed = false;
  refused = 0;
}

-- a part with its blocks and by block its labels, of which this block may stand aside
pub record IsPartBeside (shape : Shape) (blocks : List Block) (labels : Labels) (aside : ℕ) : Type 0 where
  pub count : length blocks ≡ shape.blocks
  pub labelled : length labels.blocks ≡ shape.blocks
  pub has : aside < shape.blocks

-- its blocks and its labels, by the numbers that they have here
abbrev pub blocks_beside : {N : Type 0} → (N → List Block) → Beside N → List Block
blocks_beside blocks d = without_aside d.shape.blocks d.aside free_block (blocks d.part)

abbrev pub labels_beside : {N : Type 0} → (N → Labels) → Beside N → Labels
labels_beside labels d = die_labels d.shape.blocks d.aside (labels d.part)

pub record IsSoundBeside {N : Type 0} (never_fails : Bool) (shape_of : N → Shape) (blocks : N → List Block) (labels : N → Labels) (failures : N → ℕ)
    (d : Beside N) : Type 0 where
  pub shape_is : shape_of d.part ≡ record d.shape { blocks = d.shape.blocks + 1 }
  pub part : d.failed ≡ false → IsPartBeside (shape_of d.part) (blocks d.part) (labels d.part) d.aside
  pub never : never_fails ≡ true → d.failed ≡ false
  pub counted : d.failed ≡ true → 0 < failures d.part

-- the call of the part that a call here is
abbrev pub call_on_part : (last aside : ℕ) → NandCall → NandCall
call_on_part last aside (calls.Read place) = calls.Read (renumbered (on_part last aside) place)
call_on_part last aside (calls.Program place page bytes) = calls.Program (renumbered (on_part last aside) place) page bytes
call_on_part last aside (calls.EraseSlot b) = calls.EraseSlot (on_part last aside b)

-- A call is passed on to the part, and ends as it ends there, unless one has failed before, and then it fails. One that
-- ends well leaves the labels that it should.
pub record EndsBeside {N : Type 0} (ends : N → NandCall → Bool → N → Type 0) (blocks : N → List Block) (labels : N → Labels)
    (before : Beside N) (call : NandCall) (well : Bool) (after : Beside N) : Type 0 where
  pub shape : after.shape ≡ before.shape
  pub aside : after.aside ≡ before.aside
  pub refused : before.failed ≡ true → (well ≡ false) × (after.part ≡ before.part)
  pub passed : before.failed ≡ false → ends before.part (call_on_part before.shape.blocks before.aside call) well after.part
  pub labelled : well ≡ true → labels_beside labels after
      ≡ labels_after_call before.shape.erase_slots (blocks_beside blocks before) call (labels_beside labels before)

-- what lasts of the part, whatever the call, lasts here
pub keeps_beside : {N : Type 0} (ends : N → NandCall → Bool → N → Type 0) (blocks : N → List Block) (labels : N → Labels) (lasts : N → Type 0)
    → ((before after : N) (call : NandCall) (well : Bool) → ends before call well after → lasts before → lasts after)
    → (before after : Beside N) (call : NandCall) (well : Bool) → EndsBeside ends blocks labels before call well after
    → lasts before.part → lasts after.part
keeps_beside ends blocks labels lasts keeps before after call well ended there = by_flag before.failed refl
  where
    by_flag : (failed : Bool) → before.failed ≡ failed → lasts after.part
    by_flag false e = keeps before.part after.part (call_on_part before.shape.blocks before.aside call) well (ended.passed e) there
    by_flag true e = subst lasts (sym (ended.refused e).1) there
