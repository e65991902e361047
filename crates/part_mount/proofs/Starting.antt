-- How a mount begins on a part that was powered up.
use Rattle.std.proofs.Common.{◌≡◌, ℕ, ◌+◌, ◌<◌, Bool, false, List, [], map, set, replicate, Some, refl, ap, sym, ◌∙◌, subst}
use Rattle.std.proofs.lemmas.Bool.{true≢false}
use Rattle.std.proofs.lemmas.List.{get_or-replicate, set-get_or}
use Rattle.std.proofs.lemmas.Option.{same_Some}
use Rattle.slot_types.specs.declared.pages.PageData.{PageData}
use Rattle.slot_types.specs.declared.plans.Shape.{Shape}
use Rattle.flash_die.specs.Flash as device
use Rattle.die_log.specs.Model.Flash.{Block, free_block}
use Rattle.power_loss.specs.Aside.{StandsOnPart, part_of}
use Rattle.power_loss.specs.Labels.{Labels}
use Rattle.power_loss.specs.Mounted.{all_count}
use Rattle.die_mount.specs.Cutting.{GoesBy}
use Rattle.die_mount.specs.Mounting.{BeginsWith, Mounting, call_at}
use Rattle.die_mount.specs.Nexts.{BeginsFirst}
use Rattle.die_mount.specs.PartState.{closed_block}
use Rattle.die_mount.specs.SoundMount.{StandsWell}
use Rattle.die_mount.specs.declared.stage.MountCall.{MountCall}
use Rattle.die_mount.specs.declared.stage.MountCall.TheVariants as calls
use Rattle.die_mount.specs.declared.stage.Stage.TheVariants as stage
use Rattle.part_mount.specs.Going.{GoesBySeen, HasLabelsAt, HoldsAt}
use Rattle.part_mount.specs.OnPart.{BeginsToCount, CountsOne, IsSoundOnPart, OnPart, StandsAt, closed_beside}
use Rattle.labelled_nand.specs.PoweredUp.{IsPoweredUp, counts_of}

-- the block of an erase
abbrev block_in : MountCall → ℕ
block_in (calls.EraseSlot block) = block
block_in (calls.Read place) = 0
block_in (calls.Program place label) = 0

-- the first call erases this block
pub first_is : (m : Mounting) (block first : ℕ) → m.stage ≡ stage.First block 0 → call_at m.next m.stage ≡ Some (calls.EraseSlot first) → block ≡ first
first_is m block first at e =
    ap block_in (same_Some (calls.EraseSlot block) (calls.EraseSlot first) (sym (ap (call_at m.next) at) ∙ e))

set_same : (n i : ℕ) (x : Block) → i < n → set (replicate n x) i x ≡ replicate n x
set_same n i x lt = ap (set (replicate n x) i) (sym (get_or-replicate n i x x lt)) ∙ set-get_or (replicate n x) i x

stands_first : (m : Mounting) (first : ℕ) (shape : Shape) (blocks : List device.Block) → map counts_of blocks ≡ replicate shape.blocks (closed_block shape.pages)
    → shape ≡ (part_of m.plan).shape → BeginsFirst m.plan m → call_at m.next m.stage ≡ Some (calls.EraseSlot first)
    → StandsAt m.plan first m.cells blocks m.stage
stands_first m first shape blocks closed shape_is b e =
    let is = first_is m b.block first b.stage_is e in
    let lt : first < m.plan.shape.blocks + 1 = subst (λ (i : ℕ). i < m.plan.shape.blocks + 1) is b.stands in
    subst (StandsAt m.plan first m.cells blocks) (sym b.stage_is) (
      is,
      b.blocks ∙ ap (λ (i : ℕ). closed_beside m.plan i free_block) is,
      closed ∙ (ap (λ (s : Shape). replicate s.blocks (closed_block s.pages)) shape_is
          ∙ sym (set_same (m.plan.shape.blocks + 1) first (closed_block m.plan.shape.pages) lt)),
    )

pub begins_on : {N : Type 0} (never : Bool) (shape_of : N → Shape) (blocks : N → List device.Block) (labels : N → Labels) (failures : N → ℕ) (v : OnPart N)
    → IsPoweredUp (shape_of v.part) (blocks v.part) (labels v.part) (failures v.part) → shape_of v.part ≡ (part_of v.mount.plan).shape
    → BeginsFirst v.mount.plan v.mount → BeginsToCount v.mount → call_at v.mount.next v.mount.stage ≡ Some (calls.EraseSlot v.erased) → v.failed ≡ false
    → IsSoundOnPart never shape_of blocks labels failures v
begins_on never shape_of blocks labels failures v up shape_is b counts e well = record {
  on = λ _. record {
    shape = shape_is;
    first = subst (λ (i : ℕ). i < v.mount.plan.shape.blocks + 1) (first_is v.mount b.block v.erased b.stage_is e) b.stands;
    well = up.well;
    borne = up.borne;
    at = stands_first v.mount v.erased (shape_of v.part) (blocks v.part) up.closed shape_is b e;
    one = subst (λ (i : ℕ). CountsOne i v.mount) (first_is v.mount b.block v.erased b.stage_is e) (counts b.block b.stage_is);
  };
  faulted = λ failed. absurd (true≢false (sym failed ∙ well));
  never = λ _. well;
}

-- where a mount begins so with what was seen, with these pages
pub goes_from : {N : Type 0} (labels : N → Labels) (pages : List PageData) (v : OnPart N) → StandsWell v.mount
    → call_at v.mount.next v.mount.stage ≡ Some (calls.EraseSlot v.erased) → StandsOnPart v.mount.plan pages all_count (labels v.part).blocks
    → BeginsWith v.mount.plan (labels v.part).blocks v.mount → GoesBySeen labels pages (labels v.part).blocks v
goes_from labels pages v w e stood b =
    let m = v.mount in
    let seen = (labels v.part).blocks in
    let is = first_is m b.erased v.erased b.stage_is e in
    record {
      next = b.next;
      acts = [];
      by = subst (λ (first : ℕ). GoesBy pages seen first b.next [] m) is (record {
        bound = w.bound;
        beside = w.beside;
        stood = stood;
        may = b.may;
        above = b.above;
        is = b.is;
      });
      has = subst (HasLabelsAt pages seen v.erased b.next [] m seen) (sym b.stage_is) refl;
      holds = subst (HoldsAt pages v.held) (sym b.stage_is) tt;
    }
