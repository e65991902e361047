-- A call of the mount on its device: it may be made, and the device is as the mount again.
use Rattle.std.proofs.Common.{◌≡◌, ℕ, ◌+◌, ◌<◌, ◌==◌, cond, get_or, List, Some, ap, sym, ◌∙◌, subst}
use Rattle.slot_types.specs.declared.pages.PageData.{PageData}
use Rattle.slot_types.specs.declared.plans.DiePlan.{DiePlan}
use Rattle.slot_types.specs.declared.plans.Shape.{Shape}
use Rattle.flash_die.specs.Flash.{Block}
use Rattle.power_loss.specs.Aside.{part_of}
use Rattle.power_loss.specs.Labels.{Labels, Shown}
use Rattle.die_mount.specs.declared.stage.MountCall.{MountCall}
use Rattle.die_mount.specs.Mounting.{IsStep, call_at}
use Rattle.die_mount.specs.Nexts.{IsNextStage}
use Rattle.die_mount.specs.SoundMount.{StandsWell}
use Rattle.part_mount.specs.Calls.{CanCarryOut, blocks_by, held_by, labels_by}
use Rattle.part_mount.specs.Going.{GoesBySeen}
use Rattle.part_mount.specs.OnPart.{IsOnPart, OnPart, StandsAt}
use Rattle.labelled_nand.specs.PoweredUp.{AreBorne}
use Rattle.part_mount.proofs.Bearing.{borne_by}
use Rattle.part_mount.proofs.GoingOn.{goes_on}
use Rattle.part_mount.proofs.Standing.{can_carry, stands_on}

-- a call of a mount was carried out on its device, and reported to the mount
pub record IsCarried {N : Type 0} (shape_of : N → Shape) (blocks : N → List Block) (labels : N → Labels) (failures : N → ℕ) (v after : OnPart N)
    (call : MountCall) : Type 0 where
  pub is : call_at v.mount.next v.mount.stage ≡ Some call
  pub step : IsStep v.mount after.mount
  pub stage : IsNextStage v.mount.plan.shape.erase_slots v.mount.stage after.mount.stage
  pub erased : after.erased ≡ v.erased
  pub held : after.held ≡ held_by call (blocks v.part) v.held
  pub blocks_are : blocks after.part ≡ blocks_by (shape_of v.part).erase_slots v.held call (blocks v.part)
  pub labels_are : labels after.part ≡ labels_by (shape_of v.part).erase_slots v.held call (blocks v.part) (labels v.part)
  pub failures_are : failures after.part ≡ failures v.part
  pub shape : shape_of after.part ≡ shape_of v.part

module _ {N : Type 0} (shape_of : N → Shape) (blocks : N → List Block) (labels : N → Labels) (failures : N → ℕ) where
  -- the call may be made
  pub may_carry : (v : OnPart N) (call : MountCall) → IsOnPart shape_of blocks labels failures v → StandsWell v.mount
      → call_at v.mount.next v.mount.stage ≡ Some call → CanCarryOut (blocks v.part) (shape_of v.part).pages call
  may_carry v call on w is =
      subst (λ (s : Shape). CanCarryOut (blocks v.part) s.pages call) (sym on.shape) (can_carry v.mount v.erased (blocks v.part) w call on.at is)

  slots_are : (v : OnPart N) → IsOnPart shape_of blocks labels failures v → (shape_of v.part).erase_slots ≡ v.mount.plan.shape.erase_slots
  slots_are v on = ap (λ (s : Shape). s.erase_slots) on.shape

  -- the device is as the mount after it, too
  pub still_on : (v after : OnPart N) (call : MountCall) → IsOnPart shape_of blocks labels failures v → StandsWell v.mount
      → IsCarried shape_of blocks labels failures v after call → IsOnPart shape_of blocks labels failures after
  still_on v after call on w k = record {
    shape = k.shape ∙ (on.shape ∙ ap (λ (p : DiePlan). (part_of p).shape) (sym k.step.plan));
    first = subst (λ (i : ℕ). i < after.mount.plan.shape.blocks + 1) (sym k.erased)
        (subst (λ (p : DiePlan). v.erased < p.shape.blocks + 1) (sym k.step.plan) on.first);
    well = k.failures_are ∙ on.well;
    borne = subst (λ (bs : List Block). AreBorne bs (labels after.part).blocks) (sym k.blocks_are)
        (subst (λ (l : Labels). AreBorne (blocks_by (shape_of v.part).erase_slots v.held call (blocks v.part)) l.blocks) (sym k.labels_are)
        (borne_by (shape_of v.part).erase_slots (shape_of v.part).pages v.held call (blocks v.part) (labels v.part) on.borne (may_carry v call on w k.is)));
    at = subst (λ (first : ℕ). StandsAt after.mount.plan first after.mount.cells (blocks after.part) after.mount.stage) (sym k.erased)
        (subst (λ (bs : List Block). StandsAt after.mount.plan v.erased after.mount.cells bs after.mount.stage)
        (sym (k.blocks_are ∙ ap (λ (n : ℕ). blocks_by n v.held call (blocks v.part)) (slots_are v on)))
        (stands_on v.mount after.mount v.erased (blocks v.part) v.held w k.step call on.at k.is k.stage));
    one = λ b. ap (λ (counts : List ℕ). get_or counts b 0) k.step.counts ∙ (on.one b ∙ ap (λ (erased : ℕ). cond (b == erased) 1 0) (sym k.erased));
  }

  -- and goes by what was seen
  pub still_goes : (v after : OnPart N) (call : MountCall) → IsOnPart shape_of blocks labels failures v → StandsWell v.mount
      → IsCarried shape_of blocks labels failures v after call → (pages : List PageData) (seen : Shown)
      → GoesBySeen labels pages seen v → GoesBySeen labels pages seen after
  still_goes v after call on w k pages seen g =
      goes_on labels pages seen v after (blocks v.part) call w on.borne on.at k.step k.stage k.is k.erased k.held
      (k.labels_are ∙ ap (λ (n : ℕ). labels_by n v.held call (blocks v.part) (labels v.part)) (slots_are v on)) g
