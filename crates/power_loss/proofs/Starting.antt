-- After a loss of power a mount can go on until another log may start.
use Rattle.std.proofs.Common.{ℕ, List, refl}
use Rattle.std.specs.Prelude.{sum_by}
use Rattle.slot_types.specs.declared.plans.DiePlan.{DiePlan}
use Rattle.slot_types.specs.declared.pages.PageData.{PageData}
use Rattle.plan_rules.specs.Bound.{MeetsBound}
use Rattle.die_log.specs.Model.Flash.{Cells, free_in}
use Rattle.power_loss.specs.Labels.{Labels}
use Rattle.power_loss.specs.Laws.{ForAllMountable}
use Rattle.power_loss.specs.Recovery.{IsAbove, IsFreeBlock, IsRecoverable, remounted_cells, remounted_labels, cells_of}
use Rattle.power_loss.specs.Recovery.{labels_of, AreIdle, CanEnd, CanStart}
use Rattle.power_loss.proofs.Compacting.{can_end}
use Rattle.power_loss.proofs.MountActs.{all_go_on, all_remount}
use Rattle.power_loss.proofs.MountedStarts.{all_open, full_agree}

can_start : (plan : DiePlan) (c : Cells) (pages : List PageData) (l : Labels) (from : ℕ → ℕ) → MeetsBound plan → IsRecoverable plan c pages l from
    → AreIdle c → (b : ℕ) → IsFreeBlock c b → CanStart plan c pages l
can_start plan c pages l from bound h idle b free =
    let e : CanEnd plan c = can_end plan c b bound h.sound idle free in
    let d : Cells = cells_of plan e.acts c in
    let s = all_open plan bound d pages (labels_of plan pages e.acts c l) from (all_go_on plan c pages l from bound h e.acts e.may) e.idle _
    (full_agree plan (sum_by (free_in plan) d.blocks) e.enough) in
    record { acts = e.acts; may = e.may; safe = e.safe; start = _; starts = record { is = refl; opens = s.0; labelled = s.1 } }

-- from what is seen, whichever block it may erase first
pub all_start : ForAllMountable (λ plan pages from seen erased. (erases : ℕ → ℕ) (next : ℕ) → IsAbove seen from next
    → CanStart plan (remounted_cells plan from erased erases seen) pages (remounted_labels erased seen next))
all_start plan bound pages from seen h erased may erases next above =
    let k = all_remount plan bound pages from seen h erased may erases next above in
    can_start plan (remounted_cells plan from erased erases seen) pages (remounted_labels erased seen next) from bound k.0 k.1 erased k.2
