use Rattle.std.proofs.Common.{◌<◌, IfOk, Result, subst, sym}
use Rattle.slot_types.specs.declared.refusals.Refusal.{Refusal}
use Rattle.slot_types.specs.declared.replies.SlotReply.{SlotReply}
use Rattle.die_service.specs.declared.refused.RefusedAt.{RefusedAt}
use Rattle.die_service.proofs.SlotNumbers.{own_below}
use Rattle.die_service.proofs.owned_dies.OwnedDieWork.slot.Goals as goal
use Rattle.die_service.proofs.owned_dies.OwnedDieWork.slot.Goals.{in-Ok, in-Err}

pub returns-clause-few : goal.returns-clause-few
returns-clause-few g c =
    let below = own_below 0 c.note_slot.result _ _ c.note_slot.ensures.ended in
    elim c.match-note_slot.branch [
      | in-Ok w ↦ subst (λ (r : Result SlotReply RefusedAt). IfOk r (λ reply. reply.slot < 1048576)) (sym w.result-is)
          (subst (λ (r : Result SlotReply Refusal). IfOk r (λ reply. reply.slot < 1048576)) w.in-Ok.is below)
      | in-Err w ↦ subst (λ (r : Result SlotReply RefusedAt). IfOk r (λ reply. reply.slot < 1048576)) (sym w.result-is) tt
    ]
