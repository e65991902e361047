use Rattle.die_service.proofs.Passing.{slot_answered}
use Rattle.die_service.proofs.die.Die.slot.Goals as goal

pub slot_reply-requires : goal.slot_reply-requires
slot_reply-requires g c = slot_answered _ _ _ c.in-Ok.ensures.added.answered c.in-Ok.ensures.accepted
