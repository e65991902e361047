use Rattle.die_service.proofs.Passing.{submit_taken}
use Rattle.die_service.proofs.die.Die.submit.Goals as goal

pub taken_number-requires : goal.taken_number-requires
taken_number-requires g c = submit_taken _ _ _ _ _ _ _ c.in-Ok.ensures.added.answered c.in-Ok.ensures.accepted
