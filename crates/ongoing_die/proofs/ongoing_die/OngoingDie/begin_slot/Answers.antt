use Rattle.ongoing_die.proofs.Asking.{begun_still}
use Rattle.ongoing_die.proofs.ongoing_die.OngoingDie.begin_slot.Goals as goal

pub returns-clause-ok : goal.returns-clause-ok
returns-clause-ok g c first d s =
    begun_still first d c.args.self.now c.enter_slot.new.self c.look_ahead.new.self c.look_ahead.ensures.unchanged (c.in-Ok.ensures.ok first d s)
