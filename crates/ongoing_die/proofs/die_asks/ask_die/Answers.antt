use Rattle.ongoing_die.proofs.DieAsks.{one_asked}
use Rattle.ongoing_die.proofs.die_asks.ask_die.Goals as goal

pub returns-in-Ok-clause-ask : goal.returns-in-Ok-clause-ask
returns-in-Ok-clause-ask g c =
    rw c.in-Job.is (λ earlier h. one_asked c.args.caller c.args.task c.args.ops.now earlier c.args.die.now c.ask.new.self c.in-Ok.first
    (c.in-Ok.ensures.ask earlier h))

pub returns-in-Err-clause-ask : goal.returns-in-Err-clause-ask
returns-in-Err-clause-ask g c = rw c.in-Job.is c.in-Err.ensures.ask
