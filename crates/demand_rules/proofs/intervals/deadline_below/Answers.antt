use Rattle.demand_rules.proofs.Steadying.{steady_after}
use Rattle.demand_rules.proofs.intervals.deadline_below.Goals as goal

pub returns-then-deadline-end-clause-steady : goal.returns-then-deadline-end-clause-steady
returns-then-deadline-end-clause-steady c =
    steady_after c.args.period c.args.deadline c.args.end c.requires.period c.if-deadline-end.true
