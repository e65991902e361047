use Rattle.planned_die.proofs.InTurn.{never_refused}
use Rattle.planned_die.proofs.planned_die.PlannedDie.enter.Goals as goal

pub unreachable-requires : goal.unreachable-requires
unreachable-requires g c =
    let q = c.requires.unrefused in
    never_refused c.args.caller c.args.task c.args.ops.now q.0 c.in-Err.field-0 c.args.self.now c.ask.new.self c.requires.runs q.2 (c.in-Err.ensures.ask q.0 q.1)
