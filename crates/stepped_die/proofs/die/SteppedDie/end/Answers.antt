use Rattle.std.proofs.Common.{sym, ◌∙◌}
use Rattle.stepped_die.proofs.Ending.{not_refused_here, present_of}
use Rattle.stepped_die.proofs.die.SteppedDie.end.Goals as goal

pub unreachable-requires : goal.unreachable-requires
unreachable-requires c =
    let runs = sym c.is_stopped.ensures ∙ c.if-is_stopped.false in
    not_refused_here c.self.inside.core c.fill_slot.new.self c.in-Some.begun c.in-Err.field-0 runs
    (present_of c.self.inside.core c.self.inside.begun c.in-Some.begun c.in-Some.is c.self.invariant.present)
    c.in-Err.ensures
