use Rattle.std.proofs.Common.{arith}
use Rattle.ongoing_die.proofs.lengths.first_too_late.Goals as goal

pub returns-then-deadline_of-life-clause-some : goal.returns-then-deadline_of-life-clause-some
returns-then-deadline_of-life-clause-some c = record {
  known = omega arith;
  late = omega arith;
  first = c.loop-task.invariant;
}
