use Rattle.std.proofs.Common.{◌≤◌}
use Rattle.flashplan_full_dies.proofs.lives.ended_by.Given as goal

abbrev pub invariant-loop-own : goal.invariant-loop-own
invariant-loop-own l = l.end ≤ l.slots
