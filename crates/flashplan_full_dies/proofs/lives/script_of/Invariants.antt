use Rattle.std.proofs.Common.{◌≤◌}
use Rattle.flashplan_full_dies.proofs.lives.script_of.Given as goal

abbrev pub invariant-loop : goal.invariant-loop
invariant-loop l = l.slots ≤ 1048576
