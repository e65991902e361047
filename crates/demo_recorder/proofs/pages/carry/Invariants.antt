use Rattle.std.proofs.Common.{◌≡◌}
use Rattle.demo_recorder.proofs.pages.carry.Given as goal

abbrev pub invariant-loop : goal.invariant-loop
invariant-loop g l = l.timer.lock ≡ l.fn.die
