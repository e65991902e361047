use Rattle.std.proofs.Common.{◌≡◌}
use Rattle.test_planned_ports.proofs.steps.play.Given as goal

abbrev pub invariant-loop-step : goal.invariant-loop-step
invariant-loop-step g l = record {
  clock : l.ports.clock.lock ≡ l.fn.die;
  first : l.ports.first.lock ≡ l.fn.die;
  second : l.ports.second.lock ≡ l.fn.die;
}
