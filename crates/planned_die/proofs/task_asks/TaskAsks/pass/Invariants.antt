use Rattle.std.proofs.Common.{◌≡◌, ◌≤◌, ◌-◌, length}
use Rattle.planned_die.specs.Remembered.{IsKeptFor}
use Rattle.planned_die.proofs.task_asks.TaskAsks.pass.Given as goal

abbrev pub invariant-loop-self : goal.invariant-loop-self
invariant-loop-self l = record {
  jobs : l.self.jobs.items ≡ l.fn.self.jobs.items;
  list : l.self.jobs ≡ l.fn.self.jobs;
  fewer : l.self.operations ≤ l.fn.self.operations;
  kept : IsKeptFor l.period l.clock l.self;
}

abbrev pub decreases-loop-self : goal.decreases-loop-self
decreases-loop-self l = length l.self.jobs.items - l.self.passed
