use Rattle.std.proofs.Common.{◌≡◌, drop}
use Rattle.std.specs.VecDeque.{deque_capacity}
use Rattle.planned_die.proofs.task_asks.TaskAsks.note.Given as goal

abbrev pub invariant-loop-self : goal.invariant-loop-self
invariant-loop-self l = record {
  rest : drop l.self.passed l.self.jobs.items ≡ drop l.fn.self.passed l.fn.self.jobs.items;
  room : deque_capacity l.self.jobs ≡ deque_capacity l.fn.self.jobs;
  operations : l.self.operations ≡ l.fn.self.operations;
  writes : l.self.writes ≡ l.fn.self.writes;
}

abbrev pub decreases-loop-self : goal.decreases-loop-self
decreases-loop-self l = l.self.passed
