use Rattle.std.proofs.Common.{◌≡◌, drop}
use Rattle.std.specs.VecDeque.{deque_capacity}
use Rattle.task_outcomes.proofs.outcome_queue.drop_pages.Given as goal

abbrev pub invariant-loop : goal.invariant-loop
invariant-loop l = record {
  pages : l.pages.items ≡ drop l.counter l.fn.pages.items;
  memory : deque_capacity l.pages ≡ deque_capacity l.fn.pages;
}
