use Rattle.std.proofs.Common.{◌≡◌, ◌++◌, take}
use Rattle.std.specs.VecDeque.{deque_capacity}
use Rattle.task_outcomes.proofs.outcome_queue.add_pages.Given as goal

abbrev pub invariant-loop-page : goal.invariant-loop-page
invariant-loop-page l = record {
  pages : l.pages.items ≡ l.fn.pages.items ++ take l.page-index l.more;
  memory : deque_capacity l.pages ≡ deque_capacity l.fn.pages;
}
