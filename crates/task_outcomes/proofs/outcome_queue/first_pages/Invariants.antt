use Rattle.std.proofs.Common.{◌≡◌, take, vec_len, vec_capacity}
use Rattle.task_outcomes.proofs.outcome_queue.first_pages.Given as goal

abbrev pub invariant-loop-place : goal.invariant-loop-place
invariant-loop-place l = record {
  copy : l.copy.items ≡ take l.place l.pages.items;
  len : vec_len l.copy ≡ l.place;
  room : vec_capacity l.copy ≡ l.fn.count;
}
