use Rattle.std.proofs.Common.{◌≡◌, ◌+◌, ◌≤◌, ◌-◌, drop, length, sum_by}
use Rattle.planned_die.proofs.Passing.{amount_in, free}
use Rattle.planned_die.proofs.task_asks.TaskAsks.free_slot.Given as goal

abbrev pub invariant-loop-left : goal.invariant-loop-left
invariant-loop-left l = record {
  from : l.self.passed ≤ l.place;
  within : l.place ≤ length l.self.jobs.items;
  rest : l.left ≡ sum_by (amount_in l.of_writes) (drop l.place l.self.jobs.items) + l.more;
  same : free l.of_writes l.limit l.period l.self.jobs.items l.more l.self.passed 0
      ≡ free l.of_writes l.limit l.period l.self.jobs.items l.more l.place l.slot;
}

abbrev pub decreases-loop-left : goal.decreases-loop-left
decreases-loop-left l = length l.self.jobs.items - l.place
