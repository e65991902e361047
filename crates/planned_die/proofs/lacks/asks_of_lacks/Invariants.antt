use Rattle.std.proofs.Common.{◌≡◌, ℕ, map, length}
use Rattle.planned_die.specs.Remembered.{jobs_of, AreKept, HaveMemory}
use Rattle.planned_die.specs.Resuming.{lacks_of}
use Rattle.planned_die.proofs.lacks.asks_of_lacks.Given as goal

abbrev pub invariant-loop-task : goal.invariant-loop-task
invariant-loop-task l = record {
  jobs : map jobs_of l.asked.items ≡ lacks_of l.plan l.balances l.task;
  kept : (clock : ℕ) → AreKept l.terms clock l.asked.items;
  memory : HaveMemory l.terms l.asked.items;
  count : length l.asked.items ≡ l.task;
}
