use Rattle.std.proofs.Common.{◌≡◌, ℕ, [], map, replicate, length}
use Rattle.demand_rules.specs.declared.terms.Terms.{Terms}
use Rattle.planned_die.specs.Remembered.{jobs_of, AreKept, HaveMemory}
use Rattle.planned_die.proofs.all_asks.new_asks.Given as goal

abbrev pub invariant-loop-task : goal.invariant-loop-task
invariant-loop-task l = record {
  jobs : map jobs_of l.asked.items ≡ replicate l.task [];
  kept : (terms : Terms) (clock : ℕ) → AreKept terms clock l.asked.items;
  memory : HaveMemory l.own l.asked.items;
  count : length l.asked.items ≡ l.task;
}
