use Rattle.std.proofs.Common.{◌≡◌, take}
use Rattle.plan_rules.specs.Keeping.{slots}
use Rattle.demand_keeping.specs.BySlot.{AreCounted}
use Rattle.demand_keeping.proofs.by_slot.as_they_come.Given as goal

abbrev pub invariant-loop-i : goal.invariant-loop-i
invariant-loop-i l = record {
  now : l.now ≡ slots (take l.i l.events);
  counted : AreCounted l.of.count l.of.task (take l.i l.events) l.jobs.items;
}
