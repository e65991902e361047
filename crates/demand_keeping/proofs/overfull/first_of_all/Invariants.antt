use Rattle.std.proofs.Common.{◌-◌, ◌<◌}
use Rattle.demand_keeping.specs.BySlot.{HaveRoom, IsFirstAbove}
use Rattle.demand_keeping.proofs.overfull.first_of_all.Given as goal

abbrev pub invariant-loop-many : goal.invariant-loop-many
invariant-loop-many l = record {
  order : l.few < l.many;
  room : HaveRoom l.of.period l.of.limit l.few l.jobs;
  first : IsFirstAbove l.of.period l.of.limit l.many l.jobs l.found;
}

abbrev pub decreases-loop-many : goal.decreases-loop-many
decreases-loop-many l = l.many - l.few
