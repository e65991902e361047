use Rattle.std.proofs.Common.{take}
use Rattle.demand_keeping.specs.BySlot.{HaveRoom}
use Rattle.demand_keeping.specs.Sliding.{IsSliding}
use Rattle.demand_keeping.proofs.sliding.first_above.Given as goal

abbrev pub invariant-loop-head : goal.invariant-loop-head
invariant-loop-head l = record {
  sliding : IsSliding l.of.period l.of.limit l.seen l.jobs l.head l.window;
  room : HaveRoom l.of.period l.of.limit l.seen (take l.head l.jobs);
}
