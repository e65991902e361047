use Rattle.std.proofs.Common.{refl, arith}
use Rattle.demand_keeping.proofs.Collected.{counted_with, counted_without}
use Rattle.demand_keeping.proofs.Taking.{slots_more}
use Rattle.demand_keeping.proofs.by_slot.as_they_come.Goals as goal
use Rattle.demand_keeping.proofs.by_slot.as_they_come.Goals.{in-Some+in_ok-push, in_default}

pub loop-i-preserved : goal.loop-i-preserved
loop-i-preserved c = record {
  now = omega (
    arith,
    c.loop-i.invariant.now,
    c.slots_in-now.ensures.result,
    slots_more c.args.events.now c.loop-i.i c.index-events-i-in-loop-i.result c.index-events-i-in-loop-i.is c.loop-i-test.true,
  );
  counted = elim c.match-count_of.branch [
    | in-Some+in_ok-push w ↦
        rw w.jobs-is (rw w.in_ok-push.ensures.items
        (counted_with c.args.of.count c.args.of.task c.args.events.now c.loop-i.i c.index-events-i.result c.index-events-i.is c.loop-i-test.true
        c.loop-i.now c.loop-i.invariant.now c.loop-i.jobs.items c.loop-i.invariant.counted w.in-Some.own w.in-Some.ensures.index
        w.in-Some.ensures.some))
    | in_default w ↦
        rw w.jobs-is
        (counted_without c.args.of.count c.args.of.task c.args.events.now c.loop-i.i c.index-events-i.result c.index-events-i.is
        c.loop-i-test.true c.loop-i.now c.loop-i.invariant.now c.loop-i.jobs.items c.loop-i.invariant.counted (w.in_default.ensures.none refl))
  ];
}
