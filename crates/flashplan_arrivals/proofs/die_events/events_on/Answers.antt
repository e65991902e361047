use Rattle.std.proofs.Common.{length, arith}
use Rattle.flashplan_arrivals.proofs.Reading.{come_none, come_more, come_all}
use Rattle.flashplan_arrivals.proofs.die_events.events_on.Goals as goal

pub loop-init : goal.loop-init
loop-init g c = record { within = omega arith; come = come_none _ _ _ _ _ c.in_ok-script.ensures.script c.new-events.ensures }

pub loop-preserved : goal.loop-preserved
loop-preserved g c = record {
  within = c.in_ok-now-in-Ok-Some.ensures.within;
  come = come_more _ _ _ _ _ _ _ _ _ c.in-Ok-Some.item (rw c.in-Ok-Some.field-0-is at c.in-Ok-Some.ensures.item)
      c.in_ok-now-in-Ok-Some.ensures.ok c.loop.invariant.come;
}

pub returns-in-Ok-None : goal.returns-in-Ok-None
returns-in-Ok-None g c = record {
  events = come_all _ _ _ (length c.args.plan.now) c.args.slots c.loop.now c.args.die _ _
      (rw c.in-Ok-None.field-0-is at c.in-Ok-None.ensures.item) c.in_ok-carry-in-Ok-None.ensures.ok c.loop.invariant.come;
}
