use Rattle.event_log.proofs.Reading.{from_here, none_past, in_order-drop}
use Rattle.event_log.proofs.waived_of.parted_at.Goals as goal
use Rattle.event_log.proofs.waived_of.parted_at.Goals.{then-loop-count-test+else-waivers-count, else-loop-count-test}

pub returns-clause-from : goal.returns-clause-from
returns-clause-from c =
    rw c.split_at.ensures.back (elim c.loop-count-test.branch [
      | then-loop-count-test+else-waivers-count w ↦
          from_here c.args.place c.loop-count.count c.args.waivers.now w.index-waivers-count.result c.requires w.loop-count-test.true
          w.index-waivers-count.is (rw (w.index-waivers-count.is) w.if-waivers-count.false)
      | else-loop-count-test w ↦ none_past c.args.place c.loop-count.count c.args.waivers.now w.loop-count-test.false
    ])

pub returns-clause-ordered : goal.returns-clause-ordered
returns-clause-ordered c = rw c.split_at.ensures.back (in_order-drop c.loop-count.count c.args.waivers.now c.requires)
