use Rattle.std.proofs.Common.{ℕ, ◌+◌, sym, subst, arith}
use Rattle.demand_keeping.specs.BySlot.{IsFirstAbove}
use Rattle.demand_keeping.specs.Sliding.{IsSliding}
use Rattle.demand_keeping.proofs.Slides.{at, at_any, has_too_much, room_more, sliding_more}
use Rattle.demand_keeping.proofs.sliding.first_above.Goals as goal

pub returns-then-amount-of-clause-some : goal.returns-then-amount-of-clause-some
returns-then-amount-of-clause-some c =
    subst (λ (start : ℕ). IsFirstAbove c.args.of.period c.args.of.limit c.args.seen c.args.jobs.now start) (sym c.start_with.ensures)
    (has_too_much c.args.of.period c.args.of.limit c.args.seen c.args.jobs.now c.requires.rising c.loop-head.head
    (at c.args.jobs.now c.loop-head.head) (at_any c.args.jobs.now c.loop-head.head c.loop-head-test.true) c.loop-head-test.true
    c.requires.some c.slid-window.result c.slid-window.ensures.sliding c.slid-window.ensures.near
    (omega (arith, c.if-amount-of.true, c.amount_of-amount.ensures, c.slid-window.ensures.sliding.small)) c.loop-head.invariant.room)

pub loop-head-preserved : goal.loop-head-preserved
loop-head-preserved c =
    record {
      sliding = subst (λ (n : ℕ). IsSliding c.args.of.period c.args.of.limit c.args.seen c.args.jobs.now (c.loop-head.head + 1)
          (record { tail = c.slid-window.result.tail; sum = c.slid-window.result.sum + n })) (sym c.amount_of-amount.ensures)
          (sliding_more c.args.of.period c.args.of.limit c.args.seen c.args.jobs.now c.requires.rising c.loop-head.head
          (at c.args.jobs.now c.loop-head.head) (at_any c.args.jobs.now c.loop-head.head c.loop-head-test.true) c.loop-head-test.true
          c.slid-window.result c.slid-window.ensures.sliding
          (omega (arith, c.if-amount-of.false, c.amount_of-amount.ensures, c.slid-window.ensures.sliding.small)));
      room = room_more c.args.of.period c.args.of.limit c.args.seen c.args.jobs.now c.requires.rising c.loop-head.head
          (at c.args.jobs.now c.loop-head.head) (at_any c.args.jobs.now c.loop-head.head c.loop-head-test.true) c.loop-head-test.true
          c.slid-window.result c.slid-window.ensures.sliding
          (omega (arith, c.if-amount-of.false, c.amount_of-amount.ensures, c.slid-window.ensures.sliding.small)) c.loop-head.invariant.room;
    }
