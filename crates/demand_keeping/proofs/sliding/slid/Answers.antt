use Rattle.std.proofs.Common.{ℕ, ◌+◌, ◌-◌, sym, subst, arith}
use Rattle.demand_keeping.specs.Sliding.{IsSliding}
use Rattle.demand_keeping.proofs.Slides.{at, at_any, counted_before, near_from, sliding_past}
use Rattle.demand_keeping.proofs.sliding.slid.Goals as goal

pub returns-then-from-clause-near : goal.returns-then-from-clause-near
returns-then-from-clause-near c =
    near_from c.args.of.period c.args.of.limit c.args.seen c.args.jobs.now c.requires.rising c.args.head (at c.args.jobs.now c.args.head)
    (at_any c.args.jobs.now c.args.head c.requires.within) c.requires.within c.loop-next.next c.loop-next.invariant c.loop-next-test.true
    (at c.args.jobs.now c.loop-next.next.tail)
    (at_any c.args.jobs.now c.loop-next.next.tail (omega (arith, c.loop-next-test.true, c.requires.within)))
    (omega (arith, c.if-from.true, c.from.ensures, c.from-in-loop-next.ensures, c.from-in-loop-next-2.ensures))

pub overflow_sub-next : goal.overflow_sub-next
overflow_sub-next c = omega (
  arith,
  c.amount_of.ensures,
  counted_before c.args.of.period c.args.of.limit c.args.seen c.args.jobs.now c.requires.rising c.args.head (at c.args.jobs.now c.args.head)
      (at_any c.args.jobs.now c.args.head c.requires.within) c.requires.within c.loop-next.next c.loop-next.invariant c.loop-next-test.true
      (at c.args.jobs.now c.loop-next.next.tail)
      (at_any c.args.jobs.now c.loop-next.next.tail (omega (arith, c.loop-next-test.true, c.requires.within))),
)

pub loop-next-preserved : goal.loop-next-preserved
loop-next-preserved c =
    subst (λ (n : ℕ). IsSliding c.args.of.period c.args.of.limit c.args.seen c.args.jobs.now c.args.head
    (record { tail = c.loop-next.next.tail + 1; sum = c.loop-next.next.sum - n })) (sym c.amount_of.ensures)
    (sliding_past c.args.of.period c.args.of.limit c.args.seen c.args.jobs.now c.requires.rising c.args.head (at c.args.jobs.now c.args.head)
    (at_any c.args.jobs.now c.args.head c.requires.within) c.requires.within c.loop-next.next c.loop-next.invariant c.loop-next-test.true
    (at c.args.jobs.now c.loop-next.next.tail)
    (at_any c.args.jobs.now c.loop-next.next.tail (omega (arith, c.loop-next-test.true, c.requires.within)))
    (omega (arith, c.if-from.false, c.from.ensures, c.from-in-loop-next.ensures, c.from-in-loop-next-2.ensures)))
