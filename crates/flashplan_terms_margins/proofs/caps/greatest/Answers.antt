use Rattle.std.proofs.Common.{arith}
use Rattle.flashplan_terms_margins.proofs.Capped.{cap-still-alike, meets-for, misses-for}
use Rattle.flashplan_terms_margins.proofs.caps.greatest.Goals as goal

pub loop-with-preserved-then-meets : goal.loop-with-preserved-then-meets
loop-with-preserved-then-meets c = record {
  same = cap-still-alike c.args.task _ _ _ c.tried-plan-in-loop-with.ensures.alike c.loop-with.invariant.same;
  order = omega (arith, c.loop-with-test.true);
  above = omega (arith, c.loop-with.invariant.above);
  below = c.loop-with.invariant.below;
  meets = meets-for c.args.task c.loop-with.trial c.args.plan _ _ c.loop-with.invariant.same c.tried-plan-in-loop-with.ensures.meets
      c.if-meets.true;
  beyond = c.loop-with.invariant.beyond;
}

pub loop-with-preserved : goal.loop-with-preserved
loop-with-preserved c = record {
  same = cap-still-alike c.args.task _ _ _ c.tried-plan-in-loop-with.ensures.alike c.loop-with.invariant.same;
  order = omega (arith, c.loop-with-test.true);
  above = c.loop-with.invariant.above;
  below = omega (arith, c.loop-with.invariant.below, c.loop-with-test.true);
  meets = c.loop-with.invariant.meets;
  beyond = λ few. misses-for c.args.task c.loop-with.trial c.args.plan _ _ c.loop-with.invariant.same c.tried-plan-in-loop-with.ensures.meets
      c.if-meets.false;
}
