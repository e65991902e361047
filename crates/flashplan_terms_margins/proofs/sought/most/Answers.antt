use Rattle.std.proofs.Common.{arith}
use Rattle.flashplan_terms_margins.proofs.Alike.{does-for, doesnt-for, still-alike}
use Rattle.flashplan_terms_margins.proofs.sought.most.Goals as goal

pub loop-with-preserved-then-does : goal.loop-with-preserved-then-does
loop-with-preserved-then-does c = record {
  same = still-alike c.args.task _ _ _ c.tried-made-in-loop-with.ensures.alike c.loop-with.invariant.same;
  order = omega (arith, c.loop-with-test.true);
  above = omega (arith, c.loop-with.invariant.above);
  below = c.loop-with.invariant.below;
  does = does-for c.args.task c.loop-with.trial c.args.made _ _ _ c.loop-with.invariant.same c.with_number-in-loop-with.ensures
      c.tried-made-in-loop-with.ensures.does c.if-does.true;
  beyond = c.loop-with.invariant.beyond;
}

pub loop-with-preserved : goal.loop-with-preserved
loop-with-preserved c = record {
  same = still-alike c.args.task _ _ _ c.tried-made-in-loop-with.ensures.alike c.loop-with.invariant.same;
  order = omega (arith, c.loop-with-test.true);
  above = c.loop-with.invariant.above;
  below = omega (arith, c.loop-with.invariant.below, c.loop-with-test.true);
  does = c.loop-with.invariant.does;
  beyond = λ few. doesnt-for c.args.task c.loop-with.trial c.args.made _ _ _ c.loop-with.invariant.same c.with_number-in-loop-with.ensures
      c.tried-made-in-loop-with.ensures.does c.if-does.false;
}
