use Rattle.std.proofs.Common.{arith}
use Rattle.flashplan_terms_margins.proofs.Alike.{does-for, doesnt-for, still-alike}
use Rattle.flashplan_terms_margins.proofs.sought.least.Goals as goal

pub loop-beyond-preserved-then-does : goal.loop-beyond-preserved-then-does
loop-beyond-preserved-then-does c = record {
  same = still-alike c.args.task _ _ _ c.tried-made-in-loop-beyond.ensures.alike c.loop-beyond.invariant.same;
  order = omega (arith, c.loop-beyond-test.true);
  above = c.loop-beyond.invariant.above;
  below = omega (arith, c.loop-beyond.invariant.below, c.loop-beyond-test.true);
  does = does-for c.args.task c.loop-beyond.trial c.args.made _ _ _ c.loop-beyond.invariant.same c.with_number-in-loop-beyond.ensures
      c.tried-made-in-loop-beyond.ensures.does c.if-does.true;
  beyond = c.loop-beyond.invariant.beyond;
}

pub loop-beyond-preserved : goal.loop-beyond-preserved
loop-beyond-preserved c = record {
  same = still-alike c.args.task _ _ _ c.tried-made-in-loop-beyond.ensures.alike c.loop-beyond.invariant.same;
  order = omega (arith, c.loop-beyond-test.true);
  above = omega (arith, c.loop-beyond.invariant.above);
  below = c.loop-beyond.invariant.below;
  does = c.loop-beyond.invariant.does;
  beyond = λ some. doesnt-for c.args.task c.loop-beyond.trial c.args.made _ _ _ c.loop-beyond.invariant.same c.with_number-in-loop-beyond.ensures
      c.tried-made-in-loop-beyond.ensures.does c.if-does.false;
}
