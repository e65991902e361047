use Rattle.std.proofs.Common.{arith}
use Rattle.flashplan_design.proofs.Dividing.{period_divides, collect_period_divides}
use Rattle.flashplan_design.proofs.divisors.common_of.Goals as goal

pub returns-in-Some-clause-period : goal.returns-in-Some-clause-period
returns-in-Some-clause-period c = record {
  some = omega (arith, c.if-times-ge1.true);
  few = omega (arith, c.if-times-le-MAX_SLOT.true);
  divides = λ n does. period_divides c.args.plan.now c.in-Some.times c.args.task n c.in-Some.is
      (omega (arith, c.if-task-len.true, c.len.ensures)) does;
}

pub returns-in-Some-clause-collect_period : goal.returns-in-Some-clause-collect_period
returns-in-Some-clause-collect_period c = record {
  some = omega (arith, c.if-times-ge1.true);
  few = omega (arith, c.if-times-le-MAX_SLOT.true);
  divides = λ n does. collect_period_divides c.args.plan.now c.in-Some.times c.args.task n c.in-Some.is
      (omega (arith, c.if-task-len.true, c.len.ensures)) does;
}
