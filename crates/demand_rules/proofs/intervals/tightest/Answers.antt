use Rattle.std.proofs.Common.{arith}
use Rattle.demand_rules.proofs.Steadying.{some_demand}
use Rattle.demand_rules.proofs.intervals.tightest.Goals as goal

pub loop-above-init : goal.loop-above-init
loop-above-init c = record {
  order = omega arith;
  few = omega arith;
  has = λ slots within some. omega (arith, c.requires.fits slots within);
  within = omega arith;
  asked = some_demand c.args.plan.now c.args.terms.now c.requires.bound.limits.some_tasks c.requires.has;
  short = omega arith;
}
