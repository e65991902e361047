use Rattle.std.proofs.Common.{arith, refl}
use Rattle.flashplan_breaches.proofs.Trying.{few_mapped}
use Rattle.flashplan_breaches.proofs.any_breach.any_breach.Goals as goal

pub returns-clause-none : goal.returns-clause-none
returns-clause-none c none = record {
  few = few_mapped c.args.all.now (omega (arith, c.if-all.false));
  planned = c.in_default.ensures.none refl;
  apart = c.in_default-near.ensures.none refl;
  collected = c.miscounted.ensures.none none;
}
