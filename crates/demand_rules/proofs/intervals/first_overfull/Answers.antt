use Rattle.std.proofs.Common.{inl, inr, arith}
use Rattle.std.proofs.lemmas.Bool.{cases_lt}
use Rattle.demand_rules.proofs.Steadying.{none_fits}
use Rattle.demand_rules.proofs.intervals.first_overfull.Goals as goal

pub loop-over-init : goal.loop-over-init
loop-over-init c = record {
  order = elim (cases_lt 0 c.args.known) [
    | inl some ↦ some
    | inr none ↦ absurd (omega (
      arith,
      c.requires.over,
      none_fits c.args.plan.now c.args.terms.now c.args.known c.requires.has none,
    ))
  ];
  within = c.requires.within;
  asked = c.requires.over;
  fits = λ fewer few. none_fits c.args.plan.now c.args.terms.now fewer c.requires.has few;
}
