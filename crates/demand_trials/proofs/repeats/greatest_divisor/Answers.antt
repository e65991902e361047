use Rattle.std.proofs.Common.{arith}
use Rattle.std.proofs.lemmas.Nat.Gcd.{IsGcd-from_zero, IsGcd-from_mod}
use Rattle.demand_trials.proofs.repeats.greatest_divisor.Goals as goal

pub loop-rest-preserved : goal.loop-rest-preserved
loop-rest-preserved c = record {
  some = omega (arith, c.loop-rest-test.true);
  greatest = λ g h. c.loop-rest.invariant.greatest g (IsGcd-from_mod _ _ g h);
}

pub returns-clause-greatest : goal.returns-clause-greatest
returns-clause-greatest c = c.loop-rest.invariant.greatest _ (IsGcd-from_zero _ _ (omega (arith, c.loop-rest-test.false)))
