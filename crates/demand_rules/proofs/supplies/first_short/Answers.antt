use Rattle.std.proofs.Common.{get_or, arith, refl}
use Rattle.std.proofs.lemmas.Bool.{true≢false}
use Rattle.plan_rules.proofs.Zips.{zip_at, zip_by, at_any, at_next}
use Rattle.demand_rules.specs.Supply.{IsSustained}
use Rattle.demand_rules.proofs.supplies.first_short.Goals as goal

pub returns-in-Some-clause-none : goal.returns-in-Some-clause-none
returns-in-Some-clause-none c = (
  λ none. absurd (true≢false none),
  λ all. c.in-Some.ensures.none.1 (zip_at (IsSustained c.args.plan.now) c.args.caps.now c.args.tasks.now c.loop-i.i _ _ all c.loop-i-test.true),
)

pub loop-i-preserved : goal.loop-i-preserved
loop-i-preserved c k most task =
    at_next (λ i. IsSustained c.args.plan.now (get_or c.args.caps.now i most) (get_or c.args.tasks.now i task)) c.loop-i.i
    (λ i lt. c.loop-i.invariant i most task lt)
    (at_any (IsSustained c.args.plan.now) c.args.caps.now c.args.tasks.now c.loop-i.i _ most _ task c.loop-i-test.true
    (omega (arith, c.loop-i-test.true, c.requires.one_each)) (c.in_default.ensures.none.0 refl)) k

pub returns-clause-none : goal.returns-clause-none
returns-clause-none c = (
  λ yes_it_is. zip_by (IsSustained c.args.plan.now) c.args.caps.now c.args.tasks.now c.requires.one_each
      (λ i d e lt. c.loop-i.invariant i d e (omega arith)),
  λ all. refl,
)
