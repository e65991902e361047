use Rattle.std.proofs.Common.{refl, sym, arith}
use Rattle.std.proofs.lemmas.Bool.{true≢false}
use Rattle.plan_rules.proofs.Walking.{how_many}
use Rattle.demand_keeping.specs.Breaches.{IsFirstBreach}
use Rattle.demand_keeping.proofs.Breaking.{breaks, keeps_if}
use Rattle.demand_keeping.proofs.AnswersOfBreaches.{none_is, some_is}
use Rattle.demand_keeping.proofs.keeping.keeps_demand_plan.Goals as goal

pub returns-then-slots-clause-breach : goal.returns-then-slots-clause-breach
returns-then-slots-clause-breach c = (
  c.in_default.ensures.has.0 refl,
  omega (arith, c.slots_of-slots.ensures, c.if-slots.true),
)

pub returns-then-events-slots-clause-keeps : goal.returns-then-events-slots-clause-keeps
returns-then-events-slots-clause-keeps c = (
  λ ok. absurd (true≢false (sym ok)),
  λ keeps. absurd (omega (
    arith,
    keeps.few_arrivals,
    how_many 0 c.args.events.now,
    c.slots_of-slots.ensures,
    c.if-events-slots.true,
  )),
)

pub returns-then-events-slots-clause-breach : goal.returns-then-events-slots-clause-breach
returns-then-events-slots-clause-breach c = (
  c.in_default.ensures.has.0 refl,
  omega (arith, c.slots_of-slots.ensures, c.if-slots.false),
  omega (arith, how_many 0 c.args.events.now, c.slots_of-slots.ensures, c.if-events-slots.true),
)

pub first_broken-requires-clause-limits : goal.first_broken-requires-clause-limits
first_broken-requires-clause-limits c = record {
  has = c.in_default.ensures.has.0 refl;
  few_slots = omega (arith, c.slots_of-slots.ensures, c.if-slots.false);
  few_arrivals = omega (arith, how_many 0 c.args.events.now, c.slots_of-slots.ensures, c.if-events-slots.false);
}

pub returns-in-Some-clause-keeps : goal.returns-in-Some-clause-keeps
returns-in-Some-clause-keeps c = (
  λ ok. absurd (true≢false (sym ok)),
  λ keeps. absurd (breaks c.args.plan.now c.args.terms.now c.args.events.now c.in-Some.breach c.in-Some.ensures.first keeps),
)

pub returns-in-Some-2-clause-keeps : goal.returns-in-Some-2-clause-keeps
returns-in-Some-2-clause-keeps c = (
  λ ok. absurd (true≢false (sym ok)),
  λ keeps. absurd (breaks c.args.plan.now c.args.terms.now c.args.events.now c.in-Some-2.breach
      (some_is (IsFirstBreach c.args.plan.now c.args.terms.now c.args.events.now) _ c.in-Some-2.breach c.in-Some-2.is
      c.in_ok-breach.ensures.first) keeps),
)

pub returns-in-None-clause-keeps : goal.returns-in-None-clause-keeps
returns-in-None-clause-keeps c = (
  λ ok. keeps_if c.args.plan.now c.args.terms.now c.args.events.now (c.in_default-first_broken.ensures.none refl)
      (c.in_ok-breach.ensures.none (none_is _ c.in-None.is)),
  λ keeps. refl,
)
