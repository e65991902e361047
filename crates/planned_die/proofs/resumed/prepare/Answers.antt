use Rattle.std.proofs.Common.{refl, sym, ap, ◌∙◌, subst, length}
use Rattle.planned_die.specs.Resuming.{HaveEnough, lacks_of, IsFirstShort, RefusesPlanned}
use Rattle.planned_die.specs.NewPlans.{IsSomeLife}
use Rattle.planned_log.specs.Lives.{IsLife}
use Rattle.slot_core.specs.Core.{with_slots, with_arrivals}
use Rattle.demand_rules.specs.Faults.{IsTermsFault}
use Rattle.demand_rules.specs.Supply.{PassesSupply}
use Rattle.demand_rules.specs.Demand.{HasTerms, PassesDemand}
use Rattle.slot_types.specs.declared.plans.DiePlan.{DiePlan}
use Rattle.planned_die.proofs.resumed.prepare.Goals as goal

pub life_of-requires-clause-has : goal.life_of-requires-clause-has
life_of-requires-clause-has g c =
    subst (λ (p : DiePlan). HasTerms p c.args.terms.now) (c.plan.ensures ∙ sym c.plan-2.ensures) (c.in-Ok.ensures.passes.0 refl).0.has

pub asks_of_lacks-requires-clause-has : goal.asks_of_lacks-requires-clause-has
asks_of_lacks-requires-clause-has g c =
    subst (λ (p : DiePlan). HasTerms p c.args.terms.now) (c.plan.ensures ∙ sym c.plan-4.ensures) (c.in-Ok.ensures.passes.0 refl).0.has

pub asks_of_lacks-requires-clause-enough : goal.asks_of_lacks-requires-clause-enough
asks_of_lacks-requires-clause-enough g c =
    subst (λ (p : DiePlan). HaveEnough p c.args.terms.now c.args.balances.now) (c.plan-3.ensures ∙ sym c.plan-4.ensures) c.in-None-first_shortage.ensures.none

pub most_arrivals-most-requires-clause-has : goal.most_arrivals-most-requires-clause-has
most_arrivals-most-requires-clause-has g c =
    subst (λ (p : DiePlan). HasTerms p c.args.terms.now) (c.plan.ensures ∙ sym c.plan-5.ensures) (c.in-Ok.ensures.passes.0 refl).0.has

pub most_arrivals-most-requires-clause-life : goal.most_arrivals-most-requires-clause-life
most_arrivals-most-requires-clause-life g c =
    subst (λ (p : DiePlan). IsLife p c.args.terms.now c.in-Some.life) (c.plan-2.ensures ∙ sym c.plan-5.ensures) c.in-Some.ensures.life.is_life

pub returns-in-Ok-reserve_for-clause-core : goal.returns-in-Ok-reserve_for-clause-core
returns-in-Ok-reserve_for-clause-core g c =
    c.in-Ok-reserve_for.ensures.ok ∙ ap (λ n. with_slots c.in-Some.life (with_arrivals n n c.args.core.now)) c.most_arrivals-most.ensures

pub returns-in-Ok-reserve_for-clause-asked : goal.returns-in-Ok-reserve_for-clause-asked
returns-in-Ok-reserve_for-clause-asked g c =
    c.in-Ok-asks_of_lacks.ensures.jobs ∙ ap (λ (p : DiePlan). lacks_of p c.args.balances.now (length p.caps)) c.plan-4.ensures

pub returns-in-Ok-reserve_for-clause-life : goal.returns-in-Ok-reserve_for-clause-life
returns-in-Ok-reserve_for-clause-life g c =
    subst (λ (p : DiePlan). IsSomeLife p c.args.terms.now c.args.longest c.in-Some.life) c.plan-2.ensures c.in-Some.ensures.life

pub returns-in-Ok-reserve_for-clause-longer : goal.returns-in-Ok-reserve_for-clause-longer
returns-in-Ok-reserve_for-clause-longer g c other h =
    c.in-Some.ensures.longer other (subst (λ (p : DiePlan). IsSomeLife p c.args.terms.now c.args.longest other) (sym c.plan-2.ensures) h)

pub returns-in-Ok-reserve_for-clause-passes : goal.returns-in-Ok-reserve_for-clause-passes
returns-in-Ok-reserve_for-clause-passes g c =
    subst (λ (p : DiePlan). PassesDemand p c.args.terms.now × PassesSupply p c.args.terms.now) c.plan.ensures (c.in-Ok.ensures.passes.0 refl)

pub returns-in-Ok-reserve_for-clause-stocked : goal.returns-in-Ok-reserve_for-clause-stocked
returns-in-Ok-reserve_for-clause-stocked g c =
    subst (λ (p : DiePlan). HaveEnough p c.args.terms.now c.args.balances.now) c.plan-3.ensures c.in-None-first_shortage.ensures.none

pub returns-in-Err-clause-refused : goal.returns-in-Err-clause-refused
returns-in-Err-clause-refused g c =
    subst (λ (p : DiePlan). IsTermsFault p c.args.terms.now c.in-Err.fault) c.plan.ensures c.in-Err.ensures.fault

pub returns-in-None-clause-refused : goal.returns-in-None-clause-refused
returns-in-None-clause-refused g c = (
  subst (λ (p : DiePlan). PassesDemand p c.args.terms.now) c.plan.ensures (c.in-Ok.ensures.passes.0 refl).0,
  subst (λ (p : DiePlan). PassesSupply p c.args.terms.now) c.plan.ensures (c.in-Ok.ensures.passes.0 refl).1,
  (λ life h. c.in-None.ensures.none life (subst (λ (p : DiePlan). IsSomeLife p c.args.terms.now c.args.longest life) (sym c.plan-2.ensures) h)),
)

pub returns-in-Some-first_shortage-clause-refused : goal.returns-in-Some-first_shortage-clause-refused
returns-in-Some-first_shortage-clause-refused g c = (
  subst (λ (p : DiePlan). PassesDemand p c.args.terms.now) c.plan.ensures (c.in-Ok.ensures.passes.0 refl).0,
  subst (λ (p : DiePlan). PassesSupply p c.args.terms.now) c.plan.ensures (c.in-Ok.ensures.passes.0 refl).1,
  (c.in-Some.life, subst (λ (p : DiePlan). IsSomeLife p c.args.terms.now c.args.longest c.in-Some.life) c.plan-2.ensures c.in-Some.ensures.life),
  subst (λ (p : DiePlan). IsFirstShort p c.args.terms.now c.args.balances.now c.in-Some-first_shortage.shortage) c.plan-3.ensures
      c.in-Some-first_shortage.ensures.some,
)

pub returns-in-Err-asks_of_lacks-clause-refused : goal.returns-in-Err-asks_of_lacks-clause-refused
returns-in-Err-asks_of_lacks-clause-refused g c =
    subst (RefusesPlanned c.args.core.now.start.plan c.args.terms.now c.args.longest c.args.balances.now) (sym c.no_memory.ensures) refl

pub returns-in-Err-reserve_for-clause-refused : goal.returns-in-Err-reserve_for-clause-refused
returns-in-Err-reserve_for-clause-refused g c =
    subst (RefusesPlanned c.args.core.now.start.plan c.args.terms.now c.args.longest c.args.balances.now) (sym c.no_memory-in-Err-reserve_for.ensures) refl
