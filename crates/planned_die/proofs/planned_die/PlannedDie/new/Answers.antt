use Rattle.std.proofs.Common.{◌≡◌, ◌≤◌, List, [], length, refl, ap, sym, subst, ◌∙◌, arith, inl, inr, Err, replicate, ◌⊎◌}
use Rattle.slot_types.specs.declared.refusals.Refusal.{Refusal}
use Rattle.slot_types.specs.declared.plans.Shape.{Shape}
use Rattle.demand_rules.specs.Faults.{IsTermsFault}
use Rattle.std.specs.Prelude.{All}
use Rattle.std.proofs.lemmas.List.{length-replicate}
use Rattle.std.proofs.lemmas.List.Elements.{All-replicate}
use Rattle.slot_types.specs.declared.plans.DiePlan.{DiePlan}
use Rattle.plan_rules.specs.Bound.{MeetsBound}
use Rattle.demand_rules.specs.Demand.{PassesDemand, HasTerms}
use Rattle.demand_rules.specs.Supply.{PassesSupply}
use Rattle.die_log.specs.Model.Start.{Start, fresh}
use Rattle.die_log.specs.Model.Opening.{IsOpening}
use Rattle.slot_core.specs.Core.{Core, with_slots, with_arrivals}
use Rattle.planned_log.specs.Lives.{IsLife}
use Rattle.planned_die.specs.declared.memory.AskedJob.{AskedJob}
use Rattle.slot_types.specs.declared.refusals.Refusal.TheVariants as because
use Rattle.planned_die.specs.NewPlans.{IsSomeLife, RefusesDie}
use Rattle.planned_die.specs.Planned.{HasLived, with_life}
use Rattle.planned_die.proofs.Beginning.{new_lived}
use Rattle.planned_die.proofs.Reserved.{life_reserved}
use Rattle.planned_die.proofs.Quiet.{quiet_at_once}
use Rattle.planned_die.proofs.planned_die.PlannedDie.new.Goals as goal

-- as the die below refuses
refuses_die : (plan : DiePlan) (shape : Shape) (r : Refusal) → (r ≡ because.BadShape) ⊎ ((r ≡ because.BadPlan) ⊎ (r ≡ because.NoMemory))
    → (r ≡ because.BadShape → RefusesDie plan shape because.BadShape) → (r ≡ because.BadPlan → RefusesDie plan shape because.BadPlan)
    → RefusesDie plan shape r
refuses_die plan shape r (inl e) of_shape of_plan = subst (λ (w : Refusal). RefusesDie plan shape w) (sym e) (of_shape e)
refuses_die plan shape r (inr (inl e)) of_shape of_plan = subst (λ (w : Refusal). RefusesDie plan shape w) (sym e) (of_plan e)
refuses_die plan shape r (inr (inr e)) of_shape of_plan = subst (λ (w : Refusal). RefusesDie plan shape w) (sym e) tt

pub returns-clause-longer : goal.returns-clause-longer
returns-clause-longer g c other h =
    c.in-Some.ensures.longer other (subst (λ (p : DiePlan). IsSomeLife p c.args.terms c.args.longest other)
    (sym (c.plan-2.ensures ∙ ap (λ (core : Core g.row.N.Denot). core.start.plan) c.in-Ok.ensures.ok)) h)

-- the die below with memory for its life
pub returns-clause-ok : goal.returns-clause-ok
returns-clause-ok g c =
    c.in-Ok-reserve_life.ensures.ok
    ∙ (ap (λ n. with_slots c.in-Some.life (with_arrivals n n c.in-Ok.core)) c.most_arrivals-most.ensures
    ∙ ap (with_life c.args.terms c.in-Some.life) c.in-Ok.ensures.ok)

pub returns-clause-lived : goal.returns-clause-lived
returns-clause-lived g c =
    let made = c.in-Ok-reserve_life.ensures.ok in
    let plan_is : c.reserve_life.new.core.start.plan ≡ c.in-Ok.core.start.plan = ap (λ (core : Core g.row.N.Denot). core.start.plan) made in
    let passes = c.in-Ok-terms_test.ensures.passes.0 refl in
    subst (λ (l : List (List AskedJob)). HasLived {N = g.row.N.Denot} (record {
      core = c.reserve_life.new.core;
      terms = c.args.terms;
      life = c.in-Some.life;
      entered = 0;
      first = 0;
      asked = l;
    }) []) (sym c.in-Ok-new_asks.ensures.jobs)
    (new_lived c.reserve_life.new.core c.args.plan c.args.terms c.in-Some.life c.len.result
    (ap (λ (core : Core g.row.N.Denot). core.start) made ∙ ap (λ (core : Core g.row.N.Denot). core.start) c.in-Ok.ensures.ok)
    (ap (λ (core : Core g.row.N.Denot). core.log) made ∙ ap (λ (core : Core g.row.N.Denot). core.log) c.in-Ok.ensures.ok)
    (subst (λ (s : Start). IsOpening s) (sym (ap (λ (core : Core g.row.N.Denot). core.start) made)) c.promises.ensures.opens)
    (subst (λ (p : DiePlan). PassesDemand p c.args.terms) (c.plan.ensures ∙ sym plan_is) passes.0)
    (subst (λ (p : DiePlan). PassesSupply p c.args.terms) (c.plan.ensures ∙ sym plan_is) passes.1)
    (subst (λ (p : DiePlan). IsLife p c.args.terms c.in-Some.life) (c.plan-2.ensures ∙ sym plan_is) c.in-Some.ensures.life.is_life))

pub invariant_of-result : goal.invariant_of-result
invariant_of-result g c = (
  record {
    reserved = life_reserved c.args.terms c.in-Some.life c.in-Ok.core c.reserve_life.new.core
        (c.in-Ok-reserve_life.ensures.ok ∙ ap (λ n. with_slots c.in-Some.life (with_arrivals n n c.in-Ok.core)) c.most_arrivals-most.ensures);
    earlier = [];
    lived = returns-clause-lived g c;
    early = omega arith;
    asked_early = subst (λ (l : List (List AskedJob)). All (All (λ (j : AskedJob). j.at ≤ 4611686018427387904)) l) (sym c.in-Ok-new_asks.ensures.jobs)
        (All-replicate (All (λ (j : AskedJob). j.at ≤ 4611686018427387904)) c.len.result [] (λ k d lt. absurd (omega (arith, lt))));
    one_each = ap length c.in-Ok-new_asks.ensures.jobs
        ∙ (length-replicate c.len.result [] ∙ (c.len.ensures ∙ ap (λ (p : DiePlan). length p.caps) c.plan-4.ensures));
  },
  c.in-Ok-new_asks.ensures.kept c.args.terms _,
  c.in-Ok-new_asks.ensures.memory,
  quiet_at_once c.args.terms.tasks _,
)

pub most_arrivals-most-requires-clause-life : goal.most_arrivals-most-requires-clause-life
most_arrivals-most-requires-clause-life g c =
    subst (λ (p : DiePlan). IsLife p c.args.terms c.in-Some.life) (c.plan-2.ensures ∙ sym c.plan-3.ensures) c.in-Some.ensures.life.is_life

pub returns-in-None-clause-refused : goal.returns-in-None-clause-refused
returns-in-None-clause-refused g c =
    let passes = c.in-Ok-terms_test.ensures.passes.0 refl in
    let starts : c.in-Ok.core.start ≡ fresh c.args.plan = ap (λ (core : Core g.row.N.Denot). core.start) c.in-Ok.ensures.ok in
    let plan_is : c.in-Ok.core.start.plan ≡ c.args.plan = ap (λ (s : Start). s.plan) starts in (
      subst (λ (p : DiePlan). MeetsBound p) plan_is c.promises.ensures.opens.bound,
      subst (λ (p : DiePlan). PassesDemand p c.args.terms) (c.plan.ensures ∙ plan_is) passes.0,
      subst (λ (p : DiePlan). PassesSupply p c.args.terms) (c.plan.ensures ∙ plan_is) passes.1,
      (λ life h. c.in-None.ensures.none life (subst (λ (p : DiePlan). IsSomeLife p c.args.terms c.args.longest life) (sym (c.plan-2.ensures ∙ plan_is)) h)),
    )

pub terms_test-requires : goal.terms_test-requires
terms_test-requires g c = subst MeetsBound (sym c.plan.ensures) c.promises.ensures.opens.bound

pub life_of-requires-clause-has : goal.life_of-requires-clause-has
life_of-requires-clause-has g c = subst (λ (p : DiePlan). HasTerms p c.args.terms) (c.plan.ensures ∙ sym c.plan-2.ensures) (c.in-Ok-terms_test.ensures.passes.0 refl).0.has

pub life_of-requires-clause-few : goal.life_of-requires-clause-few
life_of-requires-clause-few g c = omega (arith, c.promises.ensures.opens.bound.limits.few_tasks, ap (λ (p : DiePlan). length p.caps) c.plan-2.ensures)

pub most_arrivals-most-requires-clause-has : goal.most_arrivals-most-requires-clause-has
most_arrivals-most-requires-clause-has g c = subst (λ (p : DiePlan). HasTerms p c.args.terms) (c.plan.ensures ∙ sym c.plan-3.ensures) (c.in-Ok-terms_test.ensures.passes.0 refl).0.has

pub most_arrivals-most-requires-clause-few : goal.most_arrivals-most-requires-clause-few
most_arrivals-most-requires-clause-few g c = omega (arith, c.promises.ensures.opens.bound.limits.few_tasks, ap (λ (p : DiePlan). length p.caps) c.plan-3.ensures)

pub returns-clause-begins : goal.returns-clause-begins
returns-clause-begins g c = (
  refl,
  refl,
  refl,
  c.in-Ok-new_asks.ensures.jobs ∙ ap (λ n. replicate n []) (c.len.ensures ∙ ap (λ (p : DiePlan). length p.caps) (c.plan-4.ensures
      ∙ (ap (λ (core : Core g.row.N.Denot). core.start.plan) c.in-Ok-reserve_life.ensures.ok
      ∙ ap (λ (core : Core g.row.N.Denot). core.start.plan) c.in-Ok.ensures.ok))),
)

pub returns-clause-life : goal.returns-clause-life
returns-clause-life g c =
    let plan_is : c.in-Ok.core.start.plan ≡ c.args.plan = ap (λ (core : Core g.row.N.Denot). core.start.plan) c.in-Ok.ensures.ok in
    subst (λ (p : DiePlan). IsSomeLife p c.args.terms c.args.longest c.in-Some.life) (c.plan-2.ensures ∙ plan_is) c.in-Some.ensures.life

pub returns-clause-passes : goal.returns-clause-passes
returns-clause-passes g c =
    let plan_is : c.in-Ok.core.start.plan ≡ c.args.plan = ap (λ (core : Core g.row.N.Denot). core.start.plan) c.in-Ok.ensures.ok in
    subst (λ (p : DiePlan). PassesDemand p c.args.terms × PassesSupply p c.args.terms) (c.plan.ensures ∙ plan_is) (c.in-Ok-terms_test.ensures.passes.0 refl)

pub returns-in-Err-clause-refused : goal.returns-in-Err-clause-refused
returns-in-Err-clause-refused g c =
    refuses_die c.args.plan _ c.in-Err.refusal c.in-Err.ensures.refused (λ e. c.in-Err.ensures.bad_shape.0 (ap Err e))
    (λ e. c.in-Err.ensures.bad_plan.0 (ap Err e))

pub returns-in-Err-terms_test-clause-refused : goal.returns-in-Err-terms_test-clause-refused
returns-in-Err-terms_test-clause-refused g c =
    let plan_is : c.in-Ok.core.start.plan ≡ c.args.plan = ap (λ (core : Core g.row.N.Denot). core.start.plan) c.in-Ok.ensures.ok in (
      subst MeetsBound plan_is c.promises.ensures.opens.bound,
      subst (λ (p : DiePlan). IsTermsFault p c.args.terms c.in-Err-terms_test.fault) (c.plan.ensures ∙ plan_is) c.in-Err-terms_test.ensures.fault,
    )

pub returns-in-Err-reserve_life-clause-refused : goal.returns-in-Err-reserve_life-clause-refused
returns-in-Err-reserve_life-clause-refused g c = subst (λ r. RefusesDie c.args.plan (g.N.Nand.shape_of c.args.nand) r) (sym c.in-Err-reserve_life.ensures.refused) tt
