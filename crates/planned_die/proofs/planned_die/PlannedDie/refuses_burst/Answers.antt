use Rattle.std.proofs.Common.{◌≡◌, false, map, refl, sym, ◌∙◌, ap, subst, inl, ◌+◌, length}
use Rattle.slot_types.specs.declared.plans.DiePlan.{DiePlan}
use Rattle.std.proofs.lemmas.List.{length-map}
use Rattle.demand_rules.specs.Demand.{terms_of}
use Rattle.die_log.specs.Model.Lives.{Lives}
use Rattle.planned_die.specs.Remembered.{jobs_of, AreKept}
use Rattle.planned_die.specs.Planned.{Planned, HasLived}
use Rattle.planned_die.specs.PlannedCalls.{burst_refusal_in}
use Rattle.planned_die.proofs.Asked.{refusal_above, asked_same}
use Rattle.planned_die.proofs.InTurn.{some_refused, none_refused}
use Rattle.planned_die.proofs.planned_die.PlannedDie.refuses_burst.Goals as goal

pub returns-clause-some : goal.returns-clause-some
returns-clause-some g c =
    let die : Planned g.row.N.Denot = record {
      core = c.self.inside.core;
      terms = c.self.inside.terms;
      life = c.self.inside.life;
      entered = c.self.inside.entered;
      first = c.self.inside.first;
      asked = map jobs_of c.self.inside.asked.items;
    } in
    let why : (earlier : Lives) → HasLived die earlier → c.why_refused.result ≡ burst_refusal_in die earlier c.args.task c.args.ops.now =
    λ earlier h. refusal_above (terms_of die.terms c.args.task).work die earlier h c.plan.result.now c.now-now.result die.asked c.args.task c.args.ops.now
    c.why_refused.result c.why_refused.ensures.refused c.plan.ensures c.now-now.ensures refl in
    let runs : die.core.stopped ≡ false = sym c.is_stopped.ensures ∙ c.if-is_stopped.false in
    rw (← c.self.view_is) (some_refused die c.args.task c.args.ops.now c.why_refused.result runs why)

pub returns-clause-none : goal.returns-clause-none
returns-clause-none g c =
    let die : Planned g.row.N.Denot = record {
      core = c.self.inside.core;
      terms = c.self.inside.terms;
      life = c.self.inside.life;
      entered = c.self.inside.entered;
      first = c.self.inside.first;
      asked = map jobs_of c.self.inside.asked.items;
    } in
    let why : (earlier : Lives) → HasLived die earlier → c.why_refused.result ≡ burst_refusal_in die earlier c.args.task c.args.ops.now =
    λ earlier h. refusal_above (terms_of die.terms c.args.task).work die earlier h c.plan.result.now c.now-now.result die.asked c.args.task c.args.ops.now
    c.why_refused.result c.why_refused.ensures.refused c.plan.ensures c.now-now.ensures refl in
    rw (← c.self.view_is) (none_refused die c.args.task c.args.ops.now c.why_refused.result why)

pub why_refused-requires-clause-one_each : goal.why_refused-requires-clause-one_each
why_refused-requires-clause-one_each g c =
    sym (length-map c.self.inside.asked.items jobs_of) ∙ (c.self.invariant.0.one_each ∙ sym (ap (λ (p : DiePlan). length p.caps) c.plan.ensures))

pub why_refused-requires-clause-kept : goal.why_refused-requires-clause-kept
why_refused-requires-clause-kept g c =
    subst (λ n. AreKept c.self.inside.terms (c.self.inside.first + n) c.self.inside.asked.items) (sym c.now-now.ensures) c.self.invariant.1

pub invariant_of-self : goal.invariant_of-self
invariant_of-self g c = (
  rw c.why_refused.ensures.jobs c.self.invariant.0,
  subst (λ n. AreKept c.self.inside.terms (c.self.inside.first + n) c.why_refused.new.asked.items) c.now-now.ensures c.why_refused.ensures.kept,
  c.why_refused.ensures.memory c.self.invariant.2,
  c.self.invariant.3,
)

pub returns-clause-unchanged : goal.returns-clause-unchanged
returns-clause-unchanged g c =
    let die : Planned g.row.N.Denot = record {
      core = c.self.inside.core;
      terms = c.self.inside.terms;
      life = c.self.inside.life;
      entered = c.self.inside.entered;
      first = c.self.inside.first;
      asked = map jobs_of c.self.inside.asked.items;
    } in
    asked_same die (map jobs_of c.why_refused.new.asked.items) c.why_refused.ensures.jobs ∙ c.self.view_is

pub returns-then-is_stopped-clause-some : goal.returns-then-is_stopped-clause-some
returns-then-is_stopped-clause-some g c =
    rw (← c.self.view_is) (λ earlier h. inl (sym c.is_stopped.ensures ∙ c.if-is_stopped.true, refl))
