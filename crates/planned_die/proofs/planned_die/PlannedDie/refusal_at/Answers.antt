use Rattle.std.proofs.Common.{◌≡◌, ◌+◌, ◌≤◌, false, map, refl, sym, ◌∙◌, ap, subst, inl, inr, length, arith}
use Rattle.std.proofs.lemmas.List.{length-map}
use Rattle.slot_types.specs.declared.plans.DiePlan.{DiePlan}
use Rattle.demand_rules.specs.declared.terms.TaskTerms.{TaskTerms}
use Rattle.demand_rules.specs.Demand.{terms_of}
use Rattle.die_log.specs.Model.Log.{now}
use Rattle.planned_die.specs.Remembered.{jobs_of, AreKept}
use Rattle.planned_die.specs.Planned.{Planned}
use Rattle.planned_die.proofs.Asked.{asked_same}
use Rattle.planned_die.proofs.Later.{refusal_later, own_in_order}
use Rattle.planned_die.proofs.planned_die.PlannedDie.refusal_at.Goals as goal

pub returns-clause-refusal : goal.returns-clause-refusal
returns-clause-refusal g c =
    let die : Planned g.row.N.Denot = record {
      core = c.self.inside.core;
      terms = c.self.inside.terms;
      life = c.self.inside.life;
      entered = c.self.inside.entered;
      first = c.self.inside.first;
      asked = map jobs_of c.self.inside.asked.items;
    } in
    let runs : die.core.stopped ≡ false = sym c.is_stopped.ensures ∙ c.if-is_stopped.false in
    let later : now die.core.log ≤ c.args.slot =
    subst (λ (d : Planned g.row.N.Denot). now d.core.log ≤ c.args.slot) (sym c.self.view_is) c.requires.later in
    rw (← c.self.view_is) (λ earlier h. inr (
      runs,
      refusal_later c.args.kind die earlier h c.plan.result.now c.now-now.result c.args.slot die.asked c.args.task c.args.ops.now c.why_refused-refused.result
          c.terms_at-deadline.result.deadline c.say_later.result c.why_refused-refused.ensures.refused c.plan.ensures c.now-now.ensures refl
          (omega (arith, later, c.now-now.ensures))
          (own_in_order c.self.inside.asked.items (λ task d lt. (c.self.invariant.1 task d lt).in_order) c.args.task) c.say_later.ensures
          (ap (λ (t : TaskTerms). t.deadline) (c.terms_at-deadline.ensures ∙ ap (terms_of die.terms) c.task.view_is)),
    ))

pub returns-then-is_stopped-clause-refusal : goal.returns-then-is_stopped-clause-refusal
returns-then-is_stopped-clause-refusal g c =
    rw (← c.self.view_is) (λ earlier h. inl (sym c.is_stopped.ensures ∙ c.if-is_stopped.true, refl))

pub why_refused-refused-requires-clause-one_each : goal.why_refused-refused-requires-clause-one_each
why_refused-refused-requires-clause-one_each g c =
    sym (length-map c.self.inside.asked.items jobs_of) ∙ (c.self.invariant.0.one_each ∙ sym (ap (λ (p : DiePlan). length p.caps) c.plan.ensures))

pub why_refused-refused-requires-clause-kept : goal.why_refused-refused-requires-clause-kept
why_refused-refused-requires-clause-kept g c =
    subst (λ n. AreKept c.self.inside.terms (c.self.inside.first + n) c.self.inside.asked.items) (sym c.now-now.ensures) c.self.invariant.1

pub invariant_of-self : goal.invariant_of-self
invariant_of-self g c = (
  rw c.why_refused-refused.ensures.jobs c.self.invariant.0,
  subst (λ n. AreKept c.self.inside.terms (c.self.inside.first + n) c.why_refused-refused.new.asked.items) c.now-now.ensures c.why_refused-refused.ensures.kept,
  c.why_refused-refused.ensures.memory c.self.invariant.2,
  c.self.invariant.3,
)

pub returns-clause-unchanged : goal.returns-clause-unchanged
returns-clause-unchanged g c =
    let die : Planned g.row.N.Denot = record {
      core = c.self.inside.core;
      terms = c.self.inside.terms;
      life = c.self.inside.life;
      entered = c.self.inside.entered;
      first = c.self.inside.first;
      asked = map jobs_of c.self.inside.asked.items;
    } in
    asked_same die (map jobs_of c.why_refused-refused.new.asked.items) c.why_refused-refused.ensures.jobs ∙ c.self.view_is
