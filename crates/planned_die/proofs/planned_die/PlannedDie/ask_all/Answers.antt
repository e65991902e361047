use Rattle.std.proofs.Common.{◌≡◌, ◌+◌, ◌≤◌, None, List, length, length-drop, take, drop, ap, sym, subst, ◌∙◌, arith}
use Rattle.slot_core.specs.Core.{Core}
use Rattle.slot_types.specs.declared.limits.TheConstants.{MAX_OPS}
use Rattle.slot_types.specs.declared.events.Op.{Op}
use Rattle.die_log.specs.Model.Log.{jobs}
use Rattle.planned_log.specs.Bursts.{jobs_of}
use Rattle.planned_log.proofs.Bursts.{jobs_more}
use Rattle.planned_die.specs.Planned.{Planned, HasLived}
use Rattle.planned_die.specs.PlannedCalls.{refusal_in, burst_refusal_in, HasAsked, HaveAsked}
use Rattle.planned_die.proofs.InTurn.{next_number, job_none, left_none, few_ops, one_more}
use Rattle.planned_die.proofs.planned_die.PlannedDie.ask_all.Goals as goal

pub enter-first-requires-clause-unrefused : goal.enter-first-requires-clause-unrefused
enter-first-requires-clause-unrefused g c =
    let die : Planned g.row.N.Denot = c.refuses_burst.new.self in
    let same : die ≡ c.args.self.now = c.refuses_burst.ensures.unchanged in
    let q = c.keeps_plan.ensures.lived in
    let none : burst_refusal_in die q.0 c.args.task c.args.ops.now ≡ None =
    subst (λ (d : Planned g.row.N.Denot). burst_refusal_in d q.0 c.args.task c.args.ops.now ≡ None) (sym same)
    (c.in-None.ensures.none q.0 (subst (λ (d : Planned g.row.N.Denot). HasLived d q.0) same q.1)) in (
      q.0,
      q.1,
      subst (λ (job : List Op). refusal_in die q.0 c.args.task job ≡ None) (sym c.cut.ensures.job)
          (job_none die q.0 q.1 c.args.caller c.args.task c.args.ops.now none),
    )

pub enter_rest-more-requires-clause-unrefused : goal.enter_rest-more-requires-clause-unrefused
enter_rest-more-requires-clause-unrefused g c =
    let die : Planned g.row.N.Denot = c.refuses_burst.new.self in
    let same : die ≡ c.args.self.now = c.refuses_burst.ensures.unchanged in
    let q = c.keeps_plan.ensures.lived in
    let none : burst_refusal_in die q.0 c.args.task c.args.ops.now ≡ None =
    subst (λ (d : Planned g.row.N.Denot). burst_refusal_in d q.0 c.args.task c.args.ops.now ≡ None) (sym same)
    (c.in-None.ensures.none q.0 (subst (λ (d : Planned g.row.N.Denot). HasLived d q.0) same q.1)) in
    let asked : HasAsked c.args.caller c.args.task (take MAX_OPS c.args.ops.now) q.0 c.enter-first.result die c.enter-first.new.self =
    subst (λ (ops : List Op). HasAsked c.args.caller c.args.task ops q.0 c.enter-first.result die c.enter-first.new.self) c.cut.ensures.job
    (c.enter-first.ensures.asked q.0 q.1) in (
      q.0,
      c.enter-first.ensures.lived q.0 q.1,
      λ more. subst (λ (ops : List Op). burst_refusal_in c.enter-first.new.self q.0 c.args.task ops ≡ None) (sym c.cut.ensures.rest)
          (left_none die q.0 q.1 c.args.caller c.args.task c.args.ops.now none c.enter-first.new.self c.enter-first.result asked
          (subst (λ (ops : List Op). 1 ≤ length ops) c.cut.ensures.rest more)),
    )

pub overflow_add-result : goal.overflow_add-result
overflow_add-result g c =
    let die : Planned g.row.N.Denot = c.refuses_burst.new.self in
    let same : die ≡ c.args.self.now = c.refuses_burst.ensures.unchanged in
    let q = c.keeps_plan.ensures.lived in
    let none : burst_refusal_in die q.0 c.args.task c.args.ops.now ≡ None =
    subst (λ (d : Planned g.row.N.Denot). burst_refusal_in d q.0 c.args.task c.args.ops.now ≡ None) (sym same)
    (c.in-None.ensures.none q.0 (subst (λ (d : Planned g.row.N.Denot). HasLived d q.0) same q.1)) in
    record {
      fits = omega (
        arith,
        c.enter_rest-more.ensures.few,
        ap length c.cut.ensures.rest,
        length-drop MAX_OPS c.args.ops.now,
        (few_ops die q.0 q.1 c.args.caller c.args.task c.args.ops.now none).1,
      );
    }

pub returns-clause-ask : goal.returns-clause-ask
returns-clause-ask g c earlier h =
    let die : Planned g.row.N.Denot = c.refuses_burst.new.self in
    let same : die ≡ c.args.self.now = c.refuses_burst.ensures.unchanged in
    let here : HasLived die earlier = subst (λ (d : Planned g.row.N.Denot). HasLived d earlier) (sym same) h in
    let none : burst_refusal_in die earlier c.args.task c.args.ops.now ≡ None =
    subst (λ (d : Planned g.row.N.Denot). burst_refusal_in d earlier c.args.task c.args.ops.now ≡ None) (sym same) (c.in-None.ensures.none earlier h) in
    let some : 1 ≤ length c.args.ops.now = (few_ops die earlier here c.args.caller c.args.task c.args.ops.now none).0 in
    let asked : HasAsked c.args.caller c.args.task (take MAX_OPS c.args.ops.now) earlier c.enter-first.result die c.enter-first.new.self =
    subst (λ (ops : List Op). HasAsked c.args.caller c.args.task ops earlier c.enter-first.result die c.enter-first.new.self) c.cut.ensures.job
    (c.enter-first.ensures.asked earlier here) in
    let next : length (jobs c.enter-first.new.self.core.log) ≡ c.enter-first.result + 1 =
    next_number die c.enter-first.new.self earlier here c.args.caller c.args.task c.enter-first.result (take MAX_OPS c.args.ops.now) asked in
    let rest : HaveAsked c.args.caller c.args.task (jobs_of (drop MAX_OPS c.args.ops.now)) earlier (length (jobs c.enter-first.new.self.core.log))
    c.enter-first.new.self c.enter_rest-more.new.self =
    subst (λ (ops : List Op). HaveAsked c.args.caller c.args.task (jobs_of ops) earlier (length (jobs c.enter-first.new.self.core.log))
    c.enter-first.new.self c.enter_rest-more.new.self) c.cut.ensures.rest
    (c.enter_rest-more.ensures.asked earlier (c.enter-first.ensures.lived earlier here)) in
    record {
      ran = c.in-None.ensures.runs;
      unrefused = c.in-None.ensures.none earlier h;
      asked = subst (λ (d : Planned g.row.N.Denot). HaveAsked c.args.caller c.args.task (jobs_of c.args.ops.now) earlier c.enter-first.result d
          c.enter_rest-more.new.self) same
          (one_more c.args.caller c.args.task c.enter-first.result (length (jobs c.enter-first.new.self.core.log)) c.args.ops.now earlier die
          c.enter-first.new.self c.enter_rest-more.new.self some next asked rest);
      counted = omega (
        arith,
        c.enter_rest-more.ensures.jobs,
        ap (λ (js : List (List Op)). length js) (jobs_more c.args.ops.now some),
        ap (λ (ops : List Op). length (jobs_of ops)) c.cut.ensures.rest,
      );
    }

pub returns-clause-lived : goal.returns-clause-lived
returns-clause-lived g c earlier h =
    c.enter_rest-more.ensures.lived earlier (c.enter-first.ensures.lived earlier
    (subst (λ (d : Planned g.row.N.Denot). HasLived d earlier) (sym c.refuses_burst.ensures.unchanged) h))

pub enter_rest-more-requires-clause-runs : goal.enter_rest-more-requires-clause-runs
enter_rest-more-requires-clause-runs g c =
    let q = c.keeps_plan.ensures.lived in
    ap (λ (core : Core g.row.N.Denot). core.stopped) (c.enter-first.ensures.asked q.0 q.1).entered.logged
    ∙ (c.enter-first.ensures.asked q.0 q.1).ran

pub returns-in-Some-clause-ask : goal.returns-in-Some-clause-ask
returns-in-Some-clause-ask g c earlier h = (c.refuses_burst.ensures.unchanged, c.in-Some.ensures.some earlier h)

pub returns-in-Some-clause-lived : goal.returns-in-Some-clause-lived
returns-in-Some-clause-lived g c earlier h =
    subst (λ (d : Planned g.row.N.Denot). HasLived d earlier) (sym c.refuses_burst.ensures.unchanged) h
