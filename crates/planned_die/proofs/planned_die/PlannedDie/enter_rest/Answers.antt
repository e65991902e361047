use Rattle.std.proofs.Common.{◌≡◌, ℕ, ◌+◌, ◌≤◌, None, List, length, length-drop, take, drop, refl, ap, sym, subst, ◌∙◌, arith}
use Rattle.slot_types.specs.declared.limits.TheConstants.{MAX_OPS}
use Rattle.slot_types.specs.declared.events.Op.{Op}
use Rattle.die_log.specs.Model.Log.{jobs}
use Rattle.die_log.specs.Model.Lives.{Lives}
use Rattle.planned_log.specs.Bursts.{jobs_of}
use Rattle.planned_log.proofs.Bursts.{jobs_none, jobs_more}
use Rattle.planned_die.specs.Planned.{HasLived}
use Rattle.planned_die.specs.PlannedCalls.{refusal_in, burst_refusal_in, HasAsked, HaveAsked}
use Rattle.planned_die.proofs.InTurn.{runs_on, number_is, next_number, job_none, left_none, few_ops, one_more}
use Rattle.planned_die.proofs.planned_die.PlannedDie.enter_rest.Goals as goal

pub enter-requires-clause-unrefused : goal.enter-requires-clause-unrefused
enter-requires-clause-unrefused g c =
    let l = c.loop-left in
    let q = l.invariant.rest in
    let some : 1 ≤ length l.left.now = omega (arith, c.loop-left-test.true) in (
      q.0,
      q.1,
      subst (λ (job : List Op). refusal_in l.self q.0 c.args.task job ≡ None) (sym c.cut.ensures.job)
          (job_none l.self q.0 q.1 c.args.caller c.args.task l.left.now (q.2 some)),
    )

pub overflow_add-entered : goal.overflow_add-entered
overflow_add-entered g c =
    let l = c.loop-left in
    let r = c.requires.unrefused in
    let some : 1 ≤ length c.args.ops.now = omega (arith, c.loop-left-test.true, l.invariant.few) in
    record { fits = omega (arith, c.loop-left-test.true, l.invariant.few, (few_ops c.args.self.now r.0 r.1 c.args.caller c.args.task c.args.ops.now (r.2 some)).1) }

pub loop-left-smaller : goal.loop-left-smaller
loop-left-smaller g c = omega (arith, c.loop-left-test.true, ap length c.cut.ensures.rest, length-drop MAX_OPS c.loop-left.left.now)

pub loop-left-preserved : goal.loop-left-preserved
loop-left-preserved g c =
    let l = c.loop-left in
    let q = l.invariant.rest in
    let some : 1 ≤ length l.left.now = omega (arith, c.loop-left-test.true) in
    let job : List Op = take MAX_OPS l.left.now in
    let asked : (earlier : Lives) → HasLived l.self earlier
    → HasAsked c.args.caller c.args.task (take MAX_OPS l.left.now) earlier c.enter.result l.self c.enter.new.self =
    λ earlier h. subst (λ (ops : List Op). HasAsked c.args.caller c.args.task ops earlier c.enter.result l.self c.enter.new.self) c.cut.ensures.job
    (c.enter.ensures.asked earlier h) in
    let number : c.enter.result ≡ length (jobs l.self.core.log) =
    number_is l.self c.enter.new.self q.0 q.1 c.args.caller c.args.task c.enter.result (take MAX_OPS l.left.now) (asked q.0 q.1) in
    let next : length (jobs c.enter.new.self.core.log) ≡ c.enter.result + 1 =
    next_number l.self c.enter.new.self q.0 q.1 c.args.caller c.args.task c.enter.result (take MAX_OPS l.left.now) (asked q.0 q.1) in
    record {
      lived = λ earlier h. c.enter.ensures.lived earlier (l.invariant.lived earlier h);
      rest = (
        q.0,
        c.enter.ensures.lived q.0 q.1,
        λ more. subst (λ (ops : List Op). burst_refusal_in c.enter.new.self q.0 c.args.task ops ≡ None) (sym c.cut.ensures.rest)
            (left_none l.self q.0 q.1 c.args.caller c.args.task l.left.now (q.2 some) c.enter.new.self c.enter.result (asked q.0 q.1)
            (subst (λ (ops : List Op). 1 ≤ length ops) c.cut.ensures.rest more)),
      );
      runs = runs_on l.self c.enter.new.self q.0 q.1 c.args.caller c.args.task c.enter.result (take MAX_OPS l.left.now) (asked q.0 q.1) ∙ l.invariant.runs;
      asked = λ earlier h after k. l.invariant.asked earlier h after
          (subst (λ n. HaveAsked c.args.caller c.args.task (jobs_of l.left.now) earlier n l.self after) number
          (one_more c.args.caller c.args.task c.enter.result (length (jobs c.enter.new.self.core.log)) l.left.now earlier l.self c.enter.new.self after some next
          (asked earlier (l.invariant.lived earlier h))
          (subst (λ (ops : List Op). HaveAsked c.args.caller c.args.task (jobs_of ops) earlier (length (jobs c.enter.new.self.core.log)) c.enter.new.self after)
          c.cut.ensures.rest k)));
      counts = omega (
        arith,
        l.invariant.counts,
        ap (λ (js : List (List Op)). length js) (jobs_more l.left.now some),
        ap (λ (ops : List Op). length (jobs_of ops)) c.cut.ensures.rest,
      );
      few = omega (arith, some, l.invariant.few, ap length c.cut.ensures.rest, length-drop MAX_OPS l.left.now);
    }

pub returns-clause-asked : goal.returns-clause-asked
returns-clause-asked g c earlier h =
    let l = c.loop-left in
    l.invariant.asked earlier h l.self
    (subst (λ (js : List (List Op)). HaveAsked c.args.caller c.args.task js earlier (length (jobs l.self.core.log)) l.self l.self)
    (sym (jobs_none l.left.now (omega (arith, c.loop-left-test.false)))) refl)

pub returns-clause-jobs : goal.returns-clause-jobs
returns-clause-jobs g c =
    let l = c.loop-left in
    omega (arith, l.invariant.counts, ap (λ (js : List (List Op)). length js) (jobs_none l.left.now (omega (arith, c.loop-left-test.false))))
