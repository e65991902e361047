use Rattle.std.proofs.Common.{◌≡◌, ℕ, ◌+◌, ◌<◌, ◌≤◌, false, List, ◌∷◌, ◌++◌, [], length, get_or, set, map, drop, refl, ap, sym, subst, ◌∙◌, inr, arith, inl}
use Rattle.std.proofs.lemmas.List.{length-map}
use Rattle.slot_types.specs.declared.plans.DiePlan.{DiePlan}
use Rattle.slot_types.specs.Operations.{writes}
use Rattle.demand_rules.specs.declared.terms.TaskTerms.{TaskTerms}
use Rattle.demand_rules.specs.Demand.{terms_of, no_terms, IsTaskTerms}
use Rattle.die_log.specs.Model.Log.{now}
use Rattle.die_log.specs.Model.Lives.{Lives}
use Rattle.planned_die.specs.declared.memory.AskedJob.{AskedJob}
use Rattle.planned_die.specs.declared.task_asks.TaskAsks.{TaskAsks}
use Rattle.planned_die.specs.Remembered.{jobs_of, AreKept, HasRoomFor, HasRoomForOne}
use Rattle.planned_die.specs.Planned.{Planned, HasLived}
use Rattle.planned_die.specs.PlannedCalls.{refusal_in}
use Rattle.planned_die.proofs.Asked.{refusal_is, asked_same, IsUnrefused, has_asked, asked_lived, asked_planned, asked_kept, asked_now, asked_stands, some_of}
use Rattle.planned_die.proofs.Lists.{room_for}
use Rattle.planned_die.specs.OwnCollections.{AreQuiet}
use Rattle.planned_die.proofs.planned_die.PlannedDie.ask.Goals as goal

pub returns-in-Some-clause-ask : goal.returns-in-Some-clause-ask
returns-in-Some-clause-ask g c =
    let die : Planned g.row.N.Denot = record {
      core = c.self.inside.core;
      terms = c.self.inside.terms;
      life = c.self.inside.life;
      entered = c.self.inside.entered;
      first = c.self.inside.first;
      asked = map jobs_of c.self.inside.asked.items;
    } in
    let runs : die.core.stopped ≡ false = sym c.is_stopped.ensures ∙ c.if-is_stopped.false in
    let why : (earlier : Lives) → HasLived die earlier → c.why_refused.result ≡ refusal_in die earlier c.args.task c.args.ops.now =
    λ earlier h. refusal_is die earlier h c.plan.result.now c.now-now.result die.asked c.args.task c.args.ops.now c.why_refused.result
    c.why_refused.ensures.refused c.plan.ensures c.now-now.ensures refl in
    rw (← c.self.view_is) (λ earlier h. (
      asked_same die (map jobs_of c.why_refused.new.asked.items) c.why_refused.ensures.jobs,
      inr (runs, sym (why earlier h) ∙ c.in-Some.is),
    ))

pub note_job-requires-clause-room : goal.note_job-requires-clause-room
note_job-requires-clause-room g c d =
    subst (λ (j : AskedJob). HasRoomFor (get_or c.why_refused.new.asked.items c.task.inside.0 d) j.operations j.writes) (sym c.job_of.ensures)
    (subst (λ n. HasRoomFor (get_or c.why_refused.new.asked.items n d) (length c.args.ops.now) (writes c.args.ops.now)) (sym c.task.view_is)
    (c.in-None.ensures.room d))

-- the task is one of those that are remembered
pub note_job-requires-clause-memory : goal.note_job-requires-clause-memory
note_job-requires-clause-memory g c d =
    let kept : List TaskAsks = c.why_refused.new.asked.items in
    let own : ℕ = c.args.task in
    let known : own < length kept = omega (
      arith,
      c.in-None.ensures.known,
      ap (λ (p : DiePlan). length p.caps) c.plan.ensures,
      length-map kept jobs_of,
      ap length c.why_refused.ensures.jobs,
      c.self.invariant.0.one_each,
      length-map c.self.inside.asked.items jobs_of,
    ) in
    subst (λ n. HasRoomForOne (get_or kept n d)) (sym c.task.view_is)
    (room_for (terms_of c.self.inside.terms own).period _ (terms_of c.self.inside.terms own).work (length c.args.ops.now) (get_or kept own d)
    (c.why_refused.ensures.kept own d known) (c.why_refused.ensures.memory c.self.invariant.2 own d known) c.in-None.ensures.some
    (c.in-None.ensures.few d))

pub unreachable-requires : goal.unreachable-requires
unreachable-requires g c =
    let die : Planned g.row.N.Denot = record {
      core = c.self.inside.core;
      terms = c.self.inside.terms;
      life = c.self.inside.life;
      entered = c.self.inside.entered;
      first = c.self.inside.first;
      asked = map jobs_of c.self.inside.asked.items;
    } in
    let why : (earlier : Lives) → HasLived die earlier → c.why_refused.result ≡ refusal_in die earlier c.args.task c.args.ops.now =
    λ earlier h. refusal_is die earlier h c.plan.result.now c.now-now.result die.asked c.args.task c.args.ops.now c.why_refused.result
    c.why_refused.ensures.refused c.plan.ensures c.now-now.ensures refl in
    let own : c.terms_at-deadline.result ≡ terms_of die.terms c.args.task = c.terms_at-deadline.ensures ∙ ap (terms_of die.terms) c.task.view_is in
    let unrefused : IsUnrefused die c.args.task c.now-now.result c.terms_at-deadline.result.deadline c.args.ops.now = record {
      runs = sym c.is_stopped.ensures ∙ c.if-is_stopped.false;
      none = λ earlier h. sym (why earlier h) ∙ c.in-None.is;
      present = c.now-now.ensures;
      terms = ap (λ (t : TaskTerms). t.deadline) own;
      some = c.in-None.ensures.some;
    } in
    asked_stands g.N.Nand.ends g.N.Nand.failures g.N.Nand.never_fails die c.args.caller c.args.task c.now-now.result c.terms_at-deadline.result.deadline
    c.args.ops.now unrefused c.submit_lent.new.self die.asked c.in-Err.field-0 c.self.invariant.0 c.in-Err.ensures

pub invariant_of-self-in-Ok : goal.invariant_of-self-in-Ok
invariant_of-self-in-Ok g c =
    let die : Planned g.row.N.Denot = record {
      core = c.self.inside.core;
      terms = c.self.inside.terms;
      life = c.self.inside.life;
      entered = c.self.inside.entered;
      first = c.self.inside.first;
      asked = map jobs_of c.self.inside.asked.items;
    } in
    let why : (earlier : Lives) → HasLived die earlier → c.why_refused.result ≡ refusal_in die earlier c.args.task c.args.ops.now =
    λ earlier h. refusal_is die earlier h c.plan.result.now c.now-now.result die.asked c.args.task c.args.ops.now c.why_refused.result
    c.why_refused.ensures.refused c.plan.ensures c.now-now.ensures refl in
    let own : c.terms_at-deadline.result ≡ terms_of die.terms c.args.task = c.terms_at-deadline.ensures ∙ ap (terms_of die.terms) c.task.view_is in
    let unrefused : IsUnrefused die c.args.task c.now-now.result c.terms_at-deadline.result.deadline c.args.ops.now = record {
      runs = sym c.is_stopped.ensures ∙ c.if-is_stopped.false;
      none = λ earlier h. sym (why earlier h) ∙ c.in-None.is;
      present = c.now-now.ensures;
      terms = ap (λ (t : TaskTerms). t.deadline) own;
      some = c.in-None.ensures.some;
    } in
    let kept : List TaskAsks = c.why_refused.new.asked.items in
    let same : map jobs_of kept ≡ die.asked = c.why_refused.ensures.jobs in
    let sums : AreKept die.terms (die.first + now die.core.log) kept =
    subst (λ n. AreKept die.terms (die.first + n) kept) c.now-now.ensures c.why_refused.ensures.kept in
    let at : c.self.inside.first + c.from.result ≡ die.first + now die.core.log = omega (arith, c.from.ensures, c.now-now.ensures) in
    let sums_at : AreKept die.terms (c.self.inside.first + c.from.result) kept = subst (λ n. AreKept die.terms n kept) (sym at) sums in
    let known : c.args.task < length kept = omega (
      arith,
      c.in-None.ensures.known,
      ap (λ (p : DiePlan). length p.caps) c.plan.ensures,
      length-map kept jobs_of,
      ap length same,
      c.self.invariant.0.one_each,
    ) in
    let some : TaskAsks = some_of kept (omega (arith, known)) in
    let noted : map jobs_of c.note_job.new.asked.items
    ≡ set die.asked c.args.task (drop (get_or kept c.args.task some).passed (get_or kept c.args.task some).jobs.items ++ c.job_of.result ∷ []) =
    subst (λ n. map jobs_of c.note_job.new.asked.items ≡ set (map jobs_of kept) n (drop (get_or kept n some).passed (get_or kept n some).jobs.items
    ++ c.job_of.result ∷ [])) c.task.view_is (c.note_job.ensures.jobs some)
    ∙ ap (λ (l : List (List AskedJob)). set l c.args.task (drop (get_or kept c.args.task some).passed (get_or kept c.args.task some).jobs.items
    ++ c.job_of.result ∷ [])) same in (
      asked_planned g.N.Nand.ends g.N.Nand.failures g.N.Nand.never_fails die c.args.caller c.args.task c.now-now.result c.terms_at-deadline.result.deadline
          c.args.ops.now unrefused c.submit_lent.new.self (map jobs_of c.note_job.new.asked.items) c.in-Ok.number c.in-Ok.ensures kept same
          (c.self.inside.first + c.from.result) at sums_at known some c.job_of.result c.job_of.ensures noted
          c.self.invariant.0,
      asked_kept g.N.Nand.ends g.N.Nand.failures g.N.Nand.never_fails die c.args.caller c.args.task c.now-now.result c.terms_at-deadline.result.deadline
          c.args.ops.now unrefused c.submit_lent.new.self (map jobs_of c.note_job.new.asked.items) c.in-Ok.number c.in-Ok.ensures kept same
          (c.self.inside.first + c.from.result) at sums_at known some c.job_of.result c.job_of.ensures noted
          c.self.invariant.0 c.note_job.new.asked.items (c.note_job.ensures.kept die.terms
          (subst (λ (k : AskedJob). AreKept die.terms k.at kept) (sym c.job_of.ensures) sums_at)),
      c.note_job.ensures.memory_stays die.terms (omega (arith, c.in-None.ensures.some, ap (λ (k : AskedJob). k.operations) c.job_of.ensures))
          (λ d. subst (λ n. (get_or kept n d).operations + c.job_of.result.operations ≤ (terms_of die.terms n).work) (sym c.task.view_is)
          (omega (arith, c.in-None.ensures.few d, ap (λ (k : AskedJob). k.operations) c.job_of.ensures)))
          (c.why_refused.ensures.memory c.self.invariant.2),
      subst (λ n. AreQuiet die.terms.tasks n c.self.inside.quiet)
          (sym (asked_now g.N.Nand.ends g.N.Nand.failures g.N.Nand.never_fails die c.args.caller c.args.task c.now-now.result
          c.terms_at-deadline.result.deadline c.args.ops.now unrefused c.submit_lent.new.self (map jobs_of c.note_job.new.asked.items) c.in-Ok.number
          c.in-Ok.ensures kept same (c.self.inside.first + c.from.result) at sums_at known some c.job_of.result c.job_of.ensures noted
          c.self.invariant.0)) c.self.invariant.3,
    )

pub returns-clause-ask : goal.returns-clause-ask
returns-clause-ask g c =
    let die : Planned g.row.N.Denot = record {
      core = c.self.inside.core;
      terms = c.self.inside.terms;
      life = c.self.inside.life;
      entered = c.self.inside.entered;
      first = c.self.inside.first;
      asked = map jobs_of c.self.inside.asked.items;
    } in
    let why : (earlier : Lives) → HasLived die earlier → c.why_refused.result ≡ refusal_in die earlier c.args.task c.args.ops.now =
    λ earlier h. refusal_is die earlier h c.plan.result.now c.now-now.result die.asked c.args.task c.args.ops.now c.why_refused.result
    c.why_refused.ensures.refused c.plan.ensures c.now-now.ensures refl in
    let own : c.terms_at-deadline.result ≡ terms_of die.terms c.args.task = c.terms_at-deadline.ensures ∙ ap (terms_of die.terms) c.task.view_is in
    let unrefused : IsUnrefused die c.args.task c.now-now.result c.terms_at-deadline.result.deadline c.args.ops.now = record {
      runs = sym c.is_stopped.ensures ∙ c.if-is_stopped.false;
      none = λ earlier h. sym (why earlier h) ∙ c.in-None.is;
      present = c.now-now.ensures;
      terms = ap (λ (t : TaskTerms). t.deadline) own;
      some = c.in-None.ensures.some;
    } in
    rw (← c.self.view_is) (has_asked g.N.Nand.ends g.N.Nand.failures g.N.Nand.never_fails die c.args.caller c.args.task c.now-now.result c.terms_at-deadline.result.deadline
    c.args.ops.now unrefused c.submit_lent.new.self (map jobs_of c.note_job.new.asked.items) c.in-Ok.number c.in-Ok.ensures)

pub returns-clause-lived : goal.returns-clause-lived
returns-clause-lived g c =
    let die : Planned g.row.N.Denot = record {
      core = c.self.inside.core;
      terms = c.self.inside.terms;
      life = c.self.inside.life;
      entered = c.self.inside.entered;
      first = c.self.inside.first;
      asked = map jobs_of c.self.inside.asked.items;
    } in
    let why : (earlier : Lives) → HasLived die earlier → c.why_refused.result ≡ refusal_in die earlier c.args.task c.args.ops.now =
    λ earlier h. refusal_is die earlier h c.plan.result.now c.now-now.result die.asked c.args.task c.args.ops.now c.why_refused.result
    c.why_refused.ensures.refused c.plan.ensures c.now-now.ensures refl in
    let own : c.terms_at-deadline.result ≡ terms_of die.terms c.args.task = c.terms_at-deadline.ensures ∙ ap (terms_of die.terms) c.task.view_is in
    let unrefused : IsUnrefused die c.args.task c.now-now.result c.terms_at-deadline.result.deadline c.args.ops.now = record {
      runs = sym c.is_stopped.ensures ∙ c.if-is_stopped.false;
      none = λ earlier h. sym (why earlier h) ∙ c.in-None.is;
      present = c.now-now.ensures;
      terms = ap (λ (t : TaskTerms). t.deadline) own;
      some = c.in-None.ensures.some;
    } in
    let kept : List TaskAsks = c.why_refused.new.asked.items in
    let same : map jobs_of kept ≡ die.asked = c.why_refused.ensures.jobs in
    let sums : AreKept die.terms (die.first + now die.core.log) kept =
    subst (λ n. AreKept die.terms (die.first + n) kept) c.now-now.ensures c.why_refused.ensures.kept in
    let at : c.self.inside.first + c.from.result ≡ die.first + now die.core.log = omega (arith, c.from.ensures, c.now-now.ensures) in
    let sums_at : AreKept die.terms (c.self.inside.first + c.from.result) kept = subst (λ n. AreKept die.terms n kept) (sym at) sums in
    let known : c.args.task < length kept = omega (
      arith,
      c.in-None.ensures.known,
      ap (λ (p : DiePlan). length p.caps) c.plan.ensures,
      length-map kept jobs_of,
      ap length same,
      c.self.invariant.0.one_each,
    ) in
    let some : TaskAsks = some_of kept (omega (arith, known)) in
    let noted : map jobs_of c.note_job.new.asked.items
    ≡ set die.asked c.args.task (drop (get_or kept c.args.task some).passed (get_or kept c.args.task some).jobs.items ++ c.job_of.result ∷ []) =
    subst (λ n. map jobs_of c.note_job.new.asked.items ≡ set (map jobs_of kept) n (drop (get_or kept n some).passed (get_or kept n some).jobs.items
    ++ c.job_of.result ∷ [])) c.task.view_is (c.note_job.ensures.jobs some)
    ∙ ap (λ (l : List (List AskedJob)). set l c.args.task (drop (get_or kept c.args.task some).passed (get_or kept c.args.task some).jobs.items
    ++ c.job_of.result ∷ [])) same in
    rw (← c.self.view_is) (asked_lived g.N.Nand.ends g.N.Nand.failures g.N.Nand.never_fails die c.args.caller c.args.task c.now-now.result c.terms_at-deadline.result.deadline
    c.args.ops.now unrefused c.submit_lent.new.self (map jobs_of c.note_job.new.asked.items) c.in-Ok.number c.in-Ok.ensures kept same
    (c.self.inside.first + c.from.result) at sums_at known some c.job_of.result c.job_of.ensures noted)

pub why_refused-requires-clause-one_each : goal.why_refused-requires-clause-one_each
why_refused-requires-clause-one_each g c =
    sym (length-map c.self.inside.asked.items jobs_of) ∙ (c.self.invariant.0.one_each ∙ sym (ap (λ (p : DiePlan). length p.caps) c.plan.ensures))

pub why_refused-requires-clause-kept : goal.why_refused-requires-clause-kept
why_refused-requires-clause-kept g c =
    subst (λ n. AreKept c.self.inside.terms (c.self.inside.first + n) c.self.inside.asked.items) (sym c.now-now.ensures) c.self.invariant.1

pub invariant_of-self : goal.invariant_of-self
invariant_of-self g c = (
  rw c.why_refused.ensures.jobs c.self.invariant.0,
  subst (λ n. AreKept c.self.inside.terms (c.self.inside.first + n) c.why_refused.new.asked.items) c.now-now.ensures c.why_refused.ensures.kept,
  c.why_refused.ensures.memory c.self.invariant.2,
  c.self.invariant.3,
)

pub returns-then-is_stopped-clause-ask : goal.returns-then-is_stopped-clause-ask
returns-then-is_stopped-clause-ask g c =
    rw (← c.self.view_is) (λ earlier h. (refl, inl (sym c.is_stopped.ensures ∙ c.if-is_stopped.true, refl)))

pub returns-then-is_stopped-clause-lived : goal.returns-then-is_stopped-clause-lived
returns-then-is_stopped-clause-lived g c = rw (← c.self.view_is) (λ earlier h. h)

pub returns-in-Some-clause-lived : goal.returns-in-Some-clause-lived
returns-in-Some-clause-lived g c =
    rw (← c.self.view_is) (λ earlier h. rw c.why_refused.ensures.jobs h)

pub overflow_add-clock : goal.overflow_add-clock
overflow_add-clock g c = omega (arith, c.from.ensures, c.self.invariant.0.early)

pub overflow_add-now : goal.overflow_add-now
overflow_add-now g c =
    let known : c.args.task < length c.self.inside.terms.tasks = omega (
      arith,
      c.in-None.ensures.known,
      ap (λ (p : DiePlan). length p.caps) c.plan.ensures,
      c.self.invariant.0.lived.kept.demand.has.one_each,
    ) in
    let own : IsTaskTerms (terms_of c.self.inside.terms c.args.task) = c.self.invariant.0.lived.kept.demand.has.each c.args.task no_terms known in
    omega (
      arith,
      c.now-now.ensures,
      c.self.invariant.0.lived.kept.kept.within,
      c.self.invariant.0.lived.kept.is_life.within,
      own.few_deadline,
      own.few_held,
      ap (λ (t : TaskTerms). t.deadline) (c.terms_at-deadline.ensures ∙ ap (terms_of c.self.inside.terms) c.task.view_is),
    )

pub note_job-requires-clause-task : goal.note_job-requires-clause-task
note_job-requires-clause-task g c =
    omega (
      arith,
      c.in-None.ensures.known,
      ap (λ (p : DiePlan). length p.caps) c.plan.ensures,
      length-map c.why_refused.new.asked.items jobs_of,
      ap length c.why_refused.ensures.jobs,
      c.self.invariant.0.one_each,
      c.task.view_is,
    )
