use Rattle.std.proofs.Common.{◌≡◌, ◌≢◌, ◌<◌, [], length, deque_len, get_or, slice_get, IsSomeAnd, Result, Ok, Err, OnErr, subst, ap, ◌∙◌, arith, rules}
use Rattle.task_outcomes.specs.declared.done_job.DoneJob.{DoneJob}
use Rattle.task_outcomes.specs.Queues.{Queue}
use Rattle.task_outcomes.proofs.Rings.{first_gave}
use Rattle.task_outcomes.proofs.outcome_queue.OutcomeQueue.first.Goals as goal

on_err : {T E : Type 0} (r : Result T E) (P : Type 0) → P → OnErr r P
on_err (Ok x) P h = tt
on_err (Err e) P h = h

pub returns-in_err-reads-clause-gave : goal.returns-in_err-reads-clause-gave
returns-in_err-reads-clause-gave c =
    let jobs = c.self.inside.jobs in
    let first = c.in-Some.first.now in
    let whole : deque_len jobs ≡ length jobs.items = search rules in
    let some : 0 < deque_len jobs = search rules in
    let gave : (get_or jobs.items 0 first).reads ≢ 0 = λ e.
    absurd (c.in_err-reads.ensures.some (ap (λ (j : DoneJob). j.reads) c.in-Some.ensures.lookup ∙ e)) in
    on_err _ _ (subst (λ (q : Queue). IsSomeAnd (slice_get q.kept 0) (λ o. o.reads ≢ [])) c.self.view_is
    (first_gave jobs.items c.self.inside.pages.items first c.self.invariant.given (omega (arith, some, whole)) gave))
