use Rattle.std.proofs.Common.{◌≡◌, ◌<◌, ◌≤◌, ◌+◌, List, ◌++◌, [], ◌∷◌, length, deque_len, subst, ap, sym, arith, rules}
use Rattle.std.proofs.lemmas.List.{length_push, length-append}
use Rattle.std.proofs.lemmas.List.Sums.{sum_by_push}
use Rattle.task_outcomes.specs.declared.task_outcome.TaskOutcome.{TaskOutcome}
use Rattle.task_outcomes.specs.declared.done_job.DoneJob.{DoneJob}
use Rattle.task_outcomes.specs.Queues.{Queue, pages_in}
use Rattle.task_outcomes.specs.Rings.{with_reads, outcomes_in}
use Rattle.task_outcomes.proofs.Rings.{count_is, pages_are, added}
use Rattle.task_outcomes.proofs.outcome_queue.OutcomeQueue.add.Goals as goal

pub push_back_reserved-requires : goal.push_back_reserved-requires
push_back_reserved-requires c =
    let jobs = c.self.inside.jobs in
    let whole : deque_len jobs ≡ length jobs.items = search rules in
    let few = subst (λ (q : Queue). length q.kept < q.room) (sym c.self.view_is) c.requires.room in
    omega (arith, whole, few, count_is jobs.items c.self.inside.pages.items, c.self.invariant.memory)

pub add_pages-requires : goal.add_pages-requires
add_pages-requires c =
    let few = subst (λ (q : Queue). pages_in q.kept + length c.args.reads.now ≤ q.room) (sym c.self.view_is) c.requires.page_room in
    record {
      room = omega (
        arith,
        few,
        pages_are c.self.inside.jobs.items c.self.inside.pages.items c.self.invariant.given,
        c.self.invariant.page_memory,
      );
    }

pub invariant_of-self : goal.invariant_of-self
invariant_of-self c =
    let jobs = c.self.inside.jobs in
    let pages = c.self.inside.pages in
    let i = c.self.invariant in
    let few = subst (λ (q : Queue). length q.kept < q.room) (sym c.self.view_is) c.requires.room in
    let few_pages = subst (λ (q : Queue). pages_in q.kept + length c.args.reads.now ≤ q.room) (sym c.self.view_is) c.requires.page_room in
    record {
      given = rw c.add_pages.ensures.pages (rw c.push_back_reserved.ensures.items (omega (
        arith,
        length-append pages.items c.args.reads.now,
        sum_by_push (λ (j : DoneJob). j.reads) jobs.items c.args.job,
        i.given,
        c.requires.reads,
      )));
      few_jobs = rw c.push_back_reserved.ensures.items (omega (arith, length_push jobs.items c.args.job, few, count_is jobs.items pages.items));
      few_pages = rw c.add_pages.ensures.pages (omega (
        arith,
        length-append pages.items c.args.reads.now,
        few_pages,
        pages_are jobs.items pages.items i.given,
      ));
      memory = rw c.push_back_reserved.ensures.capacity i.memory;
      page_memory = rw c.add_pages.ensures.memory i.page_memory;
    }

pub returns : goal.returns
returns c =
    let jobs = c.self.inside.jobs in
    let pages = c.self.inside.pages in
    let kept : outcomes_in c.push_back_reserved.new.self.items c.add_pages.new.pages.items
    ≡ outcomes_in jobs.items pages.items ++ with_reads c.args.job c.args.reads.now ∷ [] =
    rw c.add_pages.ensures.pages (rw c.push_back_reserved.ensures.items
    (added jobs.items pages.items c.args.job c.args.reads.now c.self.invariant.given c.requires.reads)) in
    let of : List TaskOutcome → Queue = λ k. record { room = c.self.inside.room; kept = k; dropped = c.self.inside.dropped } in
    rw (← c.self.view_is) (ap of kept)
