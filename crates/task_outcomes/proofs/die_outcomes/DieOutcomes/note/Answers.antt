use Rattle.std.proofs.Common.{◌≡◌, ◌≤◌, Some, option_and_then, length, vec_len, subst, ap, sym, ◌∙◌, arith, rules}
use Rattle.std.proofs.lemmas.Bool.Decides.{nat_tests}
use Rattle.slot_core.specs.Core.{Core}
use Rattle.slot_core.specs.Outcomes.{head_in, outcome_in}
use Rattle.slot_core.specs.Summaries.{summary_at, summary_in}
use Rattle.task_outcomes.specs.Told.{told_as, told_at}
use Rattle.task_outcomes.specs.Queues.{with_told}
use Rattle.task_outcomes.specs.Rings.{with_reads, TellsDone}
use Rattle.task_outcomes.proofs.Noting.{noted}
use Rattle.task_outcomes.proofs.Rooms.{past_end}
use Rattle.task_outcomes.proofs.die_outcomes.DieOutcomes.note.Goals as goal

pub returns-else-task-len : goal.returns-else-task-len
returns-else-task-len g c =
    let queues = c.self.inside.queues.items in
    let die = c.args.die.now in
    let number = c.in-Some.number in
    let job = c.in-Some-job_record.job in
    let done = c.in-Some-done_job.done in
    let told : option_and_then (told_at die.core.start die.first die.core.log) c.args.reply.now.finished ≡ Some (with_reads done job.reads) =
    noted die.core.start die.first die.core.log number job done
    (subst (λ (k : Core g.row.N.Denot). summary_at k.start k.log number ≡ Some (summary_in job)) c.core.ensures c.in-Some-job_record.ensures.summary)
    (subst (λ b. TellsDone job.reads (told_as b number (head_in job) (outcome_in job)) (Some done)) c.first.ensures.first c.in-Some-done_job.ensures)
    c.args.reply.now.finished c.in-Some.is in
    let whole : vec_len c.self.inside.queues ≡ length queues = search rules in
    let past : length queues ≤ done.task = grind (arith, nat_tests, c.if-task-len.false, c.len.ensures, whole) in
    rw (← c.self.view_is) (sym (ap (with_told queues) told ∙ past_end queues done.task _ past))
