use Rattle.std.proofs.Common.{◌≡◌, length, deque_len, sym, ◌∙◌, rules}
use Rattle.task_outcomes.proofs.Rings.{count_is}
use Rattle.task_outcomes.proofs.outcome_queue.OutcomeQueue.len.Goals as goal

pub returns : goal.returns
returns c =
    let jobs = c.self.inside.jobs in
    let whole : deque_len jobs ≡ length jobs.items = search rules in
    rw (← c.self.view_is) (c.len.ensures ∙ (whole ∙ sym (count_is jobs.items c.self.inside.pages.items)))
