use Rattle.std.proofs.Common.{◌≡◌, nat_lt, true, false, length, deque_len, ◌∙◌, arith, rules}
use Rattle.std.proofs.lemmas.Bool.Decides.{nat_tests}
use Rattle.task_outcomes.proofs.Rings.{count_is, pages_are}
use Rattle.task_outcomes.proofs.Queues.{room_then, room_else}
use Rattle.task_outcomes.proofs.outcome_queue.OutcomeQueue.has_room.Goals as goal

pub returns-then-len-self-clause-room : goal.returns-then-len-self-clause-room
returns-then-len-self-clause-room c =
    let jobs = c.self.inside.jobs in
    let pages = c.self.inside.pages in
    let whole : deque_len jobs ≡ length jobs.items = search rules in
    let whole_pages : deque_len pages ≡ length pages.items = search rules in
    let few : nat_lt (length jobs.items) c.self.inside.room ≡ true = grind (arith, nat_tests, c.if-len-self.true, c.len.ensures, whole) in
    rw (← c.self.view_is) (rw (count_is jobs.items pages.items) (rw (pages_are jobs.items pages.items c.self.invariant.given)
    (rw (c.len-then-len-self.ensures ∙ whole_pages) (room_then (length jobs.items) c.self.inside.room (length pages.items) c.args.reads few c.self.invariant.few_pages))))

pub returns-else-len-self-clause-room : goal.returns-else-len-self-clause-room
returns-else-len-self-clause-room c =
    let jobs = c.self.inside.jobs in
    let pages = c.self.inside.pages in
    let whole : deque_len jobs ≡ length jobs.items = search rules in
    let few : nat_lt (length jobs.items) c.self.inside.room ≡ false = grind (arith, nat_tests, c.if-len-self.false, c.len.ensures, whole) in
    rw (← c.self.view_is) (rw (count_is jobs.items pages.items) (rw (c.len.ensures ∙ whole)
    (room_else (length jobs.items) c.self.inside.room _ c.args.reads few)))
