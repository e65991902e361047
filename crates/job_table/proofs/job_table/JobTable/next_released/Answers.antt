use Rattle.std.proofs.Common.{sym, ◌∙◌, ap, subst, length}
use Rattle.job_table.specs.Table.{Table}
use Rattle.job_table.specs.Order.{IsNextReleased, NothingWaiting}
use Rattle.job_table.proofs.Nexts.{number_is_next, no_number_waits}
use Rattle.job_table.proofs.job_table.JobTable.next_released.Goals as goal

pub returns-in-Some-clause-next : goal.returns-in-Some-clause-next
returns-in-Some-clause-next c =
    let kept = c.self.invariant.0.running (ap (λ (t : Table). t.ended) c.self.view_is ∙ c.requires.running) in
    subst (λ (t : Table). IsNextReleased t c.in-Some.number) c.self.view_is
    (number_is_next _ c.self.inside.queues.waiting c.self.inside.queues.ready c.in-Some.number kept.queued kept.later
    c.first_waiting.ensures.rising (sym c.in-Some.is ∙ c.first_waiting.ensures.first))

pub returns-in-None-clause-none : goal.returns-in-None-clause-none
returns-in-None-clause-none c =
    let kept = c.self.invariant.0.running (ap (λ (t : Table). t.ended) c.self.view_is ∙ c.requires.running) in
    let i = c.self.inside in
    let table : Table = record { tasks = length i.collecting.items; clock = i.clock; ended = i.ended; jobs = i.jobs.jobs; reserve = i.jobs.reserve; lasting = i.jobs.lasting } in
    subst NothingWaiting c.self.view_is
    (no_number_waits table c.self.inside.queues.waiting c.self.inside.queues.ready kept.queued
    (sym c.in-None.is ∙ c.first_waiting.ensures.first))
