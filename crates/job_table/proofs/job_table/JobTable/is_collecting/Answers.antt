use Rattle.std.proofs.Common.{◌≡◌, ◌<◌, false, length, sym, ap, ◌∙◌, subst}
use Rattle.job_table.specs.Table.{Table, is_collecting}
use Rattle.std.proofs.lemmas.List.{get_or_default}
use Rattle.job_table.proofs.Tables.{mark_is}
use Rattle.job_table.proofs.job_table.JobTable.is_collecting.Goals as goal

pub returns : goal.returns
returns c =
    let running = c.self.invariant.0.running (subst (λ (t : Table). t.ended ≡ false) (sym c.self.view_is) c.requires.running) in
    let lt : c.task.inside.0 < length c.self.inside.collecting.items = rw c.task.view_is
    (subst (λ (t : Table). c.args.task < t.tasks) (sym c.self.view_is) c.requires.task) in
    c.index.ensures ∙ get_or_default c.self.inside.collecting.items c.task.inside.0 c.index.result.now false lt
    ∙ mark_is c.self.inside.jobs.jobs c.self.inside.clock c.self.inside.collecting.items c.self.inside.queues.waiting c.self.inside.queues.ready
    c.task.inside.0 running lt
    ∙ ap (λ (t : Table). is_collecting t.jobs c.task.inside.0) c.self.view_is ∙ ap (is_collecting c.args.self.now.jobs) c.task.view_is
