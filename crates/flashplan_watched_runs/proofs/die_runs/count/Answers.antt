use Rattle.flashplan_watched_runs.proofs.CountsSlots.{counts_act}
use Rattle.flashplan_watched_runs.proofs.die_runs.count.Goals as goal

pub returns-in-Some : goal.returns-in-Some
returns-in-Some c = λ tasks past logged counted.
    counts_act c.in-Some.job c.in-Some.act c.task_of.result c.args.counts.now c.note_act.new.self c.args.reply.now tasks past
    c.args.core.now.log c.in-Some.is c.task_of.ensures c.note_act.ensures.all c.note_act.ensures.tasks c.note_act.ensures.count c.note_act.ensures.idle logged counted
