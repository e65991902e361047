use Rattle.due_queue.specs.Pairs.{is_pair_before}
use Rattle.due_queue.proofs.Mapped.{rising-map}
use Rattle.due_queue.proofs.job_queue.JobQueue.len.Goals as goal

pub returns-clause-rising : goal.returns-clause-rising
returns-clause-rising g c =
    rw (← c.self.view_is) (rising-map is_pair_before g.K.JobKey.is_before g.K.JobKey.made g.met.K.JobKey.in_order
    c.self.inside.pairs.keys c.len.ensures.rising)
