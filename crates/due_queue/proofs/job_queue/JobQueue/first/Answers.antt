use Rattle.due_queue.specs.Pairs.{is_pair_before}
use Rattle.due_queue.proofs.Mapped.{rising-map}
use Rattle.due_queue.proofs.job_queue.JobQueue.first.Goals as goal

pub returns-in-Some-clause-rising : goal.returns-in-Some-clause-rising
returns-in-Some-clause-rising g c =
    rw (← c.self.view_is) (rising-map is_pair_before g.K.JobKey.is_before g.K.JobKey.made g.met.K.JobKey.in_order
    c.self.inside.pairs.keys c.in-Some.ensures.rising)
