use Rattle.std.proofs.Common.{ap}
use Rattle.due_queue.specs.Pairs.{is_pair_before}
use Rattle.due_queue.specs.Queue.{Queue, with_key}
use Rattle.due_queue.proofs.Mapped.{map-inserted}
use Rattle.due_queue.proofs.job_queue.JobQueue.insert.Goals as goal

pub returns-clause-keys : goal.returns-clause-keys
returns-clause-keys g c =
    rw (
      c.insert.ensures.keys,
      map-inserted is_pair_before g.K.JobKey.is_before g.K.JobKey.made g.met.K.JobKey.in_order c.pair.result
          c.self.inside.pairs.keys,
      c.pair.ensures,
    )
    (ap (λ (queue : Queue _). with_key g.K.JobKey.is_before c.args.key queue.keys) c.self.view_is)
