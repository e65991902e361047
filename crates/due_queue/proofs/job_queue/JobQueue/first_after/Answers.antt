use Rattle.std.proofs.Common.{ap, sym, ◌∙◌, Some, option_map}
use Rattle.due_queue.proofs.Beyond.{beyond-map}
use Rattle.due_queue.proofs.job_queue.JobQueue.first_after.Goals as goal
use Rattle.due_queue.proofs.job_queue.JobQueue.first_after.Goals.{in-Some, in-None}

pub returns-clause-first : goal.returns-clause-first
returns-clause-first g c =
    elim c.match-first_after.branch [
      | in-Some w ↦ rw w.result-is (rw (← c.self.view_is) (ap Some w.of.ensures
          ∙ (ap (option_map g.K.JobKey.made) (sym w.in-Some.is ∙ c.first_after.ensures.first)
          ∙ sym (beyond-map g.K.JobKey.made c.args.count c.self.inside.pairs.keys))))
      | in-None w ↦ rw w.result-is (rw (← c.self.view_is)
          (ap (option_map g.K.JobKey.made) (sym w.in-None.is ∙ c.first_after.ensures.first)
          ∙ sym (beyond-map g.K.JobKey.made c.args.count c.self.inside.pairs.keys)))
    ]
