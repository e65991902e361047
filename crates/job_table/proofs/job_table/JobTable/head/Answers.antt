use Rattle.std.proofs.Common.{false, sym, ◌∙◌}
use Rattle.job_table.proofs.Heads.{number_is_head, no_number_ready}
use Rattle.job_table.proofs.job_table.JobTable.head.Goals as goal
use Rattle.job_table.proofs.job_table.JobTable.head.Goals.{in-Some, in-None}

pub returns-clause-head : goal.returns-clause-head
returns-clause-head c =
    elim c.match-first.branch [
      | in-Some w ↦
          rw w.result-is
          (number_is_head _ c.release_by.new.self.waiting c.release_by.new.self.ready w.in-Some.number
          c.release_by.ensures.queued c.release_by.ensures.later c.first.ensures.rising (sym w.in-Some.is ∙ c.first.ensures.first))
      | in-None w ↦ rw w.result-is tt
    ]

pub returns-clause-idle : goal.returns-clause-idle
returns-clause-idle c =
    elim c.match-first.branch [
      | in-Some w ↦ rw w.result-is tt
      | in-None w ↦
          rw w.result-is
          (no_number_ready (record { tasks = 0; clock = c.args.now; ended = false; jobs = c.self.inside.jobs.jobs; reserve = c.self.inside.jobs.reserve; lasting = c.self.inside.jobs.lasting })
          c.release_by.new.self.waiting c.release_by.new.self.ready
          c.release_by.ensures.queued c.release_by.ensures.later (sym w.in-None.is ∙ c.first.ensures.first))
    ]
