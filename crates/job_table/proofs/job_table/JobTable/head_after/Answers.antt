use Rattle.std.proofs.Common.{sym, ◌∙◌, ap, length, arith}
use Rattle.job_table.specs.SoundTable.{QueuesAgree}
use Rattle.job_table.specs.Table.{Table}
use Rattle.job_table.proofs.Beyond.{head_after, none_after}
use Rattle.job_table.proofs.job_table.JobTable.head_after.Goals as goal
use Rattle.job_table.proofs.job_table.JobTable.head_after.Goals.{in-Some, in-None}

pub returns-clause-head : goal.returns-clause-head
returns-clause-head c =
    let i = c.self.inside in
    let old = c.self.invariant.0.running (ap (λ (t : Table). t.ended) c.self.view_is ∙ c.requires.running) in
    let runs : QueuesAgree i.jobs.jobs c.args.now i.collecting.items c.release_by.new.self.waiting c.release_by.new.self.ready = record {
      queued = c.release_by.ensures.queued;
      later = c.release_by.ensures.later;
      few_wait = omega (arith, c.release_by.ensures.fewer, old.few_wait);
      tasks = old.tasks;
      marks = old.marks;
    } in
    elim c.match-first_after.branch [
      | in-Some w ↦ rw w.result-is (rw (← c.self.view_is)
          (head_after (record { tasks = length i.collecting.items; clock = c.args.now; ended = i.ended; jobs = i.jobs.jobs; reserve = i.jobs.reserve; lasting = i.jobs.lasting }) c.args.waived.now
          i.collecting.items c.release_by.new.self.waiting c.release_by.new.self.ready w.in-Some.number
          (rw (← c.self.view_is) at c.requires.heads) c.first_after.ensures.rising runs
          (sym w.in-Some.is ∙ c.first_after.ensures.first)))
      | in-None w ↦ rw w.result-is tt
    ]

pub returns-clause-idle : goal.returns-clause-idle
returns-clause-idle c =
    let i = c.self.inside in
    let old = c.self.invariant.0.running (ap (λ (t : Table). t.ended) c.self.view_is ∙ c.requires.running) in
    let runs : QueuesAgree i.jobs.jobs c.args.now i.collecting.items c.release_by.new.self.waiting c.release_by.new.self.ready = record {
      queued = c.release_by.ensures.queued;
      later = c.release_by.ensures.later;
      few_wait = omega (arith, c.release_by.ensures.fewer, old.few_wait);
      tasks = old.tasks;
      marks = old.marks;
    } in
    elim c.match-first_after.branch [
      | in-Some w ↦ rw w.result-is tt
      | in-None w ↦ rw w.result-is (rw (← c.self.view_is)
          (none_after (record { tasks = length i.collecting.items; clock = c.args.now; ended = i.ended; jobs = i.jobs.jobs; reserve = i.jobs.reserve; lasting = i.jobs.lasting }) c.args.waived.now
          i.collecting.items c.release_by.new.self.waiting c.release_by.new.self.ready
          (rw (← c.self.view_is) at c.requires.heads) c.first_after.ensures.rising runs
          (sym w.in-None.is ∙ c.first_after.ensures.first)))
    ]
