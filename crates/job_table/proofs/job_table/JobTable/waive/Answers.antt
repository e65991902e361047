use Rattle.std.proofs.Common.{◌≡◌, false, refl, sym, subst, arith}
use Rattle.job_table.specs.declared.stages.Stage.{Stage}
use Rattle.job_table.specs.declared.stages.Stage.TheVariants as stages
use Rattle.job_table.specs.Jobs.{with_stage}
use Rattle.job_table.specs.Table.{Table}
use Rattle.job_table.specs.Order.{IsHead}
use Rattle.job_table.proofs.Tables.{over_sound, head_undone}
use Rattle.job_table.proofs.Worsts.{undone_worst}
use Rattle.job_table.proofs.job_table.JobTable.waive.Goals as goal

pub invariant_of-self : goal.invariant_of-self
invariant_of-self c =
    let table : Table = record { tasks = 0; clock = c.self.inside.clock; ended = c.self.inside.ended; jobs = c.self.inside.jobs.jobs; reserve = c.self.inside.jobs.reserve; lasting = c.self.inside.jobs.lasting } in
    let seen = subst (λ (t : Table). IsHead t c.args.number) (sym c.self.view_is) c.requires.head in
    let head : IsHead table c.args.number = record { head = seen.head; is_at = seen.is_at; ready = seen.ready; first = seen.first } in
    let runs = subst (λ (t : Table). t.ended ≡ false) (sym c.self.view_is) c.requires.running in
    let stage : Stage = stages.Waived c.args.given in
    rw (c.end_job.ensures.jobs, c.end_job.ensures.marks) (
      over_sound table c.args.number stage c.self.inside.ended c.self.inside.collecting.items c.self.inside.queues c.drop_first.new.self
          c.self.inside.worst c.self.inside.worst
          runs head refl c.drop_first.ensures.rising c.drop_first.ensures.waiting c.drop_first.ensures.ready c.self.invariant.0
          (undone_worst table.jobs c.args.number (with_stage stage) c.self.inside.worst
          (λ job at_n. (head_undone table c.args.number head job at_n, refl)) c.self.invariant.0.worst_is),
      record {
        room = omega (arith, c.drop_first.ensures.room, c.self.invariant.1.room);
        lasts = omega (arith, c.drop_first.ensures.memory, c.self.invariant.1.lasts);
        few = rw c.drop_first.ensures.waiting c.self.invariant.1.few;
      },
    )
