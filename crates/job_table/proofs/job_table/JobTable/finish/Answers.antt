use Rattle.std.proofs.Common.{◌≡◌, false, refl, sym, subst, arith, Some}
use Rattle.job_table.specs.declared.stages.Stage.{Stage}
use Rattle.job_table.specs.declared.stages.Stage.TheVariants as stages
use Rattle.job_table.specs.Jobs.{with_stage}
use Rattle.job_table.specs.Table.{Table}
use Rattle.job_table.specs.Order.{IsHead}
use Rattle.job_table.proofs.Tables.{over_sound, head_undone, head_done}
use Rattle.job_table.proofs.Worsts.{worst_of_others}
use Rattle.job_table.proofs.job_table.JobTable.finish.Goals as goal

pub worse_of-requires-clause-done : goal.worse_of-requires-clause-done
worse_of-requires-clause-done c =
    let table : Table = record { tasks = 0; clock = c.self.inside.clock; ended = c.self.inside.ended; jobs = c.self.inside.jobs.jobs; reserve = c.self.inside.jobs.reserve; lasting = c.self.inside.jobs.lasting } in
    let seen = subst (λ (t : Table). IsHead t c.args.number) (sym c.self.view_is) c.requires.head in
    let head : IsHead table c.args.number = record { head = seen.head; is_at = seen.is_at; ready = seen.ready; first = seen.first } in
    rw (c.end_job.ensures.jobs, c.number.view_is) (head_done table c.args.number (stages.Done c.args.completion c.args.given) head refl)

pub worse_of-requires-clause-others : goal.worse_of-requires-clause-others
worse_of-requires-clause-others c =
    let table : Table = record { tasks = 0; clock = c.self.inside.clock; ended = c.self.inside.ended; jobs = c.self.inside.jobs.jobs; reserve = c.self.inside.jobs.reserve; lasting = c.self.inside.jobs.lasting } in
    let seen = subst (λ (t : Table). IsHead t c.args.number) (sym c.self.view_is) c.requires.head in
    let head : IsHead table c.args.number = record { head = seen.head; is_at = seen.is_at; ready = seen.ready; first = seen.first } in
    let stage : Stage = stages.Done c.args.completion c.args.given in
    rw (c.end_job.ensures.jobs, c.number.view_is)
    (worst_of_others table.jobs c.args.number (with_stage stage) c.self.inside.worst (head_undone table c.args.number head)
    c.self.invariant.0.worst_is)

pub invariant_of-self : goal.invariant_of-self
invariant_of-self c =
    let table : Table = record { tasks = 0; clock = c.self.inside.clock; ended = c.self.inside.ended; jobs = c.self.inside.jobs.jobs; reserve = c.self.inside.jobs.reserve; lasting = c.self.inside.jobs.lasting } in
    let seen = subst (λ (t : Table). IsHead t c.args.number) (sym c.self.view_is) c.requires.head in
    let head : IsHead table c.args.number = record { head = seen.head; is_at = seen.is_at; ready = seen.ready; first = seen.first } in
    let runs = subst (λ (t : Table). t.ended ≡ false) (sym c.self.view_is) c.requires.running in
    let worst = rw c.end_job.ensures.jobs at c.worse_of.ensures in
    rw (c.end_job.ensures.jobs, c.end_job.ensures.marks) (
      over_sound table c.args.number (stages.Done c.args.completion c.args.given) c.self.inside.ended c.self.inside.collecting.items
          c.self.inside.queues c.drop_first.new.self c.self.inside.worst (Some c.worse_of.result)
          runs head refl c.drop_first.ensures.rising c.drop_first.ensures.waiting c.drop_first.ensures.ready c.self.invariant.0 worst,
      record {
        room = omega (arith, c.drop_first.ensures.room, c.self.invariant.1.room);
        lasts = omega (arith, c.drop_first.ensures.memory, c.self.invariant.1.lasts);
        few = rw c.drop_first.ensures.waiting c.self.invariant.1.few;
      },
    )
