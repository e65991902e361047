use Rattle.std.proofs.Common.{refl, ◌∙◌, ap}
use Rattle.slot_types.specs.declared.plans.DiePlan.{DiePlan}
use Rattle.std.specs.Prelude.{length}
use Rattle.job_table.specs.Table.{Table, empty_table}
use Rattle.flash_volume.specs.Checkpoints.{resumed_volume}
use Rattle.slot_core.specs.Resumptions.{resumed_start}
use Rattle.slot_core.specs.TableLog.{log_of}
use Rattle.slot_core.proofs.Resuming.{keeps_resumed}
use Rattle.slot_core.proofs.Marks.{marks_none}
use Rattle.slot_core.proofs.Reserving.{empty_room}
use Rattle.slot_core.proofs.memory.DieMemory.resume.Goals as goal

pub invariant_of-result : goal.invariant_of-result
invariant_of-result g c =
    let unused = c.self.invariant in
    let t = c.self.inside.table in
    let log = c.self.inside.events in
    let room = empty_room t (ap (λ (u : Table). u.reserve) unused.jobs) (ap (λ (u : Table). u.lasting) unused.jobs)
    (ap (λ (u : Table). u.jobs) unused.jobs) log.room log.waiver_room log.memory log.waiver_memory in (
      record {
        kept = keeps_resumed g.N.Nand.blocks c.args.self c.args.checkpoint.now c.args.device (g.N.Nand.failures c.args.device)
            (log_of t log.notes) t c.resume.result c.start_by-start.result c.requires.fits c.requires.left (rw unused.events refl)
            (unused.jobs ∙ ap (λ (p : DiePlan). empty_table (length p.caps)) c.self.view_is)
            (c.resume.ensures ∙ ap (λ (p : DiePlan). resumed_volume g.N.Nand.blocks p c.args.checkpoint.now c.args.device) c.self.view_is)
            (c.start_by-start.ensures ∙ ap (λ (p : DiePlan). resumed_start p c.args.checkpoint.now (g.N.Nand.blocks c.args.device))
            (c.plan.ensures ∙ c.self.view_is));
        fits = rw unused.events tt;
      },
      room.0,
      rw (unused.jobs, unused.marked) marks_none,
      room.1,
    )
