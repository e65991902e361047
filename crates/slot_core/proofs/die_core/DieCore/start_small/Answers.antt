use Rattle.std.proofs.Common.{◌≡◌, refl, false, sym, subst, ◌∙◌, ap}
use Rattle.job_table.specs.Reserves.{no_reserve}
use Rattle.job_table.specs.Table.{Table}
use Rattle.die_log.specs.Model.Opening.{IsQuiet, CanBeErased, renewed_start}
use Rattle.slot_core.specs.Core.{Core}
use Rattle.slot_core.specs.TableLog.{log_of}
use Rattle.slot_core.proofs.Renewing.{renewed_kept}
use Rattle.slot_core.proofs.Reserving.{empty_room}
use Rattle.slot_core.proofs.Marks.{marks_none}
use Rattle.slot_core.proofs.die_core.DieCore.start_small.Goals as goal

pub invariant_of-self : goal.invariant_of-self
invariant_of-self g c =
    let f = c.self.inside in
    let room = empty_room c.give_back.new.self (ap (λ (t : Table). t.reserve) c.give_back.ensures) (ap (λ (t : Table). t.lasting) c.give_back.ensures)
    (ap (λ (t : Table). t.jobs) c.give_back.ensures) c.new.result.room c.new.result.waiver_room c.new.result.memory c.new.result.waiver_memory in (
      record {
        kept = renewed_kept g.N.Nand.blocks f.start c.start_of-start.result (log_of f.table f.events.notes)
            (log_of c.give_back.new.self c.new.result.notes) _ f.table c.give_back.new.self no_reserve f.volume
            c.self.invariant.0.kept
            (subst (λ (d : Core g.row.N.Denot). d.stopped ≡ false) (sym c.self.view_is) c.requires.may.runs)
            (subst (λ (d : Core g.row.N.Denot). IsQuiet d.start d.log) (sym c.self.view_is) c.requires.may.quiet)
            (subst (λ (d : Core g.row.N.Denot). CanBeErased (renewed_start d.start d.log)) (sym c.self.view_is) c.requires.may.unworn)
            c.start_of-start.ensures c.give_back.ensures
            (rw c.new.ensures refl);
        fits = rw c.new.ensures tt;
      },
      room.0,
      rw (c.give_back.ensures, c.new.ensures) marks_none,
      room.1,
    )
