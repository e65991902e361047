use Rattle.std.proofs.Common.{◌≡◌, refl, false, sym, subst, ◌∙◌, ap}
use Rattle.job_table.specs.Table.{Table}
use Rattle.die_log.specs.Model.Opening.{IsQuiet, CanBeErased, renewed_start}
use Rattle.slot_core.specs.Core.{Core}
use Rattle.slot_core.specs.TableLog.{log_of}
use Rattle.slot_core.proofs.Renewing.{renewed_kept}
use Rattle.slot_core.proofs.Reserving.{renewed_room}
use Rattle.slot_core.proofs.Marks.{marks_none}
use Rattle.slot_core.proofs.die_core.DieCore.start_anew.Goals as goal

pub invariant_of-self : goal.invariant_of-self
invariant_of-self g c =
    let f = c.self.inside in
    let room = renewed_room c.clear.new.self f.table.lasting f.lasting f.events.memory f.events.waiver_memory c.clear-2.new.self.room
    c.clear-2.new.self.waiver_room c.clear-2.new.self.memory c.clear-2.new.self.waiver_memory
    (ap (λ (t : Table). t.reserve) c.clear.ensures) (ap (λ (t : Table). t.lasting) c.clear.ensures) (ap (λ (t : Table). t.jobs) c.clear.ensures)
    c.self.invariant.3.entries c.self.invariant.3.waivers c.clear-2.ensures.room c.clear-2.ensures.waiver_room c.clear-2.ensures.memory
    c.clear-2.ensures.waiver_memory in (
      record {
        kept = renewed_kept g.N.Nand.blocks f.start c.start_of-start.result (log_of f.table f.events.notes)
            (log_of c.clear.new.self c.clear-2.new.self.notes) _ f.table c.clear.new.self f.table.lasting f.volume
            c.self.invariant.0.kept
            (subst (λ (d : Core g.row.N.Denot). d.stopped ≡ false) (sym c.self.view_is) c.requires.may.runs)
            (subst (λ (d : Core g.row.N.Denot). IsQuiet d.start d.log) (sym c.self.view_is) c.requires.may.quiet)
            (subst (λ (d : Core g.row.N.Denot). CanBeErased (renewed_start d.start d.log)) (sym c.self.view_is) c.requires.may.unworn)
            c.start_of-start.ensures c.clear.ensures
            (rw c.clear-2.ensures.events refl);
        fits = rw c.clear-2.ensures.events tt;
      },
      room.0,
      rw (c.clear.ensures, c.clear-2.ensures.marked) marks_none,
      room.1,
    )
