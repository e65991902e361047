use Rattle.std.proofs.Common.{◌≡◌, Option, subst}
use Rattle.std.specs.Prelude.{ℕ, IfSome, IfNone}
use Rattle.job_table.specs.Order as table
use Rattle.die_log.specs.Model.Start.{over}
use Rattle.slot_core.specs.Core.{Core}
use Rattle.slot_core.specs.Device.{flash_of}
use Rattle.slot_core.specs.Overdues.{overdue_of}
use Rattle.slot_core.specs.TableLog.{log_of}
use Rattle.slot_core.proofs.FirstOverdue.{overdue_told, nothing_overdue}
use Rattle.slot_core.proofs.die_core.DieCore.overdue.Goals as goal
use Rattle.slot_core.proofs.die_core.DieCore.overdue.Goals.{in-Some, in-None}

pub returns-clause-overdue : goal.returns-clause-overdue
returns-clause-overdue g c runs =
    let f = c.self.inside in
    subst (λ (d : Core g.row.N.Denot). c.match-head.result ≡ overdue_of d.start.plan d.log) c.self.view_is
    (elim c.match-head.branch [
      | in-Some w ↦ rw (w.result-is, w.overdue_in.ensures)
          (overdue_told (over f.volume.accounts.plan f.start) (log_of f.table f.events.notes) f.present f.table f.volume.failed
          (flash_of g.N.Nand.blocks f.volume) c.head.new.self c.self.invariant.0.kept c.head.ensures.clock w.in-Some.number
          (subst (λ (o : Option ℕ). IfSome o (table.IsHead c.head.new.self)) w.in-Some.is c.head.ensures.head))
      | in-None w ↦ rw w.result-is
          (nothing_overdue (over f.volume.accounts.plan f.start) (log_of f.table f.events.notes) f.present f.table f.volume.failed
          (flash_of g.N.Nand.blocks f.volume) c.head.new.self c.self.invariant.0.kept c.head.ensures.clock
          (subst (λ (o : Option ℕ). IfNone o (table.NothingReady c.head.new.self)) w.in-None.is c.head.ensures.idle))
    ])
