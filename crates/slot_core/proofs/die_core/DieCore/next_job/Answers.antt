use Rattle.std.proofs.Common.{subst}
use Rattle.std.specs.Prelude.{IfSome, IfNone}
use Rattle.die_log.specs.Model.Opening.{IsQuiet}
use Rattle.die_log.specs.Model.Start.{over}
use Rattle.flash_die.specs.Flash as device
use Rattle.slot_core.specs.Core.{Core}
use Rattle.slot_core.specs.Device.{flash_of}
use Rattle.slot_core.specs.Renewals.{IsNextCarried}
use Rattle.slot_core.specs.TableLog.{log_of}
use Rattle.slot_core.proofs.Nexts.{next_reported, quiet_reported}
use Rattle.slot_core.proofs.die_core.DieCore.next_job.Goals as goal

pub returns-clause-next : goal.returns-clause-next
returns-clause-next g c =
    let f = c.self.inside in
    subst (λ (d : Core g.row.N.Denot). IfSome c.next_in.result (IsNextCarried d.start.plan d.log)) c.self.view_is
    (next_reported (over f.volume.accounts.plan f.start) (log_of f.table f.events.notes) f.present f.table f.volume.failed
    (flash_of g.N.Nand.blocks f.volume) c.next_in.new.table c.self.invariant.0.kept c.next_in.ensures.clock
    c.next_in.result c.next_in.ensures.next)

pub returns-clause-quiet : goal.returns-clause-quiet
returns-clause-quiet g c =
    let f = c.self.inside in
    subst (λ (d : Core g.row.N.Denot). IfNone c.next_in.result (IsQuiet d.start d.log)) c.self.view_is
    (quiet_reported (over f.volume.accounts.plan f.start) (log_of f.table f.events.notes) f.present f.table f.volume.failed
    (flash_of g.N.Nand.blocks f.volume) c.next_in.new.table c.self.invariant.0.kept c.next_in.ensures.clock
    c.next_in.result c.next_in.ensures.none)
