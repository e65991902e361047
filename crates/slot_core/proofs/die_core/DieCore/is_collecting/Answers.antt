use Rattle.std.proofs.Common.{◌∙◌}
use Rattle.slot_core.proofs.Keeping.{collecting_is}
use Rattle.slot_core.specs.TableLog.{log_of}
use Rattle.slot_core.proofs.die_core.DieCore.is_collecting.Goals as goal
use Rattle.die_log.specs.Model.Start.{Start, over}

pub returns : goal.returns
returns g c = rw (← c.self.view_is) (c.is_collecting.ensures
    ∙ collecting_is (over c.self.inside.volume.accounts.plan c.self.inside.start) (log_of c.self.inside.table c.self.inside.events.notes) c.self.inside.table.jobs
    c.args.task c.self.invariant.0.kept.jobs_are)
