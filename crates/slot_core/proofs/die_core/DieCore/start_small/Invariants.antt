use Rattle.die_log.specs.Model.Start.{over}
use Rattle.die_log.specs.Model.Opening.{renewed_start}
use Rattle.slot_core.specs.TableLog.{log_of}
use Rattle.slot_core.proofs.die_core.DieCore.start_small.Given as goal

abbrev pub ghost-start_of : goal.ghost-start_of
ghost-start_of g a = renewed_start (over a._volume.now.accounts.plan a._start.now) (log_of a._table.now a._events.now.notes)
