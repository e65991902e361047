use Rattle.slot_core.specs.TableLog.{log_of}
use Rattle.slot_core.proofs.die_core.DieCore.next_call.Given as goal

abbrev pub ghost-look_at_head : goal.ghost-look_at_head
ghost-look_at_head g a = (a._start.now, log_of a.table.now a._events.now.notes)

abbrev pub ghost-look_ahead : goal.ghost-look_ahead
ghost-look_ahead g a = (a._start.now, log_of a.table.now a._events.now.notes)
