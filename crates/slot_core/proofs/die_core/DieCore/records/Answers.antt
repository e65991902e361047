use Rattle.std.proofs.Common.{◌∙◌, sym}
use Rattle.event_log.proofs.Counting.{records_are}
use Rattle.slot_core.proofs.die_core.DieCore.records.Goals as goal

pub returns : goal.returns
returns g c = rw (← c.self.view_is) (c.records.ensures ∙ sym (records_are c.self.inside.table.jobs c.self.inside.events.notes))
