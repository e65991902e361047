use Rattle.std.proofs.Common.{◌∙◌, sym}
use Rattle.slot_core.proofs.Telling.{length_reported}
use Rattle.slot_core.proofs.die_core.DieCore.len.Goals as goal

pub returns : goal.returns
returns g c = rw (← c.self.view_is) (c.len.ensures ∙ sym (length_reported c.self.inside.table.jobs c.self.inside.events.notes))
