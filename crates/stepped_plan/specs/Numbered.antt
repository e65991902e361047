-- The serial of a die that goes on by itself, and the labels on its part.
use Rattle.std.specs.Prelude.{◌≡◌, ◌⊎◌}
use Rattle.die_log.specs.Model.Start.{Start}
use Rattle.power_loss.specs.Labels.{Labels, labels}
use Rattle.ongoing_log.specs.Ongoing.{Ongoing, start_of}
use Rattle.ongoing_die.specs.Standing.{OngoingParts}
use Rattle.stepped_die.specs.declared.mirror.MirrorNand.{MirrorNand}
use Rattle.stepped_die.specs.declared.part.Part.{Part}

-- the serial is the number of the next program, where the present life began with these labels
abbrev pub NumbersPlanned : Start → Labels → Ongoing → Part → Type 0
NumbersPlanned first l d part = part.serial ≡ (labels (start_of first d) l d.log).next

-- in the life that began with these labels; or in the next one, which begins with those that it left
abbrev pub BeginsWith : Labels → OngoingParts MirrorNand → Labels → Type 0
BeginsWith l after own = (own ≡ l) ⊎ (own ≡ labels after.die.core.start l after.die.core.log)
