use Rattle.power_loss.proofs.Compacting.{can_end}
use Rattle.power_loss.proofs.Starting.{all_start}
use Rattle.power_loss.proofs.laws.a_mount_can_end.Goals as goal

pub returns : goal.returns
returns c = record { ends = λ plan bound d pages l from h idle b free. can_end plan d b bound h.sound idle free; starts = all_start }
