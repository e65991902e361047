use Rattle.power_loss.specs.Aside.{part_of}
use Rattle.labelled_spares.proofs.Renumbered.{mountable_there}
use Rattle.labelled_spares.proofs.laws.a_mount_goes_on_by_any_numbers.Goals as goal

pub returns : goal.returns
returns c = λ plan pages from seen other stands same. mountable_there (part_of plan) pages from seen other stands same
