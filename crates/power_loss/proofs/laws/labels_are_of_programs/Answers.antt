use Rattle.power_loss.proofs.Programming.{of_programs}
use Rattle.power_loss.proofs.laws.labels_are_of_programs.Goals as goal

pub returns : goal.returns
returns c = of_programs
