use Rattle.die_checkpoint.proofs.Excluding.{fault_breaks}
use Rattle.die_checkpoint.proofs.laws.a_fault_excludes_fitting.Goals as goal

pub returns : goal.returns
returns c = fault_breaks
