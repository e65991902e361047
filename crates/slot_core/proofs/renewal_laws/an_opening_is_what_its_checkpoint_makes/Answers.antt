use Rattle.slot_core.proofs.Resuming.{opening_again}
use Rattle.slot_core.proofs.renewal_laws.an_opening_is_what_its_checkpoint_makes.Goals as goal

pub returns : goal.returns
returns c = opening_again
