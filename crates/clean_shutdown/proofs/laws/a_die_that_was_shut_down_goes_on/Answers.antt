use Rattle.clean_shutdown.proofs.GoingOn.{goes_on}
use Rattle.clean_shutdown.proofs.laws.a_die_that_was_shut_down_goes_on.Goals as goal

pub returns : goal.returns
returns g c = goes_on g.N.SavingNand.saved g.N.Nand.shape_of g.N.Nand.blocks g.N.LabelledNand.labels g.N.Nand.failures
