use Rattle.checkpoint_texts.proofs.Short.{fits-bound}
use Rattle.checkpoint_texts.proofs.laws.checkpoints_fit.Goals as goal

pub returns : goal.returns
returns c = fits-bound
