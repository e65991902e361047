use Rattle.checkpoint_texts.proofs.Back.{comes-back}
use Rattle.checkpoint_texts.proofs.laws.checkpoints_come_back.Goals as goal

pub returns : goal.returns
returns c = comes-back
