use Rattle.checkpoint_texts.proofs.OneReading.{one-reading}
use Rattle.checkpoint_texts.proofs.laws.reading_a_checkpoint_has_one_answer.Goals as goal

pub returns : goal.returns
returns c = one-reading
