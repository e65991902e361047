use Rattle.stepped_spares.proofs.BadBlocks.{stays_bad}
use Rattle.stepped_spares.proofs.laws.a_bad_block_never_comes_back.Goals as goal

pub returns : goal.returns
returns c = stays_bad
