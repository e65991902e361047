use Rattle.std.proofs.Common.{append_assoc}
use Rattle.flashplan_power_cuts.proofs.tried_texts.put_wrong_at.Goals as goal

pub returns : goal.returns
returns c = simp append_assoc c.write.ensures.bytes
