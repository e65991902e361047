use Rattle.std.proofs.Common.{append_assoc}
use Rattle.flashplan_power_cuts.proofs.texts.put_aside.Goals as goal

pub returns : goal.returns
returns c = simp append_assoc (simp append_assoc at (rw c.in_ok-write.ensures.bytes at c.in_ok-push.ensures.items))
