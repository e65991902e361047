use Rattle.std.proofs.Common.{append_assoc}
use Rattle.flashplan_fit.proofs.found_texts.put_long_run.Goals as goal

pub returns : goal.returns
returns c = simp append_assoc c.writeln.ensures.bytes
