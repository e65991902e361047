use Rattle.std.proofs.Common.{append_assoc}
use Rattle.flashplan_terms_design.proofs.loads.put_load.Goals as goal

pub returns : goal.returns
returns c = simp append_assoc c.writeln.ensures.bytes
