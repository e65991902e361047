use Rattle.std.proofs.Common.{append_assoc}
use Rattle.flashplan_terms_design.proofs.fault_texts.put_overfull.Goals as goal

pub returns : goal.returns
returns c = simp append_assoc (rw c.from.ensures at c.writeln.ensures.bytes)
