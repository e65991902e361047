use Rattle.std.proofs.Common.{rules, append_assoc}
use Rattle.flashplan_design.proofs.found.put_found.Goals as goal

pub returns : goal.returns
returns c = search (rules, append_assoc)
