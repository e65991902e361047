use Rattle.flashplan_design.proofs.Multiples.{least_found}
use Rattle.flashplan_design.proofs.commons.least_common.Goals as goal

pub returns : goal.returns
returns c = least_found c.args.periods c.args.tasks.now c.common_multiple.result c.common_multiple.ensures
