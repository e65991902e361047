use Rattle.flashplan_design.proofs.DieCommons.{none_found}
use Rattle.flashplan_design.proofs.plan_commons.least_common_of_all.Goals as goal

pub returns-in-None-clause-found : goal.returns-in-None-clause-found
returns-in-None-clause-found c = none_found c.args.plan.now c.in_ok-found.found c.in-None.is c.in_ok-found.ensures.found
