use Rattle.std.proofs.Common.{ap, ◌∙◌}
use Rattle.std.specs.Prelude.{option_copied}
use Rattle.plan_rules.proofs.Zips.{absent_is}
use Rattle.demand_rules.specs.Demand.{no_terms}
use Rattle.flashplan_terms_margins.proofs.margins.own_terms.Goals as goal

pub returns-in-None : goal.returns-in-None
returns-in-None c = absent_is c.args.made.now.terms.tasks c.args.task no_terms (c.get.ensures ∙ ap option_copied c.in-None.is)
