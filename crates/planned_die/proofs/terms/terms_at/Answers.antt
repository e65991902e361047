use Rattle.std.proofs.Common.{ap, ◌∙◌}
use Rattle.std.specs.Prelude.{option_copied}
use Rattle.plan_rules.proofs.Zips.{absent_is}
use Rattle.demand_rules.specs.Demand.{no_terms}
use Rattle.planned_die.proofs.terms.terms_at.Goals as goal

pub returns-in-None : goal.returns-in-None
returns-in-None c =
    c.nothing.ensures
    ∙ absent_is c.args.terms.now.tasks c.args.task no_terms (c.get.ensures ∙ ap option_copied c.in-None.is)
