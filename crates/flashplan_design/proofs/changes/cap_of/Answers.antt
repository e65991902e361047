use Rattle.std.proofs.Common.{ap, ◌∙◌}
use Rattle.std.specs.Prelude.{option_copied}
use Rattle.plan_rules.proofs.Zips.{absent_is}
use Rattle.flashplan_design.proofs.changes.cap_of.Goals as goal

pub returns-in-None : goal.returns-in-None
returns-in-None c = absent_is c.args.plan.now.caps c.args.task 0 (c.get.ensures ∙ ap option_copied c.in-None.is)
