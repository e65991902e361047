use Rattle.std.proofs.Common.{◌∙◌}
use Rattle.plan_texts.proofs.PlanLaws.{tables-view}
use Rattle.terms_texts.proofs.numbers.is_of_tables.Goals as goal

pub returns : goal.returns
returns c = c.hold_tables.ensures ∙ tables-view c.args.items.now
