use Rattle.std.proofs.Common.{ap, ◌∙◌}
use Rattle.slot_types.specs.declared.plans.DiePlan.{DiePlan}
use Rattle.flashplan_terms_margins.proofs.Capped.{own-cap-again}
use Rattle.flashplan_terms_margins.proofs.caps.cap_margin.Goals as goal

pub returns-clause-same : goal.returns-clause-same
returns-clause-same c =
    ap (λ (plan : DiePlan). record c.args.made { plan = plan }) (c.with_cap.ensures
    ∙ own-cap-again c.args.task c.greatest-plan.result.plan c.args.made.plan c.own_cap-own.result c.greatest-plan.ensures.alike
    c.own_cap-own.ensures)
