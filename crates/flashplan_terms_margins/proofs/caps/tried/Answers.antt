use Rattle.std.proofs.Common.{ap, ◌∙◌}
use Rattle.slot_types.specs.declared.plans.DiePlan.{DiePlan}
use Rattle.flashplan_terms_margins.specs.Changes.{with_cap}
use Rattle.flashplan_terms_margins.proofs.Capped.{cap-changed-again}
use Rattle.flashplan_terms_margins.proofs.caps.tried.Goals as goal

pub returns-clause-alike : goal.returns-clause-alike
returns-clause-alike c cap =
    ap (λ (plan : DiePlan). with_cap plan c.args.task cap) c.with_cap-plan.ensures ∙ cap-changed-again c.args.plan c.args.task c.args.cap cap
