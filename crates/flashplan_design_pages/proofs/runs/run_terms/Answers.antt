use Rattle.flashplan_design_pages.proofs.PlanBounds.{bound-in}
use Rattle.flashplan_design_pages.proofs.runs.run_terms.Goals as goal

pub ran-requires-clause-bound : goal.ran-requires-clause-bound
ran-requires-clause-bound c =
    bound-in c.in_ok-store.store c.in_ok-plans.plans c.in_ok-plans.ensures.plans c.in_ok-store.ensures.usable

pub ran-requires-clause-bound_again : goal.ran-requires-clause-bound_again
ran-requires-clause-bound_again c =
    bound-in c.in_ok-store.store c.in_ok-again.again c.in_ok-again.ensures.plans c.in_ok-store.ensures.usable
