use Rattle.flashplan_design_pages.proofs.PlanBounds.{bound-in}
use Rattle.flashplan_commands.proofs.comparing.plans_in.Goals as goal

pub returns-in_ok-store-in-WithTerms-clause-bound : goal.returns-in_ok-store-in-WithTerms-clause-bound
returns-in_ok-store-in-WithTerms-clause-bound g c =
    let read = rw c.in-WithTerms.is at c.in_ok-plan.ensures in
    bound-in c.in-WithTerms.kept c.in_ok-store-in-WithTerms.store c.in_ok-store-in-WithTerms.ensures.plans read.usable
