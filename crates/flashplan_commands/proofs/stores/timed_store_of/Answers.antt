use Rattle.flashplan_design_pages.proofs.PlanBounds.{bound-in}
use Rattle.flashplan_commands.proofs.stores.timed_store_of.Goals as goal

pub returns-in_ok-store-in-WithTerms-clause-bound : goal.returns-in_ok-store-in-WithTerms-clause-bound
returns-in_ok-store-in-WithTerms-clause-bound g c =
    let read = rw c.in-WithTerms.is at c.in_ok-plan.ensures in
    bound-in c.in-WithTerms.terms c.in_ok-store-in-WithTerms.store c.in_ok-store-in-WithTerms.ensures.plans read.usable
