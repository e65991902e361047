use Rattle.flashplan_terms_changes.proofs.nearest.others_do.Goals as goal

pub returns-in-Some-clause-does : goal.returns-in-Some-clause-does
returns-in-Some-clause-does c = rw c.in-Some.is c.others_than.ensures.does
