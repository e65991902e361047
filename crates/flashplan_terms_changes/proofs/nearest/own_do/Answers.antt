use Rattle.flashplan_terms_changes.proofs.nearest.own_do.Goals as goal

pub returns-in-None-clause-does : goal.returns-in-None-clause-does
returns-in-None-clause-does c = rw c.in-None.is c.all_do.ensures.does

pub returns-in-Some-clause-does : goal.returns-in-Some-clause-does
returns-in-Some-clause-does c = rw c.in-Some.is c.die_does.ensures.does
