use Rattle.ongoing_die.proofs.ongoing_die.OngoingDie.goes_on.Goals as goal

pub returns-clause-jobs : goal.returns-clause-jobs
returns-clause-jobs g c = rw (← c.self.view_is) c.keeps_plan.ensures.jobs
