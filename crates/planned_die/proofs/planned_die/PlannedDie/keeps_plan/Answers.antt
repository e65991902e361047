use Rattle.planned_log.proofs.Kept.{is_in_time}
use Rattle.planned_log.proofs.Served.{done_in_time}
use Rattle.planned_die.proofs.planned_die.PlannedDie.keeps_plan.Goals as goal

pub returns-clause-in_time : goal.returns-clause-in_time
returns-clause-in_time g c = rw (← c.self.view_is)
    (is_in_time c.self.inside.core.start c.self.inside.terms c.self.invariant.0.earlier c.self.inside.life c.self.inside.entered
    c.self.inside.core.log c.self.invariant.0.lived.kept)

pub returns-clause-jobs : goal.returns-clause-jobs
returns-clause-jobs g c = rw (← c.self.view_is)
    (done_in_time c.self.inside.core.start c.self.inside.terms c.self.invariant.0.earlier c.self.inside.life c.self.inside.entered
    c.self.inside.core.log c.self.invariant.0.lived.kept)
