use Rattle.planned_log.proofs.Kept.{is_in_time}
use Rattle.planned_die.proofs.NeverLate.{not_late}
use Rattle.planned_die.proofs.planned_die.PlannedDie.worst.Goals as goal

pub returns-clause-never_late : goal.returns-clause-never_late
returns-clause-never_late g c =
    rw c.worst.ensures (not_late c.self.inside.core.start.plan c.self.inside.core.log
    (is_in_time c.self.inside.core.start c.self.inside.terms c.self.invariant.0.earlier c.self.inside.life c.self.inside.entered
    c.self.inside.core.log c.self.invariant.0.lived.kept))
