use Rattle.planned_ports.proofs.Passing.{is_outcome, refuses_outcomes}
use Rattle.planned_ports.proofs.ports.TaskPort.take_outcome.Goals as goal

pub outcome_of-requires : goal.outcome_of-requires
outcome_of-requires g c = is_outcome _ _ c.in-Ok.granted _ c.in-Ok.ensures.added

pub no_outcome-requires : goal.no_outcome-requires
no_outcome-requires g c = refuses_outcomes _ _ c.in-Err.refused _ c.in-Err.ensures.refused
