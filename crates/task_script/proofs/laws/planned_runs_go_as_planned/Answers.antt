use Rattle.task_script.proofs.AsPlanned.{as_planned}
use Rattle.task_script.proofs.laws.planned_runs_go_as_planned.Goals as goal

pub returns : goal.returns
returns c = as_planned
