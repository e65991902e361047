use Rattle.flashplan_arrivals.proofs.Dies.{all_go}
use Rattle.flashplan_arrivals.proofs.laws.planned_scripts_go_as_planned.Goals as goal

pub returns : goal.returns
returns c plans slots text count old new script run = all_go plans slots text run.ran.items run.ran.runs script run.ran.script run.planned
