use Rattle.die_service.proofs.OneRun.{one_run}
use Rattle.die_service.proofs.laws.a_run_alone_has_one_answer.Goals as goal

pub returns : goal.returns
returns c = one_run
