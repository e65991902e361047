use Rattle.die_log.proofs.Overload.Waiting.{too_much}
use Rattle.die_log.proofs.overdue.waiting_work_had_too_much.Goals as goal

pub returns : goal.returns
returns c = too_much
