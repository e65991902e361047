use Rattle.std.proofs.Common.{[]}
use Rattle.die_log.proofs.Supply.Unrefused.{unrefused, run_accepted}
use Rattle.die_log.proofs.laws.planned_work_is_accepted.Goals as goal

pub returns : goal.returns
returns c = record {
  next = unrefused;
  run = λ start times bound passes stocked calls. run_accepted start times bound passes stocked [] calls tt;
}
