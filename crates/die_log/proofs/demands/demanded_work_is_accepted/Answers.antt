use Rattle.std.proofs.Common.{[], ◌++◌, ◌∷◌, map}
use Rattle.die_log.proofs.Supply.Covering.{stocked_for}
use Rattle.die_log.proofs.Supply.Accepted.{unrefused, run_accepted}
use Rattle.die_log.specs.Results.InTime.{events_of_log}
use Rattle.die_log.proofs.demands.demanded_work_is_accepted.Goals as goal

pub returns : goal.returns
returns c = record {
  next = λ start terms bound passes supply stocked past event rest exact keeps.
      unrefused start terms bound passes supply past event rest exact keeps
      (stocked_for start terms (events_of_log past ++ event ∷ rest) keeps stocked);
  run = λ start terms bound passes supply stocked calls keeps.
      run_accepted start terms bound passes supply [] calls tt keeps (stocked_for start terms (map (λ call. call.1) calls) keeps stocked);
}
