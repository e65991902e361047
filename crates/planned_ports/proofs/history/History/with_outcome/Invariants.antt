use Rattle.std.proofs.Common.{[], ◌∷◌, ◌++◌}
use Rattle.turn_lock.specs.Log.{entry}
use Rattle.planned_ports.specs.declared.calls.Request.TheVariants as requests
use Rattle.planned_ports.proofs.history.History.with_outcome.Given as goal

abbrev pub ghost-beside_outcome : goal.ghost-beside_outcome
ghost-beside_outcome a = a._before.now.calls ++ entry a._caller (requests.Outcome a._task) a._answer.now ∷ []
