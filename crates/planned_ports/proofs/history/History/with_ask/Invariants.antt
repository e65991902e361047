use Rattle.std.proofs.Common.{[], ◌∷◌, ◌++◌}
use Rattle.turn_lock.specs.Log.{entry}
use Rattle.planned_ports.specs.declared.calls.Request.TheVariants as requests
use Rattle.planned_ports.proofs.history.History.with_ask.Given as goal

abbrev pub ghost-beside_ask : goal.ghost-beside_ask
ghost-beside_ask a = a._before.now.calls ++ entry a._caller (requests.Ask a._kind a._task a._ops.now) a._answer.now ∷ []
