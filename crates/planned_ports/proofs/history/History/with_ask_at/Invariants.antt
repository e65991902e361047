use Rattle.std.proofs.Common.{[], ◌∷◌, ◌++◌}
use Rattle.turn_lock.specs.Log.{entry}
use Rattle.planned_ports.specs.declared.calls.Request.TheVariants as requests
use Rattle.planned_ports.proofs.history.History.with_ask_at.Given as goal

abbrev pub ghost-beside_ask_at : goal.ghost-beside_ask_at
ghost-beside_ask_at a = a._before.now.calls ++ entry a._caller (requests.AskAt a._kind a._task a._ops.now a._at) a._answer.now ∷ []
