use Rattle.std.proofs.Common.{[], ◌∷◌, ◌++◌}
use Rattle.turn_lock.specs.Log.{entry}
use Rattle.planned_ports.specs.declared.calls.Request.TheVariants as requests
use Rattle.planned_ports.proofs.history.History.with_slot.Given as goal

abbrev pub ghost-beside_slot : goal.ghost-beside_slot
ghost-beside_slot a = a._before.now.calls ++ entry a._caller requests.Slot a._answer.now ∷ []
