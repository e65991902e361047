use Rattle.std.proofs.Common.{take}
use Rattle.planned_die.specs.OwnCollections.{AreQuiet}
use Rattle.planned_die.proofs.next_collections.next_collection.Given as goal

abbrev pub invariant-loop-task : goal.invariant-loop-task
invariant-loop-task l = AreQuiet (take l.task-index l.tasks) l.from l.next
