use Rattle.std.proofs.Common.{◌≡◌, map, take}
use Rattle.task_outcomes.specs.Queues.{new_queue}
use Rattle.task_outcomes.proofs.die_outcomes.DieOutcomes.new.Given as goal

abbrev pub invariant-loop-own : goal.invariant-loop-own
invariant-loop-own l = l.queues.items ≡ map new_queue (take l.own-index l.terms.tasks)
