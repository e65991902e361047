use Rattle.std.proofs.Common.{◌≡◌, map, take}
use Rattle.flash_c.specs.Plans.{times_in}
use Rattle.flash_c.proofs.plans.times_in.Given as goal

abbrev pub invariant-loop-task : goal.invariant-loop-task
invariant-loop-task l = l.times ≡ map times_in (take l.task-index l.tasks)
