use Rattle.std.proofs.Common.{◌≡◌, map, take}
use Rattle.flash_c.specs.Plans.{cap_in}
use Rattle.flash_c.proofs.plans.caps_in.Given as goal

abbrev pub invariant-loop-task : goal.invariant-loop-task
invariant-loop-task l = l.caps ≡ map cap_in (take l.task-index l.tasks)
