use Rattle.std.proofs.Common.{◌≡◌, map, take}
use Rattle.flash_c.specs.Planned.{task_terms_in}
use Rattle.flash_c.proofs.planned_said.terms_in.Given as goal

abbrev pub invariant-loop-task : goal.invariant-loop-task
invariant-loop-task l = l.tasks ≡ map task_terms_in (take l.task-index l.terms)
