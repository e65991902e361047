use Rattle.std.proofs.Common.{◌≤◌, ◌<◌, All, take}
use Rattle.flash_c.proofs.kept.most_ops.Given as goal

abbrev pub invariant-loop-task : goal.invariant-loop-task
invariant-loop-task l = (65 ≤ l.most) × All (λ t. t.work < l.most) (take l.task-index l.task-items)
