use Rattle.std.proofs.Common.{ℕ, ◌<◌, map}
use Rattle.flashplan_breaches.specs.Arrivals.{arrival_of}
use Rattle.flashplan_breaches.specs.Trials.{IsCounted}
use Rattle.flashplan_breaches.proofs.any_breach.miscounted.Given as goal

abbrev pub invariant-loop-task : goal.invariant-loop-task
invariant-loop-task l = (task slot : ℕ) → task < l.task → IsCounted l.times l.end (map arrival_of l.all) task slot
