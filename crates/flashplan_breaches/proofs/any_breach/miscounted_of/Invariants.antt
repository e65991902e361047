use Rattle.std.proofs.Common.{ℕ, ◌<◌, map}
use Rattle.flashplan_breaches.specs.Arrivals.{arrival_of}
use Rattle.flashplan_breaches.specs.Trials.{IsCounted}
use Rattle.flashplan_breaches.proofs.any_breach.miscounted_of.Given as goal

abbrev pub invariant-loop-slot : goal.invariant-loop-slot
invariant-loop-slot l = (slot : ℕ) → slot < l.slot → IsCounted l.times l.end (map arrival_of l.all) l.task slot
