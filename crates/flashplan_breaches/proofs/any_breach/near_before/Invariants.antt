use Rattle.std.proofs.Common.{ℕ, ◌<◌}
use Rattle.flashplan_breaches.specs.Trials.{ApartAt}
use Rattle.flashplan_breaches.proofs.any_breach.near_before.Given as goal

abbrev pub invariant-loop-earlier : goal.invariant-loop-earlier
invariant-loop-earlier l = (earlier : ℕ) → earlier < l.earlier → ApartAt l.times l.all earlier l.later
