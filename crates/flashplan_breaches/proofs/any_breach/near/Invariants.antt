use Rattle.flashplan_breaches.proofs.Trying.{ApartBelow}
use Rattle.flashplan_breaches.proofs.any_breach.near.Given as goal

abbrev pub invariant-loop-later : goal.invariant-loop-later
invariant-loop-later l = ApartBelow l.times l.all l.later
