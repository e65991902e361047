use Rattle.std.proofs.Common.{◌≡◌, map, take}
use Rattle.flashplan_terms_changes.specs.Alphas.{slowed}
use Rattle.flashplan_terms_changes.proofs.alphas.all_slowed.Given as goal

abbrev pub invariant-loop-i : goal.invariant-loop-i
invariant-loop-i l = l.made ≡ map (slowed l.alpha) (take l.i l.tasks)
