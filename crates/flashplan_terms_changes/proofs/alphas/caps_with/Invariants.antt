use Rattle.std.proofs.Common.{◌≡◌, map, take}
use Rattle.flashplan_terms_changes.specs.Alphas.{cap_with}
use Rattle.flashplan_terms_changes.proofs.alphas.caps_with.Given as goal

abbrev pub invariant-loop-i : goal.invariant-loop-i
invariant-loop-i l = l.made ≡ map (cap_with l.alpha) (take l.i l.tasks)
