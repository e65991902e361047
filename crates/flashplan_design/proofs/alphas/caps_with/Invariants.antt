use Rattle.std.proofs.Common.{◌≡◌, map, take}
use Rattle.flashplan_design.specs.Alphas.{least_cap}
use Rattle.flashplan_design.proofs.alphas.caps_with.Given as goal

abbrev pub invariant-loop-i : goal.invariant-loop-i
invariant-loop-i l = l.made ≡ map (least_cap l.alpha) (take l.i l.tasks)
