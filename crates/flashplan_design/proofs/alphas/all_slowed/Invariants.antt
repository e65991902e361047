use Rattle.std.proofs.Common.{take}
use Rattle.std.specs.List.{AllZip}
use Rattle.flashplan_design.specs.Alphas.{IsSlowed}
use Rattle.flashplan_design.proofs.alphas.all_slowed.Given as goal

abbrev pub invariant-loop-i : goal.invariant-loop-i
invariant-loop-i l = AllZip (IsSlowed l.alpha l.common) (take l.i l.tasks) l.made
