use Rattle.std.proofs.Common.{◌≡◌, take}
use Rattle.flashplan_run_figures.specs.Ends.{how_many}
use Rattle.flashplan_run_figures.proofs.ends.how_many.Given as goal

abbrev pub invariant-loop-end : goal.invariant-loop-end
invariant-loop-end l = l.count ≡ how_many l.task l.kind (take l.end-index l.ends)
