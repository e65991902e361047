use Rattle.std.proofs.Common.{◌≡◌, take}
use Rattle.flashplan_run_figures.specs.Ends.{lateness_in}
use Rattle.flashplan_run_figures.proofs.ends.lateness_in.Given as goal

abbrev pub invariant-loop-end : goal.invariant-loop-end
invariant-loop-end l = l.found.items ≡ lateness_in l.task (take l.end-index l.ends)
