use Rattle.flashplan_script_runs.proofs.Calls.{IsOnTheWay}
use Rattle.flashplan_power_cuts.specs.CutDies.{running_of}
use Rattle.flashplan_power_cuts.proofs.cut_dies.CutDieScriptDie.carry_to.Given as goal

abbrev pub invariant-loop-present : goal.invariant-loop-present
invariant-loop-present l = IsOnTheWay l.slot l._present (running_of l.fn.self) (running_of l.self)
