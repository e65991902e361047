use Rattle.flashplan_script_runs.specs.RunningDies.{running_of}
use Rattle.flashplan_script_runs.proofs.Calls.{IsOnTheWay}
use Rattle.flashplan_script_runs.proofs.die_cores.DieCoreScriptDie.carry_to.Given as goal

abbrev pub invariant-loop-present : goal.invariant-loop-present
invariant-loop-present g l = IsOnTheWay l.slot l._present (running_of l.fn.self) (running_of l.self)
