use Rattle.flashplan_script_runs.specs.RunningDies.{running_of}
use Rattle.flashplan_script_runs.specs.ScriptRuns.{GoesOn}
use Rattle.flashplan_checkpoint_runs.proofs.settling.carry_out.Given as goal

abbrev pub invariant-loop-slot : goal.invariant-loop-slot
invariant-loop-slot l = GoesOn (running_of l.fn.die) (running_of l.die)
