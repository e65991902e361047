use Rattle.flashplan_script_runs.specs.RunningDies.{running_of}
use Rattle.flashplan_script_runs.specs.ScriptRuns.{GoesOn}
use Rattle.flashplan_checkpoint_runs.proofs.settling.settle_die.Given as goal

abbrev pub invariant-loop-number : goal.invariant-loop-number
invariant-loop-number l = GoesOn (running_of l.fn.die) (running_of l.die)
