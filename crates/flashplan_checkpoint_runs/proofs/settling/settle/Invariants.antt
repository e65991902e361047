use Rattle.std.proofs.Common.{◌≡◌, length}
use Rattle.std.specs.List.{AllZip}
use Rattle.flashplan_script_runs.specs.ScriptRuns.{GoesOn}
use Rattle.flashplan_checkpoint_runs.specs.Runs.{running, starts_of}
use Rattle.flashplan_checkpoint_runs.proofs.settling.settle.Given as goal

abbrev pub invariant-loop-place : goal.invariant-loop-place
invariant-loop-place l = record {
  went_on : AllZip GoesOn (running l.fn.dies.items) (running l.dies.items);
  starts : starts_of l.dies.items ≡ starts_of l.fn.dies.items;
  count : length l.dies.items ≡ length l.fn.dies.items;
}
