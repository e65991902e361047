use Rattle.std.proofs.Common.{◌≡◌, ◌++◌, drop, false, map}
use Rattle.std.specs.Prelude.{All}
use Rattle.die_log.specs.Model.Start.{fresh}
use Rattle.flashplan_script_runs.specs.RunningDies.{HasEmptyLog, RunningDie, starts_of}
use Rattle.flashplan_store_compare.specs.Runs.{begun}
use Rattle.flashplan_store_compare.proofs.started_dies.fresh_dies.Given as goal

abbrev pub invariant-loop-plan : goal.invariant-loop-plan
invariant-loop-plan l = record {
  starts : starts_of (map begun l.dies.items) ++ map fresh (drop l.plan-index l.plans) ≡ map fresh l.plans;
  empty : All HasEmptyLog (map begun l.dies.items);
  run : All (λ (die : RunningDie). die.stopped ≡ false) (map begun l.dies.items);
}
