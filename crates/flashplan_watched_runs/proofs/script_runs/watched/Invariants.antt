use Rattle.std.proofs.Common.{◌≡◌, ◌++◌, map}
use Rattle.std.specs.Global.{Box}
use Rattle.std.specs.Prelude.{All}
use Rattle.std.specs.Vec.Iter.{into_iter_items}
use Rattle.flashplan_script_runs.specs.RunningDies.{HasEmptyLog}
use Rattle.flashplan_watched_runs.specs.Failing.{RunsWell}
use Rattle.flashplan_watched_runs.specs.Runs.{StartsWell, begun, core_of, running}
use Rattle.flashplan_watched_runs.specs.declared.die_runs.DieRun.{DieRun}
use Rattle.flashplan_watched_runs.proofs.script_runs.watched.Given as goal

abbrev pub invariant-loop-started : goal.invariant-loop-started
invariant-loop-started l = record {
  can_next : goal.iterator-loop-started.can_next l.started-iterator;
  is_finite : goal.iterator-loop-started.is_finite l.started-iterator;
  same : map running l.runs.items ++ map begun (into_iter_items l.started-iterator) ≡ map begun l.fn.dies.items;
  well : All StartsWell l.fn.dies.items → All (λ (run : Box DieRun). RunsWell (core_of run)) l.runs.items;
  starts_well : All StartsWell l.fn.dies.items → All StartsWell (into_iter_items l.started-iterator);
  empty : All HasEmptyLog (map begun (into_iter_items l.started-iterator));
}
