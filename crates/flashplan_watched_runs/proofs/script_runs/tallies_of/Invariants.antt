use Rattle.std.proofs.Common.{◌≡◌, ◌++◌, map}
use Rattle.std.specs.Global.{Box}
use Rattle.std.specs.Prelude.{All}
use Rattle.std.specs.Vec.Iter.{into_iter_items}
use Rattle.flashplan_watched_runs.specs.Runs.{worn_of}
use Rattle.flashplan_watched_runs.specs.Wear.{IsWorn}
use Rattle.flashplan_watched_runs.specs.declared.die_runs.DieRun.{DieRun}
use Rattle.flashplan_watched_runs.proofs.script_runs.tallies_of.Given as goal

abbrev pub invariant-loop-run : goal.invariant-loop-run
invariant-loop-run l = record {
  can_next : goal.iterator-loop-run.can_next l.run-iterator;
  is_finite : goal.iterator-loop-run.is_finite l.run-iterator;
  tallies : l.tallies.items ++ map (λ (run : Box DieRun). (worn_of run).tally) (into_iter_items l.run-iterator)
      ≡ map (λ (run : Box DieRun). (worn_of run).tally) l.fn.dies.items;
  worn : All (λ (run : Box DieRun). IsWorn (worn_of run)) (into_iter_items l.run-iterator)
      → All (λ (run : Box DieRun). IsWorn (worn_of run)) l.fn.dies.items;
}
