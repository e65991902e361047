use Rattle.std.proofs.Common.{◌≡◌, ◌++◌, map}
use Rattle.std.specs.Vec.Iter.{into_iter_items}
use Rattle.flashplan_checkpoint_runs.specs.Runs.{running, running_in}
use Rattle.flashplan_checkpoint_runs.proofs.store_runs.boxed.Given as goal

abbrev pub invariant-loop-die : goal.invariant-loop-die
invariant-loop-die l = record {
  can_next : goal.iterator-loop-die.can_next l.die-iterator;
  is_finite : goal.iterator-loop-die.is_finite l.die-iterator;
  same : map running_in l.boxed.items ++ running (into_iter_items l.die-iterator) ≡ running l.fn.dies.items;
}
