use Rattle.std.proofs.Common.{◌≡◌, ◌++◌, map}
use Rattle.std.specs.Vec.Iter.{into_iter_items}
use Rattle.flashplan_checkpoint_runs.specs.SavedDies.{saved_end}
use Rattle.flashplan_checkpoint_runs.proofs.saving.save_dies.Given as goal

abbrev pub invariant-loop-die : goal.invariant-loop-die
invariant-loop-die l = record {
  can_next : goal.iterator-loop-die.can_next l.die-iterator;
  is_finite : goal.iterator-loop-die.is_finite l.die-iterator;
  saved : l.store ++ map saved_end (into_iter_items l.die-iterator) ≡ map saved_end l.fn.dies.items;
}
