use Rattle.std.proofs.Common.{◌≡◌, ◌++◌, map}
use Rattle.std.specs.Vec.Iter.{into_iter_items}
use Rattle.flashplan_store_compare.specs.Runs.{begun, running}
use Rattle.flashplan_store_compare.proofs.compares.compared_dies.Given as goal

abbrev pub invariant-loop-core : goal.invariant-loop-core
invariant-loop-core l = record {
  can_next : goal.iterator-loop-core.can_next l.core-iterator;
  is_finite : goal.iterator-loop-core.is_finite l.core-iterator;
  running : map running l.dies.items ++ map begun (into_iter_items l.core-iterator) ≡ map begun l.fn.started.items;
}
