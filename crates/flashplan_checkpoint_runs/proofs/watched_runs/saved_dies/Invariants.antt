use Rattle.std.proofs.Common.{◌≡◌, ◌+◌, ◌++◌, None, length, map}
use Rattle.std.specs.Prelude.{All}
use Rattle.std.specs.Vec.Iter.{into_iter_items}
use Rattle.flashplan_script_runs.specs.RunningDies.{HasEmptyLog, starts_of}
use Rattle.flashplan_checkpoint_runs.specs.SavedDies.{saved_starts}
use Rattle.flashplan_checkpoint_runs.proofs.Refused.{AreLeft}
use Rattle.flashplan_watched_runs.specs.Runs.{StartsWell, begun}
use Rattle.flashplan_checkpoint_runs.proofs.watched_runs.saved_dies.Given as goal

abbrev pub invariant-loop-plan : goal.invariant-loop-plan
invariant-loop-plan l = record {
  can_next : goal.iterator-loop-plan.can_next l.plan-iterator;
  is_finite : goal.iterator-loop-plan.is_finite l.plan-iterator;
  empty : All HasEmptyLog (map begun l.dies.items);
  well : l.fn.fail ≡ None → All StartsWell l.dies.items;
  starts : starts_of (map begun l.dies.items) ++ saved_starts (into_iter_items l.plan-iterator) l.left ≡ saved_starts l.fn.plan l.saved;
  count : length l.dies.items + length (into_iter_items l.plan-iterator) ≡ length l.fn.plan;
  gone : AreLeft l.fn.plan l.saved (into_iter_items l.plan-iterator) l.left;
  left : length l.left ≡ length (into_iter_items l.plan-iterator);
}
