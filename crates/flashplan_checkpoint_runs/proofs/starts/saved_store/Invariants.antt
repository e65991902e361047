use Rattle.std.proofs.Common.{◌≡◌, ◌+◌, ◌++◌, false, length}
use Rattle.std.specs.Prelude.{All}
use Rattle.std.specs.Vec.Iter.{into_iter_items}
use Rattle.flash_die.specs.Memory.{Memory}
use Rattle.slot_core.specs.Core.{Core}
use Rattle.flashplan_script_runs.specs.RunningDies.{HasEmptyLog}
use Rattle.flashplan_checkpoint_runs.specs.Runs.{running, starts_of}
use Rattle.flashplan_checkpoint_runs.specs.SavedDies.{saved_starts}
use Rattle.flashplan_checkpoint_runs.proofs.Refused.{AreLeft}
use Rattle.flashplan_checkpoint_runs.proofs.starts.saved_store.Given as goal

abbrev pub invariant-loop-plan : goal.invariant-loop-plan
invariant-loop-plan l = record {
  can_next : goal.iterator-loop-plan.can_next l.plan-iterator;
  is_finite : goal.iterator-loop-plan.is_finite l.plan-iterator;
  empty : All HasEmptyLog (running l.dies.items);
  run : All (λ (die : Core Memory). die.stopped ≡ false) l.dies.items;
  starts : starts_of l.dies.items ++ saved_starts (into_iter_items l.plan-iterator) l.left ≡ saved_starts l.fn.plan l.saved;
  count : length l.dies.items + length (into_iter_items l.plan-iterator) ≡ length l.fn.plan;
  gone : AreLeft l.fn.plan l.saved (into_iter_items l.plan-iterator) l.left;
  left : length l.left ≡ length (into_iter_items l.plan-iterator);
}
