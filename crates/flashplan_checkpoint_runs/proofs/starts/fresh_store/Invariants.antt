use Rattle.std.proofs.Common.{◌≡◌, ◌+◌, ◌++◌, false, length, map}
use Rattle.std.specs.Prelude.{All}
use Rattle.std.specs.Vec.Iter.{into_iter_items}
use Rattle.plan_rules.specs.Bound.{MeetsBound}
use Rattle.die_log.specs.Model.Start.{fresh}
use Rattle.flash_die.specs.Memory.{Memory}
use Rattle.slot_core.specs.Core.{Core}
use Rattle.flashplan_script_runs.specs.RunningDies.{HasEmptyLog}
use Rattle.flashplan_checkpoint_runs.specs.Runs.{running, starts_of}
use Rattle.flashplan_checkpoint_runs.proofs.starts.fresh_store.Given as goal

abbrev pub invariant-loop-plan : goal.invariant-loop-plan
invariant-loop-plan l = record {
  can_next : goal.iterator-loop-plan.can_next l.plan-iterator;
  is_finite : goal.iterator-loop-plan.is_finite l.plan-iterator;
  empty : All HasEmptyLog (running l.dies.items);
  run : All (λ (die : Core Memory). die.stopped ≡ false) l.dies.items;
  starts : starts_of l.dies.items ++ map fresh (into_iter_items l.plan-iterator) ≡ map fresh l.fn.plan;
  count : length l.dies.items + length (into_iter_items l.plan-iterator) ≡ length l.fn.plan;
  bound : All MeetsBound (into_iter_items l.plan-iterator);
}
