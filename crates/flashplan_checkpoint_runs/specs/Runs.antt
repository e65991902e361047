-- What comes of a run on the dies of a store.
use Rattle.std.specs.Prelude.{◌≡◌, ℕ, All, Bool, false, List, map, Option, Some, None, IfSome, box_value, slice_get}
use Rattle.std.specs.Global.{Box}
use Rattle.std.specs.List.{AllZip}
use Rattle.slot_types.specs.declared.plans.DiePlan.{DiePlan}
use Rattle.checkpoint_texts.specs.declared.saved.SavedDie.{SavedDie}
use Rattle.die_log.specs.Model.Start.{Start, fresh}
use Rattle.flash_die.specs.Fuse.{Fuse}
use Rattle.slot_core.specs.Core.{Core}
use Rattle.flashplan_script_runs.specs.RunningDies as runs
use Rattle.flashplan_script_runs.specs.RunningDies.{RunningDie, running_of}
use Rattle.flashplan_script_runs.specs.ScriptRuns.{GoesOn, IsRunOf}
use Rattle.flashplan_script_runs.specs.Counted.{CountsRows}
use Rattle.flashplan_script_runs.specs.declared.counted.RefusedRows.{RefusedRows}
use Rattle.flashplan_script_runs.specs.declared.refused.RefusedRow.{RefusedRow}
use Rattle.flashplan_watched_runs.specs.Failing.{calls_of}
use Rattle.flashplan_watched_runs.specs.declared.failing.FailAt.{FailAt}
use Rattle.flashplan_checkpoint_runs.specs.SavedDies.{saved_starts}

-- dies, as those that run the rows of a script
abbrev pub running : {N : Type 0} → List (Core N) → List RunningDie
running dies = map running_of dies

-- where their logs start
abbrev pub starts_of : {N : Type 0} → List (Core N) → List Start
starts_of dies = runs.starts_of (running dies)

-- a die in a box, as one that runs the rows of a script
abbrev pub running_in : {N : Type 0} → Box (Core N) → RunningDie
running_in die = running_of (box_value die)

-- where the logs of such dies start
abbrev pub boxed_starts : {N : Type 0} → List (Box (Core N)) → List Start
boxed_starts dies = runs.starts_of (map running_in dies)

-- where the dies of a plan start: fresh, or as they were saved
abbrev pub starts_by : List DiePlan → Option (List SavedDie) → List Start
starts_by plan None = map fresh plan
starts_by plan (Some saved) = saved_starts plan saved

-- the device of each die, by its number, has as many calls left as it makes well
abbrev pub HaveCalls : {N : Type 0} → Option FailAt → List (Core (Fuse N)) → Type 0
HaveCalls {N} fail dies = (number : ℕ) → IfSome (slice_get dies number) (λ (die : Core (Fuse N)). die.device.left ≡ calls_of fail number)

-- no device of these failed
abbrev pub NoneStopped : List RunningDie → Type 0
NoneStopped dies = All (λ (die : RunningDie). die.stopped ≡ false) dies

-- Dies that start so ran the whole of a script of this text, and `slots` slots, and of its rows those were refused that
-- `counts` has; and then each went on for some more, if they were to.
pub record RanAndWentOn (starts : List Start) (text : Option (List ℕ)) (slots : ℕ) (more : Bool) (counts : RefusedRows)
    (dies : List RunningDie) : Type 0 where
  pub came : List RunningDie
  pub refused : List RefusedRow
  pub ran : IsRunOf starts text slots refused came
  pub counted : CountsRows refused counts
  pub none_stopped : NoneStopped came
  pub went_on : AllZip GoesOn came dies
  pub no_more : more ≡ false → dies ≡ came
