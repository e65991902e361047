use Rattle.std.proofs.Common.{◌≡◌, drop, length}
use Rattle.std.specs.List.{AllZip}
use Rattle.flashplan_checkpoint_runs.specs.SavedDies.{FitsDie}
use Rattle.flashplan_checkpoint_runs.proofs.explained.check_store.Given as goal

abbrev pub invariant-loop-own : goal.invariant-loop-own
invariant-loop-own l = record {
  fit : AllZip FitsDie (drop l.own-index l.plan) l.left → AllZip FitsDie l.plan l.saved;
  left : length l.left ≡ length (drop l.own-index l.plan);
}
