use Rattle.std.proofs.Common.{◌≡◌, ◌++◌, drop, map}
use Rattle.flashplan_checkpoint_runs.specs.SavedDies.{saved_page}
use Rattle.flashplan_checkpoint_runs.proofs.saving.pages_of.Given as goal

abbrev pub invariant-loop-place : goal.invariant-loop-place
invariant-loop-place l = l.pages ++ map (saved_page l.device.blocks) (drop l.place-index l.places) ≡ map (saved_page l.device.blocks) l.places
