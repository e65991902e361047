-- Dies in memory never stop.
use Rattle.std.proofs.Common.{◌≡◌, true, false, List, refl}
use Rattle.std.specs.Prelude.{All}
use Rattle.std.proofs.lemmas.List.Elements.{All-map, All-weaker}
use Rattle.flash_die.specs.Memory.{Memory}
use Rattle.slot_core.specs.Core.{Core}
use Rattle.flashplan_script_runs.specs.RunningDies.{RunningDie, running_of}
use Rattle.flashplan_checkpoint_runs.specs.Runs.{NoneStopped, running}

abbrev Runs : Core Memory → Type 0
Runs die = die.stopped ≡ false

-- as a device in memory says it, which never fails
abbrev RunsWell : Core Memory → Type 0
RunsWell die = (true ≡ true) × Runs die

pub all_run : (dies : List (Core Memory)) → All Runs dies → All RunsWell dies
all_run dies all = All-weaker Runs RunsWell (λ die is. (refl, is)) dies all

pub none_stop : (dies : List (Core Memory)) → All RunsWell dies → NoneStopped (running dies)
none_stop dies all = All-map (λ (die : RunningDie). die.stopped ≡ false) running_of dies (All-weaker RunsWell Runs (λ die both. both.1) dies all)
