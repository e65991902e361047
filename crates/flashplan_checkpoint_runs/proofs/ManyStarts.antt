-- There are as many starts as dies.
use Rattle.std.proofs.Common.{◌≡◌, ℕ, List, length, map, ap, sym, ◌∙◌}
use Rattle.std.proofs.lemmas.List.{length-map}
use Rattle.die_log.specs.Model.Start.{Start}
use Rattle.slot_core.specs.Core.{Core}
use Rattle.flashplan_script_runs.specs.RunningDies.{RunningDie, running_of}
use Rattle.flashplan_checkpoint_runs.specs.Runs.{starts_of}

pub many_starts : {N : Type 0} (starts : List Start) (dies : List (Core N)) (count : ℕ) → starts_of dies ≡ starts → length dies ≡ count
    → length starts ≡ count
many_starts starts dies count are all =
    sym (ap length are) ∙ (length-map (map running_of dies) (λ (die : RunningDie). die.start) ∙ (length-map dies running_of ∙ all))
