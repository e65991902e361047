-- One of the dies that were started.
use Rattle.std.proofs.Common.{◌≡◌, ◌∙◌, ap, sym, subst, ℕ, zero, suc, ◌<◌, List, [], ◌∷◌, get_or, length, map, All, Some, arith}
use Rattle.std.specs.Prelude.{slice_get}
use Rattle.std.proofs.lemmas.List.{length-map}
use Rattle.std.proofs.Math.ListN.{get_or-map}
use Rattle.flashplan_script_runs.specs.RunningDies.{HasEmptyLog, starts_of}
use Rattle.flashplan_watched_runs.specs.Runs.{begun}
use Rattle.flashplan_watched_runs.specs.declared.started_dies.StartedDie.{StartedDie}

pub starts_there : (dies : List StartedDie) (die : ℕ) (own : StartedDie) → die < length dies → own ≡ get_or dies die own
    → slice_get (starts_of (map begun dies)) die ≡ Some (begun own).start
starts_there [] die own there is = absurd (omega (arith, there))
starts_there (x ∷ xs) zero own there is = ap (λ (d : StartedDie). Some (begun d).start) (sym is)
starts_there (x ∷ xs) (suc die) own there is = starts_there xs die own (omega (arith, there)) is

pub empty_there : (dies : List StartedDie) (die : ℕ) (own : StartedDie) → die < length dies → own ≡ get_or dies die own
    → All HasEmptyLog (map begun dies) → HasEmptyLog (begun own)
empty_there dies die own there is all =
    subst HasEmptyLog (get_or-map begun dies die own ∙ ap begun (sym is))
    (all die (begun own) (omega (arith, there, length-map dies begun)))
