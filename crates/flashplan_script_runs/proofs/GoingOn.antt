-- Dies that go on after a run.
use Rattle.std.proofs.Common.{◌≡◌, ℕ, zero, suc, List, [], ◌∷◌, get_or, map, sym, subst}
use Rattle.std.specs.List.{AllZip}
use Rattle.std.proofs.Math.ListN.{set}
use Rattle.flashplan_script_runs.specs.RunningDies.{RunningDie}
use Rattle.flashplan_script_runs.specs.ScriptRuns.{GoesOn}
use Rattle.flashplan_script_runs.proofs.Calls.{goes_nowhere, goes_twice}

pub all_stay : (dies : List RunningDie) → AllZip GoesOn dies dies
all_stay [] = tt
all_stay (die ∷ dies) = (goes_nowhere die, all_stay dies)

-- one of them goes further
pub one_goes_on : {D : Type 0} (f : D → RunningDie) (dies : List RunningDie) (xs : List D) (place : ℕ) (old new : D) → old ≡ get_or xs place old
    → GoesOn (f old) (f new) → AllZip GoesOn dies (map f xs) → AllZip GoesOn dies (map f (set xs place new))
one_goes_on f dies [] place old new is on h = h
one_goes_on f [] (x ∷ xs) place old new is on h = absurd h
one_goes_on {D} f (die ∷ dies) (x ∷ xs) zero old new is on h =
    (goes_twice die (f old) (f new) (subst (λ (d : D). GoesOn die (f d)) (sym is) h.0) on, h.1)
one_goes_on f (die ∷ dies) (x ∷ xs) (suc place) old new is on h = (h.0, one_goes_on f dies xs place old new is on h.1)
