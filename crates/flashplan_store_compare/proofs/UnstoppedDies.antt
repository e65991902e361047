-- Dies that aren't stopped, as they run.
use Rattle.std.proofs.Common.{◌≡◌, List, [], ◌∷◌, ◌++◌, false, map, subst, sym}
use Rattle.std.specs.Prelude.{All}
use Rattle.std.proofs.lemmas.List.{map-append}
use Rattle.std.proofs.lemmas.List.Elements.{All-cons, All-head, All-map, All-nil, All-push, All-tail}
use Rattle.flashplan_script_runs.specs.RunningDies.{RunningDie}

abbrev Runs : RunningDie → Type 0
Runs die = die.stopped ≡ false

module _ {D : Type 0} (f : D → RunningDie) where
  pub each_runs : (dies : List D) → All Runs (map f dies) → All (λ (die : D). Runs (f die)) dies
  each_runs [] all = All-nil (λ (die : D). Runs (f die))
  each_runs (die ∷ dies) all =
      All-cons (λ (d : D). Runs (f d)) die dies (All-head Runs (f die) (map f dies) all) (each_runs dies (All-tail Runs (f die) (map f dies) all))

  pub all_run : (dies : List D) → All (λ (die : D). Runs (f die)) dies → All Runs (map f dies)
  all_run dies each = All-map Runs f dies each

  pub one_more_runs : (dies : List D) (die : D) → All Runs (map f dies) → Runs (f die) → All Runs (map f (dies ++ die ∷ []))
  one_more_runs dies die all runs = subst (All Runs) (sym (map-append f dies (die ∷ []))) (All-push Runs (map f dies) (f die) all runs)
