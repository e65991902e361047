-- What is printed of dies that ran is what they wore.
use Rattle.std.proofs.Common.{◌≡◌, ℕ, false, List, [], ◌∷◌, All, map, refl, ap, sym, ◌∙◌, subst, Option}
use Rattle.std.specs.Global.{Box}
use Rattle.std.proofs.lemmas.List.Elements.{All-map}
use Rattle.die_log.specs.Model.Start.{Start}
use Rattle.flashplan_script_runs.specs.Counted.{CountsRows}
use Rattle.flashplan_script_runs.specs.RunningDies.{RunningDie}
use Rattle.flashplan_script_runs.specs.declared.counted.RefusedRows.{RefusedRows}
use Rattle.flashplan_script_runs.specs.declared.refused.RefusedRow.{RefusedRow}
use Rattle.flashplan_script_runs.specs.ScriptRuns.{IsRunOf}
use Rattle.flashplan_watched_runs.specs.Runs.{running, worn_of}
use Rattle.flashplan_watched_runs.specs.Wear.{IsWorn, Worn}
use Rattle.flashplan_watched_runs.specs.WearText.{IsWearFrom, wear_text}
use Rattle.flashplan_watched_runs.specs.declared.die_runs.DieRun.{DieRun}
use Rattle.flashplan_watched_runs.specs.declared.tallies.Tally.{Tally}

pub map_twice : {X Y Z : Type 0} (f : Y → Z) (g : X → Y) (xs : List X) → map f (map g xs) ≡ map (λ (x : X). f (g x)) xs
map_twice f g [] = refl
map_twice {X} {Y} {Z} f g (x ∷ xs) = ap (λ (l : List Z). f (g x) ∷ l) (map_twice f g xs)

pub is_wear_text : (starts : List Start) (script : Option (List ℕ)) (slots : ℕ) (refused : List RefusedRow) (counts : RefusedRows)
    (dies : List (Box DieRun)) (tallies : List Tally) (text : List ℕ)
    → IsRunOf starts script slots refused (map running dies) → CountsRows refused counts
    → tallies ≡ map (λ (run : Box DieRun). (worn_of run).tally) dies
    → All (λ (run : Box DieRun). (running run).stopped ≡ false) dies → All (λ (run : Box DieRun). IsWorn (worn_of run)) dies
    → text ≡ wear_text tallies → IsWearFrom starts script slots counts text
is_wear_text starts script slots refused counts dies tallies text ran counted are well worn is = record {
  dies = map worn_of dies;
  refused = refused;
  ran = subst (λ (l : List RunningDie). IsRunOf starts script slots refused l)
      (sym (map_twice (λ (die : Worn). die.run) worn_of dies)) ran;
  counted = counted;
  none_stopped = All-map (λ (die : Worn). die.run.stopped ≡ false) worn_of dies well;
  worn = All-map IsWorn worn_of dies worn;
  is = is ∙ ap wear_text (are ∙ sym (map_twice (λ (die : Worn). die.tally) worn_of dies));
}
