use Rattle.std.proofs.Common.{rules, ◌≡◌, ◌++◌, ◌∷◌, [], List, All, ap, append_assoc, sym, subst, ◌∙◌, map}
use Rattle.std.specs.Global.{Box}
use Rattle.std.proofs.lemmas.List.Elements.{All-cons}
use Rattle.std.specs.Vec.Iter.{into_iter_items}
use Rattle.flashplan_watched_runs.specs.Runs.{worn_of}
use Rattle.flashplan_watched_runs.specs.Wear.{IsWorn}
use Rattle.flashplan_watched_runs.specs.declared.die_runs.DieRun.{DieRun}
use Rattle.flashplan_watched_runs.specs.declared.tallies.Tally.{Tally}
use Rattle.flashplan_watched_runs.proofs.script_runs.tallies_of.Goals as goal

abbrev tally_in : Box DieRun → Tally
tally_in run = (worn_of run).tally

pub loop-run-preserved : goal.loop-run-preserved
loop-run-preserved c =
    let left : List (Box DieRun) = into_iter_items c.next.new.self in
    let here : into_iter_items c.loop-run.run-iterator ≡ c.in-Some.run' ∷ left = search rules in
    let old = c.loop-run.tallies.items in
    record {
      can_next = tt;
      is_finite = tt;
      tallies = ap (λ (all : List Tally). all ++ map tally_in left) c.in_ok-push_tally.ensures.ok
          ∙ append_assoc old (c.tally_of.result ∷ []) (map tally_in left)
          ∙ ap (λ (tally : Tally). old ++ tally ∷ map tally_in left) c.tally_of.ensures.tally
          ∙ ap (λ (runs : List (Box DieRun)). old ++ map tally_in runs) (sym here) ∙ c.loop-run.invariant.tallies;
      worn = λ rest. c.loop-run.invariant.worn (
          subst (All (λ (run : Box DieRun). IsWorn (worn_of run))) (sym here)
          (All-cons (λ (run : Box DieRun). IsWorn (worn_of run)) c.in-Some.run' left c.tally_of.ensures.worn rest));
    }
