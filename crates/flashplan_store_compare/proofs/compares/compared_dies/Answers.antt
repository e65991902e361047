use Rattle.std.proofs.Common.{rules, ◌≡◌, ◌++◌, ◌∷◌, [], List, ap, append_assoc, sym, ◌∙◌, map}
use Rattle.std.specs.Global.{Box}
use Rattle.std.proofs.lemmas.List.{map-append}
use Rattle.std.specs.Vec.Iter.{into_iter_items}
use Rattle.flash_die.specs.Memory.{Memory}
use Rattle.slot_core.specs.Core.{Core}
use Rattle.flashplan_script_runs.specs.RunningDies.{RunningDie}
use Rattle.flashplan_store_compare.specs.Runs.{begun, running}
use Rattle.flashplan_store_compare.specs.declared.compared_dies.ComparedDie.{ComparedDie}
use Rattle.flashplan_store_compare.proofs.compares.compared_dies.Goals as goal

pub loop-core-preserved : goal.loop-core-preserved
loop-core-preserved c =
    let left : List (Box (Core Memory)) = into_iter_items c.next.new.self in
    let here : into_iter_items c.loop-core.core-iterator ≡ c.in-Some.core ∷ left = search rules in
    let old = c.loop-core.dies.items in
    record {
      can_next = tt;
      is_finite = tt;
      running = ap (λ (dies : List (Box ComparedDie)). map running dies ++ map begun left) c.in_ok-push_die.ensures.ok
          ∙ ap (λ (dies : List RunningDie). dies ++ map begun left) (map-append running old (c.in_ok-die.die ∷ []))
          ∙ append_assoc (map running old) (running c.in_ok-die.die ∷ []) (map begun left)
          ∙ ap (λ (die : RunningDie). map running old ++ die ∷ map begun left) c.in_ok-die.ensures.running
          ∙ ap (λ (cores : List (Box (Core Memory))). map running old ++ map begun cores) (sym here) ∙ c.loop-core.invariant.running;
    }
