use Rattle.std.proofs.Common.{rules, ◌≡◌, ◌++◌, ◌∷◌, [], List, ap, append_assoc, sym, ◌∙◌, map}
use Rattle.std.proofs.lemmas.List.{map-append}
use Rattle.std.specs.Global.{Box}
use Rattle.std.specs.Vec.Iter.{into_iter_items}
use Rattle.flash_die.specs.Memory.{Memory}
use Rattle.slot_core.specs.Core.{Core}
use Rattle.flashplan_script_runs.specs.RunningDies.{RunningDie, running_of}
use Rattle.flashplan_checkpoint_runs.specs.Runs.{running, running_in}
use Rattle.flashplan_checkpoint_runs.proofs.store_runs.boxed.Goals as goal

pub loop-die-preserved : goal.loop-die-preserved
loop-die-preserved c =
    let left : List (Core Memory) = into_iter_items c.next.new.self in
    let here : into_iter_items c.loop-die.die-iterator ≡ c.in-Some.die ∷ left = search rules in
    let old = c.loop-die.boxed.items in
    record {
      can_next = tt;
      is_finite = tt;
      same = ap (λ (dies : List (Box (Core Memory))). map running_in dies ++ running left) c.in_ok-push_die.ensures.ok
          ∙ ap (λ (dies : List RunningDie). dies ++ running left) (map-append running_in old (c.in_ok-own.own ∷ []))
          ∙ append_assoc (map running_in old) (running_in c.in_ok-own.own ∷ []) (running left)
          ∙ ap (λ (core : Core Memory). map running_in old ++ running_of core ∷ running left) c.in_ok-own.ensures.value
          ∙ ap (λ (dies : List (Core Memory)). map running_in old ++ running dies) (sym here) ∙ c.loop-die.invariant.same;
    }
