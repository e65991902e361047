use Rattle.std.proofs.Common.{rules, ◌≡◌, ◌++◌, ◌∷◌, List, ap, sym, ◌∙◌, map}
use Rattle.std.specs.Vec.Iter.{into_iter_items}
use Rattle.flash_die.specs.Memory.{Memory}
use Rattle.slot_core.specs.Core.{Core}
use Rattle.flashplan_checkpoint_runs.specs.SavedDies.{saved_end}
use Rattle.flashplan_checkpoint_runs.proofs.GoingOn.{one_saved}
use Rattle.flashplan_checkpoint_runs.proofs.saving.save_dies.Goals as goal

pub loop-die-preserved : goal.loop-die-preserved
loop-die-preserved c =
    let left : List (Core Memory) = into_iter_items c.next.new.self in
    let here : into_iter_items c.loop-die.die-iterator ≡ c.in-Some.die ∷ left = search rules in
    record {
      can_next = tt;
      is_finite = tt;
      saved = ap (λ store. store ++ map saved_end left) c.in_ok-push.ensures.ok
          ∙ one_saved c.loop-die.store c.in-Some.die c.in-Ok.saved left (map saved_end c.args.dies.items) c.in-Ok.ensures.saved
          (ap (λ (dies : List (Core Memory)). c.loop-die.store ++ map saved_end dies) (sym here) ∙ c.loop-die.invariant.saved);
    }
