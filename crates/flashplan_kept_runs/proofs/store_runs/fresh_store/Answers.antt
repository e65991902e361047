use Rattle.std.proofs.Common.{rules, ◌≡◌, ◌++◌, ◌∷◌, [], List, ap, append_assoc, sym, subst, ◌∙◌, map}
use Rattle.std.specs.Prelude.{All}
use Rattle.std.specs.List.{AllZip}
use Rattle.std.specs.Vec.Iter.{into_iter_items}
use Rattle.flash_die.specs.Memory.{Memory}
use Rattle.planned_die.specs.Planned.{Planned}
use Rattle.terms_texts.specs.declared.stores.DieTerms.{DieTerms}
use Rattle.flashplan_kept_runs.specs.KeptDies.{AreWithin, BeginsBy, HasEmptyLog, begins_of, kept_of}
use Rattle.flashplan_kept_runs.proofs.FreshDies.{empty_more, within_more, zip_die}
use Rattle.flashplan_kept_runs.proofs.store_runs.fresh_store.Goals as goal

pub loop-plan-preserved : goal.loop-plan-preserved
loop-plan-preserved c =
    let left : List DieTerms = into_iter_items c.next.new.self in
    let plan = c.in-Some.plan in
    let here : into_iter_items c.loop-plan.plan-iterator ≡ plan ∷ left = search rules in
    let h = c.loop-plan.invariant in
    let dies = c.loop-plan.dies.items in
    let die = c.in_ok-die.die in
    let pushed = c.in_ok-push.ensures.ok in
    record {
      can_next = tt;
      is_finite = tt;
      done = h.done ++ plan ∷ [];
      all = append_assoc h.done (plan ∷ []) left ∙ (ap (λ (l : List DieTerms). h.done ++ l) (sym here) ∙ h.all);
      begin = subst (λ (l : List (Planned Memory)). AllZip BeginsBy (h.done ++ plan ∷ []) (begins_of (map kept_of l))) (sym pushed)
          (zip_die kept_of dies die BeginsBy h.done plan h.begin c.in_ok-die.ensures.begins);
      empty = subst (λ (l : List (Planned Memory)). All HasEmptyLog (map kept_of l)) (sym pushed)
          (empty_more kept_of dies die h.empty c.in_ok-die.ensures.empty);
      within = subst (λ (l : List (Planned Memory)). AreWithin c.args.slots (map kept_of l)) (sym pushed)
          (within_more kept_of dies die c.args.slots h.within c.in_ok-die.ensures.within);
    }
