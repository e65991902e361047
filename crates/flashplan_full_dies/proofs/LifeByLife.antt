-- Lives, one after the other.
use Rattle.std.proofs.Common.{◌≡◌, ℕ, zero, suc, ◌+◌, List, Option, Some, None, refl, subst, arith}
use Rattle.std.specs.Prelude.{All, IfSome}
use Rattle.slot_types.specs.declared.plans.DiePlan.{DiePlan}
use Rattle.checkpoint_texts.specs.declared.saved.SavedDie.{SavedDie}
use Rattle.flashplan_full_dies.specs.FullDies.{AreSlow, IsLeftAfter, IsFull, IsLife}
use Rattle.flashplan_full_dies.specs.declared.fills.TheConstants.{MOST_LIVES}

pub one_more : (plans : List DiePlan) (lives refused more : ℕ) (before : Option (List SavedDie)) (after : List SavedDie)
    → IsLeftAfter plans lives refused before → IsLife plans before more after → IsLeftAfter plans (lives + 1) (refused + more) (Some after)
one_more plans lives refused more before after before_it own =
    let next : suc lives ≡ lives + 1 = omega arith in
    subst (λ (n : ℕ). IsLeftAfter plans n (refused + more) (Some after)) next
    (before, (refused, (before_it, (after, (more, (refl, (refl, own)))))))

-- after a life or more something was saved
pub slow : (plans : List DiePlan) (lives refused : ℕ) (saved : Option (List SavedDie)) → lives ≡ MOST_LIVES → IsLeftAfter plans lives refused saved
    → IfSome saved (λ dies. ¬ All IsFull dies) → AreSlow plans
slow plans zero refused saved many before_it none_full = absurd (omega (arith, many))
slow plans (suc lives) refused None many before_it none_full = absurd (none before_it.1.1.1.0 before_it.1.1.1.1.1.0)
  where
    none : (after : List SavedDie) → ◌≡◌ {A = Option (List SavedDie)} None (Some after) → ⊥
    none after e = cc
slow plans (suc lives) refused (Some dies) many before_it none_full = record {
  lives = suc lives;
  all_lives = many;
  refused = refused;
  saved = dies;
  left = before_it;
  not_full = none_full;
}
