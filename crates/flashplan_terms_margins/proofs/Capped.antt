-- A plan that differs from another in the cap of a task alone meets its bound with other caps of it where that one does.
use Rattle.std.proofs.Common.{◌≡◌, ℕ, ◌↔◌, Bool, true, false, IsTrue, ap, sym, subst, ◌∙◌}
use Rattle.std.proofs.Common.{List, zero, suc, [], ◌∷◌, refl, get_or}
use Rattle.std.specs.Prelude.{slice_set}
use Rattle.std.proofs.lemmas.List.{set-set}
use Rattle.plan_rules.specs.Bound.{MeetsBound}
use Rattle.slot_types.specs.declared.plans.DiePlan.{DiePlan}
use Rattle.flashplan_terms_margins.specs.Changes.{IsAlikeButCap, MeetsWithCap, with_cap}

pub cap-still-alike : (task : ℕ) (one other plan : DiePlan) → IsAlikeButCap task one other → IsAlikeButCap task other plan
    → IsAlikeButCap task one plan
cap-still-alike task one other plan first second cap = first cap ∙ second cap

-- what was tried of one is known of the other
pub meets-for : (task : ℕ) (one other : DiePlan) (cap : ℕ) (b : Bool) → IsAlikeButCap task one other → (IsTrue b ↔ MeetsWithCap one task cap)
    → b ≡ true → MeetsWithCap other task cap
meets-for task one other cap b alike h taken = subst MeetsBound (alike cap) (h.0 taken)

pub misses-for : (task : ℕ) (one other : DiePlan) (cap : ℕ) (b : Bool) → IsAlikeButCap task one other → (IsTrue b ↔ MeetsWithCap one task cap)
    → b ≡ false → ¬ MeetsWithCap other task cap
misses-for task one other cap b alike h left = λ meets. cc (sym (h.1 (subst MeetsBound (sym (alike cap)) meets)) ∙ left)

-- a cap that is changed twice is as it was changed last, and with its own again a plan is as it was
pub cap-changed-again : (plan : DiePlan) (task one other : ℕ) → with_cap (with_cap plan task one) task other ≡ with_cap plan task other
cap-changed-again plan task one other = ap (λ (l : List ℕ). record plan { caps = l }) (set-set plan.caps task one other)

set-own : (xs : List ℕ) (i d : ℕ) → slice_set xs i (get_or xs i d) ≡ xs
set-own [] i d = refl
set-own (x ∷ xs) zero d = refl
set-own (x ∷ xs) (suc i) d = ap (λ (l : List ℕ). x ∷ l) (set-own xs i d)

pub own-cap-again : (task : ℕ) (one plan : DiePlan) (own : ℕ) → IsAlikeButCap task one plan → own ≡ get_or plan.caps task 0
    → with_cap one task own ≡ plan
own-cap-again task one plan own alike is =
    alike own ∙ (ap (λ (n : ℕ). with_cap plan task n) is ∙ ap (λ (l : List ℕ). record plan { caps = l }) (set-own plan.caps task 0))
