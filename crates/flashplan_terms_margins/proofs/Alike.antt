-- A die that differs from another in the terms of a task alone does with other terms of it where that one does.
use Rattle.std.proofs.Common.{◌≡◌, ℕ, ◌↔◌, Bool, true, false, Option, Some, None, IsTrue, ap, sym, subst, ◌∙◌}
use Rattle.std.proofs.Common.{List, zero, suc, [], ◌∷◌, refl, get_or}
use Rattle.std.specs.Prelude.{slice_set}
use Rattle.std.proofs.lemmas.List.{set-set}
use Rattle.demand_rules.specs.Demand.{no_terms}
use Rattle.demand_rules.specs.declared.terms.TaskTerms.{TaskTerms}
use Rattle.terms_texts.specs.Stores.{IsUsable}
use Rattle.terms_texts.specs.declared.stores.DieTerms.{DieTerms}
use Rattle.flashplan_terms_margins.specs.Changes.{Does, FindsLeast, FindsMost, IsAlike, with_number, with_own}
use Rattle.flashplan_terms_margins.specs.declared.numbers.Number.{Number}

pub still-alike : (task : ℕ) (one other made : DieTerms) → IsAlike task one other → IsAlike task other made → IsAlike task one made
still-alike task one other made first second own = first own ∙ second own

-- what was tried of one is known of the other
pub does-for : (task : ℕ) (one other : DieTerms) (own given : TaskTerms) (b : Bool) → IsAlike task one other → given ≡ own
    → (IsTrue b ↔ IsUsable (with_own one task given)) → b ≡ true → IsUsable (with_own other task own)
does-for task one other own given b alike is h taken = subst IsUsable (ap (with_own one task) is ∙ alike own) (h.0 taken)

pub doesnt-for : (task : ℕ) (one other : DieTerms) (own given : TaskTerms) (b : Bool) → IsAlike task one other → given ≡ own
    → (IsTrue b ↔ IsUsable (with_own one task given)) → b ≡ false → ¬ IsUsable (with_own other task own)
doesnt-for task one other own given b alike is h left = λ usable.
    cc (sym (h.1 (subst IsUsable (sym (ap (with_own one task) is ∙ alike own)) usable)) ∙ left)

-- and so is how far a number may change
pub most-alike : (task : ℕ) (one other : DieTerms) (own : TaskTerms) (which : Number) (from to : ℕ) (found : Option ℕ) → IsAlike task one other
    → FindsMost (Does one task own which) from to found → FindsMost (Does other task own which) from to found
most-alike task one other own which from to (Some n) alike h = record {
  above = h.above;
  below = h.below;
  does = subst IsUsable (alike (with_number which own n)) h.does;
  beyond = λ below does. h.beyond below (subst IsUsable (sym (alike (with_number which own _))) does);
}
most-alike task one other own which from to None alike h = λ some does. h some (subst IsUsable (sym (alike (with_number which own from))) does)

pub least-alike : (task : ℕ) (one other : DieTerms) (own : TaskTerms) (which : Number) (from to : ℕ) (found : Option ℕ) → IsAlike task one other
    → FindsLeast (Does one task own which) from to found → FindsLeast (Does other task own which) from to found
least-alike task one other own which from to (Some n) alike h = record {
  above = h.above;
  below = h.below;
  does = subst IsUsable (alike (with_number which own n)) h.does;
  beyond = λ fewer above next does. h.beyond fewer above next (subst IsUsable (sym (alike (with_number which own fewer))) does);
}
least-alike task one other own which from to None alike h = λ some does. h some (subst IsUsable (sym (alike (with_number which own to))) does)

-- terms that are changed twice are as they were changed last, and with its own again a die is as it was
pub changed-again : (made : DieTerms) (task : ℕ) (one other : TaskTerms) → with_own (with_own made task one) task other ≡ with_own made task other
changed-again made task one other =
    ap (λ (l : List TaskTerms). record made { terms = record made.terms { tasks = l } }) (set-set made.terms.tasks task one other)

set-own : (xs : List TaskTerms) (i : ℕ) (d : TaskTerms) → slice_set xs i (get_or xs i d) ≡ xs
set-own [] i d = refl
set-own (x ∷ xs) zero d = refl
set-own (x ∷ xs) (suc i) d = ap (λ (l : List TaskTerms). x ∷ l) (set-own xs i d)

pub own-again : (task : ℕ) (one made : DieTerms) (own : TaskTerms) → IsAlike task one made → own ≡ get_or made.terms.tasks task no_terms
    → with_own one task own ≡ made
own-again task one made own alike is =
    alike own ∙ (ap (λ (t : TaskTerms). with_own made task t) is
    ∙ ap (λ (l : List TaskTerms). record made { terms = record made.terms { tasks = l } }) (set-own made.terms.tasks task no_terms))
