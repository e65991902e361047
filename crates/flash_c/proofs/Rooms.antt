-- Places for the operations of any ask: as many as the greatest of the terms says.
use Rattle.std.proofs.Common.{◌≡◌, ℕ, ◌+◌, ◌<◌, ◌≤◌, List, length, take, get_or, All, subst, ◌∙◌, arith}
use Rattle.std.specs.Prelude.{max}
use Rattle.std.proofs.lemmas.List.{take_all}
use Rattle.std.proofs.lemmas.List.Elements.{All-more, All-weaker}
use Rattle.demand_rules.specs.declared.terms.TaskTerms.{TaskTerms}

abbrev IsBelow : ℕ → TaskTerms → Type 0
IsBelow most t = t.work < most

pub with_next : (tasks : List TaskTerms) (i : ℕ) (d : TaskTerms) (most grown : ℕ) → i < length tasks → grown ≡ max most ((get_or tasks i d).work + 1)
    → (65 ≤ most) × All (λ t. t.work < most) (take i tasks) → (65 ≤ grown) × All (λ t. t.work < grown) (take (i + 1) tasks)
with_next tasks i d most grown lt is h = (
  omega (arith, is, h.0),
  All-more (IsBelow grown) tasks i d lt
      (All-weaker (IsBelow most) (IsBelow grown) (λ t below. omega (arith, is, below)) (take i tasks) h.1) (omega (arith, is)),
)

pub of_all : (seen tasks : List TaskTerms) (i most : ℕ) → seen ≡ tasks → length seen ≤ i → All (λ t. t.work < most) (take i seen)
    → All (λ t. t.work < most) tasks
of_all seen tasks i most same le h = subst (All (IsBelow most)) (take_all i seen le ∙ same) h
