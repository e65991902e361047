-- The sum of what counts.
use Rattle.std.proofs.Common.{◌≡◌, ℕ, Bool, true, false, cond, List, [], ◌∷◌, sum_by, refl, ap, arith}
use Rattle.std.proofs.lemmas.List.Sums.{sum_by-cons}
use Rattle.planned_log.specs.Asks.{Asked, counts_in, counting}

pub sum_counting : (period slot : ℕ) (amount : Asked → ℕ) (asked : List Asked)
    → sum_by (λ a. cond (counts_in period slot a) (amount a) 0) asked ≡ sum_by amount (counting period slot asked)
sum_counting period slot amount [] = refl
sum_counting period slot amount (a ∷ asked) = by (counts_in period slot a) refl (sum_counting period slot amount asked)
  where
    by : (b : Bool) → counts_in period slot a ≡ b
        → sum_by (λ x. cond (counts_in period slot x) (amount x) 0) asked ≡ sum_by amount (counting period slot asked)
        → sum_by (λ x. cond (counts_in period slot x) (amount x) 0) (a ∷ asked)
        ≡ sum_by amount (cond b (a ∷ counting period slot asked) (counting period slot asked))
    by true e rest = omega (
      arith,
      sum_by-cons (λ x. cond (counts_in period slot x) (amount x) 0) a asked,
      ap {B = ℕ} (λ b. cond b (amount a) 0) e,
      sum_by-cons amount a (counting period slot asked),
      rest,
    )
    by false e rest = omega (
      arith,
      sum_by-cons (λ x. cond (counts_in period slot x) (amount x) 0) a asked,
      ap {B = ℕ} (λ b. cond b (amount a) 0) e,
      rest,
    )
