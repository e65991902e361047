-- How long the numbers of a line are, and what its fields make.
use Rattle.std.proofs.Common.{◌≡◌, ◌<◌, ◌≤◌, ℕ, List, [], ◌∷◌, ◌++◌, ◌∙◌, ap, arith, length}
use Rattle.std.specs.Prelude.{decimal, ◌^◌}
use Rattle.std.proofs.lemmas.Fmt.{length-decimal-le}
use Rattle.report_texts.specs.Commas.{after_commas}

pub short-number : (n : ℕ) → n < 2 ^ 32 → length (decimal n) ≤ 10
short-number n small = length-decimal-le 10 n (omega arith) (omega arith) (omega arith)

pub short-size : (n : ℕ) → n ≤ 2 ^ 63 → length (decimal n) ≤ 19
short-size n small = length-decimal-le 19 n (omega arith) (omega arith) (omega arith)

-- a line without a field
pub no-field : (line : List ℕ) → line ≡ [] → line ≡ after_commas []
unfolding after_commas
no-field line none = none

-- one more field before the others
pub field-before : (field : List ℕ) (fields : List (List ℕ)) (old new : List ℕ) → old ≡ after_commas fields → new ≡ 44 ∷ (field ++ old)
    → new ≡ after_commas (field ∷ fields)
unfolding after_commas
field-before field fields old new is made = made ∙ ap (λ (t : List ℕ). 44 ∷ (field ++ t)) is
