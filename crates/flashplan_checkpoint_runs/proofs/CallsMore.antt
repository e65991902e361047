-- One more die.
use Rattle.std.proofs.Common.{◌≡◌, ℕ, zero, suc, List, [], ◌∷◌, ◌++◌, length}
use Rattle.std.specs.Prelude.{IfSome, slice_get}

-- what is so of each by its place is so after one more was added
pub each_more : {X : Type 0} (of : X → ℕ) (want : ℕ → ℕ) (all : List X) (more : X)
    → ((place : ℕ) → IfSome (slice_get all place) (λ (x : X). of x ≡ want place)) → of more ≡ want (length all)
    → (place : ℕ) → IfSome (slice_get (all ++ more ∷ []) place) (λ (x : X). of x ≡ want place)
each_more of want [] more so is zero = is
each_more of want [] more so is (suc place) = tt
each_more of want (x ∷ all) more so is zero = so zero
each_more of want (x ∷ all) more so is (suc place) =
    each_more of (λ (n : ℕ). want (suc n)) all more (λ (n : ℕ). so (suc n)) is place
