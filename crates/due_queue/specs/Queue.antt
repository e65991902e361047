-- A queue as its callers see it.
use Rattle.std.specs.Prelude.{◌≡◌, ℕ, zero, suc, Bool, true, cond, List, [], ◌∷◌, Option, Some, None}
use Rattle.std.specs.List.{AllByRecursion}

-- the keys, each before all that follow it, and how many more there is room for
pub record Queue (K : Type 0) : Type 0 where
  pub keys : List K
  pub spare : ℕ

-- the list with this key in its place, after the keys that it is not before
abbrev pub with_key : {K : Type 0} → (K → K → Bool) → K → List K → List K
with_key is_before key [] = key ∷ []
with_key is_before key (k ∷ ks) = cond (is_before key k) (key ∷ k ∷ ks) (k ∷ with_key is_before key ks)

-- the keys of a list in order
abbrev pub in_order : {K : Type 0} → (K → K → Bool) → List K → List K
in_order is_before [] = []
in_order is_before (k ∷ ks) = with_key is_before k (in_order is_before ks)

-- each key is before all that follow it
abbrev pub IsRising : {K : Type 0} → (K → K → Bool) → List K → Type 0
IsRising is_before [] = Unit {0}
IsRising is_before (k ∷ ks) = AllByRecursion (λ later. is_before k later ≡ true) ks × IsRising is_before ks

abbrev pub first_of : {K : Type 0} → List K → Option K
first_of [] = None
first_of (k ∷ ks) = Some k

-- all but the first
abbrev pub rest_of : {K : Type 0} → List K → List K
rest_of [] = []
rest_of (k ∷ ks) = ks

-- all except the first `n`
abbrev pub beyond : {K : Type 0} → ℕ → List K → List K
beyond zero ks = ks
beyond (suc n) ks = beyond n (rest_of ks)
