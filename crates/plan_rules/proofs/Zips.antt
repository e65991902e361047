-- Two lists place by place.
use Rattle.std.proofs.Common.{◌≡◌, ℕ, zero, suc, ◌+◌, ◌*◌, ◌<◌, ◌≤◌, List, [], ◌∷◌, length, get_or, None, slice_get, refl, sym, subst, inl}
use Rattle.std.proofs.Common.{inr, arith}
use Rattle.std.proofs.lemmas.Bool.{cases_order}
use Rattle.std.proofs.lemmas.Option.{none-some}
use Rattle.std.specs.List.{AllZip}
use Rattle.std.proofs.lemmas.Nat.{mul-le}

pub zip_at : {A B : Type 0} (R : A → B → Type 0) (xs : List A) (ys : List B) (i : ℕ) (d : A) (e : B) → AllZip R xs ys → i < length xs
    → R (get_or xs i d) (get_or ys i e)
zip_at R [] ys i d e h lt = absurd (omega (arith, lt))
zip_at R (x ∷ xs) [] i d e h lt = absurd h
zip_at R (x ∷ xs) (y ∷ ys) zero d e h lt = h.0
zip_at R (x ∷ xs) (y ∷ ys) (suc i) d e h lt = zip_at R xs ys i d e h.1 (omega (arith, lt))

pub zip_by : {A B : Type 0} (R : A → B → Type 0) (xs : List A) (ys : List B) → length ys ≡ length xs
    → ((i : ℕ) (d : A) (e : B) → i < length xs → R (get_or xs i d) (get_or ys i e)) → AllZip R xs ys
zip_by R [] [] same h = tt
zip_by R [] (y ∷ ys) same h = absurd (omega (arith, same))
zip_by R (x ∷ xs) [] same h = absurd (omega (arith, same))
zip_by R (x ∷ xs) (y ∷ ys) same h = (
  h 0 x y (omega arith),
  zip_by R xs ys (omega (arith, same))
      (λ i d e lt. h (suc i) d e (omega (arith, lt))),
)

-- a product within limits
pub product_within : (a b m n : ℕ) → a ≤ m → b ≤ n → a * b ≤ m * n
product_within a b m n h k = mul-le a b m n h k

-- an element of a list, whatever stands for those that aren't there
same_element : {A : Type 0} (xs : List A) (i : ℕ) (d e : A) → i < length xs → get_or xs i d ≡ get_or xs i e
same_element [] i d e lt = absurd (omega (arith, lt))
same_element (x ∷ xs) zero d e lt = refl
same_element (x ∷ xs) (suc i) d e lt = same_element xs i d e (omega (arith, lt))

pub at_any : {A B : Type 0} (R : A → B → Type 0) (xs : List A) (ys : List B) (i : ℕ) (d d' : A) (e e' : B) → i < length xs → i < length ys
    → R (get_or xs i d) (get_or ys i e) → R (get_or xs i d') (get_or ys i e')
at_any R xs ys i d d' e e' lt below h = subst (λ y. R (get_or xs i d') y) (same_element ys i e e' below)
    (subst (λ x. R x (get_or ys i e)) (same_element xs i d d' lt) h)

-- what holds below a number and at it holds below the next one
pub at_next : (P : ℕ → Type 0) (n : ℕ) → ((k : ℕ) → k < n → P k) → P n → (k : ℕ) → k < n + 1 → P k
at_next P n below at k lt = elim (cases_order k n) [
  | inl same ↦ subst P (sym same) at
  | inr (inl less) ↦ below k less
  | inr (inr more) ↦ absurd (omega (arith, lt, more))
]

-- what stands for an element that isn't there
pub absent_is : {A : Type 0} (xs : List A) (i : ℕ) (d : A) → slice_get xs i ≡ None → d ≡ get_or xs i d
absent_is [] i d h = refl
absent_is (x ∷ xs) zero d h = absurd (none-some x (sym h))
absent_is (x ∷ xs) (suc i) d h = absent_is xs i d h
