-- Arrays that are filled from their first place on.
use Rattle.std.proofs.Common.{◌≡◌, ℕ, zero, suc, ◌+◌, ◌<◌, ◌≤◌, List, [], ◌∷◌, ◌++◌, length, get_or, take, set, map, refl, sym, ap, ◌∙◌, arith, add-one}
use Rattle.std.specs.Prelude.{min}
use Rattle.std.proofs.Math.Seq.{take-nil}
use Rattle.flash_c.specs.Lists.{array_with}

pub filled_none : {A B : Type 0} (f : A → B) (places : List B) → array_with f places [] ≡ places
filled_none f [] = refl
filled_none f (place ∷ places) = refl

pub length-filled : {A B : Type 0} (f : A → B) (places : List B) (items : List A) → length (array_with f places items) ≡ length places
length-filled f [] items = refl
length-filled f (place ∷ places) [] = refl
length-filled f (place ∷ places) (item ∷ items) = ap (λ (n : ℕ). suc n) (length-filled f places items)

more : {A B : Type 0} (f : A → B) (places : List B) (items : List A) (i : ℕ) (d : A) → i < length places → i < length items
    → set (array_with f places (take i items)) i (f (get_or items i d)) ≡ array_with f places (take (suc i) items)
more f [] items i d p q = absurd (omega (arith, p))
more f (place ∷ places) [] i d p q = absurd (omega (arith, q))
more f (place ∷ places) (item ∷ items) zero d p q = ap (λ l. f item ∷ l) (sym (filled_none f places))
more f (place ∷ places) (item ∷ items) (suc i) d p q = ap (λ l. f item ∷ l) (more f places items i d (omega (arith, p)) (omega (arith, q)))

-- one item more
pub filled_more : {A B : Type 0} (f : A → B) (places : List B) (items : List A) (i : ℕ) (d : A) → i < length places → i < length items
    → set (array_with f places (take i items)) i (f (get_or items i d)) ≡ array_with f places (take (i + 1) items)
filled_more f places items i d p q = more f places items i d p q ∙ ap (λ (n : ℕ). array_with f places (take n items)) (sym (add-one i))

-- what lies beyond the room, or beyond the items, is nothing
pub filled_all : {A B : Type 0} (f : A → B) (places : List B) (items : List A) (i : ℕ) → min (length places) (length items) ≤ i
    → array_with f places (take i items) ≡ array_with f places items
filled_all f [] items i p = refl
filled_all f (place ∷ places) [] i p = ap (array_with f (place ∷ places)) (take-nil i)
filled_all f (place ∷ places) (item ∷ items) zero p = absurd (omega (arith, p))
filled_all f (place ∷ places) (item ∷ items) (suc i) p = ap (λ l. f item ∷ l) (filled_all f places items i (omega (arith, p)))

-- one item after these
pub filled_last : {A B : Type 0} (f : A → B) (places : List B) (items : List A) (x : A) → length items < length places
    → set (array_with f places items) (length items) (f x) ≡ array_with f places (items ++ x ∷ [])
filled_last f [] items x p = absurd (omega (arith, p))
filled_last f (place ∷ places) [] x p = ap (λ l. f x ∷ l) (sym (filled_none f places))
filled_last f (place ∷ places) (item ∷ items) x p = ap (λ l. f item ∷ l) (filled_last f places items x (omega (arith, p)))

-- items without room
pub filled_beyond : {A B : Type 0} (f : A → B) (places : List B) (items others : List A) → length places ≤ length items
    → array_with f places items ≡ array_with f places (items ++ others)
filled_beyond f [] items others p = refl
filled_beyond f (place ∷ places) [] others p = absurd (omega (arith, p))
filled_beyond f (place ∷ places) (item ∷ items) others p = ap (λ l. f item ∷ l) (filled_beyond f places items others (omega (arith, p)))

-- the places that were filled
pub filled_front : {A B : Type 0} (f : A → B) (places : List B) (items : List A) → length items ≤ length places
    → take (length items) (array_with f places items) ≡ map f items
filled_front f [] [] p = refl
filled_front f [] (item ∷ items) p = absurd (omega (arith, p))
filled_front f (place ∷ places) [] p = refl
filled_front f (place ∷ places) (item ∷ items) p = ap (λ l. f item ∷ l) (filled_front f places items (omega (arith, p)))

-- as many as there are, up to a number
pub take_min : {A : Type 0} (n : ℕ) (items : List A) → take (min (length items) n) items ≡ take n items
take_min zero items =
    let none : min (length items) 0 ≡ 0 = omega arith in
    ap (λ (n : ℕ). take n items) none
take_min (suc n) [] = take-nil (min 0 (suc n))
take_min (suc n) (item ∷ items) =
    let m : min (suc (length items)) (suc n) ≡ suc (min (length items) n) = omega arith in
    ap (λ (k : ℕ). take k (item ∷ items)) m ∙ ap (λ l. item ∷ l) (take_min n items)
