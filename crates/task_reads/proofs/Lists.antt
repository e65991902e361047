-- Lists: what passes a test, and what stands before an element.
use Rattle.std.proofs.Common.{◌≡◌, ℕ, zero, suc, ◌+◌, Bool, true, List, [], ◌∷◌, ◌++◌, length, Some}
use Rattle.std.proofs.Common.{refl, ap, ◌∙◌, arith, slice_get, filter, take, drop}
use Rattle.std.specs.Prelude.{Contains}
use Rattle.std.specs.List.{AllByRecursion, flat_map}
use Rattle.std.proofs.lemmas.List.Elements.{All-contains, All-from_recursion, recursion_from_All, All-contains_itself}
use Rattle.die_log.proofs.LogInvariants.OneMoreEntry.{kept_both}
use Rattle.die_log.proofs.Legal.Runs.{kept_in}

pub in_filter : {X : Type 0} (t : X → Bool) (xs : List X) (x : X) → Contains (filter t xs) x → Contains xs x × (t x ≡ true)
in_filter t xs x h = All-contains (λ y. Contains xs y × (t y ≡ true)) (filter t xs) x
    (All-from_recursion (λ y. Contains xs y × (t y ≡ true)) (filter t xs)
    (kept_both (Contains xs) t xs (recursion_from_All (Contains xs) xs (All-contains_itself xs)))) h

pub filter_has : {X : Type 0} (t : X → Bool) (xs : List X) (x : X) → Contains xs x → t x ≡ true → Contains (filter t xs) x
filter_has t xs x h e = All-contains (λ y. t y ≡ true → Contains (filter t xs) y) xs x
    (All-from_recursion (λ y. t y ≡ true → Contains (filter t xs) y) xs
    (kept_in t (Contains (filter t xs)) xs
    (recursion_from_All (Contains (filter t xs)) (filter t xs) (All-contains_itself (filter t xs))))) h e

-- pieces that are the same are the same together
pub flat_map_same : {X Y : Type 0} (f g : X → List Y) (xs : List X) → ((x : X) → Contains xs x → f x ≡ g x) → flat_map f xs ≡ flat_map g xs
flat_map_same {X = X} {Y = Y} f g xs h = by_recursion xs (recursion_from_All (Contains xs) xs (All-contains_itself xs))
  where
    by_recursion : (ys : List X) → AllByRecursion (Contains xs) ys → flat_map f ys ≡ flat_map g ys
    by_recursion [] k = refl
    by_recursion (y ∷ ys) k = ap (λ (l : List Y). l ++ flat_map f ys) (h y k.0) ∙ ap (λ (l : List Y). g y ++ l) (by_recursion ys k.1)

pub flat_map_none : {X Y : Type 0} (xs : List X) → flat_map {X = X} {A = Y} (λ x. []) xs ≡ []
flat_map_none [] = refl
flat_map_none (x ∷ xs) = flat_map_none xs

-- a list is what stands before a place, the element there, and what stands after
pub split_at : {X : Type 0} (xs : List X) (k : ℕ) (x : X) → slice_get xs k ≡ Some x → xs ≡ take k xs ++ x ∷ drop (suc k) xs
split_at [] k x e = absurd cc
split_at (y ∷ xs) zero x e = cc
split_at (y ∷ xs) (suc k) x e = ap (λ l. y ∷ l) (split_at xs k x e)

pub take_next : {X : Type 0} (xs : List X) (k : ℕ) (x : X) → slice_get xs k ≡ Some x → take (k + 1) xs ≡ take k xs ++ x ∷ []
take_next [] k x e = absurd cc
take_next (y ∷ xs) zero x e = cc
take_next (y ∷ xs) (suc k) x e = ap (λ n. take n (y ∷ xs)) (add_suc k) ∙ ap (λ l. y ∷ l) (take_next xs k x e)
  where
    add_suc : (k : ℕ) → suc k + 1 ≡ suc (k + 1)
    add_suc k = omega arith

pub take_whole : {X : Type 0} (xs : List X) (k : ℕ) → k ≡ length xs → take k xs ≡ xs
take_whole [] zero e = refl
take_whole [] (suc k) e = absurd (omega (arith, e))
take_whole (x ∷ xs) zero e = absurd (omega (arith, e))
take_whole (x ∷ xs) (suc k) e = ap (λ l. x ∷ l) (take_whole xs k (omega (arith, e)))
