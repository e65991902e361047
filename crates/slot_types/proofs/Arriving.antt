-- What arrives by a slot, element by element.
use Rattle.std.proofs.Common.{◌≡◌, ℕ, suc, ◌+◌, ◌<◌, ◌≤◌, Bool, cond, List, [], ◌∷◌, ◌++◌, refl, ap, ◌∙◌, map, take, drop, arith, All}
use Rattle.std.specs.List.{prefix_len}
use Rattle.std.proofs.lemmas.Bool.{le-leb, lt-leb}
use Rattle.std.proofs.lemmas.List.{take-append-drop, take-map, drop-map}
use Rattle.std.proofs.lemmas.List.Sums.{take_while-cons}
use Rattle.std.proofs.lemmas.List.Elements.{All-head, All-tail, All-take, All-drop}
use Rattle.slot_types.specs.Arriving.{arrives_by, arrivals_by, arrivals_after}

module _ {A : Type 0} (at : A → ℕ) (slot : ℕ) where
  one_less : (x : A) (n : ℕ) (xs : List A) → drop (1 + n) (x ∷ xs) ≡ drop n xs
  one_less x n xs = ap (λ k. drop k (x ∷ xs)) (let more : 1 + n ≡ suc n = omega arith in more)

  pub arrived_one : (x : A) (xs : List A) → at x ≤ slot → arrivals_by at slot (x ∷ xs) ≡ x ∷ arrivals_by at slot xs
  arrived_one x xs by = take_while-cons (arrives_by at slot) x xs
      ∙ ap (λ (b : Bool). cond b (x ∷ arrivals_by at slot xs) []) (le-leb (at x) slot by)

  pub arrived_none : (x : A) (xs : List A) → slot < at x → arrivals_by at slot (x ∷ xs) ≡ []
  arrived_none x xs later = take_while-cons (arrives_by at slot) x xs
      ∙ ap (λ (b : Bool). cond b (x ∷ arrivals_by at slot xs) []) (lt-leb (at x) slot later)

  pub later_one : (x : A) (xs : List A) → at x ≤ slot → arrivals_after at slot (x ∷ xs) ≡ arrivals_after at slot xs
  later_one x xs by = rw (le-leb (at x) slot by) (one_less x (prefix_len (arrives_by at slot) xs) xs)

  pub later_none : (x : A) (xs : List A) → slot < at x → arrivals_after at slot (x ∷ xs) ≡ x ∷ xs
  later_none x xs later = rw (lt-leb (at x) slot later) refl

  pub arrived_and_later : (xs : List A) → arrivals_by at slot xs ++ arrivals_after at slot xs ≡ xs
  arrived_and_later xs = take-append-drop (prefix_len (arrives_by at slot) xs) xs

  pub arrived_all : (xs : List A) → All (λ x. at x ≤ slot) xs → arrivals_by at slot xs ≡ xs
  arrived_all [] h = refl
  arrived_all (x ∷ xs) h = arrived_one x xs (All-head (λ (y : A). at y ≤ slot) x xs h)
      ∙ ap (λ (ys : List A). x ∷ ys) (arrived_all xs (All-tail (λ (y : A). at y ≤ slot) x xs h))

  -- what holds of each element holds of those that arrived, and of those that arrive later
  module _ (P : A → Type 0) where
    pub arrived_hold : (xs : List A) → All P xs → All P (arrivals_by at slot xs)
    arrived_hold xs h = All-take P (prefix_len (arrives_by at slot) xs) xs h

    pub later_hold : (xs : List A) → All P xs → All P (arrivals_after at slot xs)
    later_hold xs h = All-drop P (prefix_len (arrives_by at slot) xs) xs h

-- elements that are made of others arrive when these do
module _ {A B : Type 0} (f : A → B) (at : B → ℕ) (slot : ℕ) where
  as_many : (xs : List A) → prefix_len (arrives_by at slot) (map f xs) ≡ prefix_len (arrives_by (λ (x : A). at (f x)) slot) xs
  as_many [] = refl
  as_many (x ∷ xs) = ap (λ n. cond (arrives_by at slot (f x)) (1 + n) 0) (as_many xs)

  pub arrived_map : (xs : List A) → arrivals_by at slot (map f xs) ≡ map f (arrivals_by (λ (x : A). at (f x)) slot xs)
  arrived_map xs = ap (λ n. take n (map f xs)) (as_many xs) ∙ take-map f (prefix_len (arrives_by (λ (x : A). at (f x)) slot) xs) xs

  pub later_map : (xs : List A) → arrivals_after at slot (map f xs) ≡ map f (arrivals_after (λ (x : A). at (f x)) slot xs)
  later_map xs = ap (λ n. drop n (map f xs)) (as_many xs) ∙ drop-map f (prefix_len (arrives_by (λ (x : A). at (f x)) slot) xs) xs
