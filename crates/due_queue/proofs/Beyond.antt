-- The first key, given up and taken back, and what lies after it.
use Rattle.std.proofs.Common.{◌≡◌, ℕ, zero, suc, ◌-◌, true, refl, List, [], ◌∷◌, map, Some, None}
use Rattle.std.proofs.Common.{option_map}
use Rattle.std.specs.List.{AllByRecursion}
use Rattle.due_queue.specs.Queue.{beyond, with_key, first_of, rest_of, IsRising}
use Rattle.due_queue.specs.Pairs.{is_pair_before}

-- taken back, it is the first again
pub taken_back : (keys : List (ℕ × ℕ)) (k : ℕ × ℕ) → Some k ≡ first_of keys → IsRising is_pair_before keys
    → with_key is_pair_before k (rest_of keys) ≡ keys
taken_back [] k is rising = absurd cc
taken_back (x ∷ xs) k is rising = let it : k ≡ x = cc in rw it (front x xs rising.0)
  where
    front : (x : ℕ × ℕ) (xs : List (ℕ × ℕ)) → AllByRecursion (λ later. is_pair_before x later ≡ true) xs
        → with_key is_pair_before x xs ≡ x ∷ xs
    front x [] all = refl
    front x (y ∷ ys) all = rw all.0 refl

-- nothing lies after nothing
pub after_none : {K : Type 0} (n : ℕ) → first_of {K = K} (beyond n []) ≡ None
after_none zero = refl
after_none (suc n) = after_none n

-- the rest of nothing lies after the first of nothing
pub none_there : (n : ℕ) (keys : List (ℕ × ℕ)) → None ≡ first_of keys → first_of (beyond n keys) ≡ None
none_there n [] is = after_none n
none_there n (k ∷ ks) is = absurd cc

-- the keys that are made of pairs
pub beyond-map : {P K : Type 0} (made : P → K) (n : ℕ) (ps : List P) → first_of (beyond n (map made ps)) ≡ option_map made (first_of (beyond n ps))
beyond-map made zero [] = refl
beyond-map made zero (p ∷ ps) = refl
beyond-map made (suc n) [] = beyond-map made n []
beyond-map made (suc n) (p ∷ ps) = beyond-map made n ps
