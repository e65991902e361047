-- Lists: what a search finds, and the least by a key.
use Rattle.std.proofs.Common.{◌≡◌, ℕ, zero, suc, ◌+◌, ◌<◌, ◌≤◌, ◌==◌, ◌&&◌, ◌||◌, nat_lt, Bool, true, false, cond, List, [], ◌∷◌, length}
use Rattle.std.proofs.Common.{filter, fold, sum_by, count_by, get_or, Option, Some, None, refl, ap, sym, ◌∙◌, inl, inr, arith, slice_get}
use Rattle.std.specs.List.{list_any, range_with_len, reduce}
use Rattle.std.proofs.lemmas.Bool.{or_cases, or_left, or_right, true≢false}
use Rattle.std.proofs.lemmas.Bool.Decides.{nat_tests}
use Rattle.std.proofs.lemmas.Option.{same_Some}
use Rattle.std.proofs.lemmas.List.Sums.{sum_by-cons}
use Rattle.die_log.proofs.Tokens.Sums.{one_if, some_pass}

-- the first that passes
abbrev pub first_with : {X : Type 0} → (X → Bool) → List X → Option X
first_with p [] = None
first_with p (x ∷ xs) = cond (p x) (Some x) (first_with p xs)

alone_first : {X : Type 0} (p : X → Bool) (z : X) (xs : List X) (k : ℕ) (x : X) (b : Bool) → p z ≡ b → count_by p (z ∷ xs) ≤ 1
    → slice_get xs k ≡ Some x → p x ≡ true
    → (count_by p xs ≤ 1 → first_with p xs ≡ Some x) → cond b (Some z) (first_with p xs) ≡ Some x
alone_first p z xs k x true here few e is rest = absurd (omega
    (arith, few, sum_by-cons (λ v. cond (p v) 1 0) z xs, ap one_if here, some_pass p xs k x e is))
alone_first p z xs k x false here few e is rest = rest (omega (arith, few, sum_by-cons (λ v. cond (p v) 1 0) z xs))

-- where at most one passes, it is found
pub finds_it : {X : Type 0} (p : X → Bool) (xs : List X) (k : ℕ) (x : X) → count_by p xs ≤ 1 → slice_get xs k ≡ Some x → p x ≡ true
    → first_with p xs ≡ Some x
finds_it p [] k x few e is = absurd cc
finds_it p (z ∷ xs) zero x few e is =
    let same : z ≡ x = same_Some z x e in
    let here : p z ≡ true = rw same is in
    ap (λ b. cond b (Some z) (first_with p xs)) here ∙ e
finds_it p (z ∷ xs) (suc k) x few e is = alone_first p z xs k x (p z) refl few e is (λ le. finds_it p xs k x le e is)

pub record IsFound {X : Type 0} (p : X → Bool) (xs : List X) (x : X) : Type 0 where
  pub place : ℕ
  pub stands : slice_get xs place ≡ Some x
  pub passes : p x ≡ true

later : {X : Type 0} (p : X → Bool) (z : X) (xs : List X) (x : X) → IsFound p xs x → IsFound p (z ∷ xs) x
later p z xs x f = record { place = suc f.place; stands = f.stands; passes = f.passes }

found_by : {X : Type 0} (p : X → Bool) (z : X) (xs : List X) (x : X) (b : Bool) → p z ≡ b → cond b (Some z) (first_with p xs) ≡ Some x
    → (first_with p xs ≡ Some x → IsFound p xs x) → IsFound p (z ∷ xs) x
found_by p z xs x true here e rest = record { place = zero; stands = e; passes = sym (ap p (same_Some z x e)) ∙ here }
found_by p z xs x false here e rest = later p z xs x (rest e)

pub is_found : {X : Type 0} (p : X → Bool) (xs : List X) (x : X) → first_with p xs ≡ Some x → IsFound p xs x
is_found p [] x e = absurd cc
is_found p (z ∷ xs) x e = found_by p z xs x (p z) refl e (is_found p xs x)

pub any_found : {X : Type 0} (p : X → Bool) (xs : List X) → list_any p xs ≡ true → (x : X) × IsFound p xs x
any_found p [] e = absurd cc
any_found p (z ∷ xs) e = elim (or_cases (p z) (list_any p xs) e) [
  | inl here ↦ (z, record { place = zero; stands = refl; passes = here })
  | inr rest ↦ let f = any_found p xs rest in (f.0, later p z xs f.0 f.1)
]

pub any_from : {X : Type 0} (p : X → Bool) (xs : List X) (k : ℕ) (x : X) → slice_get xs k ≡ Some x → p x ≡ true → list_any p xs ≡ true
any_from p [] k x e is = absurd cc
any_from p (z ∷ xs) zero x e is = or_left (p z) (list_any p xs) (ap p (same_Some z x e) ∙ is)
any_from p (z ∷ xs) (suc k) x e is = or_right (p z) (list_any p xs) (any_from p xs k x e is)

-- what passes stays in a filter
pub record Stands {X : Type 0} (xs : List X) (x : X) : Type 0 where
  pub place : ℕ
  pub is : slice_get xs place ≡ Some x

kept_by : {X : Type 0} (t : X → Bool) (z : X) (xs : List X) (k : ℕ) (x : X) (b : Bool) → t z ≡ b → slice_get (z ∷ xs) k ≡ Some x → t x
    ≡ true → ((m : ℕ) → slice_get xs m ≡ Some x → Stands (filter t xs) x) → Stands (cond b (z ∷ filter t xs) (filter t xs)) x
kept_by t z xs zero x true here e is rest = record { place = zero; is = e }
kept_by t z xs zero x false here e is rest = absurd (true≢false (sym is ∙ (sym (ap t (same_Some z x e)) ∙ here)))
kept_by t z xs (suc k) x true here e is rest = let r = rest k e in record { place = suc r.place; is = r.is }
kept_by t z xs (suc k) x false here e is rest = rest k e

pub keeps_passing : {X : Type 0} (t : X → Bool) (xs : List X) (k : ℕ) (x : X) → slice_get xs k ≡ Some x → t x ≡ true
    → Stands (filter t xs) x
keeps_passing t [] k x e is = absurd cc
keeps_passing t (z ∷ xs) k x e is = kept_by t z xs k x (t z) refl e is (λ m h. keeps_passing t xs m x h is)

-- The least by a key, and of equal ones by another

abbrev pub lesser_by : (ℕ → ℕ) → (ℕ → ℕ) → ℕ → ℕ → ℕ
lesser_by key worn best b = cond (nat_lt (key b) (key best) || ((key b == key best) && nat_lt (worn b) (worn best))) b best

goes_says : (m n p q : ℕ) → (nat_lt m n || ((m == n) && nat_lt p q)) ≡ true → m ≤ n
goes_says m n p q e = grind (arith, nat_tests)

stays_says : (m n p q : ℕ) → (nat_lt m n || ((m == n) && nat_lt p q)) ≡ false → n ≤ m
stays_says m n p q e = grind (arith, nat_tests)

lesser_le : (key worn : ℕ → ℕ) (best b : ℕ) (t : Bool) → (nat_lt (key b) (key best) || ((key b == key best) && nat_lt (worn b) (worn best)))
    ≡ t → (key (cond t b best) ≤ key best) × (key (cond t b best) ≤ key b)
lesser_le key worn best b true e = (goes_says (key b) (key best) (worn b) (worn best) e, omega arith)
lesser_le key worn best b false e = (omega arith, stays_says (key b) (key best) (worn b) (worn best) e)

fold_le : (key worn : ℕ → ℕ) (best : ℕ) (xs : List ℕ) → (key (fold (lesser_by key worn) best xs) ≤ key best)
    × ((k b : ℕ) → slice_get xs k ≡ Some b → key (fold (lesser_by key worn) best xs) ≤ key b)
fold_le key worn best [] = (omega arith, λ k b e. absurd cc)
fold_le key worn best (x ∷ xs) =
    let two = lesser_le key worn best x (nat_lt (key x) (key best) || ((key x == key best) && nat_lt (worn x) (worn best))) refl in
    let rest = fold_le key worn (lesser_by key worn best x) xs in
    (omega (arith, two.0, rest.0), at two.1 rest.0 rest.1)
  where
    at : key (lesser_by key worn best x) ≤ key x → key (fold (lesser_by key worn) (lesser_by key worn best x) xs)
        ≤ key (lesser_by key worn best x)
        → ((k b : ℕ) → slice_get xs k ≡ Some b → key (fold (lesser_by key worn) (lesser_by key worn best x) xs) ≤ key b)
        → (k b : ℕ) → slice_get (x ∷ xs) k ≡ Some b → key (fold (lesser_by key worn) best (x ∷ xs)) ≤ key b
    at here le rest zero b e = let same : key x ≡ key b = ap key (same_Some x b e) in omega (arith, here, le, same)
    at here le rest (suc k) b e = rest k b e

-- the chosen one's key is no more than that of any in the list
pub least_le : (key worn : ℕ → ℕ) (xs : List ℕ) (k b : ℕ) → slice_get xs k ≡ Some b → (v : ℕ) × (reduce (lesser_by key worn) xs ≡ Some v)
    × (key v ≤ key b)
least_le key worn [] k b e = absurd cc
least_le key worn (x ∷ xs) zero b e = let same : key x ≡ key b = ap key (same_Some x b e) in
    (fold (lesser_by key worn) x xs, refl, omega (arith, (fold_le key worn x xs).0, same))
least_le key worn (x ∷ xs) (suc k) b e = (fold (lesser_by key worn) x xs, refl, (fold_le key worn x xs).1 k b e)

-- Ranges

pub range_at : (a n k : ℕ) → k < n → slice_get (range_with_len a n) k ≡ Some (a + k)
range_at a zero k h = absurd (omega (arith, h))
range_at a (suc n) zero h = ap (λ (m : ℕ). Some m) (omega arith)
range_at a (suc n) (suc k) h = range_at (a + 1) n k (omega (arith, h)) ∙ ap (λ (m : ℕ). Some m) (omega arith)

-- a sum over places is one over the list
pub sum_places : {X : Type 0} (f : X → ℕ) (g : ℕ → ℕ) (d : X) (a n : ℕ) (xs : List X) → length xs ≡ n
    → ((i : ℕ) → g (a + i) ≡ f (get_or xs i d)) → sum_by g (range_with_len a n) ≡ sum_by f xs + 0
sum_places f g d a zero [] e h = refl
sum_places f g d a zero (x ∷ xs) e h = absurd (omega (arith, e))
sum_places f g d a (suc n) [] e h = absurd (omega (arith, e))
sum_places f g d a (suc n) (x ∷ xs) e h =
    let here : g a ≡ f x = ap g (omega arith) ∙ h 0 in
    let rest = sum_places f g d (a + 1) n xs (omega (arith, e)) (λ i. ap g (omega arith) ∙ h (suc i)) in
    omega (arith, sum_by-cons g a (range_with_len (a + 1) n), sum_by-cons f x xs, here, rest)
