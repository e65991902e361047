-- Numbers below m that have as many below n, no two the same one, are no more than these.
use Rattle.std.proofs.Common.{◌≡◌, ◌⊎◌, ℕ, zero, suc, ◌+◌, ◌<◌, ◌≤◌, sym, ◌∙◌, inl, inr, arith}
use Rattle.std.proofs.lemmas.Bool.{cases_eq, cases_lt}

-- x, and in its place z where it is i
abbrev other_than : (x i z : ℕ) → (x ≡ i) ⊎ (x ≡ i → ⊥) → ℕ
other_than x i z (inl same) = z
other_than x i z (inr apart) = x

pub fit_below : (m n : ℕ) (g : ℕ → ℕ) → ((k : ℕ) → k < m → g k < n) → ((k l : ℕ) → k < m → l < m → g k ≡ g l → k ≡ l) → m ≤ n
fit_below zero n g below one = omega arith
fit_below (suc j) zero g below one = absurd (omega (arith, below j (omega arith)))
fit_below (suc j) (suc i) g below one = omega (arith, fit_below j i h (λ k lt. h_below k lt (cases_eq (g k) i)) (λ k l a b e. h_one k l a b (cases_eq (g k) i) (cases_eq (g l) i) e))
  where
    h : ℕ → ℕ
    h k = other_than (g k) i (g j) (cases_eq (g k) i)

    h_below : (k : ℕ) → k < j → (d : (g k ≡ i) ⊎ (g k ≡ i → ⊥)) → other_than (g k) i (g j) d < i
    h_below k lt (inl same) = elim (cases_eq (g j) i) [
      | inl last ↦ absurd (omega (arith, lt, one k j (omega (arith, lt)) (omega arith) (same ∙ sym last)))
      | inr apart ↦ omega (arith, apart, below j (omega arith))
    ]
    h_below k lt (inr apart) = omega (arith, apart, below k (omega (arith, lt)))

    h_one : (k l : ℕ) → k < j → l < j → (d : (g k ≡ i) ⊎ (g k ≡ i → ⊥)) (e : (g l ≡ i) ⊎ (g l ≡ i → ⊥))
        → other_than (g k) i (g j) d ≡ other_than (g l) i (g j) e → k ≡ l
    h_one k l a b (inl p) (inl q) e = one k l (omega (arith, a)) (omega (arith, b)) (p ∙ sym q)
    h_one k l a b (inl p) (inr q) e = absurd (omega (arith, b, one j l (omega arith) (omega (arith, b)) e))
    h_one k l a b (inr p) (inl q) e = absurd (omega (arith, a, one k j (omega (arith, a)) (omega arith) e))
    h_one k l a b (inr p) (inr q) e = one k l (omega (arith, a)) (omega (arith, b)) e

-- so not all n of them can be below n and none of them b
pub one_is_left : (n b : ℕ) (g : ℕ → ℕ) → b < n → ((k : ℕ) → k < n → (g k < n) × (g k ≡ b → ⊥))
    → ((k l : ℕ) → k < n → l < n → g k ≡ g l → k ≡ l) → ⊥
one_is_left n b g lt below one =
    omega (arith, fit_below (n + 1) n f (λ k less. f_below k (cases_lt k n)) (λ k l a c e. f_one k l a c (cases_lt k n) (cases_lt l n) e))
  where
    pick : (k : ℕ) → (k < n) ⊎ (n ≤ k) → ℕ
    pick k (inl less) = g k
    pick k (inr past) = b

    f : ℕ → ℕ
    f k = pick k (cases_lt k n)

    f_below : (k : ℕ) (d : (k < n) ⊎ (n ≤ k)) → pick k d < n
    f_below k (inl less) = (below k less).0
    f_below k (inr past) = lt

    f_one : (k l : ℕ) → k < n + 1 → l < n + 1 → (d : (k < n) ⊎ (n ≤ k)) (e : (l < n) ⊎ (n ≤ l)) → pick k d ≡ pick l e → k ≡ l
    f_one k l a c (inl p) (inl q) e = one k l p q e
    f_one k l a c (inl p) (inr q) e = absurd ((below k p).1 e)
    f_one k l a c (inr p) (inl q) e = absurd ((below l q).1 (sym e))
    f_one k l a c (inr p) (inr q) e = omega (arith, p, q, a, c)
