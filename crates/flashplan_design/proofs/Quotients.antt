-- Divisors of a number, the least or the greatest first, by their quotients.
use Rattle.std.proofs.Common.{◌≡◌, ℕ, zero, suc, ◌+◌, ◌-◌, ◌*◌, ◌/◌, ◌%◌, ◌<◌, ◌≤◌, sym, subst, ◌∙◌, inl, inr, arith}
use Rattle.std.proofs.Math.Nat.{div-add-mod, div-mul-le_self, div-eq_of_lt-le, div-lt_iff_lt-mul, lt_of_mul-lt-mul_left}
use Rattle.std.proofs.Math.Nat.{mul-lt-mul_of_pos_left, mul-lt-mul_of_pos_right}
use Rattle.std.proofs.lemmas.Bool.{cases_order}

-- a divisor and its quotient
whole : (common n : ℕ) → common % n ≡ 0 → common ≡ n * (common / n)
whole common n h = omega (arith, h, div-add-mod common n)

-- 0 divides 0 alone
pub is_some : (common n : ℕ) → 1 ≤ common → common % n ≡ 0 → 1 ≤ n
is_some common zero some h = absurd (omega (arith, some, h, div-add-mod common 0))
is_some common (suc n) some h = omega arith

-- what is above a number, where that isn't 0, doesn't divide it
pub not_above : (common k : ℕ) → 1 ≤ common → common % k ≡ 0 → common < k * 1 → ⊥
not_above common k some h lt =
    let fill : common ≡ k * (common / k) = whole common k h in
    let below : common / k < 1 = lt_of_mul-lt-mul_left k (subst (λ c. c < k * 1) fill lt) in
    elim (cases_order (common / k) 0) [
      | inl same ↦ omega (arith, some, subst (λ q. common ≡ k * q) same fill)
      | inr (inl less) ↦ omega (arith, less)
      | inr (inr more) ↦ omega (arith, more, below)
    ]

-- a divisor's own quotient gives it
divisor_is : (common part n : ℕ) → 1 ≤ part → common ≡ n * part → common / part ≡ n
divisor_is common part n some fill =
    div-eq_of_lt-le part (omega (arith, fill)) (omega (arith, fill, some, distribute n part))
  where
    distribute : (a b : ℕ) → (a + 1) * b ≡ a * b + b
    distribute a b = grind arith

-- with quotients from `part` on there is none, nor with this one: so there is none with quotients above the next smaller
pub part_down : (P : ℕ → Type 0) (common part n : ℕ) → 1 ≤ part → n ≡ common / part → ((k : ℕ) → P k → common % k ≡ 0)
    → ((k : ℕ) → 1 ≤ k → k * part < common → ¬ P k) → ¬ P n → (k : ℕ) → 1 ≤ k → k * (part - 1) < common → ¬ P k
part_down P common part n some is divides below isnt k one lt p =
    let fill : common ≡ k * (common / k) = whole common k (divides k p) in
    let above : part - 1 < common / k = lt_of_mul-lt-mul_left k (subst (λ c. k * (part - 1) < c) fill lt) in
    elim (cases_order part (common / k)) [
      | inl same ↦ isnt (subst P (sym (is ∙ divisor_is common part k some (subst (λ q. common ≡ k * q) (sym same) fill))) p)
      | inr (inl less) ↦ below k one (subst (λ c. k * part < c) (sym fill) (mul-lt-mul_of_pos_left less (omega (arith, one)))) p
      | inr (inr more) ↦ absurd (omega (arith, above, more, some))
    ]

-- the same from the greatest divisor on
pub part_up : (P : ℕ → Type 0) (common part n : ℕ) → 1 ≤ part → 1 ≤ common → n ≡ common / part
    → ((k : ℕ) → P k → common % k ≡ 0) → ((k : ℕ) → common < k * part → ¬ P k) → ¬ P n → (k : ℕ) → common < k * (part + 1) → ¬ P k
part_up P common part n some any is divides below isnt k lt p =
    let fill : common ≡ k * (common / k) = whole common k (divides k p) in
    let above : common / k < part + 1 = lt_of_mul-lt-mul_left k (subst (λ c. c < k * (part + 1)) fill lt) in
    elim (cases_order part (common / k)) [
      | inl same ↦ isnt (subst P (sym (is ∙ divisor_is common part k some (subst (λ q. common ≡ k * q) (sym same) fill))) p)
      | inr (inl less) ↦ absurd (omega (arith, above, less))
      | inr (inr more) ↦ below k (subst (λ c. c < k * part) (sym fill) (mul-lt-mul_of_pos_left more
          (omega (arith, is_some common k any (divides k p))))) p
    ]

-- what is below a quotient, and what is above it
pub below_quotient : (common part fewer : ℕ) → 1 ≤ part → fewer < common / part → fewer * part < common
below_quotient common part fewer some lt =
    let less : fewer * part < (common / part) * part = mul-lt-mul_of_pos_right lt (omega (arith, some)) in
    omega (arith, less, div-mul-le_self common part)

pub above_quotient : (common part more : ℕ) → 1 ≤ part → common / part < more → common < more * part
above_quotient common part more some lt = (div-lt_iff_lt-mul (omega (arith, some))).0 lt

-- a quotient is no greater
pub quotient_within : (common part most : ℕ) → 1 ≤ part → common ≤ most → common / part ≤ most
quotient_within common part most some le = omega (arith, le, div-mul-le_self common part, grows (common / part) part some)
  where
    grows : (a b : ℕ) → 1 ≤ b → a ≤ a * b
    grows a zero h = absurd (omega (arith, h))
    grows a (suc b) h = omega (arith, distribute a b)
      where
        distribute : (a b : ℕ) → a * suc b ≡ a * b + a
        distribute a b = grind arith
