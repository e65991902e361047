-- The closed block with the fewest pages, of the first blocks.
use Rattle.std.proofs.Common.{◌≡◌, ◌⊎◌, ℕ, ◌+◌, ◌<◌, ◌≤◌, Option, Some, None, length, refl, sym, subst, inl, inr, arith}
use Rattle.std.proofs.lemmas.Bool.{cases_eq}
use Rattle.die_log.specs.Model.Flash.{Cells, block_at, valid}
use Rattle.die_mount.specs.PartState.{IsFewest}

-- of the first n blocks
abbrev pub IsFewestUpTo : (pages blocks : ℕ) → Cells → (n : ℕ) → Option ℕ → Type 0
IsFewestUpTo pages blocks c n None = (b : ℕ) → b < n → (block_at c b).filled ≡ pages → ⊥
IsFewestUpTo pages blocks c n (Some f) = (f < blocks) × ((block_at c f).filled ≡ pages)
    × ((b : ℕ) → b < n → (block_at c b).filled ≡ pages → valid c f ≤ valid c b)

pub none_first : (pages blocks : ℕ) (c : Cells) → IsFewestUpTo pages blocks c 0 None
none_first pages blocks c = λ b lt closed. absurd (omega (arith, lt))

pub stands_by : (pages blocks : ℕ) (c : Cells) (n : ℕ) (o : Option ℕ) → IsFewestUpTo pages blocks c n o → (f : ℕ) → o ≡ Some f → f < blocks
stands_by pages blocks c n None h f e = absurd cc
stands_by pages blocks c n (Some g) h f e = let same : g ≡ f = cc in omega (arith, same, h.0)

last_or : {P : ℕ → Type 0} (n b : ℕ) → ((k : ℕ) → k < n → P k) → P n → b < n + 1 → P b
last_or {P = P} n b before here lt = by_case (cases_eq b n)
  where
    by_case : (b ≡ n) ⊎ (b ≡ n → ⊥) → P b
    by_case (inl e) = subst P (sym e) here
    by_case (inr ne) = before b (omega arith)

-- the next block isn't closed
pub open_next : (pages blocks : ℕ) (c : Cells) (n : ℕ) (o : Option ℕ) → IsFewestUpTo pages blocks c n o → ((block_at c n).filled ≡ pages → ⊥)
    → IsFewestUpTo pages blocks c (n + 1) o
open_next pages blocks c n None h isnt = λ b lt. last_or {P = λ b. (block_at c b).filled ≡ pages → ⊥} n b h isnt lt
open_next pages blocks c n (Some f) h isnt = (
  h.0,
  h.1,
  λ b lt. last_or {P = λ b. (block_at c b).filled ≡ pages → valid c f ≤ valid c b} n b h.2 (λ e. absurd (isnt e)) lt,
)

-- it is, and of it and the one before, this one has fewer
pub closed_next : (pages blocks : ℕ) (c : Cells) (n : ℕ) (o : Option ℕ) (f : ℕ) → IsFewestUpTo pages blocks c n o → n < blocks
    → (block_at c n).filled ≡ pages → (o ≡ None → f ≡ n) → ((g : ℕ) → o ≡ Some g → (f ≡ g) ⊎ (f ≡ n))
    → ((g : ℕ) → o ≡ Some g → valid c f ≤ valid c g) → valid c f ≤ valid c n → IsFewestUpTo pages blocks c (n + 1) (Some f)
closed_next pages blocks c n None f h lt closed from either one other = (
  subst (λ x. x < blocks) (sym (from refl)) lt,
  subst (λ x. (block_at c x).filled ≡ pages) (sym (from refl)) closed,
  λ b below. last_or {P = λ b. (block_at c b).filled ≡ pages → valid c f ≤ valid c b} n b (λ k less e. absurd (h k less e)) (λ e. other) below,
)
closed_next pages blocks c n (Some g) f h lt closed from either one other = (
  stands (either g refl),
  is_closed (either g refl),
  λ b below. last_or {P = λ b. (block_at c b).filled ≡ pages → valid c f ≤ valid c b} n b
      (λ k less e. omega (arith, one g refl, h.2 k less e)) (λ e. other) below,
)
  where
    stands : (f ≡ g) ⊎ (f ≡ n) → f < blocks
    stands (inl e) = omega (arith, e, h.0)
    stands (inr e) = omega (arith, e, lt)

    is_closed : (f ≡ g) ⊎ (f ≡ n) → (block_at c f).filled ≡ pages
    is_closed (inl e) = subst (λ x. (block_at c x).filled ≡ pages) (sym e) h.1
    is_closed (inr e) = subst (λ x. (block_at c x).filled ≡ pages) (sym e) closed

pub fewest_is : (pages blocks : ℕ) (c : Cells) (n f : ℕ) (o : Option ℕ) → IsFewestUpTo pages blocks c n o → o ≡ Some f → length c.blocks ≡ blocks
    → blocks ≤ n → IsFewest pages c f
fewest_is pages blocks c n f None h e long all = absurd cc
fewest_is pages blocks c n f (Some g) h e long all =
    let same : g ≡ f = cc in
    subst (IsFewest pages c) same (record { stands = omega (arith, h.0, long); closed = h.1; fewest = λ b lt closed. h.2 b (omega (arith, lt, long)) closed })
