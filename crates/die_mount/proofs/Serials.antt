-- The greatest serial of a block's cells.
use Rattle.std.proofs.Common.{◌≡◌, ◌⊎◌, ℕ, ◌+◌, ◌<◌, ◌≤◌, nat_le, Bool, true, false, cond, List, length, Option, Some, None}
use Rattle.std.proofs.Common.{refl, ap, sym, ◌∙◌, inl, inr, arith}
use Rattle.std.proofs.lemmas.Bool.{cases_lt, cases_eq, leb-true, leb-false}
use Rattle.std.proofs.lemmas.List.{get_or_past}
use Rattle.std.proofs.lemmas.Option.{same_Some, none-some}
use Rattle.die_mount.specs.declared.label.Label.{Label}
use Rattle.die_mount.specs.Told.{told_at, larger_of, IsGreatestIn}

pub record HasSerial (cells : List (Option Label)) (serial : ℕ) : Type 0 where
  pub k : ℕ
  pub label : Label
  pub stands : told_at cells k ≡ Some label
  pub is : label.serial ≡ serial

-- the greatest serial of the first n cells
abbrev pub IsGreatestUpTo : ℕ → List (Option Label) → Option ℕ → Type 0
IsGreatestUpTo n cells None = (k : ℕ) (x : Label) → k < n → told_at cells k ≡ Some x → ⊥
IsGreatestUpTo n cells (Some serial) = HasSerial cells serial × ((k : ℕ) (x : Label) → k < n → told_at cells k ≡ Some x → x.serial ≤ serial)

pub none_yet : (cells : List (Option Label)) → IsGreatestUpTo 0 cells None
none_yet cells k x lt e = omega arith

pub skip : (n : ℕ) (cells : List (Option Label)) (most : Option ℕ) → told_at cells n ≡ None → IsGreatestUpTo n cells most
    → IsGreatestUpTo (n + 1) cells most
skip n cells None none h = λ k x lt e. by_case k x lt e (cases_eq k n)
  where
    by_case : (k : ℕ) (x : Label) → k < n + 1 → told_at cells k ≡ Some x → (k ≡ n) ⊎ (k ≡ n → ⊥) → ⊥
    by_case k x lt e (inl is) = none-some x (sym none ∙ ap (told_at cells) (sym is) ∙ e)
    by_case k x lt e (inr ne) = h k x (omega arith) e
skip n cells (Some most) none h = (h.0, λ k x lt e. by_case k x lt e (cases_eq k n))
  where
    by_case : (k : ℕ) (x : Label) → k < n + 1 → told_at cells k ≡ Some x → (k ≡ n) ⊎ (k ≡ n → ⊥) → x.serial ≤ most
    by_case k x lt e (inl is) = absurd (none-some x (sym none ∙ ap (told_at cells) (sym is) ∙ e))
    by_case k x lt e (inr ne) = h.1 k x (omega arith) e

pub more : (n : ℕ) (cells : List (Option Label)) (most : Option ℕ) (label : Label) → told_at cells n ≡ Some label → IsGreatestUpTo n cells most
    → IsGreatestUpTo (n + 1) cells (Some (larger_of most label.serial))
more n cells None label here h = (record { k = n; label = label; stands = here; is = refl }, λ k x lt e. by_case k x lt e (cases_eq k n))
  where
    by_case : (k : ℕ) (x : Label) → k < n + 1 → told_at cells k ≡ Some x → (k ≡ n) ⊎ (k ≡ n → ⊥) → x.serial ≤ label.serial
    by_case k x lt e (inl is) =
        let same : x ≡ label = same_Some x label (sym e ∙ ap (told_at cells) is ∙ here) in omega (arith, ap (λ (y : Label). y.serial) same)
    by_case k x lt e (inr ne) = absurd (h k x (omega arith) e)
more n cells (Some most) label here h = by_test (nat_le label.serial most) refl
  where
    at : (bound : ℕ) → label.serial ≤ bound → most ≤ bound → (k : ℕ) (x : Label) → k < n + 1 → told_at cells k ≡ Some x
        → (k ≡ n) ⊎ (k ≡ n → ⊥) → x.serial ≤ bound
    at bound le over k x lt e (inl is) =
        let same : x ≡ label = same_Some x label (sym e ∙ ap (told_at cells) is ∙ here) in omega (arith, ap (λ (y : Label). y.serial) same)
    at bound le over k x lt e (inr ne) = let below : k < n = omega arith in omega (arith, h.1 k x below e)

    by_test : (t : Bool) → nat_le label.serial most ≡ t → IsGreatestUpTo (n + 1) cells (Some (cond t most label.serial))
    by_test true e =
        let le : label.serial ≤ most = leb-true label.serial most e in (h.0, λ k x lt f. at most le (omega arith) k x lt f (cases_eq k n))
    by_test false e =
        let gt : most < label.serial = leb-false label.serial most e in
        (record { k = n; label = label; stands = here; is = refl }, λ k x lt f. at label.serial (omega arith) (omega arith) k x lt f (cases_eq k n))

pub whole : (n : ℕ) (cells : List (Option Label)) (most : Option ℕ) → length cells ≡ n → IsGreatestUpTo n cells most → IsGreatestIn cells most
whole n cells None long h = λ k x e. by_case k x e (cases_lt k n)
  where
    by_case : (k : ℕ) (x : Label) → told_at cells k ≡ Some x → (k < n) ⊎ (n ≤ k) → ⊥
    by_case k x e (inl lt) = h k x lt e
    by_case k x e (inr past) = none-some x (sym (get_or_past cells k None (omega arith)) ∙ e)
whole n cells (Some most) long h = ((h.0.k, h.0.label, h.0.stands, h.0.is), λ k x e. by_case k x e (cases_lt k n))
  where
    by_case : (k : ℕ) (x : Label) → told_at cells k ≡ Some x → (k < n) ⊎ (n ≤ k) → x.serial ≤ most
    by_case k x e (inl lt) = h.1 k x lt e
    by_case k x e (inr past) = absurd (none-some x (sym (get_or_past cells k None (omega arith)) ∙ e))
