-- What holds of the numbers that were tried, and of the next one.
use Rattle.std.proofs.Common.{◌≡◌, ℕ, ◌+◌, ◌-◌, ◌<◌, ◌≤◌, Bool, true, false, sym, subst, ◌∙◌, inl, inr, arith}
use Rattle.std.specs.Prelude.{IsTrue}
use Rattle.std.proofs.lemmas.Bool.{cases_order, true≢false}
use Rattle.slot_types.specs.declared.plans.DiePlan.{DiePlan}
use Rattle.plan_texts.specs.Stores.{IsUsable}
use Rattle.flashplan_design.specs.Numbers.{DieDoes, IsAlike}
use Rattle.flashplan_design.specs.declared.numbers.Number.{Number}

-- upwards from a number
pub next_up : (P : ℕ → Type 0) (from n : ℕ) → ((k : ℕ) → from ≤ k → k < n → P k) → P n → (k : ℕ) → from ≤ k → k < n + 1 → P k
next_up P from n below at k some lt = elim (cases_order k n) [
  | inl same ↦ subst P (sym same) at
  | inr (inl less) ↦ below k some less
  | inr (inr more) ↦ absurd (omega (arith, lt, more))
]

-- downwards from a number
pub next_down : (P : ℕ → Type 0) (to back n : ℕ) → n ≡ to - back → ((k : ℕ) → to < k + back → k ≤ to → P k) → P n → (k : ℕ)
    → to < k + (back + 1) → k ≤ to → P k
next_down P to back n is above at k lt le = elim (cases_order k n) [
  | inl same ↦ subst P (sym same) at
  | inr (inl less) ↦ absurd (omega (arith, lt, less, is))
  | inr (inr more) ↦ above k (omega (arith, more, is)) le
]

pub no_true : (b : Bool) → b ≡ false → IsTrue b → ⊥
no_true b f t = true≢false (sym t ∙ f)

-- an attempt that fails tells that the plan with this number doesn't do
pub fails : (which : Number) (plan trial : DiePlan) (n : ℕ) (b : Bool) → IsAlike which trial plan
    → (DieDoes which trial n → IsTrue b) → b ≡ false → DieDoes which plan n → ⊥
fails which plan trial n b same if_does isnt does = no_true b isnt (if_does (subst IsUsable (sym (same n)) does))

-- and one that succeeds that it does
pub succeeds : (which : Number) (plan trial : DiePlan) (n : ℕ) (b : Bool) → IsAlike which trial plan
    → (IsTrue b → DieDoes which trial n) → b ≡ true → DieDoes which plan n
succeeds which plan trial n b same if_true holds = subst IsUsable (same n) (if_true holds)

-- what differs from an attempt in that number alone differs so from the plan
pub still_alike : (which : Number) (plan trial next : DiePlan) → IsAlike which next trial → IsAlike which trial plan → IsAlike which next plan
still_alike which plan trial next one other n = one n ∙ other n
