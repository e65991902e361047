-- Where a life may end.
use Rattle.std.proofs.Common.{◌≡◌, ℕ, ◌+◌, ◌*◌, ◌/◌, ◌%◌, ◌<◌, ◌≤◌, ◌==◌, ◌||◌, ◌⊎◌, nat_le, Bool, true, false, length, get_or}
use Rattle.std.proofs.Common.{refl, sym, subst, ◌∙◌, inl, inr, arith}
use Rattle.std.specs.List.{list_all}
use Rattle.std.proofs.Math.Nat.{div-add-mod, mul-le-mul_left, mul-mod_right, mod-lt}
use Rattle.std.proofs.lemmas.Bool.{cases_lt, true≢false}
use Rattle.std.proofs.lemmas.List.{get_or_default}
use Rattle.std.proofs.lemmas.Bool.Decides.{nat_tests}
use Rattle.std.proofs.lemmas.List.Sums.{AllPass-from_list_all, list_all-from_AllPass}
use Rattle.slot_types.specs.declared.plans.DiePlan.{DiePlan}
use Rattle.slot_types.specs.declared.limits.TheConstants.{MAX_SLOT, MAX_JOBS}
use Rattle.demand_rules.specs.declared.terms.TaskTerms.{TaskTerms}
use Rattle.demand_rules.specs.declared.terms.Terms.{Terms}
use Rattle.demand_rules.specs.Demand.{terms_of, IsTaskTerms, HasTerms}
use Rattle.planned_log.specs.Lives.{IsLife, most_arrivals}
use Rattle.planned_die.specs.Remembered.{ends_well}

-- each collection of a task that comes before the end is due by it
abbrev EndsWell : ℕ → TaskTerms → Type 0
EndsWell life t = (slot : ℕ) → slot < life → slot % t.collect_period ≡ 0 → slot + t.collect_deadline ≤ life

module _ (life : ℕ) (t : TaskTerms) (h : IsTaskTerms t) where
  abbrev q : ℕ
  q = t.collect_period

  abbrev e : ℕ
  e = t.collect_deadline

  past : (life % q == 0) || nat_le e (life % q) ≡ true → (life % q ≡ 0) ⊎ (e ≤ life % q)
  past is = by (life % q == 0) refl is
    where
      by : (b : Bool) → (life % q == 0) ≡ b → b || nat_le e (life % q) ≡ true → (life % q ≡ 0) ⊎ (e ≤ life % q)
      by true first is = inl (grind (arith, nat_tests, first))
      by false first is = inr (grind (arith, nat_tests, is))

  times_more : (n m : ℕ) → n ≤ m → q * n ≤ q * m
  times_more n m le = mul-le-mul_left q le

  one_period : (n : ℕ) → q * (n + 1) ≡ q * n + q
  one_period n = grind arith

  pub by_end : ends_well life t ≡ true → EndsWell life t
  by_end is slot before multiple =
      let slots : q * (slot / q) + slot % q ≡ slot = div-add-mod slot q in
      let lives : q * (life / q) + life % q ≡ life = div-add-mod life q in
      let small : life % q < q = mod-lt life (omega (arith, h.some_collect_period)) in
      elim (cases_lt (slot / q) (life / q)) [
        | inl less ↦ omega (arith, slots, lives, multiple, one_period (slot / q), times_more (slot / q + 1) (life / q) (omega (arith, less)), h.few_collect_deadline)
        | inr more ↦ elim (past is) [
          | inl none ↦ absurd (omega (arith, slots, lives, multiple, none, before, times_more (life / q) (slot / q) (omega (arith, more))))
          | inr some ↦ at_last (cases_lt (life / q) (slot / q)) slots lives small some multiple before more
        ]
      ]
    where
      at_last : (life / q < slot / q) ⊎ (slot / q ≤ life / q) → q * (slot / q) + slot % q ≡ slot → q * (life / q) + life % q ≡ life
          → life % q < q → e ≤ life % q → slot % q ≡ 0 → slot < life → life / q ≤ slot / q → slot + e ≤ life
      at_last (inl less) slots lives small some multiple before more =
          absurd (omega (arith, slots, lives, small, multiple, before, one_period (life / q), times_more (life / q + 1) (slot / q) (omega (arith, less))))
      at_last (inr same) slots lives small some multiple before more =
          omega (arith, slots, lives, some, multiple, times_more (slot / q) (life / q) (omega (arith, same)))

  pub not_by_end : ends_well life t ≡ false → EndsWell life t → ⊥
  not_by_end is ends =
      let lives : q * (life / q) + life % q ≡ life = div-add-mod life q in
      let some : 0 < life % q = grind (arith, nat_tests, is) in
      let few : life % q < e = grind (arith, nat_tests, is) in
      let due : q * (life / q) + e ≤ life = ends (q * (life / q)) (omega (arith, lives, some)) (mul-mod_right q (life / q)) in
      omega (arith, due, lives, few)

module _ (plan : DiePlan) (terms : Terms) (life : ℕ) (has : HasTerms plan terms) (within : life ≤ MAX_SLOT) where
  own : (task : ℕ) → task < length terms.tasks → IsTaskTerms (terms_of terms task)
  own task lt = has.each task _ lt

  -- each task's collections are due by the end
  pub is_life_if : list_all (ends_well life) terms.tasks ≡ true → most_arrivals terms life ≤ MAX_JOBS → IsLife plan terms life
  is_life_if well few = record {
    within = within;
    collected = λ task slot lt before multiple.
        let known : task < length terms.tasks = omega (arith, lt, has.one_each) in
        by_end life (terms_of terms task) (own task known) (AllPass-from_list_all (ends_well life) terms.tasks well task _ known) slot before multiple;
    few = few;
  }

  pub not_life : list_all (ends_well life) terms.tasks ≡ false → IsLife plan terms life → ⊥
  not_life not_well h = true≢false (sym (list_all-from_AllPass (ends_well life) terms.tasks all) ∙ not_well)
    where
      all : (k : ℕ) (d : TaskTerms) → k < length terms.tasks → ends_well life (get_or terms.tasks k d) ≡ true
      all k d lt = by (ends_well life (get_or terms.tasks k d)) refl
        where
          same : get_or terms.tasks k d ≡ terms_of terms k
          same = get_or_default terms.tasks k d _ lt

          by : (b : Bool) → ends_well life (get_or terms.tasks k d) ≡ b → b ≡ true
          by true is = refl
          by false is = absurd (not_by_end life (terms_of terms k) (own k lt) (subst (λ (t : TaskTerms). ends_well life t ≡ false) same is)
              (λ slot before multiple. h.collected k slot (omega (arith, lt, has.one_each)) before multiple))
