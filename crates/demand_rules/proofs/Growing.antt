-- Of more slots no less is asked.
use Rattle.std.proofs.Common.{◌≡◌, ℕ, zero, suc, ◌+◌, ◌-◌, ◌*◌, ◌/◌, ◌≤◌, nat_le, Bool, true, false, cond, List, [], ◌∷◌, sum_by, refl}
use Rattle.std.proofs.Common.{sym, ap, inl, inr, arith}
use Rattle.std.specs.List.{AllByRecursion}
use Rattle.std.proofs.Math.Nat.{mul-le-mul_left, mod-lt, mul-le-mul_right}
use Rattle.std.proofs.lemmas.Nat.{div-add-mod'}
use Rattle.std.proofs.lemmas.Bool.{true≢false, cases_lt}
use Rattle.std.proofs.lemmas.Bool.Decides.{nat_tests}
use Rattle.std.proofs.lemmas.List.Elements.{recursion_from_All}
use Rattle.std.proofs.lemmas.List.Sums.{sum_by-cons}
use Rattle.slot_types.specs.declared.plans.DiePlan.{DiePlan}
use Rattle.plan_rules.specs.Times.{collection_work}
use Rattle.demand_rules.specs.declared.terms.TaskTerms.{TaskTerms}
use Rattle.demand_rules.specs.declared.terms.Terms.{Terms}
use Rattle.demand_rules.specs.Demand.{periods_within, task_demand_in, demand_in, IsTaskTerms, HasTerms}

-- a quotient grows with what is divided
pub div_more : (a b k : ℕ) → a ≤ b → a / k ≤ b / k
div_more a b zero le = omega arith
div_more a b (suc k) le = elim (cases_lt (b / suc k) (a / suc k)) [
  | inl less ↦
      let up : (b / suc k + 1) * suc k ≤ a / suc k * suc k = mul-le-mul_right (suc k) (omega (arith, less)) in
      absurd (omega (arith, up, one_more (b / suc k) (suc k), div-add-mod' a (suc k), div-add-mod' b (suc k), mod-lt b {m = suc k} (omega arith), le))
  | inr more ↦ omega (arith, more)
]
  where
    one_more : (n p : ℕ) → (n + 1) * p ≡ n * p + p
    one_more n p = grind arith

more_periods : (period deadline few many : ℕ) → few ≤ many → periods_within period deadline few ≤ periods_within period deadline many
more_periods period deadline few many le = by_tests (nat_le deadline few) (nat_le deadline many) (λ h. grind (arith, nat_tests, h, le))
  where
    by_tests : (b c : Bool) → (b ≡ true → c ≡ true)
        → cond b ((few - deadline) / period + 1) 0 ≤ cond c ((many - deadline) / period + 1) 0
    by_tests true true h =
        let less : few - deadline ≤ many - deadline = omega (arith, le) in
        omega (arith, div_more (few - deadline) (many - deadline) period less)
    by_tests true false h = absurd (true≢false (sym (h refl)))
    by_tests false c h = omega arith

more_of_task : (plan : DiePlan) (few many : ℕ) → few ≤ many → (t : TaskTerms) → task_demand_in plan few t ≤ task_demand_in plan many t
more_of_task plan few many le t = omega (
  arith,
  mul-le-mul_left t.work (more_periods t.period t.deadline few many le),
  mul-le-mul_left (collection_work plan) (more_periods t.collect_period t.collect_deadline few many le),
)

pub more_demand : (plan : DiePlan) (terms : Terms) (few many : ℕ) → few ≤ many → demand_in plan terms few ≤ demand_in plan terms many
more_demand plan terms few many le = of_tasks terms.tasks
  where
    of_tasks : (ts : List TaskTerms) → sum_by (task_demand_in plan few) ts ≤ sum_by (task_demand_in plan many) ts
    of_tasks [] = omega arith
    of_tasks (t ∷ ts) = omega (
      arith,
      sum_by-cons (task_demand_in plan few) t ts,
      sum_by-cons (task_demand_in plan many) t ts,
      more_of_task plan few many le t,
      of_tasks ts,
    )

-- nothing is asked of no slots
no_periods : (period deadline : ℕ) → 1 ≤ deadline → periods_within period deadline 0 ≡ 0
no_periods period deadline some = grind (arith, nat_tests)

pub no_demand : (plan : DiePlan) (terms : Terms) → HasTerms plan terms → demand_in plan terms 0 ≡ 0
no_demand plan terms has = of_tasks terms.tasks (recursion_from_All IsTaskTerms terms.tasks has.each)
  where
    none : (t : TaskTerms) → IsTaskTerms t → task_demand_in plan 0 t ≡ 0
    none t h =
        let jobs = ap (λ (n : ℕ). t.work * n) (no_periods t.period t.deadline h.some_deadline) in
        let collections = ap (λ (n : ℕ). collection_work plan * n) (no_periods t.collect_period t.collect_deadline h.some_collect_deadline) in
        omega (arith, jobs, collections, nothing t.work, nothing (collection_work plan))
      where
        nothing : (k : ℕ) → k * 0 ≡ 0
        nothing k = grind arith

    of_tasks : (ts : List TaskTerms) → AllByRecursion IsTaskTerms ts → sum_by (task_demand_in plan 0) ts ≡ 0
    of_tasks [] h = refl
    of_tasks (t ∷ ts) h = omega (arith, sum_by-cons (task_demand_in plan 0) t ts, none t h.0, of_tasks ts h.1)
