-- Between two deadlines as much is asked of each number of slots.
use Rattle.std.proofs.Common.{◌≡◌, ℕ, ◌+◌, ◌-◌, ◌*◌, ◌/◌, ◌%◌, ◌<◌, ◌≤◌, nat_le, Bool, true, false, cond, List, [], ◌∷◌, length, get_or, take, sum_by}
use Rattle.std.proofs.Common.{refl, sym, ap, subst, ◌∙◌, inl, inr, arith}
use Rattle.std.specs.List.{AllByRecursion}
use Rattle.std.proofs.Math.Nat.{mul-le-mul_right}
use Rattle.std.proofs.lemmas.Nat.{div-add-mod', div_below, le-div, mod_below}
use Rattle.std.proofs.lemmas.Bool.{cases_lt}
use Rattle.std.proofs.lemmas.Bool.Decides.{nat_tests}
use Rattle.std.proofs.lemmas.List.Sums.{sum_by-cons, sum_by_more}
use Rattle.std.proofs.lemmas.List.Elements.{recursion_from_All}
use Rattle.slot_types.specs.declared.plans.DiePlan.{DiePlan}
use Rattle.slot_types.specs.declared.limits.TheConstants.{MAX_SLOT}
use Rattle.plan_rules.specs.Times.{collection_work}
use Rattle.demand_rules.specs.declared.terms.TaskTerms.{TaskTerms}
use Rattle.demand_rules.specs.declared.terms.Terms.{Terms}
use Rattle.demand_rules.specs.Demand.{periods_within, task_demand_in, demand_in, IsTaskTerms, HasTerms}
use Rattle.demand_rules.specs.Steady.{IsSteady, AreSteady}
use Rattle.demand_rules.proofs.Growing.{more_demand, no_demand}

periods_from : (period deadline slots : ℕ) → deadline ≤ slots → periods_within period deadline slots ≡ (slots - deadline) / period + 1
periods_from period deadline slots le = by_test (nat_le deadline slots) (λ not_it. grind (arith, nat_tests, not_it, le))
  where
    by_test : (b : Bool) → (b ≡ false → ⊥) → cond b ((slots - deadline) / period + 1) 0 ≡ (slots - deadline) / period + 1
    by_test true h = refl
    by_test false h = absurd (h refl)

-- from the last deadline on
pub steady_after : (period deadline end : ℕ) → 1 ≤ period → deadline < end
    → IsSteady (periods_within period deadline) (end - 1 - (end - 1 - deadline) % period) end
steady_after period deadline end some lt first second from below from' below' = at first from below ∙ sym (at second from' below')
  where
    one_more : (k p : ℕ) → (k + 1) * p ≡ k * p + p
    one_more k p = grind arith

    at : (slots : ℕ) → end - 1 - (end - 1 - deadline) % period ≤ slots → slots < end
        → periods_within period deadline slots ≡ (end - 1 - deadline) / period + 1
    at slots ge less =
        let x : ℕ = end - 1 - deadline in
        let parts : x / period * period + x % period ≡ x = div-add-mod' x period in
        let small : x % period < period = mod_below x period (omega (arith, some)) in
        let low : x / period ≤ (slots - deadline) / period = le-div (x / period) (slots - deadline) period (omega (arith, some))
        (omega (arith, parts, ge, lt)) in
        let high : (slots - deadline) / period < x / period + 1 = div_below (slots - deadline) period (x / period + 1)
        (omega (arith, some)) (omega (arith, parts, small, less, one_more (x / period) period)) in
        let same : (slots - deadline) / period ≡ x / period = omega (arith, low, high) in
        periods_from period deadline slots (omega (arith, parts, ge, lt)) ∙ ap (λ (n : ℕ). n + 1) same

-- one task more
pub steady_more : (plan : DiePlan) (tasks : List TaskTerms) (i : ℕ) (d : TaskTerms) (first second : ℕ) → i < length tasks
    → sum_by (task_demand_in plan first) (take i tasks) ≡ sum_by (task_demand_in plan second) (take i tasks)
    → task_demand_in plan first (get_or tasks i d) ≡ task_demand_in plan second (get_or tasks i d)
    → sum_by (task_demand_in plan first) (take (i + 1) tasks) ≡ sum_by (task_demand_in plan second) (take (i + 1) tasks)
steady_more plan tasks i d first second lt before here = omega (
  arith,
  sum_by_more (task_demand_in plan first) tasks i d lt,
  sum_by_more (task_demand_in plan second) tasks i d lt,
  before,
  here,
)

pub same_demand : (plan : DiePlan) (t : TaskTerms) (first second : ℕ)
    → periods_within t.period t.deadline first ≡ periods_within t.period t.deadline second
    → periods_within t.collect_period t.collect_deadline first ≡ periods_within t.collect_period t.collect_deadline second
    → task_demand_in plan first t ≡ task_demand_in plan second t
same_demand plan t first second jobs collections = omega (
  arith,
  ap (λ (n : ℕ). t.work * n) jobs,
  ap (λ (n : ℕ). collection_work plan * n) collections,
)

-- below the end no more is asked than at the last deadline
pub covered : (plan : DiePlan) (terms : Terms) (tasks : List TaskTerms) (last end demand slots : ℕ) → tasks ≡ terms.tasks
    → AreSteady tasks last end → last < end → demand ≡ sum_by (task_demand_in plan last) tasks → slots < end
    → demand_in plan terms slots ≤ demand
covered plan terms tasks last end demand slots same steady below is lt =
    let own : AreSteady terms.tasks last end = subst (λ (ts : List TaskTerms). AreSteady ts last end) same steady in
    let asked : demand ≡ demand_in plan terms last = is ∙ ap (λ (ts : List TaskTerms). sum_by (task_demand_in plan last) ts) same in
    elim (cases_lt last slots) [
      | inl more ↦ omega (arith, asked, own plan slots last (omega (arith, more)) lt (omega arith) below)
      | inr fewer ↦ omega (arith, asked, more_demand plan terms slots last fewer)
    ]

-- of as many slots as a life has, something is asked
pub some_demand : (plan : DiePlan) (terms : Terms) → 1 ≤ length plan.caps → HasTerms plan terms → 1 ≤ demand_in plan terms MAX_SLOT
some_demand plan terms some has =
    of_tasks terms.tasks (omega (arith, some, has.one_each)) (recursion_from_All IsTaskTerms terms.tasks has.each)
  where
    of_one : (t : TaskTerms) → IsTaskTerms t → 1 ≤ task_demand_in plan MAX_SLOT t
    of_one t h = omega (
      arith,
      mul-le-mul_right (periods_within t.period t.deadline MAX_SLOT) h.some_work,
      periods_from t.period t.deadline MAX_SLOT (omega (arith, h.few_deadline, h.few_held)),
    )

    of_tasks : (ts : List TaskTerms) → 1 ≤ length ts → AllByRecursion IsTaskTerms ts → 1 ≤ sum_by (task_demand_in plan MAX_SLOT) ts
    of_tasks [] none h = absurd (omega (arith, none))
    of_tasks (t ∷ ts) several h = omega (arith, sum_by-cons (task_demand_in plan MAX_SLOT) t ts, of_one t h.0)

-- and of none nothing
pub none_fits : (plan : DiePlan) (terms : Terms) (slots : ℕ) → HasTerms plan terms → slots ≤ 0 → demand_in plan terms slots ≤ slots
none_fits plan terms slots has few = omega (arith, more_demand plan terms slots 0 few, no_demand plan terms has)
