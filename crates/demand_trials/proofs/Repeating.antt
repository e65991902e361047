-- Where every deadline is reached, as much more is asked with each common multiple of the periods as with the one before.
use Rattle.std.proofs.Common.{◌≡◌, ℕ, zero, suc, ◌+◌, ◌-◌, ◌*◌, ◌/◌, ◌%◌, ◌≤◌, nat_le, Bool, true, false, if◌then◌else◌, List, [], ◌∷◌, sum_by, All, refl}
use Rattle.std.proofs.Common.{sym, ap, ◌∙◌, inl, inr, arith}
use Rattle.std.specs.List.{AllByRecursion}
use Rattle.std.proofs.Math.Nat.{add-mul-div_right}
use Rattle.std.proofs.lemmas.Nat.{div-add-mod'}
use Rattle.std.proofs.lemmas.Bool.{true≢false, cases_lt}
use Rattle.std.proofs.lemmas.Bool.Decides.{nat_tests}
use Rattle.std.proofs.lemmas.List.Elements.{recursion_from_All}
use Rattle.std.proofs.lemmas.List.Sums.{sum_by-cons}
use Rattle.slot_types.specs.declared.plans.DiePlan.{DiePlan}
use Rattle.plan_rules.specs.Times.{collection_work}
use Rattle.demand_rules.specs.declared.terms.TaskTerms.{TaskTerms}
use Rattle.demand_rules.specs.declared.terms.Terms.{Terms}
use Rattle.demand_rules.specs.Demand.{periods_within, task_demand_in, demand_in, FitsAllSlots, IsTaskTerms}
use Rattle.demand_trials.specs.Repeats.{AreDueBy, Divide, FitsBelow}
use Rattle.demand_trials.proofs.Multiples.{still_due}

-- of a common multiple more, as many periods more come as it has
periods_again : (period deadline slots common : ℕ) → 1 ≤ period → deadline ≤ slots → common % period ≡ 0
    → periods_within period deadline (slots + common) ≡ periods_within period deadline slots + common / period
periods_again period deadline slots common some due divides =
    let parts : common / period * period ≡ common = omega (arith, div-add-mod' common period, divides) in
    let apart : slots + common - deadline ≡ slots - deadline + common / period * period = omega (arith, parts, due) in
    let more : (slots + common - deadline) / period ≡ (slots - deadline) / period + common / period =
    ap (λ (n : ℕ). n / period) apart ∙ add-mul-div_right (slots - deadline) (common / period) (omega (arith, some)) in
    reached (nat_le deadline slots) (nat_le deadline (slots + common)) (grind (arith, nat_tests, due)) (grind (arith, nat_tests, due)) ((slots + common - deadline) / period) ((slots - deadline) / period) (common / period) more
  where
    reached : (b c : Bool) → b ≡ true → c ≡ true → (q p k : ℕ) → q ≡ p + k
        → (if c then q + 1 else 0) ≡ (if b then p + 1 else 0) + k
    reached true true hb hc q p k is = omega (arith, is)
    reached true false hb hc q p k is = absurd (true≢false (sym hc))
    reached false c hb hc q p k is = absurd (true≢false (sym hb))

-- what a task asks for more then
abbrev task_more : DiePlan → ℕ → TaskTerms → ℕ
task_more plan common t = t.work * (common / t.period) + collection_work plan * (common / t.collect_period)

task_again : (plan : DiePlan) (slots common : ℕ) (t : TaskTerms) → IsTaskTerms t → AreDueBy slots t → Divide common t
    → task_demand_in plan (slots + common) t ≡ task_demand_in plan slots t + task_more plan common t
task_again plan slots common t limits due divide =
    let jobs : t.work * periods_within t.period t.deadline (slots + common) ≡ t.work * periods_within t.period t.deadline slots + t.work * (common / t.period) =
    ap (λ (n : ℕ). t.work * n) (periods_again t.period t.deadline slots common limits.some_period due.deadline divide.period)
    ∙ spread t.work (periods_within t.period t.deadline slots) (common / t.period) in
    let collections : collection_work plan * periods_within t.collect_period t.collect_deadline (slots + common)
    ≡ collection_work plan * periods_within t.collect_period t.collect_deadline slots + collection_work plan * (common / t.collect_period) =
    ap (λ (n : ℕ). collection_work plan * n)
    (periods_again t.collect_period t.collect_deadline slots common limits.some_collect_period due.collect_deadline divide.collect_period)
    ∙ spread (collection_work plan) (periods_within t.collect_period t.collect_deadline slots) (common / t.collect_period) in
    omega (arith, jobs, collections)
  where
    spread : (k a b : ℕ) → k * (a + b) ≡ k * a + k * b
    spread k a b = grind arith

all_again : (plan : DiePlan) (slots common : ℕ) (tasks : List TaskTerms) → AllByRecursion IsTaskTerms tasks
    → AllByRecursion (AreDueBy slots) tasks → AllByRecursion (Divide common) tasks
    → sum_by (task_demand_in plan (slots + common)) tasks ≡ sum_by (task_demand_in plan slots) tasks + sum_by (task_more plan common) tasks
all_again plan slots common [] limits due divide = refl
all_again plan slots common (t ∷ tasks) limits due divide = omega (
  arith,
  sum_by-cons (task_demand_in plan (slots + common)) t tasks,
  sum_by-cons (task_demand_in plan slots) t tasks,
  sum_by-cons (task_more plan common) t tasks,
  task_again plan slots common t limits.0 due.0 divide.0,
  all_again plan slots common tasks limits.1 due.1 divide.1,
)

-- by how much what all tasks ask for grows
demand_again : (plan : DiePlan) (terms : Terms) (slots common : ℕ) → All IsTaskTerms terms.tasks → All (AreDueBy slots) terms.tasks
    → All (Divide common) terms.tasks → demand_in plan terms (slots + common) ≡ demand_in plan terms slots + sum_by (task_more plan common) terms.tasks
demand_again plan terms slots common limits due divide = all_again plan slots common terms.tasks
    (recursion_from_All IsTaskTerms terms.tasks limits) (recursion_from_All (AreDueBy slots) terms.tasks due)
    (recursion_from_All (Divide common) terms.tasks divide)

-- where a common multiple has room for what is asked more in it, no number is the first without room from the greatest deadline and one
-- multiple on
pub enough_repeats : (plan : DiePlan) (terms : Terms) (far common : ℕ) → All IsTaskTerms terms.tasks → All (AreDueBy far) terms.tasks
    → All (Divide common) terms.tasks → 1 ≤ common → demand_in plan terms (far + common) ≤ demand_in plan terms far + common
    → FitsBelow plan terms (far + common) → FitsAllSlots plan terms
enough_repeats plan terms far common limits due divide some room below slots within = up_to slots slots (omega arith)
  where
    one_more : (slots : ℕ) → far ≤ slots → demand_in plan terms (slots + common) ≤ demand_in plan terms slots + common
    one_more slots le = omega (
      arith,
      room,
      demand_again plan terms far common limits due divide,
      demand_again plan terms slots common limits (still_due terms.tasks far slots le due) divide,
    )

    step : (slots : ℕ) → far + common ≤ slots → demand_in plan terms (slots - common) ≤ slots - common → demand_in plan terms slots ≤ slots
    step slots more fits =
        let again : slots - common + common ≡ slots = omega (arith, more) in
        let grown : demand_in plan terms (slots - common + common) ≤ demand_in plan terms (slots - common) + common =
        one_more (slots - common) (omega (arith, more)) in
        omega (arith, again, ap (demand_in plan terms) again, grown, fits)

    up_to : (most slots : ℕ) → slots ≤ most → demand_in plan terms slots ≤ slots
    up_to zero slots le = below slots (omega (arith, le, some))
    up_to (suc most) slots le = elim (cases_lt slots (far + common)) [
      | inl less ↦ below slots less
      | inr more ↦ step slots more (up_to most (slots - common) (omega (arith, le, some, more)))
    ]
