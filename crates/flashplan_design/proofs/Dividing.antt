-- The periods of a plan that would do divide its hyperperiod.
use Rattle.std.proofs.Common.{◌≡◌, ℕ, ◌%◌, ◌<◌, length, get_or, subst, inl, inr, arith, length-set}
use Rattle.std.proofs.Common.{Option, Some}
use Rattle.std.proofs.lemmas.Bool.{cases_order}
use Rattle.std.proofs.lemmas.List.{get_or-set_same}
use Rattle.std.proofs.lemmas.List.Elements.{All-from_get_or}
use Rattle.std.specs.Prelude.{option_map, IfSome}
use Rattle.slot_types.specs.declared.plans.DiePlan.{DiePlan}
use Rattle.slot_types.specs.declared.plans.TaskTimes.{TaskTimes}
use Rattle.slot_types.specs.declared.plans.Times.{Times}
use Rattle.plan_rules.specs.Times.{IsSustained, Passes, times_of}
use Rattle.plan_rules.proofs.Zips.{zip_at}
use Rattle.flashplan_design.specs.Commons.{AreDivisors, Divide}
use Rattle.flashplan_design.specs.Numbers.{DieDoes, MayBe, times_with, with_number}
use Rattle.flashplan_design.specs.declared.commons.Periods.TheVariants as periods
use Rattle.flashplan_design.specs.declared.numbers.Number.{Number}
use Rattle.flashplan_design.specs.declared.numbers.Number.TheVariants as number

nobody : TaskTimes
nobody = record { period = 0; collect_period = 0; work = 0; writes = 0 }

-- what passing says of the hyperperiod and a task's times
divides_at : (plan : DiePlan) (times : Times) (task : ℕ) → Passes plan times → task < length times.tasks
    → (times.common % (get_or times.tasks task nobody).period ≡ 0) × (times.common % (get_or times.tasks task nobody).collect_period ≡ 0)
divides_at plan times task p lt =
    let at : IsSustained plan times.common (get_or plan.caps task 0) (get_or times.tasks task nobody)
    = zip_at (IsSustained plan times.common) plan.caps times.tasks task 0 nobody p.sustained
    (omega (arith, lt, p.timed.one_each)) in
    (at.period_divides, at.collect_period_divides)

pub period_divides : (plan : DiePlan) (times : Times) (task n : ℕ) → plan.times ≡ Some times → task < length times.tasks
    → DieDoes (number.Period task) plan n → times.common % n ≡ 0
period_divides plan times task n is lt does =
    let own : TaskTimes = record (times_of times task) { period = n } in
    let passes : Passes (with_number (number.Period task) plan n) (times_with (number.Period task) n times)
    = subst (λ (o : Option Times). IfSome (option_map (times_with (number.Period task) n) o)
    (Passes (with_number (number.Period task) plan n))) is does.passes in
    let both = divides_at (with_number (number.Period task) plan n) (times_with (number.Period task) n times) task passes
    (omega (arith, lt, length-set times.tasks task own)) in
    subst (λ (t : TaskTimes). times.common % t.period ≡ 0) (get_or-set_same times.tasks task own nobody lt) both.0

pub collect_period_divides : (plan : DiePlan) (times : Times) (task n : ℕ) → plan.times ≡ Some times → task < length times.tasks
    → DieDoes (number.CollectPeriod task) plan n → times.common % n ≡ 0
collect_period_divides plan times task n is lt does =
    let own : TaskTimes = record (times_of times task) { collect_period = n } in
    let passes : Passes (with_number (number.CollectPeriod task) plan n) (times_with (number.CollectPeriod task) n times)
    = subst (λ (o : Option Times). IfSome (option_map (times_with (number.CollectPeriod task) n) o)
    (Passes (with_number (number.CollectPeriod task) plan n))) is does.passes in
    let both = divides_at (with_number (number.CollectPeriod task) plan n) (times_with (number.CollectPeriod task) n times) task passes
    (omega (arith, lt, length-set times.tasks task own)) in
    subst (λ (t : TaskTimes). times.common % t.collect_period ≡ 0) (get_or-set_same times.tasks task own nobody lt) both.1

pub common_divides : (plan : DiePlan) (times : Times) (n : ℕ) → plan.times ≡ Some times → DieDoes number.Common plan n
    → AreDivisors periods.All times.tasks n
common_divides plan times n is does =
    let passes : Passes (with_number number.Common plan n) (times_with number.Common n times)
    = subst (λ (o : Option Times). IfSome (option_map (times_with number.Common n) o)
    (Passes (with_number number.Common plan n))) is does.passes in
    All-from_get_or (Divide periods.All n) times.tasks nobody
    (λ i lt. divides_at (with_number number.Common plan n) (times_with number.Common n times) i passes lt)

-- what would do may be
pub may_be : (which : Number) (plan : DiePlan) (times : Times) (n : ℕ) → plan.times ≡ Some times → DieDoes which plan n
    → MayBe which times n
may_be number.Blocks plan times n is does = tt
may_be number.Logical plan times n is does = tt
may_be number.Alpha plan times n is does = tt
may_be number.Common plan times n is does = common_divides plan times n is does
may_be (number.Cap task) plan times n is does = tt
may_be (number.Period task) plan times n is does = elim (cases_order task (length times.tasks)) [
  | inl same ↦ inl (omega (arith, same))
  | inr (inl less) ↦ inr (period_divides plan times task n is less does)
  | inr (inr more) ↦ inl (omega (arith, more))
]
may_be (number.CollectPeriod task) plan times n is does = elim (cases_order task (length times.tasks)) [
  | inl same ↦ inl (omega (arith, same))
  | inr (inl less) ↦ inr (collect_period_divides plan times task n is less does)
  | inr (inr more) ↦ inl (omega (arith, more))
]
may_be (number.Work task) plan times n is does = tt
may_be (number.Writes task) plan times n is does = tt
