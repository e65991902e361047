-- The periods of a plan's dies, and their hyperperiods.
use Rattle.std.proofs.Common.{◌≡◌, ℕ, ◌+◌, ◌%◌, ◌<◌, ◌≤◌, Option, Some, None, get_or, inl, inr, refl, sym, subst, arith}
use Rattle.std.proofs.lemmas.Bool.{cases_order}
use Rattle.std.specs.Prelude.{IfSome}
use Rattle.slot_types.specs.declared.plans.DiePlan.{DiePlan}
use Rattle.slot_types.specs.declared.plans.Times.{Times}
use Rattle.slot_types.specs.declared.limits.TheConstants.{MAX_SLOT}
use Rattle.plan_texts.specs.Stores.{die_of}
use Rattle.plan_texts.specs.declared.numbers.PlanNumbers.{PlanNumbers}
use Rattle.flashplan_design.specs.Commons.{AreCommon, AreDivisors, DividesAll, FindsDivisor}
use Rattle.flashplan_design.specs.Numbers.{DieDoes, IsLeast, NoneDoes}
use Rattle.flashplan_design.specs.Plans.{AllDo}
use Rattle.flashplan_design.specs.declared.commons.Periods.TheVariants as periods
use Rattle.flashplan_design.specs.declared.numbers.Number.TheVariants as number
use Rattle.flashplan_design.proofs.Dividing.{common_divides}
use Rattle.flashplan_design.proofs.Multiples.{divide_through, no_less}
use Rattle.flashplan_design.proofs.Scaling.{fewer_logical, part_common}

-- the periods of a die divide it
abbrev pub IsCommonOf : PlanNumbers → ℕ → ℕ → Type 0
IsCommonOf plan n die = IfSome (die_of plan die).times (λ times. AreDivisors periods.All times.tasks n)

die_common : (d : DiePlan) (n : ℕ) (o : Option Times) → d.times ≡ o → DieDoes number.Common d n
    → IfSome o (λ times. AreDivisors periods.All times.tasks n)
die_common d n None is does = tt
die_common d n (Some times) is does = common_divides d times n is does

-- a hyperperiod with which each die does is one that their periods divide
pub all_common : (plan : PlanNumbers) (n : ℕ) → AllDo number.Common plan n → AreCommon plan n
all_common plan n does = λ die lt. die_common (die_of plan die) n (die_of plan die).times refl (does.each die lt)

-- and each does with a part of it that their periods divide
pub all_part : (plan : PlanNumbers) (n m : ℕ) → 1 ≤ n → 1 ≤ m → m ≤ MAX_SLOT → n % m ≡ 0 → AreCommon plan m → AllDo number.Common plan n
    → AllDo number.Common plan m
all_part plan n m some one few whole common does = record {
  named = does.named;
  each = λ die lt. part_common (die_of plan die) n m some one few whole (common die lt) (does.each die lt);
}

-- each die does with fewer logical pages
pub all_fewer : (plan : PlanNumbers) (n m : ℕ) → 1 ≤ m → m ≤ n → AllDo number.Logical plan n → AllDo number.Logical plan m
all_fewer plan n m some less does = record {
  named = does.named;
  each = λ die lt. fewer_logical (die_of plan die) n m some less (does.each die lt);
}

-- where such a number does for all, it is the least that does
pub least_if : (plan : PlanNumbers) (m : ℕ) → DividesAll (AreCommon plan) m → AllDo number.Common plan m
    → IsLeast (AllDo number.Common plan) 1 MAX_SLOT m
least_if plan m d does = record {
  above = d.some;
  below = d.few;
  does = does;
  least = λ fewer one less other. omega (arith, less, no_less m fewer one (d.all fewer (all_common plan fewer other)));
}

-- and where it doesn't, none does
pub none_if : (plan : PlanNumbers) (m : ℕ) → DividesAll (AreCommon plan) m → ¬ AllDo number.Common plan m
    → NoneDoes (AllDo number.Common plan) 1 MAX_SLOT
none_if plan m d isnt = λ n one few does.
    isnt (all_part plan n m one d.some d.few (d.all n (all_common plan n does)) d.own does)

none_common : (plan : PlanNumbers) → ((n : ℕ) → 1 ≤ n → n ≤ MAX_SLOT → ¬ AreCommon plan n)
    → NoneDoes (AllDo number.Common plan) 1 MAX_SLOT
none_common plan none = λ n one few does. none n one few (all_common plan n does)

pub none_found : (plan : PlanNumbers) (found : Option ℕ) → found ≡ None → FindsDivisor (AreCommon plan) found
    → NoneDoes (AllDo number.Common plan) 1 MAX_SLOT
none_found plan found is d = none_common plan (subst (λ (o : Option ℕ). FindsDivisor (AreCommon plan) o) is d)

-- what the periods of a die divide, a multiple is, too
common_through : (m n : ℕ) (o : Option Times) → n % m ≡ 0 → IfSome o (λ times. AreDivisors periods.All times.tasks m)
    → IfSome o (λ times. AreDivisors periods.All times.tasks n)
common_through m n None whole d = tt
common_through m n (Some times) whole d = λ k t lt. divide_through periods.All m n (get_or times.tasks k t) whole (d k t lt)

-- the step to the next die
pub next_common : (plan : PlanNumbers) (multiple next die : ℕ) → next % multiple ≡ 0 → IsCommonOf plan next die
    → ((d : ℕ) → d < die → IsCommonOf plan multiple d) → (d : ℕ) → d < die + 1 → IsCommonOf plan next d
next_common plan multiple next die whole at below d lt = elim (cases_order d die) [
  | inl same ↦ subst (λ k. IsCommonOf plan next k) (sym same) at
  | inr (inl less) ↦ common_through multiple next (die_of plan d).times whole (below d less)
  | inr (inr more) ↦ absurd (omega (arith, lt, more))
]
