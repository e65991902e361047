-- A number that is changed twice is as it was changed last.
use Rattle.std.proofs.Common.{◌≡◌, ℕ, zero, suc, List, [], ◌∷◌, get_or, refl, ap, ◌∙◌}
use Rattle.std.proofs.Common.{Option, Some, None}
use Rattle.std.specs.Prelude.{option_map, slice_set}
use Rattle.std.proofs.lemmas.List.{set-set}
use Rattle.slot_types.specs.declared.plans.DiePlan.{DiePlan}
use Rattle.slot_types.specs.declared.plans.TaskTimes.{TaskTimes}
use Rattle.slot_types.specs.declared.plans.Times.{Times}
use Rattle.flashplan_design.specs.Numbers.{times_with, with_number}
use Rattle.flashplan_design.specs.declared.numbers.Number.{Number}
use Rattle.flashplan_design.specs.declared.numbers.Number.TheVariants as number

-- what is set at a place, and then set by what stands there
set_by : {A : Type 0} (f g : A → A) (xs : List A) (i : ℕ) (d : A) → ((x : A) → f (g x) ≡ f x)
    → slice_set (slice_set xs i (g (get_or xs i d))) i (f (get_or (slice_set xs i (g (get_or xs i d))) i d)) ≡ slice_set xs i (f (get_or xs i d))
set_by f g [] i d same = refl
set_by f g (x ∷ xs) zero d same = ap (λ y. y ∷ xs) (same x)
set_by f g (x ∷ xs) (suc i) d same = ap (λ ys. x ∷ ys) (set_by f g xs i d same)

retimed_again : (which : Number) (m n : ℕ) (times : Times) → times_with which n (times_with which m times) ≡ times_with which n times
retimed_again number.Blocks m n times = refl
retimed_again number.Logical m n times = refl
retimed_again number.Alpha m n times = refl
retimed_again number.Common m n times = refl
retimed_again (number.Cap task) m n times = refl
retimed_again (number.Period task) m n times =
    ap (λ (l : List TaskTimes). record times { tasks = l })
    (set_by (λ t. record t { period = n }) (λ t. record t { period = m }) times.tasks task _ (λ t. refl))
retimed_again (number.CollectPeriod task) m n times =
    ap (λ (l : List TaskTimes). record times { tasks = l })
    (set_by (λ t. record t { collect_period = n }) (λ t. record t { collect_period = m }) times.tasks task _ (λ t. refl))
retimed_again (number.Work task) m n times =
    ap (λ (l : List TaskTimes). record times { tasks = l })
    (set_by (λ t. record t { work = n }) (λ t. record t { work = m }) times.tasks task _ (λ t. refl))
retimed_again (number.Writes task) m n times =
    ap (λ (l : List TaskTimes). record times { tasks = l })
    (set_by (λ t. record t { writes = n }) (λ t. record t { writes = m }) times.tasks task _ (λ t. refl))

mapped_again : (which : Number) (m n : ℕ) (times : Option Times)
    → option_map (times_with which n) (option_map (times_with which m) times) ≡ option_map (times_with which n) times
mapped_again which m n None = refl
mapped_again which m n (Some times) = ap Some (retimed_again which m n times)

pub changed_again : (which : Number) (plan : DiePlan) (m n : ℕ) → with_number which (with_number which plan m) n ≡ with_number which plan n
changed_again number.Blocks plan m n = refl
changed_again number.Logical plan m n = refl
changed_again number.Alpha plan m n = refl
changed_again (number.Cap task) plan m n = ap (λ (l : List ℕ). record plan { caps = l }) (set-set plan.caps task m n)
changed_again number.Common plan m n =
    ap (λ (o : Option Times). record plan { times = o }) (mapped_again number.Common m n plan.times)
changed_again (number.Period task) plan m n =
    ap (λ (o : Option Times). record plan { times = o }) (mapped_again (number.Period task) m n plan.times)
changed_again (number.CollectPeriod task) plan m n =
    ap (λ (o : Option Times). record plan { times = o }) (mapped_again (number.CollectPeriod task) m n plan.times)
changed_again (number.Work task) plan m n =
    ap (λ (o : Option Times). record plan { times = o }) (mapped_again (number.Work task) m n plan.times)
changed_again (number.Writes task) plan m n =
    ap (λ (o : Option Times). record plan { times = o }) (mapped_again (number.Writes task) m n plan.times)

-- a trial that differs from the plan in that number alone still does so
pub still : (which : Number) (plan trial next : DiePlan) (m : ℕ) → ((n : ℕ) → with_number which trial n ≡ with_number which plan n)
    → next ≡ with_number which trial m → (n : ℕ) → with_number which next n ≡ with_number which plan n
still which plan trial next m same is n =
    ap (λ (p : DiePlan). with_number which p n) is ∙ (changed_again which trial m n ∙ same n)
