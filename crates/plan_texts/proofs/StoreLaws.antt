-- What holds of the dies of a store.
use Rattle.std.proofs.Common.{◌<◌, ◌≤◌, List, Result, Ok, Err, IfOk, length, sym, subst, arith, ap}
use Rattle.std.specs.Prelude.{All}
use Rattle.std.proofs.lemmas.List.FromFn.{get_or-map-range_with_len, length-map-range_with_len}
use Rattle.plan_rules.specs.Bound.{MeetsBound}
use Rattle.plan_rules.specs.Times.{PassesItsTimes}
use Rattle.slot_types.specs.declared.plans.DiePlan.{DiePlan}
use Rattle.slot_types.specs.declared.refusals.Refusal.{Refusal}
use Rattle.plan_texts.specs.Stores.{IsStore, IsUsable, die_of}
use Rattle.plan_texts.specs.declared.numbers.PlanNumbers.{PlanNumbers}

few_dies : (plan : PlanNumbers) (store : List DiePlan) → IsStore plan store → length store ≤ 8
few_dies plan store is = omega (arith, ap length is.dies, length-map-range_with_len (die_of plan) 0 plan.top.dies, is.shaped.few_dies)

-- what holds of each usable die
all_usable : (plan : PlanNumbers) (store : List DiePlan) (P : DiePlan → Type 0) → ((die : DiePlan) → IsUsable die → P die)
    → IsStore plan store → All P store
all_usable plan store P usable is = subst (λ s. All P s) (sym is.dies) (λ k d below.
    let within : k < plan.top.dies = omega (arith, below, length-map-range_with_len (die_of plan) 0 plan.top.dies) in
    subst P (sym (get_or-map-range_with_len (die_of plan) 0 plan.top.dies k k d within (omega arith)))
    (usable (die_of plan k) (is.served.usable k within)))

pub store_few : (plan : PlanNumbers) (r : Result (List DiePlan) Refusal) → IfOk r (IsStore plan) → IfOk r (λ store. length store ≤ 8)
store_few plan (Ok store) h = few_dies plan store h
store_few plan (Err e) h = tt

pub store_bound : (plan : PlanNumbers) (r : Result (List DiePlan) Refusal) → IfOk r (IsStore plan) → IfOk r (All MeetsBound)
store_bound plan (Ok store) h = all_usable plan store MeetsBound (λ die u. u.bound) h
store_bound plan (Err e) h = tt

pub store_passes : (plan : PlanNumbers) (r : Result (List DiePlan) Refusal) → IfOk r (IsStore plan) → IfOk r (All PassesItsTimes)
store_passes plan (Ok store) h = all_usable plan store PassesItsTimes (λ die u. u.passes) h
store_passes plan (Err e) h = tt

some_dies : (plan : PlanNumbers) (store : List DiePlan) → IsStore plan store → 1 ≤ length store
some_dies plan store is = omega (arith, ap length is.dies, length-map-range_with_len (die_of plan) 0 plan.top.dies, is.shaped.some_dies)

pub store_some : (plan : PlanNumbers) (r : Result (List DiePlan) Refusal) → IfOk r (IsStore plan) → IfOk r (λ store. 1 ≤ length store)
store_some plan (Ok store) h = some_dies plan store h
store_some plan (Err e) h = tt
