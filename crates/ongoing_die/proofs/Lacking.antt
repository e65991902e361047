-- What counts as asked for where a die goes on from a checkpoint has no slots.
use Rattle.std.proofs.Common.{◌≡◌, ℕ, zero, suc, List, [], length, refl, ap, arith}
use Rattle.std.proofs.lemmas.List.Sums.{sum_by-cons}
use Rattle.slot_types.specs.declared.plans.DiePlan.{DiePlan}
use Rattle.die_log.specs.Model.Log.{carried_slots, now}
use Rattle.die_log.specs.Model.Lives.{all_slots}
use Rattle.planned_die.specs.Resuming.{lack, with_lack, lacked_by, lacked}

module _ (plan : DiePlan) (balances : List ℕ) where
  none_carried : (n : ℕ) → carried_slots (lacked_by plan balances n) ≡ []
  none_carried zero = refl
  none_carried (suc n) = by (lack plan balances n) (none_carried n)
    where
      by : (k : ℕ) → carried_slots (lacked_by plan balances n) ≡ [] → carried_slots (with_lack n k (lacked_by plan balances n)) ≡ []
      by zero none = none
      by (suc k) none = none

  pub in_no_slots : all_slots (lacked plan balances) ≡ 0
  in_no_slots = omega (
    arith,
    sum_by-cons now (lacked_by plan balances (length plan.caps)) [],
    ap length (none_carried (length plan.caps)),
  )
