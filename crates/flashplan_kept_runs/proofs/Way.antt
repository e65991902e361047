-- Slots of a die, one after the other.
use Rattle.std.proofs.Common.{◌≡◌, ℕ, suc, ◌+◌, ◌<◌, ◌≤◌, List, [], ◌∷◌, refl, ap, sym, subst, ◌∙◌, arith}
use Rattle.std.specs.Prelude.{◌-◌, max}
use Rattle.die_log.specs.Model.Log.{now}
use Rattle.planned_log.specs.Moves.{Move, Slot}
use Rattle.flashplan_kept_runs.specs.KeptDies.{HasMoved, KeptDie}
use Rattle.flashplan_kept_runs.specs.KeptRows.{slot_moves}
use Rattle.flashplan_kept_runs.proofs.Moving.{slot_more}
use Rattle.flashplan_kept_runs.proofs.OneDie.{moved_both, no_moves}

-- up to this slot, on the way to another one, all were carried out
pub record IsOnTheWay (slot present : ℕ) (before after : KeptDie) : Type 0 where
  pub more : ℕ
  pub count : now before.log + more ≡ present
  pub moved : HasMoved (slot_moves more) before after
  pub clock : now after.log ≡ present
  pub within : present ≤ max slot (now before.log)

pub way_begins : (slot : ℕ) (die : KeptDie) → IsOnTheWay slot (now die.log) die die
way_begins slot die = record { more = 0; count = omega arith; moved = no_moves die; clock = refl; within = omega arith }

pub way_goes_on : (slot present : ℕ) (before between after : KeptDie) → present < slot → IsOnTheWay slot present before between
    → HasMoved (Slot 0 ∷ []) between after → now after.log ≡ now between.log + 1 → IsOnTheWay slot (present + 1) before after
way_goes_on slot present before between after left way step counted = record {
  more = suc way.more;
  count = omega (arith, way.count);
  moved = subst (λ (moves : List Move). HasMoved moves before after) (sym (slot_more way.more))
      (moved_both (slot_moves way.more) (Slot 0 ∷ []) before between after way.moved step);
  clock = counted ∙ ap (λ (n : ℕ). n + 1) way.clock;
  within = omega (arith, left);
}

all_came : (slot present from more : ℕ) → from + more ≡ present → present ≤ max slot from → slot ≤ present → more ≡ slot - from
all_came slot present from more count within past = omega arith

there : (slot present from more : ℕ) → from + more ≡ present → present ≤ max slot from → slot ≤ present → present ≡ max slot from
there slot present from more count within past = omega arith

pub way_ends : (slot present : ℕ) (before after : KeptDie) → slot ≤ present → IsOnTheWay slot present before after
    → HasMoved (slot_moves (slot - now before.log)) before after
way_ends slot present before after past way =
    subst (λ (n : ℕ). HasMoved (slot_moves n) before after) (all_came slot present (now before.log) way.more way.count way.within past) way.moved

pub way_ends_there : (slot present : ℕ) (before after : KeptDie) → slot ≤ present → IsOnTheWay slot present before after
    → now after.log ≡ max slot (now before.log)
way_ends_there slot present before after past way =
    way.clock ∙ there slot present (now before.log) way.more way.count way.within past
