-- A slot in two halves: its collections come, and then it is carried out.
use Rattle.std.specs.Prelude.{◌≡◌, ℕ, ◌<◌, ◌≤◌, false, true, length}
use Rattle.slot_types.specs.declared.refusals.Refusal.{Refusal}
use Rattle.slot_types.specs.declared.refusals.Refusal.TheVariants as because
use Rattle.die_log.specs.Model.Log.{now}
use Rattle.planned_die.specs.Planned.{Planned}
use Rattle.planned_die.specs.PlannedCalls.{with_all_own}

-- in a life that goes on all collections of the present slot have come, and nothing else has changed: the slot isn't
-- carried out
pub record HasEnteredAll {N : Type 0} (caller : ℕ) (before after : Planned N) : Type 0 where
  pub ran : before.core.stopped ≡ false
  pub early : now before.core.log < before.life
  pub came : after ≡ record before { core = with_all_own caller before; entered = length before.core.start.plan.caps }
  pub slot_stays : now after.core.log ≡ now before.core.log

-- why there is no slot: a fault has stopped the die; or the life has ended
abbrev pub HasNoSlot : {N : Type 0} → Planned N → Refusal → Type 0
HasNoSlot die because.DieStopped = die.core.stopped ≡ true
HasNoSlot die because.ClockEnd = (die.core.stopped ≡ false) × (die.life ≤ now die.core.log)
HasNoSlot die _ = ⊥
