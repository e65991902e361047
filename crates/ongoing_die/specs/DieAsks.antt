-- An ask of either kind, for a job or for a burst, of the die of the present life.
use Rattle.std.specs.Prelude.{◌≡◌, ◌⊎◌, ℕ, true, false, List, length, Option, Some, None, Result, Ok, Err}
use Rattle.slot_types.specs.declared.events.Op.{Op}
use Rattle.die_log.specs.Model.Lives.{Lives}
use Rattle.planned_log.specs.declared.ask_kinds.AskKind.{AskKind}
use Rattle.planned_log.specs.declared.refusals.AskRefusal.{AskRefusal}
use Rattle.planned_log.specs.declared.refusals.AskRefusal.TheVariants as because
use Rattle.planned_log.specs.AskKinds.{refusal_as, jobs_as}
use Rattle.ongoing_die.specs.declared.refusals.AskStop.{AskStop}
use Rattle.ongoing_die.specs.declared.refusals.AskStop.TheVariants as stops
use Rattle.planned_die.specs.declared.bursts.Burst.{Burst}
use Rattle.planned_die.specs.Planned.{Planned}
use Rattle.planned_die.specs.PlannedCalls.{HaveAsked}

-- why the plan refuses an ask after these earlier lives, if it does
abbrev pub refusal_of : {N : Type 0} → AskKind → Planned N → Lives → ℕ → List Op → Option AskRefusal
refusal_of kind die earlier task ops =
    refusal_as kind die.core.start.plan die.terms die.life earlier die.core.log task ops

-- what an ask is refused for while one of the task waits
abbrev pub while_waiting : Option AskRefusal → AskStop
while_waiting None = stops.WaitsAlready
while_waiting (Some because.LifeEnd) = stops.WaitsAlready
while_waiting (Some refusal) = stops.Plan refusal

-- the plan doesn't refuse the ask, and its jobs are asked for, all of them
pub record HasAskedFor {N : Type 0} (kind : AskKind) (caller task : ℕ) (ops : List Op) (earlier : Lives) (burst : Burst) (before after : Planned N)
    : Type 0 where
  pub ran : before.core.stopped ≡ false
  pub unrefused : refusal_of kind before earlier task ops ≡ None
  pub asked : HaveAsked caller task (jobs_as kind ops) earlier burst.first before after
  pub counted : burst.jobs ≡ length (jobs_as kind ops)

-- a fault had stopped the die; or this is the first cause in the plan
abbrev pub RefusesDieAsk : {N : Type 0} → AskKind → ℕ → List Op → Lives → AskRefusal → Planned N → Type 0
RefusesDieAsk kind task ops earlier refusal die =
    ((die.core.stopped ≡ true) × (refusal ≡ because.DieStopped))
    ⊎ ((die.core.stopped ≡ false) × (refusal_of kind die earlier task ops ≡ Some refusal))

-- where it is refused nothing changes
abbrev pub IsDieAsk : {N : Type 0} → AskKind → ℕ → ℕ → List Op → Lives → Result Burst AskRefusal → Planned N → Planned N → Type 0
IsDieAsk kind caller task ops earlier (Ok burst) before after = HasAskedFor kind caller task ops earlier burst before after
IsDieAsk kind caller task ops earlier (Err refusal) before after = (after ≡ before) × RefusesDieAsk kind task ops earlier refusal before
