-- What a run of events that keep to a plan is answered, and when what it did.
use Rattle.std.specs.Prelude.{◌≡◌, ◌≢◌, ◌⊎◌, false, All, List, [], ◌∷◌}
use Rattle.slot_types.specs.declared.events.Event.{Event}
use Rattle.slot_types.specs.declared.plans.Times.{Times}
use Rattle.slot_types.specs.declared.refusals.Refusal.TheVariants.{NoMemory, DeviceFault}
use Rattle.slot_types.specs.declared.replies.Reply.{Reply}
use Rattle.slot_types.specs.declared.replies.Reply.TheVariants.{Refused}
use Rattle.plan_rules.specs.Times.{Passes}
use Rattle.plan_rules.specs.Keeping.{KeepsPlan}
use Rattle.die_log.specs.Model.Answers.{IsAccepted}
use Rattle.slot_core.specs.Core.{Core}

-- a die without a call, which no fault has stopped
pub record IsUnused {N : Type 0} (before : Core N) : Type 0 where
  pub empty : before.log ≡ []
  pub runs : before.stopped ≡ false

-- a reply that memory didn't refuse
abbrev pub FindsMemory : Reply → Type 0
FindsMemory reply = reply ≢ Refused NoMemory

-- a die without a call was asked events that keep its plan with these times, which pass their test, and memory was
-- refused to none of them
pub record IsPlanned {N : Type 0} (times : Times) (before : Core N) (events : List Event) (replies : List Reply) : Type 0 where
  pub passes : Passes before.start.plan times
  pub keeps : KeepsPlan before.start.plan times events
  pub unused : IsUnused before
  pub found : All FindsMemory replies

-- none of these is a refusal, up to a fault of the device, after which nothing is said
abbrev pub AreAcceptedUntilFault : List Reply → Type 0
AreAcceptedUntilFault [] = Unit {0}
AreAcceptedUntilFault (reply ∷ replies) = (IsAccepted reply × AreAcceptedUntilFault replies) ⊎ (reply ≡ Refused DeviceFault)
