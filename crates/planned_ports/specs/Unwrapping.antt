-- What a port hands out of what the lock answers.
use Rattle.std.specs.Prelude.{◌≡◌, Option, None, Result, Ok, Err}
use Rattle.task_outcomes.specs.declared.task_outcome.TaskOutcome.{TaskOutcome}
use Rattle.planned_ports.specs.declared.calls.Granted.{Granted}
use Rattle.planned_ports.specs.declared.calls.Granted.TheVariants as granted
use Rattle.planned_ports.specs.declared.calls.Refused.{Refused}
use Rattle.planned_ports.specs.declared.calls.Refused.TheVariants as refused
use Rattle.planned_ports.specs.declared.refusals.AskAtRefused.{AskAtRefused}
use Rattle.planned_ports.specs.declared.refusals.AskAtRefused.TheVariants as ahead
use Rattle.planned_ports.specs.declared.refusals.AskRefused.{AskRefused}
use Rattle.planned_ports.specs.declared.refusals.AskRefused.TheVariants as asks
use Rattle.planned_ports.specs.declared.refusals.OutcomeRefused.{OutcomeRefused}
use Rattle.planned_ports.specs.declared.refusals.OutcomeRefused.TheVariants as outcomes
use Rattle.planned_ports.specs.declared.refusals.SlotRefused.{SlotRefused}
use Rattle.planned_ports.specs.declared.refusals.SlotRefused.TheVariants as slots

abbrev pub IsJob : Granted → Type 0
IsJob (granted.Job answer) = Unit {0}
IsJob _ = ⊥

abbrev pub IsSlot : Granted → Type 0
IsSlot (granted.Slot reply) = Unit {0}
IsSlot _ = ⊥

abbrev pub IsOutcome : Granted → Type 0
IsOutcome (granted.Outcome outcome) = Unit {0}
IsOutcome _ = ⊥

abbrev pub RefusesAsks : Refused → Type 0
RefusesAsks (refused.Ask stop) = Unit {0}
RefusesAsks refused.LockFull = Unit {0}
RefusesAsks _ = ⊥

abbrev pub RefusesAsksAt : Refused → Type 0
RefusesAsksAt (refused.AskAt stop) = Unit {0}
RefusesAsksAt refused.LockFull = Unit {0}
RefusesAsksAt _ = ⊥

abbrev pub RefusesSlots : Refused → Type 0
RefusesSlots (refused.Slot stop) = Unit {0}
RefusesSlots refused.LockFull = Unit {0}
RefusesSlots _ = ⊥

abbrev pub RefusesOutcomes : Refused → Type 0
RefusesOutcomes refused.NoOutcome = Unit {0}
RefusesOutcomes refused.NoMemory = Unit {0}
RefusesOutcomes refused.LockFull = Unit {0}
RefusesOutcomes _ = ⊥

abbrev pub IsAskRefusal : Refused → AskRefused → Type 0
IsAskRefusal (refused.Ask stop) refusal = refusal ≡ asks.Die stop
IsAskRefusal refused.LockFull refusal = refusal ≡ asks.LockFull
IsAskRefusal _ refusal = ⊥

abbrev pub IsAskAtRefusal : Refused → AskAtRefused → Type 0
IsAskAtRefusal (refused.AskAt stop) refusal = refusal ≡ ahead.Die stop
IsAskAtRefusal refused.LockFull refusal = refusal ≡ ahead.LockFull
IsAskAtRefusal _ refusal = ⊥

abbrev pub IsSlotRefusal : Refused → SlotRefused → Type 0
IsSlotRefusal (refused.Slot stop) refusal = refusal ≡ slots.Die stop
IsSlotRefusal refused.LockFull refusal = refusal ≡ slots.LockFull
IsSlotRefusal _ refusal = ⊥

-- that there is none to take is no refusal
abbrev pub IsNoOutcome : Refused → Result (Option TaskOutcome) OutcomeRefused → Type 0
IsNoOutcome refused.NoOutcome answer = answer ≡ Ok None
IsNoOutcome refused.NoMemory answer = answer ≡ Err outcomes.NoMemory
IsNoOutcome refused.LockFull answer = answer ≡ Err outcomes.LockFull
IsNoOutcome _ answer = ⊥
