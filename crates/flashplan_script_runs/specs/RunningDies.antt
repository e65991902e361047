-- A die that runs the rows of a script: its slots, and what it is asked for.
use Rattle.std.specs.Prelude.{◌≡◌, ℕ, zero, suc, ◌+◌, ◌-◌, Bool, true, false, List, [], map, Option, Some, None, Result, Ok, Err}
use Rattle.slot_types.specs.declared.events.Event.{Event}
use Rattle.slot_types.specs.declared.events.Event.TheVariants as events
use Rattle.slot_types.specs.declared.refusals.Refusal.{Refusal}
use Rattle.slot_types.specs.declared.refusals.Refusal.TheVariants.{DieStopped, NoMemory}
use Rattle.die_log.specs.Model.Answers.{answer, IsAccepted}
use Rattle.die_log.specs.Model.Log.{Log, now}
use Rattle.die_log.specs.Model.Start.{Start}
use Rattle.slot_core.specs.Calls.{RefusedBy}
use Rattle.slot_core.specs.Core.{Core, with_entry}

-- where its log starts, its log, and whether its device has failed, which stops it
pub record RunningDie : Type 0 where
  pub start : Start
  pub log : Log
  pub stopped : Bool

-- a die itself, as one that runs
abbrev pub running_of : {N : Type 0} → Core N → RunningDie
running_of die = record { start = die.start; log = die.log; stopped = die.stopped }

abbrev pub HasEmptyLog : RunningDie → Type 0
HasEmptyLog die = die.log ≡ []

-- where the logs of dies start
abbrev pub starts_of : List RunningDie → List Start
starts_of dies = map (λ (die : RunningDie). die.start) dies

-- Logs

-- the log accepts an event, and its answer is one more entry of caller 0
abbrev pub Accepts : Start → Log → Event → Log → Type 0
Accepts start past event log = IsAccepted (answer start past event) × (log ≡ with_entry 0 event (answer start past event) past)

-- a number of slots more were carried out
abbrev pub CarriesOut : Start → ℕ → Log → Log → Type 0
CarriesOut start zero before after = after ≡ before
CarriesOut start (suc more) before after = (between : Log) × CarriesOut start more before between × Accepts start between events.Slot after

-- what a row asks for was entered; or it was refused, by the log or out of memory, and is no event
abbrev pub EndsRow : Start → Log → Event → Option Refusal → Log → Type 0
EndsRow start before event None after = Accepts start before event after
EndsRow start before event (Some refusal) after = RefusedBy start before event refusal × (after ≡ before)

-- Calls

-- a slot was carried out
pub record CarriesSlot (before after : RunningDie) : Type 0 where
  pub start_stays : after.start ≡ before.start
  pub ran : before.stopped ≡ false
  pub runs : after.stopped ≡ false
  pub accepted : Accepts before.start before.log events.Slot after.log
  pub counted : now after.log ≡ now before.log + 1

-- or it was refused: out of memory; or the device failed, now or before
pub record RefusesSlot (refusal : Refusal) (before after : RunningDie) : Type 0 where
  pub start_stays : after.start ≡ before.start
  pub memory : after.stopped ≡ false → refusal ≡ NoMemory
  pub log_stays : after.stopped ≡ true → after.log ≡ before.log
  pub stays : before.stopped ≡ true → after ≡ before

abbrev pub TakesSlot : {A : Type 0} → Result A Refusal → RunningDie → RunningDie → Type 0
TakesSlot (Ok x) before after = CarriesSlot before after
TakesSlot (Err refusal) before after = RefusesSlot refusal before after

-- the slots before this one were carried out; or the device failed in one of them, and the die stays there
pub record IsCarriedTo (slot : ℕ) (before after : RunningDie) : Type 0 where
  pub start_stays : after.start ≡ before.start
  pub more : ℕ
  pub carried : CarriesOut before.start more before.log after.log
  pub all : after.stopped ≡ false → more ≡ slot - now before.log
  pub stays : before.stopped ≡ true → after ≡ before

-- a die that runs ended the row; one that is stopped refused it, and stays
pub record IsAsked (event : Event) (refusal : Option Refusal) (before after : RunningDie) : Type 0 where
  pub start_stays : after.start ≡ before.start
  pub stopped_stays : after.stopped ≡ before.stopped
  pub ended : before.stopped ≡ false → EndsRow before.start before.log event refusal after.log
  pub refused : before.stopped ≡ true → (refusal ≡ Some DieStopped) × (after.log ≡ before.log)
