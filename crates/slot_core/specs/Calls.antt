-- How a call of a die ends: what it is answered, what it leaves, and what the device has had of it.
use Rattle.std.specs.Prelude.{◌≡◌, ◌≢◌, ◌⊎◌, ℕ, ◌-◌, ◌<◌, ◌≤◌, length, Bool, true, false, Option, None, IsSome, Result, Ok, Err}
use Rattle.slot_types.specs.declared.events.Event.{Event}
use Rattle.slot_types.specs.declared.events.Event.TheVariants as events
use Rattle.slot_types.specs.declared.refusals.Refusal.{Refusal}
use Rattle.slot_types.specs.declared.refusals.Refusal.TheVariants.{NoMemory, DeviceFault, DieStopped}
use Rattle.slot_types.specs.declared.replies.Reply.{Reply}
use Rattle.slot_types.specs.declared.replies.Reply.TheVariants.{Refused, Taken, Slot}
use Rattle.flash_die.specs.declared.nand.NandCall.{NandCall}
use Rattle.die_log.specs.Model.Log.{Log}
use Rattle.die_log.specs.Model.Answers.{answer, IsAccepted}
use Rattle.die_log.specs.Model.NeededCalls.{needed_call}
use Rattle.die_log.specs.Model.Start.{Start}
use Rattle.slot_core.specs.Core.{Core, Reserved, with_entry}
use Rattle.slot_core.specs.Needs.{UsesDevice}

-- Ways to end

-- the memory that an event takes is reserved: a slot; an arrival, and each operation of the job
abbrev pub IsCovered : Event → Reserved → Type 0
IsCovered events.Slot reserved = 0 < reserved.slots
IsCovered (events.Submit task release due ops) reserved = (0 < reserved.arrivals) × (length ops ≤ reserved.operations)
IsCovered (events.Collect task release due) reserved = 0 < reserved.arrivals

-- an accepted event uses that up, or as much of it as was reserved
abbrev pub reserved_after : Event → Reserved → Reserved
reserved_after events.Slot reserved = record reserved { slots = reserved.slots - 1 }
reserved_after (events.Submit task release due ops) reserved =
    record reserved { arrivals = reserved.arrivals - 1; operations = reserved.operations - length ops }
reserved_after (events.Collect task release due) reserved = record reserved { arrivals = reserved.arrivals - 1 }

-- the log accepts the event: its own answer is the next entry, and the die runs on
pub record IsAnswered {N : Type 0} (caller : ℕ) (event : Event) (reply : Reply) (before after : Core N) : Type 0 where
  pub ran : before.stopped ≡ false
  pub answered : answer before.start before.log event ≡ reply
  pub accepted : IsAccepted reply
  pub logged : after.log ≡ with_entry caller event reply before.log
  pub runs : after.stopped ≡ false
  pub used : after.reserved ≡ reserved_after event before.reserved

-- the log refuses the event, and nothing changes
pub record IsRefusedByLog {N : Type 0} (event : Event) (refusal : Refusal) (before after : Core N) : Type 0 where
  pub ran : before.stopped ≡ false
  pub answered : answer before.start before.log event ≡ Refused refusal
  pub unchanged : after ≡ before

-- the log accepts the event, but memory is refused, which wasn't reserved for it; and nothing changes
pub record FindsNoMemory {N : Type 0} (event : Event) (refusal : Refusal) (before after : Core N) : Type 0 where
  pub ran : before.stopped ≡ false
  pub accepted : IsAccepted (answer before.start before.log event)
  pub refusal_is : refusal ≡ NoMemory
  pub uncovered : ¬ IsCovered event before.reserved
  pub unchanged : after ≡ before

-- the log accepts the slot, but the device fails, which stops the die; the log stays, and what is reserved
pub record FindsFault {N : Type 0} (event : Event) (refusal : Refusal) (before after : Core N) : Type 0 where
  pub ran : before.stopped ≡ false
  pub slot : event ≡ events.Slot
  pub accepted : IsAccepted (answer before.start before.log event)
  pub refusal_is : refusal ≡ DeviceFault
  pub stops : after.stopped ≡ true
  pub log_stays : after.log ≡ before.log
  pub reserve_stays : after.reserved ≡ before.reserved

-- a fault had stopped the die before, and nothing changes
pub record IsStopped {N : Type 0} (refusal : Refusal) (before after : Core N) : Type 0 where
  pub was_stopped : before.stopped ≡ true
  pub refusal_is : refusal ≡ DieStopped
  pub unchanged : after ≡ before

abbrev pub RefusesCall : {N : Type 0} → Event → Refusal → Core N → Core N → Type 0
RefusesCall event refusal before after =
    IsRefusedByLog event refusal before after
    ⊎ FindsNoMemory event refusal before after
    ⊎ FindsFault event refusal before after
    ⊎ IsStopped refusal before after

abbrev pub EndsCall : {N : Type 0} → ℕ → Event → Result Reply Refusal → Core N → Core N → Type 0
EndsCall caller event (Ok reply) before after = IsAnswered caller event reply before after
EndsCall caller event (Err refusal) before after = RefusesCall event refusal before after

-- The relation

-- the call of the device that an event needs, if it needs one: that of the slot
abbrev pub call_for : Event → Start → Log → Option NandCall
call_for events.Slot start log = needed_call start log
call_for _ start log = None

-- A call of a die ends in one of these ways, and leaves its start as it was, and what is reserved from the beginning of
-- a log on. The device has had the one call that the event needs, and no other.
pub record IsCall {N : Type 0} (ends : N → NandCall → Bool → N → Type 0) (failures : N → ℕ) (never_fails : Bool) (caller : ℕ) (event : Event)
    (result : Result Reply Refusal) (before after : Core N) : Type 0 where
  pub ended : EndsCall caller event result before after
  pub start_stays : after.start ≡ before.start
  pub lasting_stays : after.lasting ≡ before.lasting
  pub device : UsesDevice ends failures never_fails (call_for event before.start before.log) result before.device after.device

-- the result of a call, with what it hands back as a reply
abbrev pub reply_as : {T : Type 0} → (T → Reply) → Result T Refusal → Result Reply Refusal
reply_as reply (Ok x) = Ok (reply x)
reply_as reply (Err refusal) = Err refusal

-- What follows

-- a job or collection is entered: the log's own answer is its next entry, it uses up what was reserved for it, and
-- nothing else changes
pub record HasEntered {N : Type 0} (caller : ℕ) (event : Event) (number : ℕ) (before after : Core N) : Type 0 where
  pub answered : answer before.start before.log event ≡ Taken number
  pub logged : after ≡ record before {
    reserved = reserved_after event before.reserved;
    log = with_entry caller event (Taken number) before.log;
  }

-- the log's own refusal; or the log accepts the event, and memory is refused
abbrev pub RefusedBy : Start → Log → Event → Refusal → Type 0
RefusedBy start log event refusal = (answer start log event ≡ Refused refusal) ⊎ (IsAccepted (answer start log event) × (refusal ≡ NoMemory))

-- A die with this log may refuse the event so: the log refuses it; or the log accepts it, and memory is refused; or the
-- log accepts it, it is a slot that needs the device, and the device fails; or the device failed before. A device that
-- never fails does neither.
abbrev pub MayRefuse : Bool → Start → Log → Event → Refusal → Type 0
MayRefuse never_fails start log event refusal =
    RefusedBy start log event refusal
    ⊎ ((never_fails ≡ false) × (event ≡ events.Slot) × IsAccepted (answer start log event) × (refusal ≡ DeviceFault)
    × IsSome (call_for event start log))
    ⊎ ((never_fails ≡ false) × (refusal ≡ DieStopped))

-- memory was refused, or the device failed, which the log doesn't decide
abbrev pub IsByChance : Result Reply Refusal → Type 0
IsByChance result = (result ≡ Err NoMemory) ⊎ (result ≡ Err DeviceFault)

-- two dies agree in all but their devices
pub record AreAlike {N : Type 0} (one other : Core N) : Type 0 where
  pub start_is : one.start ≡ other.start
  pub stopped_is : one.stopped ≡ other.stopped
  pub reserved_is : one.reserved ≡ other.reserved
  pub lasting_is : one.lasting ≡ other.lasting
  pub log_is : one.log ≡ other.log
