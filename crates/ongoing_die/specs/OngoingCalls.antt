-- What a die that goes on by itself answers, and what it leaves.
use Rattle.std.specs.Prelude.{◌≡◌, ℕ, ◌+◌, ◌<◌, Bool, true, false, [], ◌∷◌, List, length, Result, Ok, Err}
use Rattle.slot_types.specs.declared.events.Op.{Op}
use Rattle.slot_types.specs.declared.refusals.Refusal.TheVariants as because
use Rattle.slot_types.specs.declared.replies.Reply.TheVariants as replies
use Rattle.slot_types.specs.declared.replies.SlotReply.{SlotReply}
use Rattle.flash_die.specs.declared.nand.NandCall.{NandCall}
use Rattle.demand_rules.specs.declared.terms.Terms.{Terms}
use Rattle.die_log.specs.Model.Log.{Log, now}
use Rattle.die_log.specs.Model.Start.{Start}
use Rattle.slot_core.specs.Core.{with_entry}
use Rattle.planned_log.specs.declared.ask_kinds.AskKind.{AskKind}
use Rattle.planned_log.specs.Asks.{asked_job}
use Rattle.planned_log.specs.AskKinds.{jobs_as}
use Rattle.planned_log.specs.Moves.{Ask, Slot}
use Rattle.ongoing_log.specs.Ongoing.{Ongoing, Answer, answer_to, ongoing_after_move}
use Rattle.ongoing_log.specs.Ongoing.{Enters, Waits, Refused, WaitsAlready, Past, TooFarAhead}
use Rattle.ongoing_log.specs.Ahead.{answer_at, AskAt, ahead_after_move}
use Rattle.planned_die.specs.declared.refusals.LifeRefusal.TheVariants as lives
use Rattle.planned_die.specs.PlannedCalls.{IsSlot, RefusesLife}
use Rattle.ongoing_die.specs.declared.answers.Taken.{Taken}
use Rattle.ongoing_die.specs.declared.answers.Taken.TheVariants as taken
use Rattle.ongoing_die.specs.declared.refusals.LifeStop.{LifeStop}
use Rattle.ongoing_die.specs.declared.refusals.LifeStop.TheVariants as stops
use Rattle.ongoing_die.specs.declared.refusals.AskStop.{AskStop}
use Rattle.ongoing_die.specs.declared.refusals.AskStop.TheVariants as asks
use Rattle.ongoing_die.specs.declared.refusals.AskAtStop.{AskAtStop}
use Rattle.ongoing_die.specs.declared.refusals.AskAtStop.TheVariants as ahead
use Rattle.ongoing_die.specs.declared.refusals.SlotStop.{SlotStop}
use Rattle.ongoing_die.specs.declared.refusals.SlotStop.TheVariants as slots
use Rattle.ongoing_die.specs.Standing.{OngoingParts, standing, StandsAs}

-- The next life

-- Why the die takes nothing more: a fault has stopped it; or its life has ended, and the next one can't begin.
abbrev pub HasStopped : {N : Type 0} → OngoingParts N → LifeStop → Type 0
HasStopped parts stops.DieStopped = RefusesLife parts.die lives.DieStopped
HasStopped parts stops.ClockEnd = RefusesLife parts.die lives.ClockEnd
HasStopped parts (stops.WornOut block) = RefusesLife parts.die (lives.WornOut block)

-- its plan stays the same, and how long its lives are
pub record HaveOnePlan {N : Type 0} (before after : OngoingParts N) : Type 0 where
  pub terms : after.die.terms ≡ before.die.terms
  pub life : after.die.life ≡ before.die.life

-- The die runs in a life that goes on. If its life had ended, the next one has begun; and what waited for the present slot has
-- entered. So it stands as it did, as its parts say, and the device has had no call.
pub record HasBegun {N : Type 0} (first : Start) (d : Ongoing) (before after : OngoingParts N) : Type 0 where
  pub ran : before.die.core.stopped ≡ false
  pub runs : after.die.core.stopped ≡ false
  pub stands : StandsAs first d after
  pub settled : d ≡ standing after stands.past
  pub early : now after.die.core.log < after.die.life
  pub plan : HaveOnePlan before after
  pub device : after.die.core.device ≡ before.die.core.device

-- Asks

-- the answer, as the rules have it
abbrev pub told : Taken → Answer
told (taken.Enters release due first jobs) = Enters release due
told (taken.Waits release due) = Waits release due

-- the log with these jobs of a task as its next entries, which have one number after the other, from this one on
abbrev pub with_numbered : Terms → (caller task : ℕ) → List (List Op) → (number : ℕ) → Log → Log
with_numbered terms caller task [] number log = log
with_numbered terms caller task (ops ∷ jobs) number log =
    with_numbered terms caller task jobs (number + 1) (with_entry caller (asked_job terms log task ops) (replies.Taken number) log)

-- the accepted jobs are the next entries of the log, and have these numbers
abbrev pub IsNumbered : {N : Type 0} → AskKind → ℕ → ℕ → List Op → Ongoing → Taken → OngoingParts N → Type 0
IsNumbered kind caller task ops d (taken.Enters release due first jobs) after =
    (jobs ≡ length (jobs_as kind ops))
    × (after.die.core.log ≡ with_numbered after.die.terms caller task (jobs_as kind ops) first d.log)
IsNumbered kind caller task ops d (taken.Waits release due) after = after.die.core.log ≡ d.log

-- it is answered by the rules, and the die stands as after this move
pub record HasTaken {N : Type 0} (kind : AskKind) (caller task : ℕ) (ops : List Op) (first : Start) (d : Ongoing) (answer : Taken)
    (before after : OngoingParts N) : Type 0 where
  pub ran : before.die.core.stopped ≡ false
  pub answered : answer_to first before.die.terms before.die.life d kind task ops ≡ told answer
  pub stands : StandsAs first (ongoing_after_move first before.die.terms before.die.life d (Ask kind caller task ops)) after
  pub numbered : IsNumbered kind caller task ops d answer after

-- Why it is refused: the whole die takes none, and nothing changes; or by the rules, and the die stands as it did, and as
-- after this move. Memory is no cause.
abbrev pub RefusesAsk : {N : Type 0} → AskKind → ℕ → List Op → Start → Ongoing → AskStop → OngoingParts N → OngoingParts N → Type 0
RefusesAsk kind task ops first d (asks.Ended stop) before after = HasStopped before stop × (after ≡ before)
RefusesAsk kind task ops first d (asks.Plan refusal) before after =
    (answer_to first before.die.terms before.die.life d kind task ops ≡ Refused refusal) × HasBegun first d before after
RefusesAsk kind task ops first d asks.WaitsAlready before after =
    (answer_to first before.die.terms before.die.life d kind task ops ≡ WaitsAlready) × HasBegun first d before after

abbrev pub IsOngoingAsk : {N : Type 0} → AskKind → ℕ → ℕ → List Op → Start → Ongoing → Result Taken AskStop → OngoingParts N → OngoingParts N → Type 0
IsOngoingAsk kind caller task ops first d (Ok answer) before after = HasTaken kind caller task ops first d answer before after
IsOngoingAsk kind caller task ops first d (Err refusal) before after = RefusesAsk kind task ops first d refusal before after

-- Asks for a slot of the clock

-- it is answered by the rules, and the die stands as after this move
pub record HasTakenAt {N : Type 0} (kind : AskKind) (caller task : ℕ) (ops : List Op) (at : ℕ) (first : Start) (d : Ongoing) (answer : Taken)
    (before after : OngoingParts N) : Type 0 where
  pub ran : before.die.core.stopped ≡ false
  pub answered : answer_at first before.die.terms before.die.life d kind task ops at ≡ told answer
  pub stands : StandsAs first (ahead_after_move first before.die.terms before.die.life d (AskAt kind caller task ops at)) after
  pub numbered : IsNumbered kind caller task ops d answer after

-- it is refused by the rules, and the die stands as it did, and as after this move
abbrev pub AnswersAt : {N : Type 0} → AskKind → (task : ℕ) → List Op → (at : ℕ) → Start → Ongoing → Answer → OngoingParts N → OngoingParts N → Type 0
AnswersAt kind task ops at first d answer before after =
    (answer_at first before.die.terms before.die.life d kind task ops at ≡ answer) × HasBegun first d before after

-- Why it is refused: the whole die takes none, and nothing changes; or by the rules. Memory is no cause.
abbrev pub RefusesAskAt : {N : Type 0} → AskKind → (task : ℕ) → List Op → (at : ℕ) → Start → Ongoing → AskAtStop → OngoingParts N → OngoingParts N
    → Type 0
RefusesAskAt kind task ops at first d (ahead.Ended stop) before after = HasStopped before stop × (after ≡ before)
RefusesAskAt kind task ops at first d ahead.Past before after = AnswersAt kind task ops at first d Past before after
RefusesAskAt kind task ops at first d (ahead.Plan refusal) before after = AnswersAt kind task ops at first d (Refused refusal) before after
RefusesAskAt kind task ops at first d (ahead.TooFarAhead last) before after = AnswersAt kind task ops at first d (TooFarAhead last) before after
RefusesAskAt kind task ops at first d ahead.WaitsAlready before after = AnswersAt kind task ops at first d WaitsAlready before after

abbrev pub IsOngoingAskAt : {N : Type 0} → AskKind → (caller task : ℕ) → List Op → (at : ℕ) → Start → Ongoing → Result Taken AskAtStop
    → OngoingParts N → OngoingParts N → Type 0
IsOngoingAskAt kind caller task ops at first d (Ok answer) before after = HasTakenAt kind caller task ops at first d answer before after
IsOngoingAskAt kind caller task ops at first d (Err refusal) before after = RefusesAskAt kind task ops at first d refusal before after

-- Slots

-- in a life that goes on the slot is carried out as one of the die below, and the die stands as after this move
pub record HasCarried {N : Type 0} (ends : N → NandCall → Bool → N → Type 0) (failures : N → ℕ) (never : Bool) (caller : ℕ) (first : Start)
    (d : Ongoing) (reply : SlotReply) (before after : OngoingParts N) : Type 0 where
  pub between : OngoingParts N
  pub begun : HasBegun first d before between
  pub carried : IsSlot ends failures never caller (Ok reply) between.die after.die
  pub stands : StandsAs first (ongoing_after_move first before.die.terms before.die.life d (Slot caller)) after
  pub runs : after.die.core.stopped ≡ false

-- in a life that goes on the device fails once the collections of the slot have come, which stops the die; the lives before
-- are as they were
pub record HasFailed {N : Type 0} (ends : N → NandCall → Bool → N → Type 0) (failures : N → ℕ) (never : Bool) (caller : ℕ) (first : Start)
    (d : Ongoing) (before after : OngoingParts N) : Type 0 where
  pub between : OngoingParts N
  pub begun : HasBegun first d before between
  pub failed : IsSlot ends failures never caller (Err because.DeviceFault) between.die after.die
  pub stands : StandsAs first d after
  pub stops : after.die.core.stopped ≡ true

-- a slot that fills a reply, as one that hands it back
abbrev pub filled : {T : Type 0} → SlotReply → Result T SlotStop → Result SlotReply SlotStop
filled reply (Ok x) = Ok reply
filled reply (Err stop) = Err stop

abbrev pub IsOngoingSlot : {N : Type 0} → (N → NandCall → Bool → N → Type 0) → (N → ℕ) → Bool → ℕ → Start → Ongoing → Result SlotReply SlotStop
    → OngoingParts N → OngoingParts N → Type 0
IsOngoingSlot ends failures never caller first d (Ok reply) before after = HasCarried ends failures never caller first d reply before after
IsOngoingSlot ends failures never caller first d (Err (slots.Ended stop)) before after = HasStopped before stop × (after ≡ before)
IsOngoingSlot ends failures never caller first d (Err slots.DeviceFault) before after = HasFailed ends failures never caller first d before after
