-- What beginning and ending a slot does, and why a call is refused.
use Rattle.std.specs.Prelude.{◌≡◌, ◌<◌, ◌≤◌, ℕ, Bool, true, false, Option, Some, None, [], IfSome, IsSome, ⊤}
use Rattle.slot_types.specs.declared.plans.DiePlan.{DiePlan}
use Rattle.slot_types.specs.declared.pages.PageData.{PageData}
use Rattle.slot_types.specs.declared.events.Event.{Event}
use Rattle.slot_types.specs.declared.limits.TheConstants.{MAX_SLOT}
use Rattle.slot_types.specs.declared.refusals.Refusal.{Refusal}
use Rattle.slot_types.specs.declared.refusals.Refusal.TheVariants.{BadShape, BadPlan, DieStopped, ClockEnd, NoMemory}
use Rattle.slot_types.specs.Shapes.{IsShape}
use Rattle.plan_rules.specs.Bound.{MeetsBound}
use Rattle.slot_types.specs.declared.events.Event.TheVariants as events
use Rattle.slot_types.specs.declared.replies.Reply.TheVariants.{Slot}
use Rattle.slot_types.specs.declared.replies.SlotReply.{SlotReply}
use Rattle.flash_die.specs.Memory.{fresh_memory}
use Rattle.die_log.specs.Model.Log.{now}
use Rattle.die_log.specs.Model.Start.{fresh}
use Rattle.slot_core.specs.Calls.{IsAnswered, RefusesCall}
use Rattle.slot_core.specs.Core.{nothing_reserved, with_slots}
use Rattle.slot_core.specs.NextSlot.{next_slot}
use Rattle.slot_core.specs.Renewals.{RefusesRenewal}
use Rattle.stepped_die.specs.declared.calls.Begun.{Begun}
use Rattle.stepped_die.specs.declared.refusals.StepRefusal.{StepRefusal}
use Rattle.stepped_die.specs.declared.refusals.StepRefusal.TheVariants as refuses
use Rattle.stepped_die.specs.declared.refusals.StepRenewalRefusal.{StepRenewalRefusal}
use Rattle.stepped_die.specs.declared.refusals.StepRenewalRefusal.TheVariants as unrenewed
use Rattle.stepped_die.specs.Parts.{fresh_part, serial_after}
use Rattle.stepped_die.specs.Stepped.{Stepped, mirror_of}
use Rattle.stepped_die.specs.DeviceCalls.{IsDone, Changes, Spends, reported_by}

-- a die on which nothing was done
pub record IsNew (plan : DiePlan) (die : Stepped) : Type 0 where
  pub start : die.core.start ≡ fresh plan
  pub device : die.core.device ≡ record { memory = fresh_memory plan.shape }
  pub runs : die.core.stopped ≡ false
  pub reserves : die.core.reserved ≡ nothing_reserved
  pub lasts : die.core.lasting ≡ nothing_reserved
  pub log : die.core.log ≡ []
  pub idle : die.begun ≡ None
  pub part : die.part ≡ fresh_part plan

-- why no die is made of a plan: its shape is out of its limits; else it doesn't meet its bound; or there was no memory
abbrev pub RefusesNewDie : DiePlan → Refusal → Type 0
RefusesNewDie plan BadShape = ¬ IsShape plan.shape
RefusesNewDie plan BadPlan = IsShape plan.shape × ¬ MeetsBound plan
RefusesNewDie plan NoMemory = ⊤
RefusesNewDie plan _ = ⊥

-- the present slot would spend the checkpoint from which the die was resumed, and that stands
abbrev pub WouldSpend : Stepped → Type 0
WouldSpend die = (die.part.stands ≡ true) × Spends (reported_by (mirror_of die.core) (next_slot die.core.start die.core.log))

-- A slot has begun: it is the log's present one, and what is reported is what it needs, and for whom.
-- Memory is reserved for it, and nothing else has changed: it isn't in the log.
pub record HasBegun (caller : ℕ) (begun : Begun) (before after : Stepped) : Type 0 where
  pub runs : before.core.stopped ≡ false
  pub first : before.begun ≡ None
  pub caller_is : begun.caller ≡ caller
  pub slot_is : begun.slot ≡ now before.core.log
  pub runs_next : begun.runs ≡ (next_slot before.core.start before.core.log).ran
  pub said : begun.call ≡ reported_by (mirror_of before.core) (next_slot before.core.start before.core.log)
  pub begins : after ≡ record before { core = with_slots 1 before.core; begun = Some begun }

-- A slot has ended: the driver did what it was asked, and the slot is the log's next entry. The mirror has had that call, and
-- no other.
pub record HasEnded (ok : Bool) (bytes : PageData) (reply : SlotReply) (before after : Stepped) : Type 0 where
  pub begun : Begun
  pub held : before.begun ≡ Some begun
  pub done : IsDone begun.call ok bytes
  pub carried : IsAnswered begun.caller events.Slot (Slot reply) before.core after.core
  pub called : Changes (mirror_of before.core) begun.call (mirror_of after.core)
  pub start_stays : after.core.start ≡ before.core.start
  pub lasting_stays : after.core.lasting ≡ before.core.lasting
  pub idle : after.begun ≡ None
  pub serial : after.part ≡ record before.part { serial = serial_after begun.call before.part.serial }

-- A slot has failed: the driver didn't do what it was asked, or a read gave other bytes than its cell was programmed with. The
-- die is stopped, and nothing else of it changes: its log is that before the slot, and the mirror has had no call.
pub record HasFailed (ok : Bool) (bytes : PageData) (before after : Stepped) : Type 0 where
  pub begun : Begun
  pub held : before.begun ≡ Some begun
  pub undone : ¬ IsDone begun.call ok bytes
  pub stops : after ≡ record before { core = record before.core { stopped = true }; begun = None }

-- a slot has begun that isn't below the release
abbrev pub HoldsBack : ℕ → Option Begun → Type 0
HoldsBack release begun = IsSome begun × IfSome begun (λ b. release ≤ b.slot)

-- Why an arrival is refused: as a slot has begun that isn't below its release; or as the die refuses it, by the log
-- without that slot.
abbrev pub RefusesArrival : ℕ → Event → Stepped → Stepped → StepRefusal → Type 0
RefusesArrival release event before after (refuses.Die refusal) = RefusesCall event refusal before.core after.core
RefusesArrival release event before after refuses.Begun = (before.core.stopped ≡ false) × HoldsBack release before.begun
RefusesArrival release event before after refuses.NotBegun = ⊥
RefusesArrival release event before after refuses.CheckpointStands = ⊥

-- why the log isn't started anew: as the die refuses it, or as a slot has begun
abbrev pub RefusesRenewing : Stepped → StepRenewalRefusal → Type 0
RefusesRenewing die (unrenewed.Die refusal) = RefusesRenewal die.core refusal
RefusesRenewing die unrenewed.Begun = (die.core.stopped ≡ false) × IsSome die.begun

-- Why a slot isn't begun: a fault has stopped the die; else one has begun; else the present slot is the last; else it would spend a
-- checkpoint that stands; else there is no memory, which
-- slots that are reserved don't need.
abbrev pub RefusesBeginning : Stepped → StepRefusal → Type 0
RefusesBeginning die (refuses.Die DieStopped) = die.core.stopped ≡ true
RefusesBeginning die refuses.Begun = (die.core.stopped ≡ false) × IsSome die.begun
RefusesBeginning die (refuses.Die ClockEnd) = (die.core.stopped ≡ false) × (MAX_SLOT ≤ now die.core.log)
RefusesBeginning die refuses.CheckpointStands =
    (die.core.stopped ≡ false) × (die.begun ≡ None) × (now die.core.log < MAX_SLOT) × WouldSpend die
RefusesBeginning die (refuses.Die NoMemory) = (die.core.stopped ≡ false) × (die.core.reserved.slots ≡ 0)
RefusesBeginning die _ = ⊥
