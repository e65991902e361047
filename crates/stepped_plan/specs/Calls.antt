-- What a die answers whose slots are begun and ended, and what it leaves.
use Rattle.std.specs.Prelude.{◌≡◌, ℕ, Bool, true, false, List, Option, Some, None, Result, Ok, Err, length, replicate, []}
use Rattle.slot_types.specs.declared.events.Op.{Op}
use Rattle.slot_types.specs.declared.pages.PageData.{PageData}
use Rattle.slot_types.specs.declared.plans.DiePlan.{DiePlan}
use Rattle.slot_types.specs.declared.events.Event.TheVariants as events
use Rattle.slot_types.specs.declared.replies.Reply.TheVariants as replies
use Rattle.slot_types.specs.declared.replies.SlotReply.{SlotReply}
use Rattle.flash_die.specs.declared.nand.NandCall.{NandCall}
use Rattle.flash_die.specs.Memory.{fresh_memory}
use Rattle.demand_rules.specs.declared.terms.Terms.{Terms}
use Rattle.die_log.specs.Model.Start.{Start, fresh}
use Rattle.slot_core.specs.Calls.{IsCall}
use Rattle.slot_core.specs.Core.{nothing_reserved}
use Rattle.planned_log.specs.declared.ask_kinds.AskKind.{AskKind}
use Rattle.ongoing_log.specs.Ongoing.{Ongoing, new_ongoing}
use Rattle.planned_die.specs.Planned.{with_life}
use Rattle.ongoing_die.specs.declared.answers.Taken.{Taken}
use Rattle.ongoing_die.specs.declared.refusals.LifeStop.TheVariants as lives
use Rattle.ongoing_die.specs.declared.refusals.SlotStop.TheVariants as slots
use Rattle.ongoing_die.specs.OngoingPlans.{IsLongestLife}
use Rattle.ongoing_die.specs.Standing.{OngoingParts, StandsAs}
use Rattle.ongoing_die.specs.OngoingCalls.{IsOngoingAsk, IsOngoingSlot, HasStopped}
use Rattle.ongoing_die.specs.BegunSlots.{BegunParts, HasBegunSlot, stopped_in}
use Rattle.stepped_die.specs.declared.calls.Begun.{Begun}
use Rattle.stepped_die.specs.declared.mirror.MirrorNand.{MirrorNand}
use Rattle.stepped_die.specs.declared.part.Part.{Part}
use Rattle.stepped_die.specs.DeviceCalls.{DoesWell, IsDone, Changes}
use Rattle.stepped_die.specs.Parts.{fresh_part, serial_after}
use Rattle.stepped_plan.specs.declared.refusals.PlanAskStop.{PlanAskStop}
use Rattle.stepped_plan.specs.declared.refusals.PlanAskStop.TheVariants as asks
use Rattle.stepped_plan.specs.declared.refusals.PlanSlotStop.{PlanSlotStop}
use Rattle.stepped_plan.specs.declared.refusals.PlanSlotStop.TheVariants as stops
use Rattle.stepped_plan.specs.declared.stage.Stage.{Stage}
use Rattle.stepped_plan.specs.declared.stage.Stage.TheVariants as stages
use Rattle.stepped_plan.specs.Stages.{Stepping, IsAsked, begun_at, cells_of}

-- A new die

-- nothing was done on it, and it has memory for the longest life that is allowed
pub record IsNewDie (plan : DiePlan) (terms : Terms) (longest : ℕ) (die : OngoingParts MirrorNand) : Type 0 where
  pub core : die.die.core ≡ with_life terms die.die.life (record {
    start = fresh plan;
    device = record { memory = fresh_memory plan.shape };
    stopped = false;
    reserved = nothing_reserved;
    lasting = nothing_reserved;
    log = [];
  })
  pub terms_are : die.die.terms ≡ terms
  pub none_waits : die.waiting ≡ replicate (length plan.caps) None
  pub life : IsLongestLife plan terms longest die.die.life
  pub stands : StandsAs (fresh plan) (new_ongoing plan) die

abbrev pub StandsNew : DiePlan → Terms → ℕ → Option Stage → Type 0
StandsNew plan terms longest (Some (stages.Between die)) = IsNewDie plan terms longest die
StandsNew plan terms longest _ = ⊥

-- and its part's last block stands aside, if it has one block more
pub record IsNewPlan (plan : DiePlan) (terms : Terms) (longest : ℕ) (p : Stepping) : Type 0 where
  pub stands : StandsNew plan terms longest p.stage
  pub part_is : p.part ≡ fresh_part plan

-- Asks

-- between two slots it is an ask of a die that goes on by itself; within one it is refused, and nothing changes
abbrev pub AsksAt : AskKind → ℕ → ℕ → List Op → Result Taken PlanAskStop → Option Stage → Option Stage → Type 0
AsksAt kind caller task ops (Ok taken) (Some (stages.Between before)) (Some (stages.Between after)) =
    (first : Start) (d : Ongoing) → StandsAs first d before → IsOngoingAsk kind caller task ops first d (Ok taken) before after
AsksAt kind caller task ops (Err (asks.Ask stop)) (Some (stages.Between before)) (Some (stages.Between after)) =
    (first : Start) (d : Ongoing) → StandsAs first d before → IsOngoingAsk kind caller task ops first d (Err stop) before after
AsksAt kind caller task ops (Err asks.Begun) (Some (stages.Within die begun)) after = after ≡ Some (stages.Within die begun)
AsksAt kind caller task ops _ _ _ = ⊥

-- and the part stays as it is
pub record IsPlanAsk (kind : AskKind) (caller task : ℕ) (ops : List Op) (result : Result Taken PlanAskStop) (before after : Stepping) : Type 0 where
  pub asks_at : AsksAt kind caller task ops result before.stage after.stage
  pub part_stays : after.part ≡ before.part

-- Slots

-- A slot has begun: whatever stood before, its collections have come, and the driver is asked for what it needs.
pub record HasBegunIn (caller : ℕ) (begun : Begun) (before : OngoingParts MirrorNand) (within : BegunParts MirrorNand) : Type 0 where
  pub begins : (first : Start) (d : Ongoing) → StandsAs first d before → HasBegunSlot caller first d before within.parts
  pub caller_is : begun.caller ≡ caller
  pub asked : IsAsked within begun

-- Why none begins: one has; or the whole die carries out none. Nothing changes.
abbrev pub BeginsAt : ℕ → Result Begun PlanSlotStop → Option Stage → Option Stage → Type 0
BeginsAt caller (Ok begun) (Some (stages.Between before)) (Some (stages.Within within asked)) =
    (asked ≡ begun) × HasBegunIn caller begun before within
BeginsAt caller (Err stops.Begun) (Some (stages.Within die begun)) after = after ≡ Some (stages.Within die begun)
BeginsAt caller (Err (stops.Slot (slots.Ended stop))) (Some (stages.Between before)) after =
    HasStopped before stop × (after ≡ Some (stages.Between before))
BeginsAt caller _ _ _ = ⊥

-- Where a checkpoint stands, none begins, and nothing changes.
abbrev pub HoldsBack : Result Begun PlanSlotStop → Option Stage → Option Stage → Type 0
HoldsBack (Err stops.Begun) (Some (stages.Within die begun)) after = after ≡ Some (stages.Within die begun)
HoldsBack (Err stops.CheckpointStands) (Some (stages.Between die)) after = after ≡ Some (stages.Between die)
HoldsBack _ _ _ = ⊥

abbrev pub BeginsWhere : (stands : Bool) → ℕ → Result Begun PlanSlotStop → Option Stage → Option Stage → Type 0
BeginsWhere true caller result before after = HoldsBack result before after
BeginsWhere false caller result before after = BeginsAt caller result before after

-- and the part stays as it is
pub record IsBeginning (caller : ℕ) (result : Result Begun PlanSlotStop) (before after : Stepping) : Type 0 where
  pub begins_at : BeginsWhere before.part.stands caller result before.stage after.stage
  pub part_stays : after.part ≡ before.part

-- what a mirror's calls do, none of which fails
abbrev pub mirror_ends : MirrorNand → NandCall → Bool → MirrorNand → Type 0
mirror_ends d call well e = DoesWell d.memory call well e.memory

abbrev pub mirror_failures : MirrorNand → ℕ
mirror_failures d = 0

-- with its beginning this is a slot of a die that goes on by itself
abbrev pub EndsAsSlot : BegunParts MirrorNand → SlotReply → OngoingParts MirrorNand → Type 0
EndsAsSlot within reply after =
    (first : Start) (d : Ongoing) (before : OngoingParts MirrorNand) → HasBegunSlot within.caller first d before within.parts
    → IsOngoingSlot mirror_ends mirror_failures true within.caller first d (Ok reply) before after

-- the slot that had begun was carried out, and is one of the die below
abbrev pub HasCarriedOut : BegunParts MirrorNand → Result SlotReply PlanSlotStop → Stage → Type 0
HasCarriedOut within (Ok reply) (stages.Between after) =
    EndsAsSlot within reply after
    × IsCall mirror_ends mirror_failures true within.caller events.Slot (Ok (replies.Slot reply)) within.parts.die.core after.die.core
HasCarriedOut within _ _ = ⊥

-- A slot has ended: the driver did what it was asked, and with its beginning it is just a slot, one of the die below. The mirror
-- has had that call, and no other.
pub record HasEndedIn (ok : Bool) (bytes : PageData) (reply : SlotReply) (within : BegunParts MirrorNand) (begun : Begun)
    (after : OngoingParts MirrorNand) : Type 0 where
  pub done : IsDone begun.call ok bytes
  pub slot : EndsAsSlot within reply after
  pub carried : IsCall mirror_ends mirror_failures true within.caller events.Slot (Ok (replies.Slot reply)) within.parts.die.core after.die.core
  pub called : Changes (cells_of within.parts) begun.call (cells_of after)

-- A slot has failed: the driver didn't do what it was asked, or a read gave other bytes than its cell was programmed with. The
-- die is stopped, with the slot's collections and without the slot, and stands as it did; the mirror has had no call.
pub record HasFailedIn (ok : Bool) (bytes : PageData) (within : BegunParts MirrorNand) (begun : Begun) (after : OngoingParts MirrorNand) : Type 0 where
  pub undone : ¬ IsDone begun.call ok bytes
  pub stops : after ≡ stopped_in within.parts
  pub stands : (first : Start) (d : Ongoing) (before : OngoingParts MirrorNand) → HasBegunSlot within.caller first d before within.parts
      → StandsAs first d after

-- Why none ends: a fault had stopped the die, or none has begun, and nothing changes; or it has failed.
abbrev pub EndsAt : Bool → PageData → Result SlotReply PlanSlotStop → Option Stage → Option Stage → Type 0
EndsAt ok bytes (Ok reply) (Some (stages.Within within begun)) (Some (stages.Between after)) =
    HasEndedIn ok bytes reply within begun after
EndsAt ok bytes (Err (stops.Slot slots.DeviceFault)) (Some (stages.Within within begun)) (Some (stages.Between after)) =
    HasFailedIn ok bytes within begun after
EndsAt ok bytes (Err (stops.Slot (slots.Ended lives.DieStopped))) (Some (stages.Between die)) after =
    (die.die.core.stopped ≡ true) × (after ≡ Some (stages.Between die))
EndsAt ok bytes (Err stops.NotBegun) (Some (stages.Between die)) after =
    (die.die.core.stopped ≡ false) × (after ≡ Some (stages.Between die))
EndsAt ok bytes _ _ _ = ⊥

-- after a slot that has ended the serial is that after its call; one that failed, or that hadn't begun, leaves it
abbrev pub part_after : Result SlotReply PlanSlotStop → Option Begun → Part → Part
part_after (Ok reply) (Some begun) part = record part { serial = serial_after begun.call part.serial }
part_after _ begun part = part

pub record IsEnd (ok : Bool) (bytes : PageData) (result : Result SlotReply PlanSlotStop) (before after : Stepping) : Type 0 where
  pub ends_at : EndsAt ok bytes result before.stage after.stage
  pub part_is : after.part ≡ part_after result (begun_at before.stage) before.part
