-- A slot has begun as the die within says; what was asked of the driver is all that the mirror has had; and a slot that was
-- carried out has ended so.
use Rattle.std.proofs.Common.{◌≡◌, ℕ, Bool, true, Option, Some, None, Ok, Err, refl, ap, sym, subst, ◌∙◌}
use Rattle.std.specs.Prelude.{Result, IfOk}
use Rattle.slot_types.specs.declared.acts.Act.TheVariants as does
use Rattle.slot_types.specs.declared.events.Event.TheVariants as events
use Rattle.slot_types.specs.declared.pages.PageData.{PageData}
use Rattle.slot_types.specs.declared.replies.Reply.TheVariants as replies
use Rattle.slot_types.specs.declared.replies.SlotReply.{SlotReply}
use Rattle.flash_die.specs.declared.nand.NandCall.{NandCall}
use Rattle.flash_die.specs.declared.nand.NandCall.TheVariants as needs
use Rattle.die_log.specs.Model.Log.{Log, Carried}
use Rattle.die_log.specs.Model.Start.{Start}
use Rattle.die_log.specs.Model.Flash.{ran_by}
use Rattle.die_log.specs.Model.Answers.{answer}
use Rattle.die_log.specs.Model.NeededCalls.{call_by, call_of}
use Rattle.slot_core.specs.Calls.{IsCall}
use Rattle.slot_core.specs.Core.{Core}
use Rattle.slot_core.specs.Needs.{IsOnlyCall}
use Rattle.slot_core.specs.NextSlot.{next_by}
use Rattle.ongoing_log.specs.Ongoing.{Ongoing}
use Rattle.ongoing_die.specs.declared.refusals.SlotStop.{SlotStop}
use Rattle.ongoing_die.specs.Standing.{OngoingParts, StandsAs}
use Rattle.ongoing_die.specs.OngoingCalls.{IsOngoingSlot}
use Rattle.ongoing_die.specs.BegunSlots.{BegunParts, HasBegunSlot}
use Rattle.stepped_die.specs.declared.calls.Begun.{Begun}
use Rattle.stepped_die.specs.declared.calls.Call.{Call}
use Rattle.stepped_die.specs.declared.mirror.MirrorNand.{MirrorNand}
use Rattle.stepped_die.specs.DeviceCalls.{Changes, IsDone, call_reported, reported_by}
use Rattle.stepped_plan.specs.declared.refusals.PlanSlotStop.{PlanSlotStop}
use Rattle.stepped_plan.specs.declared.stage.Stage.{Stage}
use Rattle.stepped_plan.specs.declared.stage.Stage.TheVariants as stages
use Rattle.stepped_plan.specs.Stages.{IsAsked, IsSteppedPlan, cells_of}
use Rattle.stepped_plan.specs.Calls.{mirror_ends, mirror_failures, BeginsAt, EndsAt, HasCarriedOut}

-- the one call that was needed, as it is reported
called : (d e : MirrorNand) (needed : Option NandCall) → IsOnlyCall mirror_ends needed true d e
    → Changes d.memory (call_reported d.memory needed) e.memory
called d e None is = ap (λ (m : MirrorNand). m.memory) is
called d e (Some (needs.Read place)) is = (is.does, refl)
called d e (Some (needs.Program place page bytes)) is = (is.does, refl)
called d e (Some (needs.EraseSlot block)) is = (is.does, refl)

-- a trim needs none
changed : (start : Start) (log : Log) (ran : Carried) (d e : MirrorNand) → IsOnlyCall mirror_ends (call_by start log ran) true d e
    → Changes d.memory (reported_by d.memory (next_by start log ran)) e.memory
changed start log None d e is = ap (λ (m : MirrorNand). m.memory) is
changed start log (Some (n, does.Read page bytes)) d e is = called d e (call_of start log (does.Read page bytes)) is
changed start log (Some (n, does.Write page bytes)) d e is = called d e (call_of start log (does.Write page bytes)) is
changed start log (Some (n, does.Trim page)) d e is = ap (λ (m : MirrorNand). m.memory) is
changed start log (Some (n, does.CopyRead page)) d e is = called d e (call_of start log (does.CopyRead page)) is
changed start log (Some (n, does.CopyProgram page)) d e is = called d e (call_of start log (does.CopyProgram page)) is
changed start log (Some (n, does.Erase block)) d e is = called d e (call_of start log (does.Erase block)) is

-- a slot has begun, and its driver is asked for what it needs
pub has_begun : (caller : ℕ) (before : OngoingParts MirrorNand) (opened within : BegunParts MirrorNand) (asked said : Begun)
    → ((first : Start) (d : Ongoing) → StandsAs first d before → HasBegunSlot caller first d before opened.parts)
    → opened.caller ≡ caller → within ≡ opened → IsAsked within asked → said ≡ asked
    → BeginsAt caller (Ok said) (Some (stages.Between before)) (Some (stages.Within within asked))
has_begun caller before opened within asked said begins by same is copied = (
  sym copied,
  record {
    begins = λ first d stands. subst (λ (b : BegunParts MirrorNand). HasBegunSlot caller first d before b.parts) (sym same) (begins first d stands);
    caller_is = ap (λ (b : Begun). b.caller) copied ∙ (is.caller_is ∙ (ap (λ (b : BegunParts MirrorNand). b.caller) same ∙ by));
    asked = subst (λ (b : Begun). IsAsked within b) (sym copied) is;
  },
)

-- what a slot that had begun was answered, which a mirror doesn't refuse
pub has_carried : (within : BegunParts MirrorNand) (said : Result SlotReply SlotStop) (reply : SlotReply) (after : OngoingParts MirrorNand)
    → said ≡ Ok reply
    → ((first : Start) (d : Ongoing) (before : OngoingParts MirrorNand) → HasBegunSlot within.caller first d before within.parts
    → IsOngoingSlot mirror_ends mirror_failures true within.caller first d said before after)
    → IfOk said (λ r. IsCall mirror_ends mirror_failures true within.caller events.Slot (Ok (replies.Slot r)) within.parts.die.core after.die.core)
    → HasCarriedOut within (Ok reply) (stages.Between after)
has_carried within said reply after is slot core = (
  λ first d before h. subst (λ (s : Result SlotReply SlotStop). IsOngoingSlot mirror_ends mirror_failures true within.caller first d s before after)
      is (slot first d before h),
  subst (λ (s : Result SlotReply SlotStop). IfOk s (λ r.
      IsCall mirror_ends mirror_failures true within.caller events.Slot (Ok (replies.Slot r)) within.parts.die.core after.die.core)) is core,
)

module _ (ok : Bool) (bytes : PageData) (within : BegunParts MirrorNand) (begun : Begun) (done : IsDone begun.call ok bytes)
    (asked : IsAsked within begun) where
  abbrev core : Core MirrorNand
  core = within.parts.die.core

  -- a slot that was carried out has ended
  pub has_ended : (said : Result SlotReply PlanSlotStop) (stage : Stage) → HasCarriedOut within said stage
      → EndsAt ok bytes said (Some (stages.Within within begun)) (Some stage)
  has_ended (Ok reply) (stages.Between after) h = record {
    done = done;
    slot = h.0;
    carried = h.1;
    called = subst (λ (call : Option Call). Changes (cells_of within.parts) call (cells_of after)) (sym asked.call_is)
        (changed core.start core.log (ran_by (answer core.start core.log events.Slot)) core.device after.die.core.device h.1.device.made);
  }
  has_ended (Ok reply) (stages.Within die b) h = absurd h
  has_ended (Err stop) (stages.Between after) h = absurd h
  has_ended (Err stop) (stages.Within die b) h = absurd h

  pub ends_between : (said : Result SlotReply PlanSlotStop) (stage : Stage) → HasCarriedOut within said stage → IsSteppedPlan (Some stage)
  ends_between (Ok reply) (stages.Between after) h = tt
  ends_between (Ok reply) (stages.Within die b) h = absurd h
  ends_between (Err stop) (stages.Between after) h = absurd h
  ends_between (Err stop) (stages.Within die b) h = absurd h
