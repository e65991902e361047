-- A slot that has begun, and is then carried out, is just that slot.
use Rattle.std.proofs.Common.{◌≡◌, ℕ, ◌<◌, Bool, false, Result, length, Ok, Err, refl, ap, sym, subst, ◌∙◌, inl, inr, arith}
use Rattle.std.proofs.lemmas.Bool.{true≢false}
use Rattle.slot_types.specs.declared.events.Event.TheVariants as events
use Rattle.slot_types.specs.declared.refusals.Refusal.{Refusal}
use Rattle.slot_types.specs.declared.refusals.Refusal.TheVariants.{DieStopped, ClockEnd}
use Rattle.slot_types.specs.declared.replies.Reply.TheVariants as replies
use Rattle.slot_types.specs.declared.replies.SlotReply.{SlotReply}
use Rattle.flash_die.specs.declared.nand.NandCall.{NandCall}
use Rattle.die_log.specs.Model.Log.{now}
use Rattle.slot_core.specs.Core.{Core}
use Rattle.slot_core.specs.Calls.{IsCall}
use Rattle.planned_die.specs.Planned.{Planned}
use Rattle.planned_die.specs.PlannedCalls.{with_all_own, HasSlotted, RefusesSlot, IsSlot}
use Rattle.planned_die.specs.BegunSlots.{HasEnteredAll, HasNoSlot}
use Rattle.planned_die.proofs.Cores.{own_begins}

-- a die that runs in a life that goes on has a slot
pub has_slot : {N : Type 0} (die : Planned N) (refusal : Refusal) → HasNoSlot die refusal → die.core.stopped ≡ false → now die.core.log < die.life → ⊥
has_slot die DieStopped h runs early = true≢false (sym h ∙ runs)
has_slot die ClockEnd h runs early = absurd (omega (arith, h.1, early))
has_slot die _ h runs early = h

module _ {N : Type 0} (caller : ℕ) (before between : Planned N) (h : HasEnteredAll caller before between) where
  -- such a die runs, in a life that goes on
  pub runs : between.core.stopped ≡ false
  runs = ap (λ (p : Planned N). p.core.stopped) h.came ∙ h.ran

  pub goes_on : now between.core.log < between.life
  goes_on = omega (arith, h.early, h.slot_stays, ap (λ (p : Planned N). p.life) h.came)

  -- no collection is left to come
  pub all_came : with_all_own caller between ≡ with_all_own caller before
  all_came = ap (λ (p : Planned N). with_all_own caller p) h.came
      ∙ sym (own_begins caller before.terms (with_all_own caller before) (length before.core.start.plan.caps))

  pub none_left : with_all_own caller between ≡ between.core
  none_left = all_came ∙ sym (ap (λ (p : Planned N). p.core) h.came)

  module _ (ends : N → NandCall → Bool → N → Type 0) (failures : N → ℕ) (never : Bool) (after : Planned N) where
    -- so it is a slot of the die below
    pub of_core : (reply : SlotReply) → HasSlotted ends failures never caller reply between after
        → IsCall ends failures never caller events.Slot (Ok (replies.Slot reply)) between.core after.core
    of_core reply s =
        subst (λ (c : Core N). IsCall ends failures never caller events.Slot (Ok (replies.Slot reply)) c after.core) none_left s.carried

    pub slotted : (reply : SlotReply) → HasSlotted ends failures never caller reply between after
        → HasSlotted ends failures never caller reply before after
    slotted reply s = record {
      early = h.early;
      carried = subst (λ (c : Core N). IsCall ends failures never caller events.Slot (Ok (replies.Slot reply)) c after.core) all_came s.carried;
      stays = s.stays ∙ ap (λ (p : Planned N). record p { core = after.core; entered = 0 }) h.came;
    }

    pub unslotted : (refusal : Refusal) → RefusesSlot ends failures never caller refusal between after
        → RefusesSlot ends failures never caller refusal before after
    unslotted refusal r = elim r [
      | inl stopped ↦ absurd (true≢false (sym stopped.0 ∙ runs))
      | inr other ↦ elim other [
        | inl over ↦ absurd (omega (arith, over.1, goes_on))
        | inr fault ↦ inr (inr (
          h.ran,
          h.early,
          fault.2,
          subst (λ (c : Core N). IsCall ends failures never caller events.Slot (Err refusal) c after.core) all_came fault.3,
          fault.4 ∙ ap (λ (p : Planned N). record p { core = after.core; entered = length p.core.start.plan.caps }) h.came,
        ))
      ]
    ]

    pub is_slot : (result : Result SlotReply Refusal) → IsSlot ends failures never caller result between after
        → IsSlot ends failures never caller result before after
    is_slot (Ok reply) s = slotted reply s
    is_slot (Err refusal) s = unslotted refusal s
