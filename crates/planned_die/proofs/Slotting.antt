-- A slot of a die that keeps its plan itself.
use Rattle.std.proofs.Common.{◌≡◌, ℕ, ◌<◌, Bool, false, List, length, Ok, Err, refl, ap, sym, subst, ◌∙◌, inl, inr}
use Rattle.std.proofs.lemmas.Bool.{true≢false}
use Rattle.slot_types.specs.declared.events.Event.TheVariants as events
use Rattle.slot_types.specs.declared.refusals.Refusal.{Refusal}
use Rattle.slot_types.specs.declared.refusals.Refusal.TheVariants.{DeviceFault}
use Rattle.slot_types.specs.declared.replies.Reply.{Reply}
use Rattle.slot_types.specs.declared.replies.Reply.TheVariants as replies
use Rattle.slot_types.specs.declared.replies.SlotReply.{SlotReply}
use Rattle.flash_die.specs.declared.nand.NandCall.{NandCall}
use Rattle.demand_rules.specs.declared.terms.Terms.{Terms}
use Rattle.die_log.specs.Model.Log.{now}
use Rattle.die_log.specs.Model.Lives.{Lives}
use Rattle.die_log.specs.Model.Answers.{answer, with_answer, after_call, IsAccepted}
use Rattle.slot_core.specs.Core.{Core}
use Rattle.slot_core.specs.Calls.{IsCall, RefusesCall}
use Rattle.planned_log.specs.Laws.{IsKept}
use Rattle.planned_log.proofs.Kept.{slot_goes_on, slot_accepted}
use Rattle.die_log.proofs.Legality.{accepted_answer}
use Rattle.die_log.proofs.Supply.Unrefused as answers
use Rattle.planned_die.specs.Planned.{IsReservedFor}
use Rattle.planned_die.proofs.Reserved.{slot_covered}
use Rattle.planned_die.specs.declared.memory.AskedJob.{AskedJob}
use Rattle.planned_die.specs.Planned.{Planned}
use Rattle.planned_die.specs.PlannedCalls.{with_own, with_all_own, HasSlotted, RefusesSlot}
use Rattle.planned_die.proofs.Cores.{core_kept}

module _ {N : Type 0} (ends : N → NandCall → Bool → N → Type 0) (failures : N → ℕ) (never : Bool) where
  -- a slot that is carried out
  slot_log : (caller : ℕ) (reply : SlotReply) (between after : Core N)
      → IsCall ends failures never caller events.Slot (Ok (replies.Slot reply)) between after
      → after.log ≡ after_call between.start between.log (caller, events.Slot)
  slot_log caller reply between after call =
      call.ended.logged ∙ ap (λ (r : Reply). with_answer caller events.Slot r between.log) (sym call.ended.answered)

  pub slot_keeps : (terms : Terms) (earlier : Lives) (life entered caller : ℕ) (reply : SlotReply) (between after : Core N)
      → IsKept between.start terms earlier life entered between.log → entered ≡ length between.start.plan.caps → now between.log < life
      → IsCall ends failures never caller events.Slot (Ok (replies.Slot reply)) between after
      → IsKept after.start terms earlier life 0 after.log
  slot_keeps terms earlier life entered caller reply between after kept all early call =
      core_kept between after terms earlier life 0 (after_call between.start between.log (caller, events.Slot)) call.start_stays
      (slot_log caller reply between after call) (slot_goes_on between.start terms earlier life entered between.log kept caller all early)

  -- one that is refused leaves the log
  pub refused_log : (caller : ℕ) (r : Refusal) (between after : Core N) → IsCall ends failures never caller events.Slot (Err r) between after
      → after.log ≡ between.log
  refused_log caller r between after call = by call.ended
    where
      by : RefusesCall events.Slot r between after → after.log ≡ between.log
      by (inl h) = ap (λ (c : Core N). c.log) h.unchanged
      by (inr (inl h)) = ap (λ (c : Core N). c.log) h.unchanged
      by (inr (inr (inl h))) = h.log_stays
      by (inr (inr (inr h))) = ap (λ (c : Core N). c.log) h.unchanged

  pub refused_keeps : (terms : Terms) (earlier : Lives) (life entered caller : ℕ) (r : Refusal) (between after : Core N)
      → IsKept between.start terms earlier life entered between.log
      → IsCall ends failures never caller events.Slot (Err r) between after → IsKept after.start terms earlier life entered after.log
  refused_keeps terms earlier life entered caller r between after kept call =
      core_kept between after terms earlier life entered between.log call.start_stays (refused_log caller r between after call) kept

  -- where all collections have come, and memory is reserved, it is refused for a fault alone
  pub only_fault : (terms : Terms) (earlier : Lives) (life entered caller : ℕ) (r : Refusal) (between after : Core N)
      → IsKept between.start terms earlier life entered between.log → entered ≡ length between.start.plan.caps → now between.log < life
      → between.stopped ≡ false → IsReservedFor terms life between
      → IsCall ends failures never caller events.Slot (Err r) between after → r ≡ DeviceFault
  only_fault terms earlier life entered caller r between after kept all early runs reserved call = by call.ended
    where
      taken : IsAccepted (answer between.start between.log events.Slot)
      taken = subst IsAccepted
          (sym (accepted_answer between.start between.log events.Slot (slot_accepted between.start terms earlier life entered between.log kept all early)))
          (answers.entered between.start between.log caller events.Slot).0

      not_refused : (s : Reply) → IsAccepted s → s ≡ replies.Refused r → ⊥
      not_refused s is e = subst IsAccepted e is

      by : RefusesCall events.Slot r between after → r ≡ DeviceFault
      by (inl h) = absurd (not_refused (answer between.start between.log events.Slot) taken h.answered)
      by (inr (inl h)) = absurd (h.uncovered (slot_covered terms life between reserved early))
      by (inr (inr (inl h))) = h.refusal_is
      by (inr (inr (inr h))) = absurd (true≢false (sym h.was_stopped ∙ runs))

  -- what the slot of the die below is, once all collections have come
  module _ (terms : Terms) (first : ℕ) (asked : List (List AskedJob)) (caller from to life : ℕ) (core between after : Core N)
      (is : between ≡ with_own caller terms core from to) (all : to ≡ length core.start.plan.caps) where
    abbrev planned : Core N → ℕ → Planned N
    planned c n = record { core = c; terms = terms; life = life; entered = n; first = first; asked = asked }

    of_all : (r : _) → IsCall ends failures never caller events.Slot r between after
        → IsCall ends failures never caller events.Slot r (with_all_own caller (planned core from)) after
    of_all r call = subst (λ (c : Core N). IsCall ends failures never caller events.Slot r c after) (is ∙ ap (with_own caller terms core from) all) call

    pub slotted : (reply : SlotReply) → now core.log < life → IsCall ends failures never caller events.Slot (Ok (replies.Slot reply)) between after
        → HasSlotted ends failures never caller reply (planned core from) (planned after 0)
    slotted reply early call = record { early = early; carried = of_all _ call; stays = refl }

    pub unslotted : (r : Refusal) → core.stopped ≡ false → now core.log < life → r ≡ DeviceFault
        → IsCall ends failures never caller events.Slot (Err r) between after
        → RefusesSlot ends failures never caller r (planned core from) (planned after to)
    unslotted r runs early fault call = inr (inr (runs, early, fault, of_all _ call, ap (planned after) all))
