-- A slot that has begun, and is then carried out, is a slot of the die before; one that is given up stops the die.
use Rattle.std.proofs.Common.{◌≡◌, ℕ, ◌<◌, Bool, true, false, List, length, Ok, Err, ap, sym, subst, ◌∙◌, inl, inr, arith}
use Rattle.std.proofs.lemmas.Bool.{true≢false}
use Rattle.slot_types.specs.declared.events.Event.TheVariants as events
use Rattle.slot_types.specs.declared.refusals.Refusal.{Refusal}
use Rattle.slot_types.specs.declared.replies.Reply.TheVariants as replies
use Rattle.slot_types.specs.declared.replies.SlotReply.{SlotReply}
use Rattle.flash_die.specs.declared.nand.NandCall.{NandCall}
use Rattle.demand_rules.specs.declared.terms.Terms.{Terms}
use Rattle.die_log.specs.Model.Log.{now}
use Rattle.die_log.specs.Model.Lives.{Lives}
use Rattle.die_log.specs.Model.Start.{Start}
use Rattle.slot_core.specs.Calls.{IsCall}
use Rattle.planned_log.specs.Moves.{Move}
use Rattle.ongoing_log.specs.PastLives.{PastLife, counted, HavePassed}
use Rattle.ongoing_log.specs.Ongoing.{Ongoing, ongoing_after, AreLongEnough, IsOngoing}
use Rattle.planned_die.specs.Planned.{Planned, HasLived}
use Rattle.planned_die.specs.PlannedCalls.{IsSlot}
use Rattle.planned_die.specs.BegunSlots.{HasEnteredAll}
use Rattle.planned_die.proofs.BegunSlots as planned
use Rattle.ongoing_die.specs.Standing.{OngoingParts, StandsAs, IsOngoingDie}
use Rattle.ongoing_die.specs.OngoingCalls.{HasBegun, HasCarried, HasFailed}
use Rattle.ongoing_die.specs.BegunSlots.{HasBegunSlot, IsBegunDie, stopped_in}
use Rattle.ongoing_die.proofs.CarriedSlots.{carried, failed, carried_plan, failed_plan}
use Rattle.ongoing_die.proofs.NextLives.{goes_on_so}

-- the rules keep the plan, whatever the moves
abbrev pub GoesOn : Type 0
GoesOn = (first : Start) (terms : Terms) (life : ℕ) → AreLongEnough terms life → (d : Ongoing) → IsOngoing first terms life d → (moves : List Move)
    → IsOngoing first terms life (ongoing_after first terms life d moves)

-- A slot begins

module _ {N : Type 0} (caller : ℕ) (first : Start) (d : Ongoing) (before between after : OngoingParts N) (b : HasBegun first d before between)
    (came : HasEnteredAll caller between.die after.die) (waits : after.waiting ≡ between.waiting)
    (lived : (earlier : Lives) → HasLived between.die earlier → HasLived after.die earlier) where
  pub begins : HasBegunSlot caller first d before after
  begins = record {
    between = between;
    begun = b;
    came = came;
    waits = waits;
    lived = lived (counted b.stands.past) b.stands.lived;
  }

  pub is_begun : AreLongEnough between.die.terms between.die.life → IsBegunDie (record { parts = after; caller = caller })
  is_begun long = record {
    long = subst (λ n. AreLongEnough after.die.terms n) (sym (ap (λ (p : Planned N). p.life) came.came))
        (subst (λ (t : Terms). AreLongEnough t between.die.life) (sym (ap (λ (p : Planned N). p.terms) came.came)) long);
    first = first;
    ongoing = d;
    before = before;
    begins = begins;
  }

-- and ends

module _ {N : Type 0} (caller : ℕ) (first : Start) (d : Ongoing) (before within : OngoingParts N) (h : HasBegunSlot caller first d before within) where
  abbrev die : Planned N
  die = h.between.die

  abbrev past : List PastLife
  past = h.begun.stands.past

  pub runs : within.die.core.stopped ≡ false
  runs = planned.runs caller die within.die h.came

  pub early : now within.die.core.log < within.die.life
  early = planned.goes_on caller die within.die h.came

  terms_is : within.die.terms ≡ die.terms
  terms_is = ap (λ (p : Planned N). p.terms) h.came.came

  life_is : within.die.life ≡ die.life
  life_is = ap (λ (p : Planned N). p.life) h.came.came

  start_is : within.die.core.start ≡ die.core.start
  start_is = ap (λ (p : Planned N). p.core.start) h.came.came

  -- its lives are long enough before, too
  module _ (long : AreLongEnough within.die.terms within.die.life) where
    long_between : AreLongEnough die.terms die.life
    long_between = subst (λ n. AreLongEnough die.terms n) life_is
        (subst (λ (t : Terms). AreLongEnough t within.die.life) terms_is long)

    long_before : AreLongEnough before.die.terms before.die.life
    long_before = subst (λ n. AreLongEnough before.die.terms n) h.begun.plan.life
        (subst (λ (t : Terms). AreLongEnough t die.life) h.begun.plan.terms long_between)

  -- Carried out

  module _ (ends : N → NandCall → Bool → N → Type 0) (failures : N → ℕ) (never : Bool) (law : GoesOn)
      (long : AreLongEnough within.die.terms within.die.life) (after : OngoingParts N) (waits : after.waiting ≡ within.waiting)
      (lived : HasLived after.die (counted past)) where
    going : (moves : List Move) → IsOngoing first die.terms die.life (ongoing_after first die.terms die.life d moves)
    going moves = law first die.terms die.life (long_between long) d (h.begun.stands.runs h.begun.runs).goes_on moves

    pub carried_then : (reply : SlotReply) → IsSlot ends failures never caller (Ok reply) within.die after.die
        → HasCarried ends failures never caller first d reply before after
    carried_then reply s = carried ends failures never caller first d before h.between h.begun after (waits ∙ h.waits) lived reply
        (planned.slotted caller die within.die h.came ends failures never after.die reply s) going

    pub carried_goes_on : (reply : SlotReply) → IsSlot ends failures never caller (Ok reply) within.die after.die → IsOngoingDie after
    carried_goes_on reply s = goes_on_so first _ before after
        (carried_plan ends failures never caller first d before h.between h.begun after (waits ∙ h.waits) lived reply
        (planned.slotted caller die within.die h.came ends failures never after.die reply s) going)
        (long_before long) (carried_then reply s).stands

    -- or refused for a fault
    pub failed_then : (refusal : Refusal) → IsSlot ends failures never caller (Err refusal) within.die after.die
        → HasFailed ends failures never caller first d before after
    failed_then refusal s = failed ends failures never caller first d before h.between h.begun after (waits ∙ h.waits) lived refusal
        (planned.unslotted caller die within.die h.came ends failures never after.die refusal s)

    pub failed_goes_on : (refusal : Refusal) → IsSlot ends failures never caller (Err refusal) within.die after.die → IsOngoingDie after
    failed_goes_on refusal s = goes_on_so first _ before after
        (failed_plan ends failures never caller first d before h.between h.begun after (waits ∙ h.waits) lived refusal
        (planned.unslotted caller die within.die h.came ends failures never after.die refusal s))
        (long_before long) (failed_then refusal s).stands

    pub carried_terms : (reply : SlotReply) → IsSlot ends failures never caller (Ok reply) within.die after.die → after.die.terms ≡ within.die.terms
    carried_terms reply s = ap (λ (p : Planned N). p.terms) s.stays

    pub failed_terms : (refusal : Refusal) → IsSlot ends failures never caller (Err refusal) within.die after.die
        → after.die.terms ≡ within.die.terms
    failed_terms refusal s = elim s [
      | inl stopped ↦ ap (λ (p : Planned N). p.terms) stopped.2
      | inr other ↦ elim other [
        | inl over ↦ ap (λ (p : Planned N). p.terms) over.3
        | inr fault ↦ ap (λ (p : Planned N). p.terms) fault.4
      ]
    ]

    -- it is one of the die below, which a device that never fails doesn't refuse
    pub carried_core : (reply : SlotReply) → IsSlot ends failures never caller (Ok reply) within.die after.die
        → IsCall ends failures never caller events.Slot (Ok (replies.Slot reply)) within.die.core after.die.core
    carried_core reply s = planned.of_core caller die within.die h.came ends failures never after.die reply s

    pub never_fails : never ≡ true → (refusal : Refusal) → IsSlot ends failures never caller (Err refusal) within.die after.die → ⊥
    never_fails e refusal s = elim s [
      | inl stopped ↦ true≢false (sym stopped.0 ∙ runs)
      | inr other ↦ elim other [
        | inl over ↦ absurd (omega (arith, over.1, early))
        | inr fault ↦ fault.3.device.never e (ap Err fault.2)
      ]
    ]

  -- Given up

  module _ (after : OngoingParts N) (is : after ≡ stopped_in within) (lived : HasLived after.die (counted past)) where
    given_start : after.die.core.start ≡ die.core.start
    given_start = ap (λ (p : OngoingParts N). p.die.core.start) is ∙ start_is

    given_life : after.die.life ≡ die.life
    given_life = ap (λ (p : OngoingParts N). p.die.life) is ∙ life_is

    pub given_up : StandsAs first d after
    given_up = record {
      past = past;
      lived = lived;
      starts = given_start ∙ h.begun.stands.starts;
      passed = subst (λ n. HavePassed first n past) (sym given_life) h.begun.stands.passed;
      one_each = ap (λ (p : OngoingParts N). length p.waiting) is ∙ (ap (λ l. length l) h.waits
          ∙ (h.begun.stands.one_each ∙ ap (λ (t : Start). length t.plan.caps) (sym given_start)));
      runs = λ running. absurd (true≢false (sym (ap (λ (p : OngoingParts N). p.die.core.stopped) is) ∙ running));
    }

    pub given_goes_on : AreLongEnough within.die.terms within.die.life → IsOngoingDie after
    given_goes_on long = goes_on_so first d within after
        (record { terms = ap (λ (p : OngoingParts N). p.die.terms) is; life = ap (λ (p : OngoingParts N). p.die.life) is })
        long given_up
