-- The outcome of a slot that is carried out is that of the die's log.
use Rattle.std.proofs.Common.{◌≡◌, ℕ, ◌≤◌, ◌==◌, nat_lt, Bool, true, false, List, length, map, refl, ap, sym, subst, ◌∙◌, arith}
use Rattle.std.proofs.lemmas.Bool.{lt-ltb}
use Rattle.std.proofs.lemmas.Bool.Decides.{nat_tests}
use Rattle.std.proofs.lemmas.List.{take_all}
use Rattle.slot_types.specs.declared.events.Event.{Event}
use Rattle.slot_types.specs.declared.events.Event.TheVariants as events
use Rattle.slot_types.specs.declared.replies.Reply.{Reply}
use Rattle.slot_types.specs.declared.replies.Reply.TheVariants as replies
use Rattle.slot_types.specs.declared.replies.SlotReply.{SlotReply}
use Rattle.flash_die.specs.declared.nand.NandCall.{NandCall}
use Rattle.demand_rules.specs.declared.terms.TaskTerms.{TaskTerms}
use Rattle.demand_rules.specs.declared.terms.Terms.{Terms}
use Rattle.die_log.specs.Model.Log.{Log, now}
use Rattle.die_log.specs.Model.Start.{Start}
use Rattle.die_log.specs.Model.Lives.{all_slots}
use Rattle.die_log.specs.Model.Answers.{with_answer, after_call, run}
use Rattle.planned_log.specs.KeptLogs.{collections_at}
use Rattle.planned_log.specs.Moves.{Slot, after_own, after_move}
use Rattle.ongoing_log.specs.PastLives.{PastLife, starts_after, counted}
use Rattle.ongoing_log.specs.Ongoing.{Ongoing, going_on}
use Rattle.planned_die.specs.Planned.{Planned}
use Rattle.planned_die.specs.PlannedCalls.{own_calls, with_all_own}
use Rattle.ongoing_die.specs.Standing.{OngoingParts, standing}
use Rattle.ongoing_die.specs.OngoingCalls.{HasCarried}
use Rattle.task_outcomes.specs.Told.{told_by, newest_told, told_next}

module _ {N : Type 0} (ends : N → NandCall → Bool → N → Type 0) (failures : N → ℕ) (never : Bool) (caller : ℕ) (first : Start) (d : Ongoing)
    (reply : SlotReply) (before after : OngoingParts N) (h : HasCarried ends failures never caller first d reply before after) where
  abbrev die : Planned N
  die = h.between.die

  abbrev past : List PastLife
  past = h.begun.stands.past

  abbrev log : Log
  log = die.core.log

  abbrev start : Start
  start = starts_after first past

  abbrev began : ℕ
  began = all_slots (counted past)

  here : d ≡ standing h.between past
  here = h.begun.settled

  one_each : length die.terms.tasks ≤ length die.core.start.plan.caps
  one_each = omega (arith, h.begun.stands.lived.kept.demand.has.one_each)

  -- all collections of the slot come
  own_log : (with_all_own caller die).log ≡ after_own die.core.start die.terms log caller
  own_log =
      ap (λ n. run die.core.start log (own_calls caller die.terms n (length die.core.start.plan.caps) (now log)))
      (h.begun.stands.runs h.begun.runs).whole
      ∙ ap (λ (ts : List TaskTerms). run die.core.start log (map (λ (e : Event). (caller, e)) (collections_at ts 0 (now log))))
      (take_all (length die.core.start.plan.caps) die.terms.tasks one_each)

  moved : after.die.core.log ≡ after_move die.core.start die.terms (counted past) die.life log (Slot caller)
  moved =
      let early : nat_lt (now log) die.life ≡ true = lt-ltb (now log) die.life h.begun.early in
      let c = h.carried.carried in
      c.ended.logged
      ∙ (sym (ap (λ (r : Reply). with_answer caller events.Slot r (with_all_own caller die).log) c.ended.answered)
      ∙ (ap (λ (l : Log). after_call die.core.start l (caller, events.Slot)) own_log
      ∙ rw early refl))

  newest : (s : Start) (b : ℕ) → told_by s b after.die.core.log (replies.Slot reply) ≡ newest_told s b after.die.core.log
  newest s b = subst (λ (l : Log). told_by s b l (replies.Slot reply) ≡ newest_told s b l) (sym h.carried.carried.ended.logged) refl

  start_is : after.die.core.start ≡ start
  start_is = h.carried.carried.start_stays ∙ h.begun.stands.starts

  began_is : after.die.first ≡ began
  began_is = ap (λ (p : Planned N). p.first) h.carried.stays ∙ h.begun.stands.lived.began

  pub tells : told_by after.die.core.start after.die.first after.die.core.log (replies.Slot reply)
      ≡ told_next first before.die.terms before.die.life d caller
  tells =
      newest after.die.core.start after.die.first
      ∙ (ap (λ (s : Start). newest_told s after.die.first after.die.core.log) start_is
      ∙ (ap (λ b. newest_told start b after.die.core.log) began_is
      ∙ (ap (λ (l : Log). newest_told start began l)
      (moved ∙ ap (λ (s : Start). after_move s die.terms (counted past) die.life log (Slot caller)) h.begun.stands.starts)
      ∙ (ap (λ (t : Terms). newest_told start began (after_move start t (counted past) die.life log (Slot caller))) h.begun.plan.terms
      ∙ (ap (λ n. newest_told start began (after_move start before.die.terms (counted past) n log (Slot caller))) h.begun.plan.life
      ∙ ap (λ (x : Ongoing). told_next first before.die.terms before.die.life x caller) (sym here))))))
