-- A call of a die has one answer, and leaves one die except for the device; so has a run.
use Rattle.std.proofs.Common.{◌≡◌, ◌⊎◌, inl, inr, ℕ, Bool, true, false, List, [], ◌∷◌, All, Ok, Err, refl, ap, sym, ◌∙◌}
use Rattle.std.specs.declared.result.Result.{Result}
use Rattle.std.specs.List.{AllByRecursion}
use Rattle.std.proofs.lemmas.List.Elements.{recursion_from_All}
use Rattle.slot_types.specs.declared.events.Event.{Event}
use Rattle.slot_types.specs.declared.refusals.Refusal.{Refusal}
use Rattle.slot_types.specs.declared.refusals.Refusal.TheVariants.{DieStopped}
use Rattle.slot_types.specs.declared.replies.Reply.{Reply}
use Rattle.slot_types.specs.declared.replies.Reply.TheVariants.{Refused, Taken, Slot as Answered}
use Rattle.flash_die.specs.declared.nand.NandCall.{NandCall}
use Rattle.die_log.specs.Model.Log.{Log}
use Rattle.die_log.specs.Model.Answers.{answer, with_answer, IsAccepted}
use Rattle.slot_core.specs.Core.{Core, Reserved}
use Rattle.slot_core.specs.Calls.{reserved_after, RefusesCall, EndsCall, IsCall, IsByChance, AreAlike}
use Rattle.slot_core.specs.Runs.{IsRun, IsDecided, result_of}
use Rattle.slot_core.proofs.Running.{accepted_result, entered}

-- what a die that was stopped or not answers, where its log gives this reply
abbrev answered_by : Bool → Reply → Result Reply Refusal
answered_by true reply = Err DieStopped
answered_by false reply = result_of reply

abbrev log_by : Bool → ℕ → Event → Reply → Log → Log
log_by true caller event reply log = log
log_by false caller event reply log = with_answer caller event reply log

abbrev reserved_by : Bool → Event → Reply → Reserved → Reserved
reserved_by true event reply reserved = reserved
reserved_by false event (Refused refusal) reserved = reserved
reserved_by false event _ reserved = reserved_after event reserved

accepted_uses : (event : Event) (reply : Reply) (reserved : Reserved) → IsAccepted reply
    → reserved_by false event reply reserved ≡ reserved_after event reserved
accepted_uses event (Taken number) reserved h = refl
accepted_uses event (Answered said) reserved h = refl
accepted_uses event (Refused refusal) reserved h = absurd h

-- so a call ends that doesn't end by chance
record IsReported {N : Type 0} (caller : ℕ) (event : Event) (result : Result Reply Refusal) (before after : Core N) : Type 0 where
  result_is : result ≡ answered_by before.stopped (answer before.start before.log event)
  stopped_is : after.stopped ≡ before.stopped
  log_is : after.log ≡ log_by before.stopped caller event (answer before.start before.log event) before.log
  reserved_is : after.reserved ≡ reserved_by before.stopped event (answer before.start before.log event) before.reserved

decided : {N : Type 0} (caller : ℕ) (event : Event) (result : Result Reply Refusal) (before after : Core N)
    → EndsCall caller event result before after → IsByChance result ⊎ IsReported caller event result before after
decided {N} caller event (Ok reply) before after a = inr (record {
  result_is = rw (a.ran, a.answered) (sym (accepted_result reply a.accepted));
  stopped_is = a.runs ∙ sym a.ran;
  log_is = rw (a.ran, a.answered) (a.logged ∙ entered caller event reply before.log a.accepted);
  reserved_is = rw (a.ran, a.answered) (a.used ∙ sym (accepted_uses event reply before.reserved a.accepted));
})
decided {N} caller event (Err refusal) before after ended = by ended
  where
    by : RefusesCall event refusal before after → IsByChance (Err refusal) ⊎ IsReported caller event (Err refusal) before after
    by (inl h) = inr (record {
      result_is = rw (h.ran, h.answered) refl;
      stopped_is = ap (λ (c : Core N). c.stopped) h.unchanged;
      log_is = rw (h.ran, h.answered) (ap (λ (c : Core N). c.log) h.unchanged);
      reserved_is = rw (h.ran, h.answered) (ap (λ (c : Core N). c.reserved) h.unchanged);
    })
    by (inr (inl h)) = inl (inl (ap Err h.refusal_is))
    by (inr (inr (inl h))) = inl (inr (ap Err h.refusal_is))
    by (inr (inr (inr h))) = inr (record {
      result_is = rw h.was_stopped (ap Err h.refusal_is);
      stopped_is = ap (λ (c : Core N). c.stopped) h.unchanged;
      log_is = rw h.was_stopped (ap (λ (c : Core N). c.log) h.unchanged);
      reserved_is = rw h.was_stopped (ap (λ (c : Core N). c.reserved) h.unchanged);
    })

alike : {N : Type 0} (caller : ℕ) (event : Event) (one other : Result Reply Refusal) (here there left right : Core N) → AreAlike here there
    → left.start ≡ here.start → right.start ≡ there.start → left.lasting ≡ here.lasting → right.lasting ≡ there.lasting
    → IsReported caller event one here left → IsReported caller event other there right → (one ≡ other) × AreAlike left right
alike caller event one other here there left right same starts begins lasts goes_on a b = (
  a.result_is ∙ (rw (same.stopped_is, same.start_is, same.log_is) refl ∙ sym b.result_is),
  record {
    start_is = starts ∙ (same.start_is ∙ sym begins);
    stopped_is = a.stopped_is ∙ (same.stopped_is ∙ sym b.stopped_is);
    reserved_is = a.reserved_is ∙ (rw (same.stopped_is, same.start_is, same.log_is, same.reserved_is) refl ∙ sym b.reserved_is);
    lasting_is = lasts ∙ (same.lasting_is ∙ sym goes_on);
    log_is = a.log_is ∙ (rw (same.stopped_is, same.start_is, same.log_is) refl ∙ sym b.log_is);
  },
)

-- Runs

same_reply : (r s : Reply) → result_of r ≡ result_of s → r ≡ s
same_reply (Refused x) (Refused y) e = cc
same_reply (Refused x) (Taken n) e = absurd cc
same_reply (Refused x) (Answered t) e = absurd cc
same_reply (Taken m) (Refused y) e = absurd cc
same_reply (Taken m) (Taken n) e = cc
same_reply (Taken m) (Answered t) e = absurd cc
same_reply (Answered s) (Refused y) e = absurd cc
same_reply (Answered s) (Taken n) e = absurd cc
same_reply (Answered s) (Answered t) e = cc

both_more : (r s : Reply) (rs ss : List Reply) → r ≡ s → rs ≡ ss → r ∷ rs ≡ s ∷ ss
both_more r s rs ss a b = rw a (rw b refl)

module _ {N : Type 0} (ends : N → NandCall → Bool → N → Type 0) (failures : N → ℕ) (never : Bool) where
  pub one_answer : (caller : ℕ) (event : Event) (one other : Result Reply Refusal) (here there left right : Core N) → AreAlike here there
      → IsCall ends failures never caller event one here left → IsCall ends failures never caller event other there right
      → ((one ≡ other) × AreAlike left right) ⊎ IsByChance one ⊎ IsByChance other
  one_answer caller event one other here there left right same a b =
      by (decided caller event one here left a.ended) (decided caller event other there right b.ended)
    where
      by : IsByChance one ⊎ IsReported caller event one here left → IsByChance other ⊎ IsReported caller event other there right
          → ((one ≡ other) × AreAlike left right) ⊎ IsByChance one ⊎ IsByChance other
      by (inl chance) d = inr (inl chance)
      by (inr d) (inl chance) = inr (inr chance)
      by (inr d) (inr e) = inl (alike caller event one other here there left right same a.start_stays b.start_stays a.lasting_stays b.lasting_stays d e)

  each_answer : (events : List Event) (one other : List Reply) (here there left right : Core N) → AreAlike here there
      → IsRun ends failures never here events one left → IsRun ends failures never there events other right
      → AllByRecursion IsDecided one → AllByRecursion IsDecided other → (one ≡ other) × AreAlike left right
  each_answer [] [] [] here there left right same h k a b = (refl, rw (h, k) same)
  each_answer [] [] (s ∷ ss) here there left right same h k a b = absurd k
  each_answer [] (r ∷ rs) other here there left right same h k a b = absurd h
  each_answer (e ∷ es) [] other here there left right same h k a b = absurd h
  each_answer (e ∷ es) (r ∷ rs) [] here there left right same h k a b = absurd k
  each_answer (e ∷ es) (r ∷ rs) (s ∷ ss) here there left right same (x, call, h) (y, other, k) a b =
      by (one_answer 0 e (result_of r) (result_of s) here there x y same call other)
      (λ now. each_answer es rs ss x y left right now h k a.1 b.1)
    where
      by : ((result_of r ≡ result_of s) × AreAlike x y) ⊎ IsByChance (result_of r) ⊎ IsByChance (result_of s)
          → (AreAlike x y → (rs ≡ ss) × AreAlike left right) → (r ∷ rs ≡ s ∷ ss) × AreAlike left right
      by (inl d) ih = let more = ih d.1 in (both_more r s rs ss (same_reply r s d.0) more.0, more.1)
      by (inr (inl chance)) ih = absurd (a.0 chance)
      by (inr (inr chance)) ih = absurd (b.0 chance)

  pub one_run : (events : List Event) (one other : List Reply) (here there left right : Core N) → AreAlike here there
      → IsRun ends failures never here events one left → IsRun ends failures never there events other right
      → All IsDecided one → All IsDecided other → (one ≡ other) × AreAlike left right
  one_run events one other here there left right same h k a b =
      each_answer events one other here there left right same h k (recursion_from_All IsDecided one a) (recursion_from_All IsDecided other b)
