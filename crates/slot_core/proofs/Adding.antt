-- A run adds its accepted calls to the log, which stays exact; so no other exact log has just these calls.
use Rattle.std.proofs.Common.{◌≡◌, ◌⊎◌, inl, inr, ℕ, Bool, List, [], ◌∷◌, refl, ap, sym, subst, ◌∙◌}
use Rattle.slot_types.specs.declared.events.Event.{Event}
use Rattle.slot_types.specs.declared.refusals.Refusal.{Refusal}
use Rattle.slot_types.specs.declared.replies.Reply.{Reply}
use Rattle.slot_types.specs.declared.replies.Reply.TheVariants as replies
use Rattle.flash_die.specs.declared.nand.NandCall.{NandCall}
use Rattle.die_log.specs.Model.Log.{Log, calls}
use Rattle.die_log.specs.Model.Start.{Start}
use Rattle.die_log.specs.Model.Answers.{answer, with_answer, IsAccepted, IsExact}
use Rattle.die_log.proofs.Exact.{same_calls_lem}
use Rattle.slot_core.specs.Core.{Core, with_entry}
use Rattle.slot_core.specs.Calls.{IsAnswered, RefusesCall}
use Rattle.slot_core.specs.Runs.{IsRun, with_call, with_accepted, HasGrown}
use Rattle.slot_core.proofs.Running.{Calls, Runs, by_reply, run_start}

-- One event

entered_calls : (event : Event) (reply : Reply) (log : Log) → IsAccepted reply → calls (with_entry 0 event reply log)
    ≡ with_call event reply (calls log)
entered_calls event (replies.Refused refusal) log is = absurd is
entered_calls event (replies.Taken number) log is = refl
entered_calls event (replies.Slot s) log is = refl

log_stays : {N : Type 0} (event : Event) (refusal : Refusal) (before after : Core N) → RefusesCall event refusal before after → after.log ≡ before.log
log_stays {N} event refusal before after (inl h) = ap (λ (c : Core N). c.log) h.unchanged
log_stays {N} event refusal before after (inr (inl h)) = ap (λ (c : Core N). c.log) h.unchanged
log_stays {N} event refusal before after (inr (inr (inl h))) = h.log_stays
log_stays {N} event refusal before after (inr (inr (inr h))) = ap (λ (c : Core N). c.log) h.unchanged

module _ {N : Type 0} (ends : N → NandCall → Bool → N → Type 0) (failures : N → ℕ) (never : Bool) where
  call_adds : (event : Event) (reply : Reply) (before after : Core N) → Calls ends failures never event reply before after
      → calls after.log ≡ with_call event reply (calls before.log)
  call_adds event reply before after call = by (by_reply ends failures never event reply before after call)
    where
      by : IsAnswered 0 event reply before after ⊎ ((refusal : Refusal) × (reply ≡ replies.Refused refusal) × RefusesCall event refusal before after)
          → calls after.log ≡ with_call event reply (calls before.log)
      by (inl a) = ap calls a.logged ∙ entered_calls event reply before.log a.accepted
      by (inr (refusal, is, h)) = rw is (ap calls (log_stays event refusal before after h))

  call_exact : (event : Event) (reply : Reply) (before after : Core N) → Calls ends failures never event reply before after
      → IsExact before.start before.log → IsExact after.start after.log
  call_exact event reply before after call exact = subst (λ (s : Start). IsExact s after.log) (sym call.start_stays)
      (by (by_reply ends failures never event reply before after call))
    where
      by : IsAnswered 0 event reply before after ⊎ ((refusal : Refusal) × (reply ≡ replies.Refused refusal) × RefusesCall event refusal before after)
          → IsExact before.start after.log
      by (inl a) = subst (IsExact before.start) (sym a.logged) (exact, sym a.answered, a.accepted)
      by (inr (refusal, is, h)) = subst (IsExact before.start) (sym (log_stays event refusal before after h)) exact

  -- A run

  run_adds : (before after : Core N) (events : List Event) (rs : List Reply) → Runs ends failures never before events rs after
      → calls after.log ≡ with_accepted events rs (calls before.log)
  run_adds before after [] [] h = ap (λ (c : Core N). calls c.log) h
  run_adds before after [] (reply ∷ rs) h = absurd h
  run_adds before after (event ∷ events) [] h = absurd h
  run_adds before after (event ∷ events) (reply ∷ rs) h =
      run_adds h.0 after events rs h.2 ∙ ap (with_accepted events rs) (call_adds event reply before h.0 h.1)

  run_exact : (before after : Core N) (events : List Event) (rs : List Reply) → Runs ends failures never before events rs after
      → IsExact before.start before.log → IsExact after.start after.log
  run_exact before after [] [] h exact = subst (λ (c : Core N). IsExact c.start c.log) (sym h) exact
  run_exact before after [] (reply ∷ rs) h exact = absurd h
  run_exact before after (event ∷ events) [] h exact = absurd h
  run_exact before after (event ∷ events) (reply ∷ rs) h exact =
      run_exact h.0 after events rs h.2 (call_exact event reply before h.0 h.1 exact)

  pub run_grows : (before after : Core N) (events : List Event) (rs : List Reply) → IsExact before.start before.log
      → Runs ends failures never before events rs after → HasGrown before events rs after
  run_grows before after events rs exact h = record {
    grown = run_adds before after events rs h;
    only = λ empty log other is. same_calls_lem before.start log after.log other
        (subst (λ (s : Start). IsExact s after.log) (run_start ends failures never before after events rs h)
        (run_exact before after events rs h exact))
        (is ∙ sym (run_adds before after events rs h ∙ ap (λ l. with_accepted events rs (calls l)) empty));
  }
