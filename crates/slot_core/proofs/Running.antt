-- Runs of events.
use Rattle.std.proofs.Common.{◌≡◌, ◌⊎◌, inl, inr, ℕ, suc, Bool, true, false, List, [], ◌∷◌, ◌++◌, Ok, Err, length, refl, ap, sym, ◌∙◌, subst}
use Rattle.std.specs.declared.result.Result.{Result}
use Rattle.slot_types.specs.declared.events.Event.{Event}
use Rattle.slot_types.specs.declared.refusals.Refusal.{Refusal}
use Rattle.slot_types.specs.declared.replies.Reply.{Reply}
use Rattle.slot_types.specs.declared.replies.Reply.TheVariants.{Refused, Taken, Slot as Answered}
use Rattle.flash_die.specs.declared.nand.NandCall.{NandCall}
use Rattle.die_log.specs.Model.Log.{Log}
use Rattle.die_log.specs.Model.Start.{Start}
use Rattle.die_log.specs.Model.Answers.{answer, IsAccepted, with_answer}
use Rattle.slot_core.specs.Core.{Core, with_entry}
use Rattle.slot_core.specs.Calls.{IsCall, IsAnswered, RefusesCall, EndsCall}
use Rattle.slot_core.specs.Runs.{IsRun, result_of}

-- Replies

pub accepted_result : (reply : Reply) → IsAccepted reply → result_of reply ≡ Ok reply
accepted_result (Taken number) is = refl
accepted_result (Answered slot) is = refl
accepted_result (Refused refusal) is = absurd is

pub entered : (caller : ℕ) (event : Event) (reply : Reply) (log : Log) → IsAccepted reply → with_entry caller event reply log
    ≡ with_answer caller event reply log
entered caller event (Taken number) log is = refl
entered caller event (Answered slot) log is = refl
entered caller event (Refused refusal) log is = absurd is

module _ {N : Type 0} (ends : N → NandCall → Bool → N → Type 0) (failures : N → ℕ) (never : Bool) where
  abbrev pub Calls : Event → Reply → Core N → Core N → Type 0
  Calls event reply before after = IsCall ends failures never 0 event (result_of reply) before after

  abbrev pub Runs : Core N → List Event → List Reply → Core N → Type 0
  Runs = IsRun ends failures never

  -- a call that was accepted, as its reply
  pub accepted_call : (event : Event) (reply : Reply) (before after : Core N) → IsCall ends failures never 0 event (Ok reply) before after
      → Calls event reply before after
  accepted_call event reply before after call = rw (accepted_result reply call.ended.accepted) call

  -- one more event
  pub run_more : (before between after : Core N) (es : List Event) (rs : List Reply) (e : Event) (r : Reply) → Runs before es rs between
      → Calls e r between after → Runs before (es ++ e ∷ []) (rs ++ r ∷ []) after
  run_more before between after [] [] e r h s = (after, subst (λ (c : Core N). Calls e r c after) h s, refl)
  run_more before between after [] (x ∷ rs) e r h s = absurd h
  run_more before between after (y ∷ es) [] e r h s = absurd h
  run_more before between after (y ∷ es) (x ∷ rs) e r h s = (h.0, h.1, run_more h.0 between after es rs e r h.2 s)

  -- as the replies are kept
  pub goes_on : (before between after : Core N) (es : List Event) (rs later : List Reply) (e : Event) (r : Reply) → Runs before es rs between
      → Calls e r between after → later ≡ rs ++ r ∷ [] → Runs before (es ++ e ∷ []) later after
  goes_on before between after es rs later e r ran call is = rw is (run_more before between after es rs e r ran call)

  -- a run answers one reply an event, and leaves the start
  pub run_length : (before after : Core N) (es : List Event) (rs : List Reply) → Runs before es rs after → length rs ≡ length es
  run_length before after [] [] h = refl
  run_length before after [] (x ∷ rs) h = absurd h
  run_length before after (y ∷ es) [] h = absurd h
  run_length before after (y ∷ es) (x ∷ rs) h = ap suc (run_length h.0 after es rs h.2)

  pub run_start : (before after : Core N) (es : List Event) (rs : List Reply) → Runs before es rs after → after.start ≡ before.start
  run_start before after [] [] h = ap (λ (c : Core N). c.start) h
  run_start before after [] (x ∷ rs) h = absurd h
  run_start before after (y ∷ es) [] h = absurd h
  run_start before after (y ∷ es) (x ∷ rs) h = run_start h.0 after es rs h.2 ∙ h.1.start_stays

  -- a call that is refused is so for one of these reasons; else it is answered
  pub by_reply : (event : Event) (reply : Reply) (before after : Core N) → Calls event reply before after
      → IsAnswered 0 event reply before after ⊎ ((refusal : Refusal) × (reply ≡ Refused refusal) × RefusesCall event refusal before after)
  by_reply event (Taken number) before after call = inl call.ended
  by_reply event (Answered slot) before after call = inl call.ended
  by_reply event (Refused refusal) before after call = inr (refusal, refl, call.ended)
