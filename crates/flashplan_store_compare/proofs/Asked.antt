-- A job that was asked for.
use Rattle.std.proofs.Common.{◌≡◌, ◌∙◌, ℕ, Bool, true, false, Option, Result, Ok, Err, ap, refl}
use Rattle.std.specs.Prelude.{IfOk}
use Rattle.std.specs.Result.{result_err}
use Rattle.std.proofs.lemmas.Result.{IfOk-weaker}
use Rattle.slot_types.specs.Arrivals.{IsArrival}
use Rattle.slot_types.specs.declared.events.Event.{Event}
use Rattle.slot_types.specs.declared.refusals.Refusal.{Refusal}
use Rattle.slot_types.specs.declared.replies.Reply.TheVariants as replies
use Rattle.flash_die.specs.declared.nand.NandCall.{NandCall}
use Rattle.slot_core.specs.Calls.{IsCall, reply_as}
use Rattle.slot_core.specs.Core.{Core}
use Rattle.flashplan_script_runs.specs.RunningDies.{IsAsked, running_of}
use Rattle.flashplan_script_runs.proofs.Calls.{row_entered, row_refused, stays_well}

module _ {N : Type 0} {ends : N → NandCall → Bool → N → Type 0} {failures : N → ℕ} {never : Bool} where
  row_ended : (event : Event) (taken : Result ℕ Refusal) (before after : Core N) → IsArrival event
      → IsCall ends failures never 0 event (reply_as replies.Taken taken) before after
      → IsAsked event (result_err taken) (running_of before) (running_of after)
  row_ended event (Ok number) before after arrives call = row_entered event (replies.Taken number) before after call
  row_ended event (Err refusal) before after arrives call = row_refused event refusal before after arrives call

  -- what is said of the job is why it was refused, if it was
  pub job_asked : (asked event : Event) (taken : Result ℕ Refusal) (said : Result (Option Refusal) Refusal) (at before after last : Core N)
      → IsArrival asked → asked ≡ event → at ≡ before → last ≡ after
      → IsCall ends failures never 0 asked (reply_as replies.Taken taken) at after
      → IfOk said (λ (refusal : Option Refusal). refusal ≡ result_err taken)
      → IfOk said (λ (refusal : Option Refusal). IsAsked event refusal (running_of before) (running_of last))
  job_asked asked event taken said at before after last arrives same begun ended call is =
      IfOk-weaker said (λ (refusal : Option Refusal). refusal ≡ result_err taken)
      (λ (refusal : Option Refusal). IsAsked event refusal (running_of before) (running_of last))
      (λ (refusal : Option Refusal) (why : refusal ≡ result_err taken).
      rw (← same, ← begun, ended, why) (row_ended asked taken at after arrives call))
      is

-- a device that never fails stops no die that was asked
pub job_well : {N : Type 0} {ends : N → NandCall → Bool → N → Type 0} {failures : N → ℕ} (event : Event) (taken : Result ℕ Refusal)
    (at before after last : Core N) → at ≡ before → last ≡ after
    → IsCall ends failures true 0 event (reply_as replies.Taken taken) at after → before.stopped ≡ false → last.stopped ≡ false
job_well {N} event taken at before after last begun ended call well =
    ap (λ (core : Core N). core.stopped) ended
    ∙ (stays_well event (reply_as replies.Taken taken) at after call (refl, ap (λ (core : Core N). core.stopped) begun ∙ well)).1
