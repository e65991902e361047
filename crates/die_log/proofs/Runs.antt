-- A run of an exact log is exact.
use Rattle.std.proofs.Common.{◌≡◌, ℕ, List, [], ◌∷◌, refl, sym}
use Rattle.slot_types.specs.declared.events.Event.{Event}
use Rattle.slot_types.specs.declared.replies.Reply.{Reply}
use Rattle.slot_types.specs.declared.replies.Reply.TheVariants as replies
use Rattle.die_log.specs.Model.Log.{Log}
use Rattle.die_log.specs.Model.Answers.{IsExact, answer, with_answer, after_call, run}
use Rattle.die_log.specs.Model.Start.{Start}

with_exact : (start : Start) (past : Log) (caller : ℕ) (event : Event) (r : Reply) → answer start past event ≡ r → IsExact start past
    → IsExact start (with_answer caller event r past)
with_exact start past caller event (replies.Taken number) e h = (h, sym e, tt)
with_exact start past caller event (replies.Slot s) e h = (h, sym e, tt)
with_exact start past caller event (replies.Refused refusal) e h = h

-- one call, refused or not
pub call_exact : (start : Start) (past : Log) (call : ℕ × Event) → IsExact start past → IsExact start (after_call start past call)
call_exact start past call h = with_exact start past call.0 call.1 (answer start past call.1) refl h

pub run_exact : (start : Start) (past : Log) (calls : List (ℕ × Event)) → IsExact start past → IsExact start (run start past calls)
run_exact start past [] h = h
run_exact start past (call ∷ calls) h = run_exact start (after_call start past call) calls (call_exact start past call h)
