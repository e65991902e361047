-- What a run of events answers, and what it leaves.
use Rattle.std.specs.Prelude.{◌≡◌, ℕ, ◌⊎◌, Bool, List, [], ◌∷◌, Result, Ok, Err}
use Rattle.slot_types.specs.declared.events.Event.{Event}
use Rattle.slot_types.specs.declared.refusals.Refusal.{Refusal}
use Rattle.slot_types.specs.declared.replies.Reply.{Reply}
use Rattle.slot_types.specs.declared.replies.Reply.TheVariants.{Refused}
use Rattle.flash_die.specs.declared.nand.NandCall.{NandCall}
use Rattle.die_log.specs.Model.Log.{Log, calls}
use Rattle.die_log.specs.Model.Answers.{IsExact}
use Rattle.slot_core.specs.Core.{Core}
use Rattle.slot_core.specs.Calls.{IsCall, IsByChance}

-- Events in order

-- what a call is answered, of which this is the reply
abbrev pub result_of : Reply → Result Reply Refusal
result_of (Refused refusal) = Err refusal
result_of reply = Ok reply

-- one reply an event, each what a call of caller 0 is answered at its place
abbrev pub IsRun : {N : Type 0} → (N → NandCall → Bool → N → Type 0) → (N → ℕ) → Bool → Core N → List Event → List Reply → Core N → Type 0
IsRun ends failures never_fails before [] [] after = after ≡ before
IsRun {N} ends failures never_fails before (event ∷ events) (reply ∷ replies) after =
    (between : Core N) × IsCall ends failures never_fails 0 event (result_of reply) before between
    × IsRun ends failures never_fails between events replies after
IsRun ends failures never_fails before _ _ after = ⊥

-- a reply that the log decides, or the fault that had stopped the die
abbrev pub IsDecided : Reply → Type 0
IsDecided reply = ¬ IsByChance (result_of reply)

-- The calls that a run adds

abbrev pub with_call : Event → Reply → List (ℕ × Event) → List (ℕ × Event)
with_call event (Refused refusal) earlier = earlier
with_call event reply earlier = (0, event) ∷ earlier

-- the calls of a log, the newest first, with those of these events that weren't refused, by caller 0
abbrev pub with_accepted : List Event → List Reply → List (ℕ × Event) → List (ℕ × Event)
with_accepted (event ∷ events) (reply ∷ replies) earlier = with_accepted events replies (with_call event reply earlier)
with_accepted _ _ earlier = earlier

-- the log has grown by the accepted calls; where it was empty, no other exact log has just these calls
pub record HasGrown {N : Type 0} (before : Core N) (events : List Event) (replies : List Reply) (after : Core N) : Type 0 where
  pub grown : calls after.log ≡ with_accepted events replies (calls before.log)
  pub only : before.log ≡ [] → (log : Log) → IsExact before.start log → calls log ≡ with_accepted events replies [] → log ≡ after.log
