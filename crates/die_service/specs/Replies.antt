-- What a die behind its lock may reply to an event.
use Rattle.std.specs.Prelude.{◌≡◌, Bool, List, length, Result, Ok, Err}
use Rattle.slot_types.specs.declared.events.Event.{Event}
use Rattle.slot_types.specs.declared.replies.Reply.{Reply}
use Rattle.die_log.specs.Model.Answers.{answer, IsAccepted, IsExact}
use Rattle.slot_core.specs.declared.events.ReplyNote.{ReplyNote}
use Rattle.slot_core.specs.Calls.{MayRefuse}
use Rattle.slot_core.specs.Events.{reply_of_note}
use Rattle.die_service.specs.declared.refused.RefusedAt.{RefusedAt}
use Rattle.die_service.specs.Logs.{DieCall, log_of}
use Rattle.die_log.specs.Model.Start.{Start}
use Rattle.die_log.specs.Model.Opening.{IsOpening}

-- a log may start here, and each call was answered as a die that started so answers it after the calls before it
pub record HasExactLog (start : Start) (calls : List DieCall) : Type 0 where
  pub opens : IsOpening start
  pub exact : IsExact start (log_of calls)

-- an accepted event is answered by the log; a refused one tells how many entries there were
abbrev pub MayReply : Bool → Start → List DieCall → Event → Result Reply RefusedAt → Type 0
MayReply never_fails start calls event (Ok reply) = (answer start (log_of calls) event ≡ reply) × IsAccepted reply
MayReply never_fails start calls event (Err refused) =
    (refused.entries ≡ length calls) × MayRefuse never_fails start (log_of calls) event refused.refusal

-- the reply that a note is of, where the event was accepted
abbrev pub result_of_note : Result ReplyNote RefusedAt → Result Reply RefusedAt
result_of_note (Ok note) = Ok (reply_of_note note)
result_of_note (Err refused) = Err refused
