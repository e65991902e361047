-- The calls that a die accepted, as its lock lists them from the first, and as its log has them, the newest first.
use Rattle.std.specs.Prelude.{List, map, reverse, Result, Ok, Err}
use Rattle.slot_types.specs.declared.events.Event.{Event}
use Rattle.slot_types.specs.declared.replies.Reply.{Reply}
use Rattle.slot_types.specs.declared.replies.Reply.TheVariants.{Refused}
use Rattle.slot_types.specs.declared.replies.Entry as log
use Rattle.turn_lock.specs.declared.entry.Entry as lock
use Rattle.turn_lock.specs.Log.{entry}
use Rattle.die_log.specs.Model.Log.{Log}
use Rattle.die_service.specs.declared.refused.RefusedAt.{RefusedAt}

-- an entry of a die's lock; a refused call is no entry
abbrev pub DieCall : Type 0
DieCall = lock.Entry Event (Result Reply RefusedAt)

abbrev pub reply_of : Result Reply RefusedAt → Reply
reply_of (Ok reply) = reply
reply_of (Err refused) = Refused refused.refusal

-- a call as an entry of the log
abbrev pub entry_of : DieCall → log.Entry
entry_of call = record { caller = call.caller; event = call.event; reply = reply_of call.reply }

-- the log of these calls
abbrev pub log_of : List DieCall → Log
log_of calls = reverse (map entry_of calls)

abbrev pub call_of : log.Entry → DieCall
call_of e = entry e.caller e.event (Ok e.reply)

-- the calls of a log, from the first
abbrev pub calls_of : Log → List DieCall
calls_of log = map call_of (reverse log)
