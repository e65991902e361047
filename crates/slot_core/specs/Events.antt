-- Events and replies in parts: what a caller keeps beside a call.
use Rattle.std.specs.Prelude.{List}
use Rattle.slot_types.specs.Arrivals.{arrival_of}
use Rattle.slot_types.specs.declared.events.Event.{Event}
use Rattle.slot_types.specs.declared.events.Event.TheVariants as events
use Rattle.slot_types.specs.declared.events.Op.{Op}
use Rattle.slot_types.specs.declared.replies.Reply.{Reply}
use Rattle.slot_types.specs.declared.replies.Reply.TheVariants as replies
use Rattle.slot_core.specs.declared.events.EventHead.{EventHead}
use Rattle.slot_core.specs.declared.events.EventHead.TheVariants as heads
use Rattle.slot_core.specs.declared.events.ReplyNote.{ReplyNote}
use Rattle.slot_core.specs.declared.events.ReplyNote.TheVariants as notes

-- the event of a head and the operations beside it, which only a job has
abbrev pub with_ops : EventHead → List Op → Event
with_ops (heads.Arrive head) ops = arrival_of head ops
with_ops heads.Slot ops = events.Slot

-- the reply that a note is of
abbrev pub reply_of_note : ReplyNote → Reply
reply_of_note (notes.Taken number) = replies.Taken number
reply_of_note (notes.Slot reply) = replies.Slot reply
