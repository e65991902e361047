-- The entries that notes stand for, with what the jobs keep.
use Rattle.std.specs.Prelude.{ℕ, ◌+◌, List, [], ◌∷◌, take, count_by, Option, Some, None, slice_get}
use Rattle.slot_types.specs.declared.acts.Act.{Act}
use Rattle.slot_types.specs.declared.acts.Act.TheVariants as does
use Rattle.slot_types.specs.declared.events.Op.{Op}
use Rattle.slot_types.specs.declared.events.Op.TheVariants as asks
use Rattle.slot_types.specs.declared.events.Event.{Event}
use Rattle.slot_types.specs.declared.events.Event.TheVariants as events
use Rattle.slot_types.specs.declared.pages.PageData.{PageData}
use Rattle.slot_types.specs.declared.replies.Reply.{Reply}
use Rattle.slot_types.specs.declared.replies.Reply.TheVariants as replies
use Rattle.slot_types.specs.declared.replies.Entry.{Entry}
use Rattle.slot_types.specs.declared.replies.Waived.{Waived}
use Rattle.job_table.specs.Jobs.{JobRecord, is_read}
use Rattle.event_log.specs.declared.deeds.Deed.{Deed}
use Rattle.event_log.specs.declared.deeds.Deed.TheVariants.{Submit, Collect, Operation, LastOperation, CopyRead}
use Rattle.event_log.specs.declared.deeds.Deed.TheVariants.{CopyProgram, EraseSlot, LastEraseSlot}
use Rattle.event_log.specs.Notes.{Note}

-- Acts

-- stands for what was never done: no entry of a log that fits its jobs has it
abbrev pub no_act : Act
no_act = does.CopyRead 0

-- a read, with what it gave
abbrev pub act_reading : ℕ → Option PageData → Act
act_reading page None = no_act
act_reading page (Some bytes) = does.Read page bytes

-- how many reads stand before this place
abbrev pub reads_before : JobRecord → ℕ → ℕ
reads_before job place = count_by is_read (take place job.ops)

abbrev pub act_doing : JobRecord → ℕ → Option Op → Act
act_doing job place None = no_act
act_doing job place (Some (asks.Read page)) = act_reading page (slice_get job.reads (reads_before job place))
act_doing job place (Some (asks.Write page bytes)) = does.Write page bytes
act_doing job place (Some (asks.Trim page)) = does.Trim page

abbrev pub act_in : Option JobRecord → ℕ → Act
act_in None place = no_act
act_in (Some job) place = act_doing job place (slice_get job.ops place)

-- what the job of this number did with its operation at this place
abbrev pub act_at : List JobRecord → ℕ → ℕ → Act
act_at jobs number place = act_in (slice_get jobs number) place

-- Entries

abbrev pub submit_event : Option JobRecord → Event
submit_event None = events.Slot
submit_event (Some job) = events.Submit job.task job.release job.due job.ops

abbrev pub collect_event : Option JobRecord → Event
collect_event None = events.Slot
collect_event (Some job) = events.Collect job.task job.release job.due

-- what was asked
abbrev pub event_of : List JobRecord → Deed → Event
event_of jobs (Submit number) = submit_event (slice_get jobs number)
event_of jobs (Collect number) = collect_event (slice_get jobs number)
event_of jobs _ = events.Slot

-- who acted in a slot, and how
abbrev pub ran_by : List JobRecord → Deed → Option (ℕ × Act)
ran_by jobs (Operation number place) = Some (number, act_at jobs number place)
ran_by jobs (LastOperation number place) = Some (number, act_at jobs number place)
ran_by jobs (CopyRead number page) = Some (number, does.CopyRead page)
ran_by jobs (CopyProgram number page) = Some (number, does.CopyProgram page)
ran_by jobs (EraseSlot number block) = Some (number, does.Erase block)
ran_by jobs (LastEraseSlot number block) = Some (number, does.Erase block)
ran_by jobs _ = None

-- who was done with it
abbrev pub finished_by : Deed → Option ℕ
finished_by (LastOperation number place) = Some number
finished_by (LastEraseSlot number block) = Some number
finished_by _ = None

-- what was answered, in this slot
abbrev pub reply_of : List JobRecord → ℕ → List Waived → Deed → Reply
reply_of jobs slot waived (Submit number) = replies.Taken number
reply_of jobs slot waived (Collect number) = replies.Taken number
reply_of jobs slot waived deed =
    replies.Slot (record { slot = slot; waived = waived; ran = ran_by jobs deed; finished = finished_by deed })

-- the entry of a note, in this slot
abbrev pub entry_of : List JobRecord → ℕ → Note → Entry
entry_of jobs slot s = record { caller = s.caller; event = event_of jobs s.deed; reply = reply_of jobs slot s.waived s.deed }

-- the number of slots among these
abbrev pub slots_of : Deed → ℕ
slots_of (Submit number) = 0
slots_of (Collect number) = 0
slots_of _ = 1

abbrev pub slots_in : List Note → ℕ
slots_in [] = 0
slots_in (s ∷ past) = slots_of s.deed + slots_in past

-- the entries of notes, the newest first
abbrev pub entries_of : List JobRecord → List Note → List Entry
entries_of jobs [] = []
entries_of jobs (s ∷ past) = entry_of jobs (slots_in past) s ∷ entries_of jobs past
