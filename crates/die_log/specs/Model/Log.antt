-- The log of a die, and what is read off it entry by entry.
use Rattle.std.specs.Prelude.{ℕ, ◌==◌, if◌then◌else◌, Bool, true, false, List, [], ◌∷◌, ◌++◌, map, length, Option, Some, None, slice_get}
use Rattle.std.specs.List.{filter_map, list_any}
use Rattle.slot_types.specs.declared.acts.Act.{Act}
use Rattle.slot_types.specs.declared.events.Op.{Op}
use Rattle.slot_types.specs.declared.events.Event.{Event}
use Rattle.slot_types.specs.declared.events.Event.TheVariants as events
use Rattle.slot_types.specs.declared.replies.Reply.{Reply}
use Rattle.slot_types.specs.declared.replies.Reply.TheVariants as replies
use Rattle.slot_types.specs.declared.replies.Entry.{Entry}
use Rattle.slot_types.specs.declared.replies.Waived.{Waived}

-- the accepted calls of a die, the newest first: after an entry lies the log as it was before it
abbrev pub Log : Type 0
Log = List Entry

-- who called, and with what event
abbrev pub calls : Log → List (ℕ × Event)
calls log = map (λ e. (e.caller, e.event)) log

-- a job or a collection, as it was accepted
pub record Job : Type 0 where
  pub number : ℕ
  pub collects : Bool
  pub task : ℕ
  pub release : ℕ
  pub due : ℕ
  pub ops : List Op

-- the jobs and collections, with the one that an event brought if it was taken
abbrev pub with_taken : Event → Reply → List Job → List Job
with_taken (events.Submit task release due ops) (replies.Taken number) earlier =
    earlier ++ record { number = number; collects = false; task = task; release = release; due = due; ops = ops } ∷ []
with_taken (events.Collect task release due) (replies.Taken number) earlier =
    earlier ++ record { number = number; collects = true; task = task; release = release; due = due; ops = [] } ∷ []
with_taken _ _ earlier = earlier

-- the jobs and collections in the order in which they were taken
abbrev pub jobs : Log → List Job
jobs [] = []
jobs (e ∷ past) = with_taken e.event e.reply (jobs past)

abbrev pub job_at : Log → ℕ → Option Job
job_at log number = slice_get (jobs log) number

-- what a slot carried: nothing, or an act of a job or a collection
abbrev pub Carried : Type 0
Carried = Option (ℕ × Act)

abbrev pub with_slot : Reply → List Carried → List Carried
with_slot (replies.Slot s) earlier = earlier ++ s.ran ∷ []
with_slot _ earlier = earlier

-- what was carried, by slot
abbrev pub carried_slots : Log → List Carried
carried_slots [] = []
carried_slots (e ∷ past) = with_slot e.reply (carried_slots past)

-- the present slot
abbrev pub now : Log → ℕ
now log = length (carried_slots log)

abbrev pub with_waived : Reply → List Waived → List Waived
with_waived (replies.Slot s) earlier = earlier ++ s.waived
with_waived _ earlier = earlier

-- the waived collections
abbrev pub waived_collections : Log → List Waived
waived_collections [] = []
waived_collections (e ∷ past) = with_waived e.reply (waived_collections past)

abbrev pub is_waived : Log → ℕ → Bool
is_waived log number = list_any (λ w. w.number == number) (waived_collections log)

-- the act, if the slot carried one of this number
abbrev pub act_of : ℕ → Carried → Option Act
act_of number None = None
act_of number (Some (n, act)) = if n == number then Some act else None

-- the acts of one job or collection, in order
abbrev pub acts : ℕ → Log → List Act
acts number log = filter_map (λ c. act_of number c) (carried_slots log)

-- how many slots it took so far
abbrev pub work : ℕ → Log → ℕ
work number log = length (acts number log)
