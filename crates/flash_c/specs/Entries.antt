-- The log by entries, as C has it.
use Rattle.std.specs.Prelude.{◌≡◌, ◌==◌, if◌then◌else◌, Bool, false, ℕ, List, [], ◌∷◌, length}
use Rattle.slot_types.specs.declared.replies.Waived.{Waived}
use Rattle.event_log.specs.declared.deeds.Deed.{Deed}
use Rattle.event_log.specs.declared.deeds.Deed.TheVariants as deeds
use Rattle.event_log.specs.Notes.{Note}
use Rattle.die_log.specs.Model.Log.{Log}
use Rattle.slot_core.specs.Readings.{TellsRest}
use Rattle.flash_c.specs.declared.shapes.FlashEntry.{FlashEntry}
use Rattle.flash_c.specs.declared.shapes.FlashWaived.{FlashWaived}
use Rattle.flash_c.specs.Counts.{count_of}
use Rattle.flash_c.specs.Lists.{array_with}
use Rattle.flash_c.specs.Slots.{waived_of}

-- the number of what an entry is of
abbrev pub what_of : Deed → ℕ
what_of (deeds.Submit number) = 0
what_of (deeds.Collect number) = 1
what_of deeds.Idle = 2
what_of (deeds.Operation number place) = 3
what_of (deeds.LastOperation number place) = 4
what_of (deeds.CopyRead number page) = 5
what_of (deeds.CopyProgram number page) = 6
what_of (deeds.EraseSlot number block) = 7
what_of (deeds.LastEraseSlot number block) = 8

-- its job or collection
abbrev pub job_of : Deed → ℕ
job_of (deeds.Submit number) = number
job_of (deeds.Collect number) = number
job_of deeds.Idle = 0
job_of (deeds.Operation number place) = number
job_of (deeds.LastOperation number place) = number
job_of (deeds.CopyRead number page) = number
job_of (deeds.CopyProgram number page) = number
job_of (deeds.EraseSlot number block) = number
job_of (deeds.LastEraseSlot number block) = number

-- the place of its operation, its page or its block
abbrev pub at_of : Deed → ℕ
at_of (deeds.Submit number) = 0
at_of (deeds.Collect number) = 0
at_of deeds.Idle = 0
at_of (deeds.Operation number place) = place
at_of (deeds.LastOperation number place) = place
at_of (deeds.CopyRead number page) = page
at_of (deeds.CopyProgram number page) = page
at_of (deeds.EraseSlot number block) = block
at_of (deeds.LastEraseSlot number block) = block

abbrev pub entry_of : Note → FlashEntry
entry_of note = record {
  what = what_of note.deed;
  caller = note.caller;
  job = job_of note.deed;
  at = at_of note.deed;
  waived = count_of (length note.waived);
}

-- the notes of a log from this one on are put into an array, as far as there is room
pub record SaysEntries (log : Log) (from : ℕ) (room said : List FlashEntry) : Type 0 where
  pub notes : List Note
  pub told : TellsRest log from notes
  pub said_is : said ≡ array_with entry_of room notes

-- a job or collection of this number was accepted
abbrev pub accepts : ℕ → Deed → Bool
accepts number (deeds.Submit own) = own == number
accepts number (deeds.Collect own) = own == number
accepts number _ = false

-- who submitted it; 0 where none of these notes did
abbrev pub caller_in : List Note → ℕ → ℕ
caller_in [] number = 0
caller_in (note ∷ rest) number = if accepts number note.deed then note.caller else caller_in rest number

-- the log's own entry says who submitted the job or collection of this number
pub record SaysCaller (log : Log) (number caller : ℕ) : Type 0 where
  pub notes : List Note
  pub told : TellsRest log 0 notes
  pub caller_is : caller ≡ caller_in notes number

-- what the first of these notes waived
abbrev pub first_waived : List Note → List Waived
first_waived [] = []
first_waived (note ∷ rest) = note.waived

-- the collections that were waived in this entry's slot are put into an array, as far as there is room
pub record SaysWaivers (log : Log) (entry : ℕ) (room said : List FlashWaived) : Type 0 where
  pub notes : List Note
  pub told : TellsRest log entry notes
  pub said_is : said ≡ array_with waived_of room (first_waived notes)
