-- What is always true of the parts of a log.
use Rattle.std.specs.Prelude.{◌≡◌, ℕ, ◌+◌, ◌<◌, ◌≤◌, ◌^◌, Bool, true, List, [], ◌∷◌, Some, length, reverse, take}
use Rattle.std.specs.List.{AllByRecursion, filter_map}
use Rattle.event_log.specs.declared.deeds.Deed.{Deed}
use Rattle.event_log.specs.declared.waivers.Waiver.{Waiver}
use Rattle.event_log.specs.Notes.{Note, notes_of, waives_newest}
use Rattle.event_log.specs.Slots.{slot_by}
use Rattle.event_log.specs.Spread.{last_of}
use Rattle.event_log.specs.NoteRecords.{caller_runs, records, stands_alone}

-- the waivers are of events that were before this place
abbrev pub AreBefore : ℕ → List Waiver → Type 0
AreBefore place waivers = AllByRecursion (λ w. w.event < place) waivers

-- the waivers are of events at this place or after it
abbrev pub AreFrom : ℕ → List Waiver → Type 0
AreFrom place waivers = AllByRecursion (λ w. place ≤ w.event) waivers

-- the waivers stand in the order of their events
abbrev pub AreInOrder : List Waiver → Type 0
AreInOrder [] = Unit {0}
AreInOrder (w ∷ ws) = AreFrom w.event ws × AreInOrder ws

abbrev pub notes_in : List Deed → List ℕ → List Waiver → List Note
notes_in deeds callers waivers = notes_of (reverse deeds) (reverse callers) waivers

-- each event has its caller, no waiver is of a later event, waivers stand in order, each run of like events is kept once,
-- and so is each run of one caller
pub record IsSoundLog (deeds : List Deed) (callers : List ℕ) (waivers : List Waiver) (len kept callers_kept : ℕ) (waives : Bool) : Type 0 where
  pub len_is : len ≡ length deeds
  pub few : len < 2 ^ 32
  pub callers_are : length callers ≡ length deeds
  pub before : AreBefore len waivers
  pub ordered : AreInOrder waivers
  pub kept_is : kept ≡ records (notes_in deeds callers waivers)
  pub callers_kept_is : callers_kept ≡ caller_runs (notes_in deeds callers waivers)
  pub waives_is : waives ≡ waives_newest (notes_in deeds callers waivers)

-- how many of the first deeds were slots
abbrev pub slots_before : ℕ → List Deed → ℕ
slots_before marked deeds = length (filter_map slot_by (take marked deeds))

-- the mark is within the deeds, and where it is their end, no later event counts as one record with the last; callers
-- have none
pub record IsMarked (deeds : List Deed) (marked callers_marked : ℕ) : Type 0 where
  pub within : marked ≤ length deeds
  pub alone : (d : Deed) → marked ≡ length deeds → last_of deeds ≡ Some d → stands_alone d ≡ true
  pub no_callers : callers_marked ≡ 0

-- the parts have the room that is promised: of events, of which they keep the deed and the caller; and of waivers
pub record HasPromisedRoom (room waiver_room deeds_room callers_room waivers capacity : ℕ) : Type 0 where
  pub deeds : room ≤ deeds_room
  pub callers : room ≤ callers_room
  pub waivers_fit : waivers + waiver_room ≤ capacity

-- where they are empty they have what is promised for then, which is no less
pub record HasPromisedMemory (room waiver_room memory waiver_memory deeds_memory callers_memory capacity : ℕ) : Type 0 where
  pub deeds : memory ≤ deeds_memory
  pub callers : memory ≤ callers_memory
  pub waivers : waiver_memory ≤ capacity
  pub lasts : room ≤ memory
  pub waivers_last : waiver_room ≤ waiver_memory
