-- Notes: what a log keeps of its events, without the bytes that the jobs keep.
use Rattle.std.specs.Prelude.{ℕ, not, Bool, true, false, List, [], ◌∷◌, length}
use Rattle.slot_types.specs.declared.replies.Waived.{Waived}
use Rattle.event_log.specs.declared.waivers.Waiver.{Waiver}
use Rattle.event_log.specs.declared.deeds.Deed.{Deed}
use Rattle.event_log.specs.Waivers.{waived_at}

-- who called, what it did, and the collections that were waived in that slot
pub record Note : Type 0 where
  pub caller : ℕ
  pub deed : Deed
  pub waived : List Waived

-- the notes of these deeds and callers, both newest first, and of the waivers with the places of their events
abbrev pub notes_of : List Deed → List ℕ → List Waiver → List Note
notes_of [] callers waivers = []
notes_of (d ∷ ds) [] waivers = []
notes_of (d ∷ ds) (c ∷ cs) waivers = record { caller = c; deed = d; waived = waived_at (length ds) waivers } ∷ notes_of ds cs waivers

abbrev pub is_none : {T : Type 0} → List T → Bool
is_none [] = true
is_none (x ∷ xs) = false

-- the newest event waived a collection
abbrev pub waives_newest : List Note → Bool
waives_newest [] = false
waives_newest (s ∷ past) = not (is_none s.waived)

-- a log as contracts see it: its notes, the newest first, for how many more and for how many waivers there is room, for
-- how many of either there is room where it is empty, how many records of deeds it keeps, and how many slots there were
-- when it was marked
pub record Events : Type 0 where
  pub notes : List Note
  pub room : ℕ
  pub waiver_room : ℕ
  pub memory : ℕ
  pub waiver_memory : ℕ
  pub kept : ℕ
  pub marked : ℕ
