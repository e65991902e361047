-- What the slots of a log carried, read off its notes.
use Rattle.std.specs.Prelude.{ℕ, List, [], ◌∷◌, ◌++◌, Option, Some, None}
use Rattle.late_cert.specs.Schedule.{Slots}
use Rattle.event_log.specs.declared.deeds.Deed.{Deed}
use Rattle.event_log.specs.declared.deeds.Deed.TheVariants.{Submit, Collect, Idle, Operation, LastOperation}
use Rattle.event_log.specs.declared.deeds.Deed.TheVariants.{CopyRead, CopyProgram, EraseSlot, LastEraseSlot}
use Rattle.event_log.specs.Notes.{Note}

-- whom a slot carried, or nothing where it was idle; an arrival is no slot
abbrev pub slot_by : Deed → Option (Option ℕ)
slot_by (Submit number) = None
slot_by (Collect number) = None
slot_by Idle = Some None
slot_by (Operation number place) = Some (Some number)
slot_by (LastOperation number place) = Some (Some number)
slot_by (CopyRead number page) = Some (Some number)
slot_by (CopyProgram number page) = Some (Some number)
slot_by (EraseSlot number block) = Some (Some number)
slot_by (LastEraseSlot number block) = Some (Some number)

-- the slots with one more, if it was one
abbrev pub with_carried : Slots → Option (Option ℕ) → Slots
with_carried slots None = slots
with_carried slots (Some carried) = slots ++ carried ∷ []

-- what the slots of these notes carried, by slot
abbrev pub carried_in : List Note → Slots
carried_in [] = []
carried_in (s ∷ past) = with_carried (carried_in past) (slot_by s.deed)
