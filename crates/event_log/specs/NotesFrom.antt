-- Notes in order, from one of them on.
use Rattle.std.specs.Prelude.{◌≡◌, ℕ, ◌+◌, ◌<◌, ◌^◌, List, [], ◌∷◌, ◌++◌, length, replicate}
use Rattle.event_log.specs.declared.deeds.Deed.{Deed}
use Rattle.event_log.specs.declared.runs.Run.{Run}
use Rattle.event_log.specs.declared.waivers.Waiver.{Waiver}
use Rattle.event_log.specs.Waivers.{waived_at}
use Rattle.event_log.specs.Notes.{Note}
use Rattle.event_log.specs.Spread.{spread}
use Rattle.event_log.specs.SoundLog.{AreFrom, AreInOrder}

-- the notes of these deeds and callers, both oldest first, of which the first has this place
abbrev pub notes_on : ℕ → List Deed → List ℕ → List Waiver → List Note
notes_on place [] callers waivers = []
notes_on place (d ∷ ds) [] waivers = []
notes_on place (d ∷ ds) (c ∷ cs) waivers = record { caller = c; deed = d; waived = waived_at place waivers } ∷ notes_on (place + 1) ds cs waivers

-- each deed has its caller, the waivers are of these events or later ones, and in their order
pub record IsSoundRest (place : ℕ) (deeds : List Deed) (callers : List ℕ) (waivers : List Waiver) : Type 0 where
  pub callers_are : length callers ≡ length deeds
  pub few : place + length deeds < 2 ^ 32
  pub from : AreFrom place waivers
  pub ordered : AreInOrder waivers

-- Items of runs

-- the items of runs, of the first of which `left` are left
abbrev pub items_left : {T : Type 0} → ℕ → List (Run T) → List T
items_left left [] = []
items_left left (r ∷ rs) = replicate left r.item ++ spread rs

-- where there is a run, an item of it is left
abbrev pub IsSomeLeft : {T : Type 0} → ℕ → List (Run T) → Type 0
IsSomeLeft left [] = Unit {0}
IsSomeLeft left (r ∷ rs) = 0 < left

abbrev pub first_count : {T : Type 0} → List (Run T) → ℕ
first_count [] = 0
first_count (r ∷ rs) = r.count
