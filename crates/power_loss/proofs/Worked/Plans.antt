-- A die of four blocks for five pages, and calls for it.
use Rattle.std.proofs.Common.{ℕ, ◌+◌, List, [], ◌∷◌, ◌++◌, replicate, None}
use Rattle.slot_types.specs.declared.plans.DiePlan.{DiePlan}
use Rattle.slot_types.specs.declared.pages.PageData.{PageData}
use Rattle.slot_types.specs.declared.events.Op.{Op}
use Rattle.slot_types.specs.declared.events.Op.TheVariants.{Write, Trim}
use Rattle.slot_types.specs.declared.events.Event.{Event}
use Rattle.slot_types.specs.declared.events.Event.TheVariants.{Submit, Collect, Slot}
use Rattle.die_log.specs.Model.Start.{Start, fresh}
use Rattle.die_log.specs.Model.Log.{Log}
use Rattle.die_log.specs.Model.Answers.{run}
use Rattle.power_loss.specs.Labels.{Labels, fresh_labels}

abbrev pub plan : DiePlan
plan = record { shape = record { blocks = 4; pages = 4; erase_slots = 3 }; logical = 5; alpha = 2; caps = 4 ∷ []; times = None }

abbrev pub start : Start
start = fresh plan

abbrev pub first : Labels
first = fresh_labels plan

-- a page of sixteen bytes of one value
abbrev pub bytes : ℕ → PageData
bytes b = record { 0 = replicate 16 b }

-- a write of a page's own number
abbrev pub put : ℕ → Op
put page = Write page (bytes page)

abbrev pub submit : ℕ → ℕ → List Op → ℕ × Event
submit release due ops = (0, Submit 0 release due ops)

abbrev pub collect : ℕ → ℕ → ℕ × Event
collect release due = (0, Collect 0 release due)

abbrev pub slot : ℕ × Event
slot = (0, Slot)

-- a collection that is waived in its slot, and a job that writes two pages in the two slots after it
abbrev pub filler : ℕ → ℕ → List (ℕ × Event)
filler at page =
    collect at (at + 1) ∷ slot ∷ submit (at + 1) (at + 3) (put page ∷ put 4 ∷ []) ∷ slot ∷ slot ∷ []

-- the blocks get the pages 0 1 4 4, 2 4 4 4, 3 4 4 4 and 4 4, where the third write is of page 4
abbrev pub calls_with : Op → List (ℕ × Event)
calls_with third =
    (submit 0 100 (put 0 ∷ put 1 ∷ third ∷ put 4 ∷ []) ∷ slot ∷ slot ∷ slot ∷ slot ∷ [])
    ++ (filler 4 2 ++ (filler 7 4 ++ (filler 10 3 ++ (filler 13 4 ++ filler 16 4))))

abbrev pub full_with : Op → Log
full_with third = run start [] (calls_with third)

abbrev pub full : Log
full = full_with (put 4)

-- after that page 2 is trimmed, and a collection does the first slot of the erase of block 1
abbrev pub trimmed_with : Op → Log
trimmed_with third = run start (full_with third) (submit 19 30 (Trim 2 ∷ []) ∷ slot ∷ collect 20 40 ∷ slot ∷ [])
