-- What the rows of a script are to a die that keeps its plan.
use Rattle.std.specs.Prelude.{ℕ, zero, suc, ◌+◌, ◌-◌, ◌==◌, ◌&&◌, nat_lt, not, max, Bool, List, [], ◌∷◌, ◌++◌, length, if◌then◌else◌}
use Rattle.std.specs.Prelude.{Option, Some, None, option_map}
use Rattle.slot_types.specs.declared.events.Event.{Event}
use Rattle.slot_types.specs.declared.events.Event.TheVariants as events
use Rattle.demand_rules.specs.declared.terms.Terms.{Terms}
use Rattle.demand_rules.specs.Demand.{terms_of}
use Rattle.die_log.specs.Model.Log.{now}
use Rattle.planned_log.specs.declared.ask_kinds.AskKind.TheVariants as kinds
use Rattle.planned_log.specs.Asks.{ask_refusal}
use Rattle.planned_log.specs.Moves.{Move, Ask, Slot}
use Rattle.script_texts.specs.declared.script_rows.ScriptItem.{ScriptItem}
use Rattle.flashplan_kept_runs.specs.declared.refusals.RowRefusal.{RowRefusal}
use Rattle.flashplan_kept_runs.specs.declared.refusals.RowRefusal.TheVariants as rows
use Rattle.flashplan_kept_runs.specs.KeptDies.{KeptDie}

-- The row of a job that comes in this slot says other times than the plan gives a job of its task: that is released in
-- its slot, and due as many slots later as the terms say. Of a task that isn't there the plan says none.
abbrev pub has_other_times : Terms → (slot task release due : ℕ) → Bool
has_other_times terms slot task release due =
    nat_lt task (length terms.tasks) && not (release == slot && due == slot + (terms_of terms task).deadline)

-- why a die refuses a row, if it does; that of a collection isn't asked for
abbrev pub row_refusal : KeptDie → Event → Option RowRefusal
row_refusal die (events.Submit task release due ops) =
    let begun = die.begun in
    if has_other_times begun.terms (now die.log) task release due then Some rows.OtherTimes
    else option_map rows.Ask (ask_refusal begun.start.plan begun.terms begun.life [] die.log task ops)
row_refusal die _ = None

-- what a row moves in a slot: a job with the times of the plan is an ask of its task, and there is no other move
abbrev pub row_moves : Terms → ℕ → Event → List Move
row_moves terms slot (events.Submit task release due ops) =
    if has_other_times terms slot task release due then [] else Ask kinds.Job 0 task ops ∷ []
row_moves terms slot _ = []

-- a number of slots, one after the other
abbrev pub slot_moves : ℕ → List Move
slot_moves zero = []
slot_moves (suc more) = Slot 0 ∷ slot_moves more

-- the slot in which a die is that was in this one and took rows
abbrev pub slot_after : ℕ → List ScriptItem → ℕ
slot_after slot [] = slot
slot_after slot (item ∷ items) = slot_after (max item.at slot) items

-- rows from a slot on: before each come the slots up to its own
abbrev pub rows_moves : Terms → ℕ → List ScriptItem → List Move
rows_moves terms slot [] = []
rows_moves terms slot (item ∷ items) =
    let here = max item.at slot in
    slot_moves (item.at - slot) ++ row_moves terms here item.event ++ rows_moves terms here items

-- the rows, and then the slots up to this one
abbrev pub run_moves : Terms → List ScriptItem → ℕ → List Move
run_moves terms items slots = rows_moves terms 0 items ++ slot_moves (slots - slot_after 0 items)
