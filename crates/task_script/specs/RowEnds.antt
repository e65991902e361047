-- The rows of a die as the events of its feed, and what became of them by the events that the die refused.
use Rattle.std.specs.Prelude.{ℕ, ◌+◌, ◌==◌, if◌then◌else◌, List, [], ◌∷◌, map, Option, Some, None}
use Rattle.slot_types.specs.declared.refusals.Refusal.{Refusal}
use Rattle.die_service.specs.declared.ends.RefusedEvent.{RefusedEvent}
use Rattle.die_service.specs.declared.feeds.Arrival.{Arrival}
use Rattle.script_texts.specs.declared.script_rows.ScriptItem.{ScriptItem}
use Rattle.task_script.specs.declared.run_counts.RowEnd.{RowEnd}

abbrev pub arrival_of : ScriptItem → Arrival
arrival_of item = record { at = item.at; event = item.event }

abbrev pub arrivals_of : List ScriptItem → List Arrival
arrivals_of items = map arrival_of items

abbrev pub lines_of : List ScriptItem → List ℕ
lines_of items = map (λ (item : ScriptItem). item.line) items

-- the rows of a die with these lines, which bring these events
abbrev pub rows_of : ℕ → List ℕ → List Arrival → List ScriptItem
rows_of die (line ∷ lines) (arrival ∷ feed) = record { line = line; at = arrival.at; die = die; event = arrival.event }
    ∷ rows_of die lines feed
rows_of die _ _ = []

abbrev pub row_end : ℕ → Option Refusal → RowEnd
row_end line refusal = record { line = line; refusal = refusal }

-- of the rows with these lines, the first of which has this place in its feed: what became of each
abbrev pub ends_from : ℕ → List ℕ → List RefusedEvent → List RowEnd
ends_from place [] refused = []
ends_from place (line ∷ lines) [] = row_end line None ∷ ends_from (place + 1) lines []
ends_from place (line ∷ lines) (r ∷ refused) =
    if r.place == place then row_end line (Some r.refused.refusal) ∷ ends_from (place + 1) lines refused
    else row_end line None ∷ ends_from (place + 1) lines (r ∷ refused)

-- why the event of a place was refused, if the first of these was it, and those after it
abbrev pub taken_at : ℕ → List RefusedEvent → Option Refusal × List RefusedEvent
taken_at place [] = (None, [])
taken_at place (r ∷ refused) = if r.place == place then (Some r.refused.refusal, refused) else (None, r ∷ refused)
