-- How the events of a run go on, row by row.
use Rattle.std.proofs.Common.{◌≡◌, ℕ, zero, suc, ◌+◌, ◌-◌, ◌<◌, ◌≤◌, ◌⊎◌, List, [], ◌∷◌, ◌++◌, refl, ap, sym, ◌∙◌}
use Rattle.std.proofs.Common.{map, max, min, replicate, append_assoc, arith, inl, inr}
use Rattle.std.proofs.lemmas.List.{replicate_more}
use Rattle.slot_types.specs.Arriving.{arrivals_by, arrivals_after}
use Rattle.slot_types.proofs.Arriving.{arrived_one, arrived_none, later_one, later_none}
use Rattle.slot_types.specs.declared.events.Event.{Event}
use Rattle.slot_types.specs.declared.events.Event.TheVariants as events
use Rattle.script_texts.specs.declared.script_rows.ScriptItem.{ScriptItem}
use Rattle.task_script.specs.DieRuns.{Row, Slot, calls_from, row_slot}
use Rattle.task_script.specs.PlannedRuns.{event_of}
use Rattle.flashplan_arrivals.specs.Steps.{later_events}

-- Slots

pub slots_more : (base evs more : List Event) (from now : ℕ) → from ≤ now → evs ≡ base ++ replicate (now - from) events.Slot → more ≡ evs
    ++ events.Slot ∷ []
    → more ≡ base ++ replicate (now + 1 - from) events.Slot
slots_more base evs more from now h so_far one =
    let next : now + 1 - from ≡ (now - from) + 1 = omega arith in
    one
    ∙ (ap (λ (l : List Event). l ++ events.Slot ∷ []) so_far
    ∙ (append_assoc base (replicate (now - from) events.Slot) (events.Slot ∷ [])
    ∙ ap (λ (l : List Event). base ++ l) (replicate_more (now - from) events.Slot ∙ ap (λ n. replicate n events.Slot) (sym next))))

-- Rows

abbrev events_from : ℕ → ℕ → List ScriptItem → List Event
events_from now left rows = map event_of (calls_from now left rows)

-- a row that is due, or that comes when no slot is left, is next
due_next : (now left : ℕ) (item : ScriptItem) (rest : List ScriptItem) → (item.at ≤ now) ⊎ (left ≡ 0) → events_from now left (item ∷ rest)
    ≡ item.event ∷ events_from now left rest
due_next now zero item rest h = refl
due_next now (suc left) item rest (inl by) =
    ap (λ (due : List ScriptItem). map event_of (map Row due ++ Slot ∷ calls_from (now + 1) left (arrivals_after row_slot now (item ∷ rest))))
    (arrived_one row_slot now item rest by)
    ∙ ap (λ (later : List ScriptItem).
    item.event ∷ map event_of (map Row (arrivals_by row_slot now rest) ++ Slot ∷ calls_from (now + 1) left later))
    (later_one row_slot now item rest by)
due_next now (suc left) item rest (inr none) = absurd (omega arith)

-- before a row that isn't due a slot is next
slot_next : (now left : ℕ) (item : ScriptItem) (rest : List ScriptItem) → now < item.at → events_from now (suc left) (item ∷ rest)
    ≡ events.Slot ∷ events_from (now + 1) left (item ∷ rest)
slot_next now left item rest later =
    ap (λ (due : List ScriptItem). map event_of (map Row due ++ Slot ∷ calls_from (now + 1) left (arrivals_after row_slot now (item ∷ rest))))
    (arrived_none row_slot now item rest later)
    ∙ ap (λ (more : List ScriptItem). events.Slot ∷ map event_of (calls_from (now + 1) left more)) (later_none row_slot now item rest later)

slots_next : (k now left after rest_slots : ℕ) (item : ScriptItem) (rest : List ScriptItem) → now + k ≡ after → after ≤ item.at
    → k + rest_slots ≡ left
    → events_from now left (item ∷ rest) ≡ replicate k events.Slot ++ events_from after rest_slots (item ∷ rest)
slots_next zero now left after rest_slots item rest at by all =
    let here : now ≡ after = omega arith in
    let same : left ≡ rest_slots = omega arith in
    ap (λ n. events_from n left (item ∷ rest)) here ∙ ap (λ n. events_from after n (item ∷ rest)) same
slots_next (suc k) now zero after rest_slots item rest at by all = absurd (omega arith)
slots_next (suc k) now (suc left) after rest_slots item rest at by all =
    slot_next now left item rest (omega arith)
    ∙ ap (λ (l : List Event). events.Slot ∷ l) (slots_next k (now + 1) left after rest_slots item rest (omega arith) by (omega arith))

pub order : (m n : ℕ) → (m ≤ n) ⊎ (n < m)
order zero n = inl (omega arith)
order (suc m) zero = inr (omega arith)
order (suc m) (suc n) = elim (order m n) [ inl h ↦ inl (omega arith) | inr h ↦ inr (omega arith) ]

-- once the slots before a row were carried out, it is due, or no slot is left
due_then : (slots now to at : ℕ) → now ≤ slots → to ≡ max (min at slots) now → (at ≤ slots) ⊎ (slots < at) → (at ≤ to) ⊎ (slots - to ≡ 0)
due_then slots now to at within reached (inl h) = inl (omega arith)
due_then slots now to at within reached (inr h) = inr (omega arith)

row_reached : (slots now to : ℕ) (item : ScriptItem) (rest : List ScriptItem) → now ≤ slots → to ≡ max (min item.at slots) now
    → (to ≤ item.at) ⊎ (item.at < to)
    → events_from now (slots - now) (item ∷ rest) ≡ replicate (to - now) events.Slot ++ events_from to (slots - to) (item ∷ rest)
row_reached slots now to item rest within reached (inl before) =
    slots_next (to - now) now (slots - now) to (slots - to) item rest (omega arith) before (omega arith)
row_reached slots now to item rest within reached (inr past) =
    let none : to - now ≡ 0 = omega arith in
    let same : now ≡ to = omega arith in
    ap (λ n. events_from n (slots - n) (item ∷ rest)) same
    ∙ ap (λ n. replicate n events.Slot ++ events_from to (slots - to) (item ∷ rest)) (sym none)

-- the slots before a row, and the row
row_next : (slots now to : ℕ) (item : ScriptItem) (rest : List ScriptItem) → now ≤ slots → to ≡ max (min item.at slots) now
    → later_events slots now (item ∷ rest) ≡ replicate (to - now) events.Slot ++ item.event ∷ later_events slots to rest
row_next slots now to item rest within reached =
    row_reached slots now to item rest within reached (order to item.at)
    ∙ ap (λ (l : List Event). replicate (to - now) events.Slot ++ l)
    (due_next to (slots - to) item rest (due_then slots now to item.at within reached (order item.at slots)))

pub row_added : (slots now to : ℕ) (item : ScriptItem) (old mid new : List Event) → now ≤ slots → to ≡ max (min item.at slots) now
    → mid ≡ old ++ replicate (to - now) events.Slot → new ≡ mid ++ item.event ∷ []
    → (rest : List ScriptItem) → old ++ later_events slots now (item ∷ rest) ≡ new ++ later_events slots to rest
row_added slots now to item old mid new within reached carried added rest =
    ap (λ (l : List Event). old ++ l) (row_next slots now to item rest within reached)
    ∙ (sym (append_assoc old (replicate (to - now) events.Slot) (item.event ∷ later_events slots to rest))
    ∙ (ap (λ (l : List Event). l ++ item.event ∷ later_events slots to rest) (sym carried)
    ∙ (sym (append_assoc mid (item.event ∷ []) (later_events slots to rest))
    ∙ ap (λ (l : List Event). l ++ later_events slots to rest) (sym added))))

-- without a row all that is left are slots
no_row : (left now : ℕ) → events_from now left [] ≡ replicate left events.Slot
no_row zero now = refl
no_row (suc left) now = ap (λ (l : List Event). events.Slot ∷ l) (no_row left (now + 1))

pub rows_over : (slots now : ℕ) (all old new : List Event) → all ≡ old ++ later_events slots now [] → new ≡ old
    ++ replicate (slots - now) events.Slot → new ≡ all
rows_over slots now all old new is carried = carried ∙ (ap (λ (l : List Event). old ++ l) (sym (no_row (slots - now) now)) ∙ sym is)
