-- Records: successive events, of which one record stands for all that are alike.
use Rattle.std.specs.Prelude.{◌≡◌, ℕ, ◌+◌, ◌==◌, ◌&&◌, Bool, true, false, List, [], ◌∷◌, Option, Some, None}
use Rattle.event_log.specs.declared.deeds.Deed.{Deed}
use Rattle.event_log.specs.declared.deeds.Deed.TheVariants.{Idle, EraseSlot}
use Rattle.event_log.specs.Notes.{Note, is_none}

abbrev pub is_idle : Deed → Bool
is_idle Idle = true
is_idle _ = false

-- a slot in the erase of this block by this collection, with more to come
abbrev pub erases_block : ℕ → ℕ → Deed → Bool
erases_block number block (EraseSlot n b) = (number == n) && (block == b)
erases_block number block _ = false

-- both idle, or both in one erase, with more to come
abbrev pub alike_deeds : Deed → Deed → Bool
alike_deeds Idle other = is_idle other
alike_deeds (EraseSlot n block) other = erases_block n block other
alike_deeds _ other = false

-- no later event counts as one record with it
abbrev pub stands_alone : Deed → Bool
stands_alone Idle = false
stands_alone (EraseSlot n block) = false
stands_alone _ = true

abbrev pub newest_stands_alone : List Note → Bool
newest_stands_alone [] = false
newest_stands_alone (s ∷ past) = stands_alone s.deed

-- two successive slots that count as one record
abbrev pub alike_notes : Note → Note → Bool
alike_notes s t = (s.caller == t.caller) && is_none s.waived && is_none t.waived && alike_deeds s.deed t.deed

-- how many records the newest event adds to those of the past: none if it goes on with the last one
abbrev pub new_records : Bool → ℕ
new_records true = 0
new_records false = 1

-- how many records the events take, the newest first: maximal runs of alike events
abbrev pub records_with : Note → List Note → ℕ
records_with s [] = 1
records_with s (t ∷ past) = new_records (alike_notes s t) + records_with t past

abbrev pub records : List Note → ℕ
records [] = 0
records (s ∷ past) = records_with s past

abbrev pub is_some_number : Option ℕ → ℕ → Bool
is_some_number None number = false
is_some_number (Some n) number = number == n

-- it goes on with the newest record
abbrev pub goes_on : Note → List Note → Bool
goes_on s [] = false
goes_on s (t ∷ past) = alike_notes s t

-- Runs of callers

-- an event is by the caller of the newest
abbrev pub has_same_caller : Note → List Note → Bool
has_same_caller s [] = false
has_same_caller s (t ∷ past) = s.caller == t.caller

-- how many maximal runs of one caller the events have
abbrev pub caller_runs : List Note → ℕ
caller_runs [] = 0
caller_runs (s ∷ past) = new_records (has_same_caller s past) + caller_runs past
