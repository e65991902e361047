-- The events of a feed as flat rows, with the operations of all jobs one after another.
use Rattle.std.specs.Prelude.{◌≡◌, ℕ, zero, suc, ◌-◌, ◌≤◌, nat_le, Bool, true, false, not, ◌&&◌, ⊤, List, [], ◌∷◌, take, drop}
use Rattle.std.specs.Prelude.{Option, Some, None, slice_get}
use Rattle.slot_types.specs.declared.events.Event.{Event}
use Rattle.slot_types.specs.declared.events.Event.TheVariants as events
use Rattle.slot_types.specs.declared.events.Op.{Op}
use Rattle.slot_types.specs.Arrivals.{IsArrival}
use Rattle.slot_types.specs.Operations.{writes}
use Rattle.slot_core.specs.declared.events.EventHead.{EventHead}
use Rattle.slot_core.specs.declared.events.EventHead.TheVariants as heads
use Rattle.slot_core.specs.Events.{with_ops}
use Rattle.die_service.specs.declared.feeds.Arrival.{Arrival}
use Rattle.die_service.specs.declared.feeds.FeedRow.{FeedRow}

-- the operations of an event: none, where it isn't a job
abbrev pub ops_in : Event → List Op
ops_in (events.Submit task release due ops) = ops
ops_in _ = []

abbrev pub ops_if : Option Arrival → List Op
ops_if None = []
ops_if (Some arrival) = ops_in arrival.event

-- the operations of the event at a place of a feed, if there is one
abbrev pub ops_at : List Arrival → ℕ → List Op
ops_at feed place = ops_if (slice_get feed place)

-- the operations of the last of a number of events that came
abbrev pub last_ops : ℕ → List Arrival → List Op
last_ops zero feed = []
last_ops (suc place) feed = ops_at feed place

-- what a run is to be given: no event is a slot, and the slots before which they come never fall, from this one on
abbrev pub IsInOrder : ℕ → List Arrival → Type 0
IsInOrder from [] = ⊤
IsInOrder from (arrival ∷ feed) = IsArrival arrival.event × (from ≤ arrival.at) × IsInOrder arrival.at feed

-- Rows

-- the operations from one place to another
abbrev pub ops_between : List Op → ℕ → ℕ → List Op
ops_between ops first last = take (last - first) (drop first ops)

-- what a row stands for whose operations begin at this place
abbrev pub arrival_at : List Op → ℕ → FeedRow → Arrival
arrival_at ops first row = record { at = row.at; event = with_ops row.head (ops_between ops first row.ops_end) }

-- what rows stand for: the operations of the first begin at this place, and those of each other one where those before
-- it end
abbrev pub feed_from : List Op → ℕ → List FeedRow → List Arrival
feed_from ops first [] = []
feed_from ops first (row ∷ rows) = arrival_at ops first row ∷ feed_from ops row.ops_end rows

-- where the operations of the row of a place begin
abbrev pub begins_at : ℕ → List FeedRow → ℕ → ℕ
begins_at first rows zero = first
begins_at first [] (suc place) = first
begins_at first (row ∷ rows) (suc place) = begins_at row.ops_end rows place

-- how many operations before those of the row of a place write
abbrev pub writes_before : ℕ → List FeedRow → ℕ → ℕ
writes_before first rows zero = first
writes_before first [] (suc place) = first
writes_before first (row ∷ rows) (suc place) = writes_before row.writes_end rows place

-- where the operations of the rows end
abbrev pub last_end : ℕ → List FeedRow → ℕ
last_end first [] = first
last_end first (row ∷ rows) = last_end row.ops_end rows

-- no row's operations end before they begin, and `writes_end` counts the writes before their end
abbrev pub AreRowsOf : List Op → ℕ → List FeedRow → Type 0
AreRowsOf ops first [] = ⊤
AreRowsOf ops first (row ∷ rows) =
    (first ≤ row.ops_end) × (row.writes_end ≡ writes (take row.ops_end ops)) × AreRowsOf ops row.ops_end rows

-- it is the head of a job
abbrev pub is_job : EventHead → Bool
is_job (heads.Arrive head) = not head.collects
is_job heads.Slot = false

-- it is no slot
abbrev pub arrives : EventHead → Bool
arrives (heads.Arrive head) = true
arrives heads.Slot = false

-- the rows are of a feed that a run may be given
abbrev pub follows : ℕ → FeedRow → Bool
follows from row = arrives row.head && nat_le from row.at

abbrev pub all_follow : ℕ → List FeedRow → Bool
all_follow from [] = true
all_follow from (row ∷ rows) = follows from row && all_follow row.at rows
