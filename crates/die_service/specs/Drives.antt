-- How far a worker is with a die, and what it has asked of it on the way.
use Rattle.std.specs.Prelude.{◌≡◌, ℕ, ◌+◌, ◌≤◌, List, [], ◌∷◌, Option, None}
use Rattle.slot_types.specs.declared.events.Event.{Event}
use Rattle.slot_types.specs.declared.events.Op.{Op}
use Rattle.slot_types.specs.Arrivals.{IsArrival}
use Rattle.slot_types.specs.Arriving.{arrivals_by, arrivals_after}
use Rattle.die_service.specs.declared.ends.DieEnd.{DieEnd}
use Rattle.die_service.specs.declared.ends.RefusedEvent.{RefusedEvent}
use Rattle.die_service.specs.declared.feeds.Arrival.{Arrival}
use Rattle.die_service.specs.declared.refused.RefusedAt.{RefusedAt}
use Rattle.die_service.specs.Runs.{AskedEvent, comes_at, place_beyond}

-- The events of a feed that are still to come, how many came, the operations of the last of these, and those of them
-- that were refused
pub record Course : Type 0 where
  pub rest : List Arrival
  pub place : ℕ
  pub ops : List Op
  pub refused : List RefusedEvent

-- a feed of which nothing came
abbrev pub whole_course : List Arrival → Course
whole_course feed = record { rest = feed; place = 0; ops = []; refused = [] }

-- How far a worker is with a die: what it calls, its feed, how many slots were carried out, and why one was refused
pub record WorkerState (W : Type 0) : Type 0 where
  pub work : W
  pub course : Course
  pub slots : ℕ
  pub stop : Option RefusedAt

module _ {W : Type 0} where
  -- before anything was asked
  abbrev pub first_state : W → Course → WorkerState W
  first_state work course = record { work = work; course = course; slots = 0; stop = None }

  abbrev pub IsFirstState : WorkerState W → Type 0
  IsFirstState s = s ≡ first_state s.work s.course

  -- what came of it
  abbrev pub end_at : WorkerState W → DieEnd
  end_at s = record { slots = s.slots; refused = s.course.refused; stop = s.stop }

-- the place of the next event after these
abbrev pub place_after : ℕ → List AskedEvent → ℕ
place_after place [] = place
place_after place (s ∷ saids) = place_after (place_beyond s.event place) saids

-- the next event of a feed came by the clock
pub record Comes (clock : ℕ) (c : Course) (event : Event) (d : Course) : Type 0 where
  pub arrival : Arrival
  pub event_is : event ≡ arrival.event
  pub by : arrival.at ≤ clock
  pub arrives : IsArrival event
  pub rest : c.rest ≡ arrival ∷ d.rest
  pub place : d.place ≡ c.place + 1
  pub refused : d.refused ≡ c.refused

-- no event is left that comes by the clock
abbrev pub NoneDue : ℕ → List Arrival → Type 0
NoneDue clock rest = (arrivals_by comes_at clock rest ≡ []) × (arrivals_after comes_at clock rest ≡ rest)
