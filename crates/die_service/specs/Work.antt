-- What a worker calls in a run: a die, and the hook around each slot.
use Rattle.std.specs.Prelude.{◌≡◌, ℕ, suc, ◌+◌, ◌≤◌, ◌++◌, List, [], ◌∷◌, drop, map, Option, Some, None, Result, Ok, Err}
use Rattle.std.specs.List.{FoldsTo}
use Rattle.slot_types.specs.Arrivals.{IsArrival}
use Rattle.slot_types.specs.Arriving.{arrivals_by, arrivals_after}
use Rattle.slot_types.specs.declared.events.Event.{Event}
use Rattle.slot_types.specs.declared.events.Event.TheVariants as events
use Rattle.slot_types.specs.declared.replies.Reply.{Reply}
use Rattle.slot_types.specs.declared.replies.Reply.TheVariants as replies
use Rattle.slot_types.specs.declared.replies.SlotReply.{SlotReply}
use Rattle.die_service.specs.declared.ends.DieEnd.{DieEnd}
use Rattle.die_service.specs.declared.feeds.Arrival.{Arrival}
use Rattle.die_service.specs.declared.refused.RefusedAt.{RefusedAt}
use Rattle.die_service.specs.Runs.{AskedEvent, asked_event, comes_at, AreAsked, InClockOrder, slots_in, refused_from, stop_of}
use Rattle.die_service.specs.Drives.{WorkerState, end_at, place_after}

-- Calls

-- the hook before a slot of a die; a die, with the event and its reply; the hook after a slot of a die
pub data WorkCall : Type 0 where
  Before : (die slot : ℕ) → WorkCall
  Asked : (said : AskedEvent) → WorkCall
  After : (die slot : ℕ) → WorkCall

-- the clock once this was asked
abbrev pub clock_beyond : ℕ → Event → Result Reply RefusedAt → ℕ
clock_beyond clock events.Slot (Ok (replies.Slot reply)) = reply.slot + 1
clock_beyond clock _ _ = clock

-- A slot that is carried out has the hook before it, with the clock, and after it, with its number. A refused slot has
-- the hook before it, and an event of the feed has none.
abbrev pub with_call : ℕ → ℕ → Event → Result Reply RefusedAt → List WorkCall → List WorkCall
with_call die clock events.Slot (Ok (replies.Slot reply)) more =
    Before die clock ∷ Asked (asked_event events.Slot (Ok (replies.Slot reply))) ∷ After die reply.slot ∷ more
with_call die clock events.Slot (Err refused) more = Before die clock ∷ Asked (asked_event events.Slot (Err refused)) ∷ more
with_call die clock event reply more = Asked (asked_event event reply) ∷ more

-- the calls for what is asked of a die from this clock on
abbrev pub calls_for : ℕ → ℕ → List AskedEvent → List WorkCall
calls_for die clock [] = []
calls_for die clock (s ∷ saids) = with_call die clock s.event s.reply (calls_for die (clock_beyond clock s.event s.reply) saids)

-- What comes of a die and of the work, where each call turns one work into the next as `does` says

module _ {W : Type 0} (does : W → WorkCall → W → Type 0) where
  -- these were asked, by these calls: the feed is so much shorter, and those of it that were refused are noted
  pub record Asks (calls : List WorkCall) (s : WorkerState W) (saids : List AskedEvent) (t : WorkerState W) : Type 0 where
    pub made : FoldsTo does s.work calls t.work
    pub place : t.course.place ≡ place_after s.course.place saids
    pub rest : t.course.rest ≡ drop (place_after 0 saids) s.course.rest
    pub refused : t.course.refused ≡ s.course.refused ++ refused_from s.course.place saids

  -- the next event of the feed came by the clock, and was asked
  pub record WorksOne (clock : ℕ) (s t : WorkerState W) : Type 0 where
    pub arrival : Arrival
    pub by : arrival.at ≤ clock
    pub arrives : IsArrival arrival.event
    pub next : s.course.rest ≡ arrival ∷ t.course.rest
    pub reply : Result Reply RefusedAt
    pub asks : let said = asked_event arrival.event reply in Asks (Asked said ∷ []) s (said ∷ []) t
    pub slots : t.slots ≡ s.slots
    pub stop : t.stop ≡ s.stop

  -- the events that come by the clock were asked, and no slot
  pub record WorksDue (clock : ℕ) (s t : WorkerState W) : Type 0 where
    pub fed : List AskedEvent
    pub asks : Asks (map Asked fed) s fed t
    pub asked : AreAsked (arrivals_by comes_at clock s.course.rest) fed
    pub left : t.course.rest ≡ arrivals_after comes_at clock s.course.rest
    pub no_slot : slots_in fed ≡ 0
    pub no_stop : stop_of fed ≡ None
    pub slots : t.slots ≡ s.slots
    pub stop : t.stop ≡ s.stop

  -- a slot was asked, and carried out under this number
  pub record WorksSlot (s : WorkerState W) (slot : ℕ) (t : WorkerState W) : Type 0 where
    pub reply : SlotReply
    pub slot_is : slot ≡ reply.slot
    pub call : does s.work (Asked (asked_event events.Slot (Ok (replies.Slot reply)))) t.work
    pub course : t.course ≡ s.course
    pub slots : t.slots ≡ s.slots + 1
    pub stop : t.stop ≡ s.stop

  -- a slot was asked, and refused
  pub record WorksStop (s t : WorkerState W) : Type 0 where
    pub refused : RefusedAt
    pub call : does s.work (Asked (asked_event events.Slot (Err refused))) t.work
    pub course : t.course ≡ s.course
    pub slots : t.slots ≡ s.slots
    pub stop : t.stop ≡ Some refused

  -- `slots` slots were asked of a die with the clock from `from` on, with the events of its feed and the hook around each
  -- slot, and nothing else was called
  pub record WorksOff (die from slots : ℕ) (s t : WorkerState W) : Type 0 where
    pub saids : List AskedEvent
    pub ordered : InClockOrder slots from s.course.rest saids
    pub asks : Asks (calls_for die from saids) s saids t
    pub slots_are : t.slots ≡ slots_in saids
    pub stop_is : t.stop ≡ stop_of saids
    pub whole : t.stop ≡ None → t.slots ≡ slots

  -- a die that is still to be run is run, from slot 0 on, and what came of it is kept
  abbrev pub EndsAs : ℕ → ℕ → Option (WorkerState W) × Option (DieEnd × W) → Option (WorkerState W) × Option (DieEnd × W) → Type 0
  EndsAs die slots (Some s, ended) new = (t : WorkerState W) × WorksOff die 0 slots s t × (new ≡ (None, Some (end_at t, t.work)))
  EndsAs die slots (None, ended) new = new ≡ (None, ended)

  -- so each die, from this number on
  abbrev pub EndAs : ℕ → ℕ → List (Option (WorkerState W) × Option (DieEnd × W)) → List (Option (WorkerState W) × Option (DieEnd × W)) → Type 0
  EndAs die slots [] [] = Unit {0}
  EndAs die slots (s ∷ ss) (t ∷ ts) = EndsAs die slots s t × EndAs (suc die) slots ss ts
  EndAs die slots _ _ = ⊥
