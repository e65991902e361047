-- A run of slots on a die: what a pass asked of it in which order, what it was replied, and what came of it.
use Rattle.std.specs.Prelude.{true, ◌≡◌, ◌≢◌, ℕ, zero, suc, ◌+◌, ◌<◌, ◌≤◌, ◌⊎◌, Bool, List, [], ◌∷◌, ◌++◌, length, map, filter}
use Rattle.std.specs.Prelude.{take, All, Option, Some, None, Result, Ok, Err, is_ok}
use Rattle.slot_types.specs.declared.events.Event.{Event}
use Rattle.slot_types.specs.declared.events.Event.TheVariants as events
use Rattle.slot_types.specs.Arrivals.{IsArrival}
use Rattle.slot_types.specs.Arriving.{arrivals_by, arrivals_after}
use Rattle.slot_types.specs.declared.replies.Reply.{Reply}
use Rattle.slot_types.specs.declared.replies.Reply.TheVariants as replies
use Rattle.slot_types.specs.declared.replies.SlotReply.{SlotReply}
use Rattle.turn_lock.specs.Log.{times, StartsWith, entry, calls_by}
use Rattle.turn_lock.specs.Views.{IsLive, IsSamePass}
use Rattle.die_service.specs.declared.ends.DieEnd.{DieEnd}
use Rattle.die_service.specs.declared.ends.RefusedEvent.{RefusedEvent}
use Rattle.die_service.specs.declared.feeds.Arrival.{Arrival}
use Rattle.die_service.specs.declared.refused.RefusedAt.{RefusedAt}
use Rattle.die_service.specs.Logs.{DieCall, log_of}
use Rattle.die_service.specs.Passes.{DieView}
use Rattle.slot_core.specs.Calls.{MayRefuse}
use Rattle.die_service.specs.Replies.{HasExactLog}
use Rattle.die_service.specs.Stores.{DiePass}
use Rattle.die_log.specs.Model.Start.{Start}

-- What is asked, and in which order

-- an event, and the reply to it
pub record AskedEvent : Type 0 where
  pub event : Event
  pub reply : Result Reply RefusedAt

abbrev pub asked_event : Event → Result Reply RefusedAt → AskedEvent
asked_event event reply = record { event = event; reply = reply }

-- what comes to a die in a run: the events of a feed, and `slots` slots from slot `from` on
pub record Batch : Type 0 where
  pub from : ℕ
  pub slots : ℕ
  pub feed : List Arrival

abbrev pub AllArrive : List Arrival → Type 0
AllArrive feed = All (λ arrival. IsArrival arrival.event) feed

-- the slot by which an event of a feed comes
abbrev pub comes_at : Arrival → ℕ
comes_at arrival = arrival.at

-- all that comes to a die in a run of `slots` slots from slot 0 on
abbrev pub whole_batch : ℕ → List Arrival → Batch
whole_batch slots feed = record { from = 0; slots = slots; feed = feed }

-- these events were asked, in their order
abbrev pub AreAsked : List Arrival → List AskedEvent → Type 0
AreAsked feed saids = map (λ (s : AskedEvent). s.event) saids ≡ map (λ (arrival : Arrival). arrival.event) feed

-- Where a worker's clock is at slot `clock` and `left` slots are left: it asks for the events of the feed that come by
-- the clock; and then, where a slot is left, for that, and goes on with the clock after the slot that was carried out.
-- A refused slot is the last that it asks for.
abbrev pub InClockOrder : ℕ → ℕ → List Arrival → List AskedEvent → Type 0
InClockOrder zero clock feed saids = AreAsked (arrivals_by comes_at clock feed) saids
InClockOrder (suc left) clock feed saids = (fed : List AskedEvent) × (rest : List AskedEvent) × (saids ≡ fed ++ rest)
    × AreAsked (arrivals_by comes_at clock feed) fed
    × (((slot : SlotReply) × (more : List AskedEvent) × (rest ≡ asked_event events.Slot (Ok (replies.Slot slot)) ∷ more)
    × InClockOrder left (slot.slot + 1) (arrivals_after comes_at clock feed) more)
    ⊎ ((refused : RefusedAt) × (rest ≡ asked_event events.Slot (Err refused) ∷ [])))

-- What came of it

abbrev pub was_accepted : AskedEvent → Bool
was_accepted s = is_ok s.reply

-- the accepted calls, as entries of this caller
abbrev pub accepted_by : ℕ → List AskedEvent → List DieCall
accepted_by caller saids = map (λ (s : AskedEvent). entry caller s.event s.reply) (filter was_accepted saids)

abbrev pub slot_counted : Event → Result Reply RefusedAt → ℕ → ℕ
slot_counted events.Slot (Ok reply) slots = suc slots
slot_counted _ _ slots = slots

-- how many slots were carried out
abbrev pub slots_in : List AskedEvent → ℕ
slots_in [] = 0
slots_in (s ∷ saids) = slot_counted s.event s.reply (slots_in saids)

abbrev pub place_beyond : Event → ℕ → ℕ
place_beyond events.Slot place = place
place_beyond _ place = suc place

abbrev pub with_refused : ℕ → Event → Result Reply RefusedAt → List RefusedEvent → List RefusedEvent
with_refused place events.Slot reply more = more
with_refused place _ (Ok reply) more = more
with_refused place _ (Err refused) more = record { place = place; refused = refused } ∷ more

-- of the events of a feed, the first of which has this place, those that were refused
abbrev pub refused_from : ℕ → List AskedEvent → List RefusedEvent
refused_from place [] = []
refused_from place (s ∷ saids) = with_refused place s.event s.reply (refused_from (place_beyond s.event place) saids)

abbrev pub stop_or : Event → Result Reply RefusedAt → Option RefusedAt → Option RefusedAt
stop_or events.Slot (Err refused) later = Some refused
stop_or _ _ later = later

-- why a slot was refused, if one was
abbrev pub stop_of : List AskedEvent → Option RefusedAt
stop_of [] = None
stop_of (s ∷ saids) = stop_or s.event s.reply (stop_of saids)

abbrev pub end_of : List AskedEvent → DieEnd
end_of saids = record { slots = slots_in saids; refused = refused_from 0 saids; stop = stop_of saids }

-- A call was refused after the first `refused.entries` entries of those that the pass `w` has seen: a die with these
-- may refuse it so, and of the pass's own entries they are the ones from before the call.
pub record IsReasoned (never_fails : Bool) (start : Start) (v : DieView) (before : List AskedEvent) (event : Event) (refused : RefusedAt)
    (w : DieView) : Type 0 where
  pub within : refused.entries ≤ length w.seen
  pub reason : MayRefuse never_fails start (log_of (take refused.entries w.seen)) event refused.refusal
  pub own : calls_by v.number (take refused.entries w.seen) ≡ calls_by v.number v.seen ++ accepted_by v.number before

-- A pass that knew `v` ran the slots of this batch with its feed, and knows `w`: it has seen an exact log, its own
-- entries are those that it had and then the accepted calls in the order of the clock, those of each number that was
-- joined into it are those that it had, and each refused call has its reason. It is live, and knows of no fewer passes
-- made than before; where no other pass was left, none is, and the accepted calls are all that came.
pub record HasRun (never_fails : Bool) (batch : Batch) (v : DieView) (end : DieEnd) (w : DieView) : Type 0 where
  pub saids : List AskedEvent
  pub start : Start
  pub about_is : v.about ≡ Some start
  pub ordered : InClockOrder batch.slots batch.from batch.feed saids
  pub starts : StartsWith w.seen v.seen
  pub exact : HasExactLog start w.seen
  pub own : calls_by v.number w.seen ≡ calls_by v.number v.seen ++ accepted_by v.number saids
  pub refused : (before after : List AskedEvent) (event : Event) (refused : RefusedAt) → saids ≡ before ++ asked_event event (Err refused) ∷ after
      → IsReasoned never_fails start v before event refused w
  pub joined : (p : ℕ) → 0 < times p v.joined → p ≢ v.number → calls_by p w.seen ≡ calls_by p v.seen
  pub live : IsLive w
  pub later : v.made ≤ w.made
  pub sole : v.sole ≡ true → w.sole ≡ true
  pub alone : v.sole ≡ true → w.seen ≡ v.seen ++ accepted_by v.number saids
  pub end_is : end ≡ end_of saids
  pub whole : end.stop ≡ None → end.slots ≡ batch.slots

-- each die's pass ran with the batch in its place
abbrev pub HaveRun : Bool → List Batch → List DiePass → List DieEnd → List DiePass → Type 0
HaveRun never_fails [] [] [] [] = Unit {0}
HaveRun never_fails (batch ∷ batches) (p ∷ ps) (end ∷ ends) (q ∷ qs) =
    IsSamePass p q × HasRun never_fails batch p.view end q.view × HaveRun never_fails batches ps ends qs
HaveRun never_fails _ _ _ _ = ⊥
