-- What a run on a new die promises of a feed that keeps to the die's plan with times.
use Rattle.std.specs.Prelude.{◌≡◌, ⊤, ◌⊎◌, ℕ, zero, suc, ◌+◌, Bool, false, List, [], ◌∷◌, ◌++◌, map, IfSome, Err}
use Rattle.slot_types.specs.Arriving.{arrivals_by, arrivals_after}
use Rattle.slot_types.specs.declared.events.Event.{Event}
use Rattle.slot_types.specs.declared.events.Event.TheVariants as events
use Rattle.slot_types.specs.declared.plans.DiePlan.{DiePlan}
use Rattle.slot_types.specs.declared.plans.Times.{Times}
use Rattle.slot_types.specs.declared.refusals.Refusal.{Refusal}
use Rattle.slot_types.specs.declared.refusals.Refusal.TheVariants.{NoMemory, DieStopped}
use Rattle.plan_rules.specs.Times.{Passes}
use Rattle.plan_rules.specs.Keeping.{KeepsPlan}
use Rattle.slot_core.specs.Calls.{IsByChance}
use Rattle.turn_lock.specs.Log.{AllBy}
use Rattle.turn_lock.specs.Views.{first_view, IsSamePass}
use Rattle.die_log.specs.Model.Log.{Log}
use Rattle.die_log.specs.Results.InTime.{IsInTime}
use Rattle.die_service.specs.declared.ends.DieEnd.{DieEnd}
use Rattle.die_service.specs.declared.ends.RefusedEvent.{RefusedEvent}
use Rattle.die_service.specs.declared.feeds.Arrival.{Arrival}
use Rattle.die_service.specs.Logs.{log_of, calls_of}
use Rattle.die_service.specs.Runs.{comes_at, whole_batch, HasRun}
use Rattle.die_service.specs.Stores.{DiePass}
use Rattle.die_log.specs.Model.Start.{Start}
use Rattle.die_log.specs.Results.Supply.{AreStocked}

abbrev pub events_in : List Arrival → List Event
events_in feed = map (λ (arrival : Arrival). arrival.event) feed

-- The events that a run asks for where its clock is at slot `clock` and `left` slots are left: those of the feed that
-- come by the clock; and then, where a slot is left, that slot, and what is asked for with the clock after it
abbrev pub events_from : ℕ → ℕ → List Arrival → List Event
events_from zero clock feed = events_in (arrivals_by comes_at clock feed)
events_from (suc left) clock feed =
    events_in (arrivals_by comes_at clock feed) ++ events.Slot ∷ events_from left (clock + 1) (arrivals_after comes_at clock feed)

-- the events of a run of `slots` slots with this feed, in their order
abbrev pub events_of_feed : ℕ → List Arrival → List Event
events_of_feed slots feed = events_from slots 0 feed

-- the feed of a die keeps its plan in `slots` slots, with times that pass their test and for which its tasks have the
-- tokens
pub record FeedKeepsPlan (start : Start) (slots : ℕ) (feed : List Arrival) : Type 0 where
  pub times : Times
  pub passes : Passes start.plan times
  pub stocked : AreStocked start times
  pub keeps : KeepsPlan start.plan times (events_of_feed slots feed)

-- A new die, on which nothing was done but the run of its first pass: this is what the pass has seen, each entry by it
-- or by one that was joined into it. `IsClosedWith` says the last two of a die that was closed with the pass.
pub record RanAlone (never_fails : Bool) (start : Start) (slots : ℕ) (feed : List Arrival) (end : DieEnd) (log : Log) : Type 0 where
  pub first : DiePass
  pub last : DiePass
  pub fresh : first.view ≡ first_view start
  pub same : IsSamePass first last
  pub ran : HasRun never_fails (whole_batch slots feed) first.view end last.view
  pub log_is : log ≡ log_of last.view.seen
  pub by_own : AllBy (last.view.number ∷ last.view.joined) (calls_of log)

-- a job or a collection was refused out of memory, or because the device had failed
abbrev pub IsForMemory : Bool → Refusal → Type 0
IsForMemory never_fails refusal = (refusal ≡ NoMemory) ⊎ ((never_fails ≡ false) × (refusal ≡ DieStopped))

-- so was a slot, or its device failed, which may fail
abbrev pub IsForMemoryOrFault : Bool → Refusal → Type 0
IsForMemoryOrFault never_fails refusal = IsForMemory never_fails refusal ⊎ ((never_fails ≡ false) × IsByChance (Err refusal))

-- none was refused, or the first that was, was out of memory
abbrev pub AreTakenUntilMemory : Bool → List RefusedEvent → Type 0
AreTakenUntilMemory never_fails [] = ⊤
AreTakenUntilMemory never_fails (r ∷ refused) = IsForMemory never_fails r.refused.refusal

-- what a die did is in time; none of its feed's events was refused but out of memory, or after one that was; and the
-- slots were carried out until memory was refused or the device failed
pub record FeedGoesAsPlanned (never_fails : Bool) (plan : DiePlan) (end : DieEnd) (log : Log) : Type 0 where
  pub in_time : IsInTime plan log
  pub taken : AreTakenUntilMemory never_fails end.refused
  pub carried : IfSome end.stop (λ stop. IsForMemoryOrFault never_fails stop.refusal)
