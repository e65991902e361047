-- Planned work over all lives of a die.
use Rattle.std.specs.Prelude.{◌≡◌, ℕ, ◌<◌, ◌≤◌, ◌%◌, List, [], ◌∷◌, length, map, All}
use Rattle.slot_types.specs.declared.plans.DiePlan.{DiePlan}
use Rattle.slot_types.specs.declared.plans.Times.{Times}
use Rattle.slot_types.specs.declared.events.Event.{Event}
use Rattle.plan_rules.specs.Times.{times_of}
use Rattle.plan_rules.specs.Keeping.{arrivals, slots, KeepsPlan}
use Rattle.die_log.specs.Model.Start.{Start}
use Rattle.die_log.specs.Model.Answers.{run}
use Rattle.die_log.specs.Results.InTime.{IsInTime, AreAccepted}
use Rattle.die_log.specs.Model.Lives.{Lives, start_after}

-- the calls of one life, with who made each, the first of which came first
abbrev pub Calls : Type 0
Calls = List (ℕ × Event)

abbrev pub events_of_calls : Calls → List Event
events_of_calls calls = map (λ call. call.1) calls

-- the logs that the calls leave, life after life; the newest first, as the lists of calls are
abbrev pub lives_of : Start → List Calls → Lives
lives_of first [] = []
lives_of first (calls ∷ earlier) = run (start_after first (lives_of first earlier)) [] calls ∷ lives_of first earlier

-- events at the end of which the periods end: the deadline of all that came has come by then, and the slot is a
-- multiple of every collect period
pub record EndPeriods (plan : DiePlan) (times : Times) (all : List Event) : Type 0 where
  pub due : All (λ a. a.due ≤ slots all) (arrivals 0 all)
  pub multiple : (task : ℕ) → task < length plan.caps → slots all % (times_of times task).collect_period ≡ 0

-- the calls of each life keep the plan, as if it were the only one, and end where the periods do
abbrev pub KeepPlans : DiePlan → Times → List Calls → Type 0
KeepPlans plan times [] = Unit {0}
KeepPlans plan times (calls ∷ earlier) =
    KeepPlans plan times earlier × KeepsPlan plan times (events_of_calls calls) × EndPeriods plan times (events_of_calls calls)

-- none of these calls was refused, and nothing is late
pub record IsServedInTime (start : Start) (calls : Calls) : Type 0 where
  pub accepted : AreAccepted start [] calls
  pub in_time : IsInTime start.plan (run start [] calls)

-- so it was in each life
abbrev pub AreServedInTime : Start → List Calls → Type 0
AreServedInTime first [] = Unit {0}
AreServedInTime first (calls ∷ earlier) =
    AreServedInTime first earlier × IsServedInTime (start_after first (lives_of first earlier)) calls
