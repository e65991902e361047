-- What was planned with times is never late: a plan with times is one with terms, where a job is due a period after its
-- release.
use Rattle.std.proofs.Common.{ℕ, List, [], ◌++◌}
use Rattle.slot_types.specs.declared.plans.Times.{Times}
use Rattle.slot_types.specs.declared.events.Event.{Event}
use Rattle.plan_rules.specs.Times.{Passes}
use Rattle.plan_rules.specs.Keeping.{KeepsPlan}
use Rattle.demand_rules.specs.Earlier.{as_terms}
use Rattle.demand_rules.proofs.Earlier.{passes_demand, keeps_demand}
use Rattle.die_log.specs.Model.Start.{Start}
use Rattle.die_log.specs.Model.Opening.{IsOpening}
use Rattle.die_log.specs.Model.Log.{Log}
use Rattle.die_log.specs.Model.Answers.{IsExact, run}
use Rattle.die_log.specs.Results.InTime.{AreEntered, IsInTime}
use Rattle.die_log.proofs.Planned.Running.{events_of}
use Rattle.die_log.proofs.Planned.Rooms.{demanded_in_time, demanded_run_in_time}

-- at each moment of an exact log that events leave which keep to a passing plan
pub planned_in_time : (start : Start) (times : Times) → IsOpening start → Passes start.plan times → (all : List Event) → KeepsPlan start.plan times all
    → (later moment : Log) → IsExact start (later ++ moment) → AreEntered all [] (later ++ moment) → IsInTime start.plan moment
planned_in_time start times bound passes all keeps =
    demanded_in_time start (as_terms times) bound (passes_demand start.plan times passes) all (keeps_demand start.plan times all keeps)

-- so nothing is late in a run of events that keep to a passing plan
pub run_in_time : (start : Start) (times : Times) → IsOpening start → Passes start.plan times → (calls : List (ℕ × Event))
    → KeepsPlan start.plan times (events_of calls) → IsInTime start.plan (run start [] calls)
run_in_time start times bound passes calls keeps =
    demanded_run_in_time start (as_terms times) bound (passes_demand start.plan times passes) calls
    (keeps_demand start.plan times (events_of calls) keeps)
