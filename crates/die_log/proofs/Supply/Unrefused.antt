-- No event of those that keep a passing plan with times is refused, since they keep its terms.
use Rattle.std.proofs.Common.{◌≡◌, ℕ, List, ◌∷◌, ◌++◌, map, None}
use Rattle.slot_types.specs.declared.plans.Times.{Times}
use Rattle.slot_types.specs.declared.events.Event.{Event}
use Rattle.plan_rules.specs.Times.{Passes}
use Rattle.plan_rules.specs.Keeping.{KeepsPlan}
use Rattle.demand_rules.specs.Earlier.{as_terms}
use Rattle.demand_rules.specs.Keeping.{KeepsDemandPlan}
use Rattle.demand_rules.proofs.Earlier.{passes_demand, passes_supply, keeps_demand}
use Rattle.die_log.specs.Model.Start.{Start}
use Rattle.die_log.specs.Model.Opening.{IsOpening}
use Rattle.die_log.specs.Model.Log.{Log}
use Rattle.die_log.specs.Model.Answers.{IsExact, IsAccepted, reply_if_accepted, refusal_of, with_answer}
use Rattle.die_log.specs.Results.InTime.{events_of_log, AreAccepted}
use Rattle.die_log.specs.Results.Supply.{AreStocked}
use Rattle.die_log.specs.Results.Covered.{AreStockedFor}
use Rattle.die_log.proofs.Legality.{entry}
use Rattle.die_log.proofs.Supply.Covering.{stocked_for}
use Rattle.die_log.proofs.Supply.Earlier.{stocked_before}
use Rattle.die_log.proofs.Supply.Accepted as accepted

-- an accepted event is answered by no refusal, and is an entry of the log
pub entered : (start : Start) (past : Log) (caller : ℕ) (event : Event) → IsAccepted (reply_if_accepted start past event)
    × (with_answer caller event (reply_if_accepted start past event) past ≡ entry caller event (reply_if_accepted start past event) ∷ past)
entered = accepted.entered

module _ (start : Start) (times : Times) (bound : IsOpening start) (passes : Passes start.plan times) (stocked : AreStocked start times) where
  abbrev kept : (all : List Event) → KeepsPlan start.plan times all → KeepsDemandPlan start.plan (as_terms times) all
  kept all keeps = keeps_demand start.plan times all keeps

  stocked_still : (all : List Event) → KeepsPlan start.plan times all → AreStockedFor start (as_terms times) all
  stocked_still all keeps = stocked_for start (as_terms times) all (kept all keeps) (stocked_before start times passes stocked)

  pub unrefused : (past : Log) (event : Event) (rest : List Event) → IsExact start past
      → KeepsPlan start.plan times (events_of_log past ++ event ∷ rest) → refusal_of start past event ≡ None
  unrefused past event rest exact keeps =
      let all : List Event = events_of_log past ++ event ∷ rest in
      accepted.unrefused start (as_terms times) bound (passes_demand start.plan times passes) (passes_supply start.plan times passes)
      past event rest exact (kept all keeps) (stocked_still all keeps)

  -- none of the events that keep the plan is refused, from any moment on
  pub run_accepted : (past : Log) (calls : List (ℕ × Event)) → IsExact start past
      → KeepsPlan start.plan times (events_of_log past ++ map (λ call. call.1) calls) → AreAccepted start past calls
  run_accepted past calls exact keeps =
      let all : List Event = events_of_log past ++ map (λ call. call.1) calls in
      accepted.run_accepted start (as_terms times) bound (passes_demand start.plan times passes) (passes_supply start.plan times passes)
      past calls exact (kept all keeps) (stocked_still all keeps)
