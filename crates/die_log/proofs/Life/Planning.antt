-- Planned work is never refused and never late, life after life, where each ends where the periods do.
use Rattle.std.proofs.Common.{◌≡◌, ◌≤◌, List, [], ◌∷◌, ◌++◌, sym, subst, ◌∙◌, append-nil}
use Rattle.slot_types.specs.declared.plans.DiePlan.{DiePlan}
use Rattle.slot_types.specs.declared.plans.Times.{Times}
use Rattle.slot_types.specs.declared.events.Event.{Event}
use Rattle.slot_types.specs.declared.limits.TheConstants.{MAX_SLOT}
use Rattle.plan_rules.specs.Times.{Passes}
use Rattle.plan_rules.specs.Keeping.{slots, KeepsPlan}
use Rattle.demand_rules.specs.Earlier.{as_terms}
use Rattle.demand_rules.proofs.Earlier.{keeps_demand}
use Rattle.die_log.specs.Model.Start.{Start}
use Rattle.die_log.specs.Model.Answers.{IsExact, run}
use Rattle.die_log.specs.Model.Opening.{IsOpening, IsQuiet, renewed_start}
use Rattle.die_log.specs.Results.InTime.{events_of_log}
use Rattle.die_log.specs.Results.Supply.{AreStocked}
use Rattle.die_log.specs.Results.DemandedLives as demanded
use Rattle.die_log.specs.Model.Lives.{Lives, start_after, HaveEnded}
use Rattle.die_log.specs.Results.PlannedLives.{Calls, events_of_calls, lives_of, EndPeriods, KeepPlans, IsServedInTime, AreServedInTime}
use Rattle.die_log.proofs.Planned.InTime.{run_in_time}
use Rattle.die_log.proofs.Restocked.{none_left_out, goes_on_where}
use Rattle.die_log.proofs.Runs.{run_exact}
use Rattle.die_log.proofs.Supply.Following.{follows}
use Rattle.die_log.proofs.Supply.Unrefused.{run_accepted}
use Rattle.die_log.proofs.Life.Starting.{plan_same, ended_opens}
use Rattle.die_log.proofs.Life.Demanding.{run_reported, period_end}

-- One log

terms_end : (plan : DiePlan) (times : Times) (all : List Event) → Passes plan times → slots all ≤ MAX_SLOT → EndPeriods plan times all
    → demanded.EndPeriods plan (as_terms times) all
terms_end plan times all passes few ends = record { due = ends.due; none_left_out = none_left_out plan times (slots all) passes few ends.multiple }

module _ (start : Start) (times : Times) (bound : IsOpening start) (passes : Passes start.plan times) (stocked : AreStocked start times)
    (calls : Calls) (keeps : KeepsPlan start.plan times (events_of_calls calls)) where
  pub served : IsServedInTime start calls
  served = record {
    accepted = run_accepted start times bound passes stocked [] calls tt keeps;
    in_time = run_in_time start times bound passes calls keeps;
  }

  pub exact_run : IsExact start (run start [] calls)
  exact_run = run_exact start [] calls tt

  pub renews : EndPeriods start.plan times (events_of_calls calls)
      → IsQuiet start (run start [] calls) × AreStocked (renewed_start start (run start [] calls)) times
  renews ends =
      let same : events_of_log (run start [] calls) ≡ events_of_calls calls = run_reported start [] calls served.accepted in
      let kept : KeepsPlan start.plan times (events_of_log (run start [] calls) ++ []) =
      subst (KeepsPlan start.plan times) (sym (append-nil (events_of_log (run start [] calls)) ∙ same)) keeps in
      let demands = keeps_demand start.plan times (events_of_log (run start [] calls) ++ []) kept in
      goes_on_where start times bound passes stocked (run start [] calls) [] exact_run kept
      (period_end start.plan (as_terms times) (run start [] calls) (follows start (as_terms times) (run start [] calls) exact_run [] demands)
      (subst (demanded.EndPeriods start.plan (as_terms times)) (sym same) (terms_end start.plan times (events_of_calls calls) passes keeps.few_slots ends)))

-- All lives

-- the lives have ended, and the next one starts stocked
pub record GoOn (first : Start) (times : Times) (all : List Calls) : Type 0 where
  pub ended : HaveEnded first (lives_of first all)
  pub stocked : AreStocked (start_after first (lives_of first all)) times

module _ (first : Start) (times : Times) (opens : IsOpening first) (passes : Passes first.plan times) (stocked : AreStocked first times) where
  next_passes : (lives : Lives) → Passes (start_after first lives).plan times
  next_passes lives = subst (λ p. Passes p times) (sym (plan_same first lives)) passes

  next_keeps : (lives : Lives) (all : List Event) → KeepsPlan first.plan times all → KeepsPlan (start_after first lives).plan times all
  next_keeps lives all keeps = subst (λ p. KeepsPlan p times all) (sym (plan_same first lives)) keeps

  pub lives_go_on : (all : List Calls) → KeepPlans first.plan times all → GoOn first times all
  lives_go_on [] keep = record { ended = tt; stocked = stocked }
  lives_go_on (calls ∷ earlier) keep =
      let before : GoOn first times earlier = lives_go_on earlier keep.0 in
      let lives : Lives = lives_of first earlier in
      let start : Start = start_after first lives in
      let kept = next_keeps lives (events_of_calls calls) keep.1 in
      let q = renews start times (ended_opens first opens lives before.ended) (next_passes lives) before.stocked calls kept
      (subst (λ p. EndPeriods p times (events_of_calls calls)) (sym (plan_same first lives)) keep.2) in
      record { ended = (before.ended, run_exact start [] calls tt, q.0); stocked = q.1 }

  pub next_served : (all : List Calls) → KeepPlans first.plan times all → (calls : Calls) → KeepsPlan first.plan times (events_of_calls calls)
      → IsServedInTime (start_after first (lives_of first all)) calls
  next_served all keep calls keeps =
      let before : GoOn first times all = lives_go_on all keep in
      let lives : Lives = lives_of first all in
      served (start_after first lives) times (ended_opens first opens lives before.ended) (next_passes lives) before.stocked calls
      (next_keeps lives (events_of_calls calls) keeps)

  pub all_served : (all : List Calls) → KeepPlans first.plan times all → AreServedInTime first all
  all_served [] keep = tt
  all_served (calls ∷ earlier) keep = (all_served earlier keep.0, next_served earlier keep.0 calls keep.1)
