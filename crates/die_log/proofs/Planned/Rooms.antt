-- The jobs of a log ask no more of a window than the events that left it.
use Rattle.std.proofs.Common.{◌≡◌, ℕ, ◌≤◌, ◌&&◌, nat_le, Bool, cond, List, [], ◌∷◌, ◌++◌, length, sum_by, sym, ap, subst}
use Rattle.std.proofs.Common.{◌∙◌, inl, inr, arith}
use Rattle.std.proofs.lemmas.List.Sums.{sum_by-cons, sum_by-append}
use Rattle.slot_types.specs.declared.plans.DiePlan.{DiePlan}
use Rattle.slot_types.specs.declared.limits.TheConstants.{MAX_SLOT}
use Rattle.slot_types.specs.declared.events.Op.{Op}
use Rattle.slot_types.specs.declared.events.Event.{Event}
use Rattle.plan_rules.specs.Times.{collection_work}
use Rattle.plan_rules.specs.Keeping.{TaskArrival, arrivals, slots}
use Rattle.demand_rules.specs.declared.terms.Terms.{Terms}
use Rattle.demand_rules.specs.Demand.{PassesDemand}
use Rattle.demand_rules.specs.Keeping.{KeepsDemandPlan}
use Rattle.demand_rules.specs.Fitting.{FitsWindows}
use Rattle.demand_rules.specs.Fitting as of_events
use Rattle.demand_rules.proofs.Fitting.{demand_fits}
use Rattle.die_log.specs.Model.Start.{Start}
use Rattle.die_log.specs.Model.Log.{Log, Job, jobs}
use Rattle.die_log.specs.Model.Opening.{IsOpening}
use Rattle.die_log.specs.Model.Answers.{run, IsExact}
use Rattle.die_log.specs.Results.InTime.{AreEntered, IsInTime}
use Rattle.die_log.proofs.Exact.{moment_exact}
use Rattle.die_log.proofs.Limits.{keeps_limits}
use Rattle.die_log.proofs.Runs.{run_exact}
use Rattle.die_log.proofs.Planned.Running.{events_of, run_enters}
use Rattle.die_log.specs.Results.Windows.{asked_of, HasRoom}
use Rattle.die_log.proofs.Planned.Entered.{IsOf, IsAmong, entered, jobs_later}
use Rattle.die_log.proofs.Planned.Windows.{in_time}

-- what is asked of a window, by the parts of a job
abbrev asked : DiePlan → ℕ → ℕ → ℕ → ℕ → Bool → List Op → ℕ
asked plan start end release due collects ops =
    cond (nat_le start release && nat_le due end) (cond collects (collection_work plan) (length ops)) 0

-- a job asks what its arrival does
same_asked : (plan : DiePlan) (start end : ℕ) (a : TaskArrival) (j : Job) → IsOf a j
    → asked_of plan start end j ≡ of_events.asked_of plan start end a
same_asked plan start end a j of =
    ap (λ (n : ℕ). asked plan start end n j.due j.collects j.ops) of.release
    ∙ (ap (λ (n : ℕ). asked plan start end a.release n j.collects j.ops) of.due
    ∙ (ap (λ (b : Bool). asked plan start end a.release a.due b j.ops) of.collects
    ∙ ap (λ (ops : List Op). asked plan start end a.release a.due a.collects ops) of.ops))

among_sum : (plan : DiePlan) (start end : ℕ) (came : List TaskArrival) (js : List Job) → IsAmong came js
    → sum_by (asked_of plan start end) js ≤ sum_by (of_events.asked_of plan start end) came
among_sum plan start end came [] among = omega arith
among_sum plan start end [] (j ∷ js) among = absurd among
among_sum plan start end (a ∷ came) (j ∷ js) (inl same) =
    omega (
      arith,
      sum_by-cons (asked_of plan start end) j js,
      sum_by-cons (of_events.asked_of plan start end) a came,
      same_asked plan start end a j same.0,
      among_sum plan start end came js same.1,
    )
among_sum plan start end (a ∷ came) (j ∷ js) (inr skipped) =
    omega (
      arith,
      sum_by-cons (of_events.asked_of plan start end) a came,
      among_sum plan start end came (j ∷ js) skipped,
    )

-- so at each moment of an exact log that they leave each window has room
has_room : (start : Start) (all : List Event) (later moment : Log) → FitsWindows start.plan all → IsExact start (later ++ moment)
    → AreEntered all [] (later ++ moment) → HasRoom start.plan moment
has_room start all later moment fits exact enter first end le within =
    let log : Log = later ++ moment in
    let longer = entered start all [] log enter exact in
    let among : IsAmong (arrivals 0 all) (jobs log) = subst (IsAmong (arrivals 0 all)) (sym longer.1) longer.2 in
    let more = jobs_later later moment in
    omega (
      arith,
      ap (λ (js : List Job). sum_by (asked_of start.plan first end) js) more.1,
      sum_by-append (asked_of start.plan first end) (jobs moment) more.0,
      among_sum start.plan first end (arrivals 0 all) (jobs log) among,
      fits first end le (omega (arith, within, (keeps_limits start moment (moment_exact start later moment exact)).slots)),
    )

pub fitting_in_time : (start : Start) → IsOpening start → (all : List Event) → FitsWindows start.plan all
    → (later moment : Log) → IsExact start (later ++ moment) → AreEntered all [] (later ++ moment) → IsInTime start.plan moment
fitting_in_time start bound all fits later moment exact enter =
    in_time start moment bound (moment_exact start later moment exact) (has_room start all later moment fits exact enter)

pub fitting_run_in_time : (start : Start) → IsOpening start → (calls : List (ℕ × Event)) → FitsWindows start.plan (events_of calls)
    → slots (events_of calls) ≤ MAX_SLOT → IsInTime start.plan (run start [] calls)
fitting_run_in_time start bound calls fits few =
    fitting_in_time start bound (events_of calls) fits [] (run start [] calls) (run_exact start [] calls tt)
    (run_enters start calls [] (omega (arith, few)))

-- and so under a plan that passes the test by demand
pub demanded_in_time : (start : Start) (terms : Terms) → IsOpening start → PassesDemand start.plan terms
    → (all : List Event) → KeepsDemandPlan start.plan terms all
    → (later moment : Log) → IsExact start (later ++ moment) → AreEntered all [] (later ++ moment) → IsInTime start.plan moment
demanded_in_time start terms bound passes all keeps = fitting_in_time start bound all (demand_fits start.plan terms passes all keeps)

pub demanded_run_in_time : (start : Start) (terms : Terms) → IsOpening start → PassesDemand start.plan terms → (calls : List (ℕ × Event))
    → KeepsDemandPlan start.plan terms (events_of calls) → IsInTime start.plan (run start [] calls)
demanded_run_in_time start terms bound passes calls keeps =
    fitting_run_in_time start bound calls (demand_fits start.plan terms passes (events_of calls) keeps) keeps.few_slots
