-- Work with deadlines and bursts over all lives of a die, on one clock.
use Rattle.std.specs.Prelude.{◌≡◌, ℕ, ◌+◌, ◌-◌, ◌*◌, ◌<◌, ◌≤◌, ◌%◌, ◌==◌, ◌&&◌, not, nat_le, if◌then◌else◌, List, [], ◌∷◌, ◌++◌, map, length}
use Rattle.std.specs.Prelude.{sum_by, slice_index, All, Contains}
use Rattle.slot_types.specs.declared.plans.DiePlan.{DiePlan}
use Rattle.slot_types.specs.declared.limits.TheConstants.{MAX_SLOT}
use Rattle.slot_types.specs.declared.events.Event.{Event}
use Rattle.slot_types.specs.Operations.{writes}
use Rattle.plan_rules.specs.Keeping.{TaskArrival, arrivals, slots}
use Rattle.demand_rules.specs.declared.terms.TaskTerms.{TaskTerms}
use Rattle.demand_rules.specs.declared.terms.Terms.{Terms}
use Rattle.demand_rules.specs.Demand.{terms_of, PassesDemand}
use Rattle.demand_rules.specs.Supply.{PassesSupply}
use Rattle.demand_rules.specs.Keeping.{comes_in, KeepsDemandPlan}
use Rattle.die_log.specs.Model.Start.{Start}
use Rattle.die_log.specs.Model.Opening.{IsOpening}
use Rattle.die_log.specs.Model.Log.{Log, Job, jobs, now}
use Rattle.die_log.specs.Results.PlannedLives.{Calls, events_of_calls}

-- no collection of the plan before this slot is left out because it would be due beyond the last slot that there may be
abbrev pub LeavesOutNone : DiePlan → Terms → ℕ → Type 0
LeavesOutNone plan terms end = (task slot : ℕ) → task < length plan.caps → let t = terms_of terms task in
    slot < end → slot % t.collect_period ≡ 0 → slot + t.collect_deadline ≤ MAX_SLOT

-- A moment at which a life may end: all that was accepted is due by now, and no collection was left out before it. The
-- slot need be a multiple of no period, since the collections of the next life come no later than those of this one would.
pub record IsAtPeriodEnd (plan : DiePlan) (terms : Terms) (log : Log) : Type 0 where
  pub due_by_now : (j : Job) → Contains (jobs log) j → j.due ≤ now log
  pub none_left_out : LeavesOutNone plan terms (now log)

-- events at the end of which a life may end
pub record EndPeriods (plan : DiePlan) (terms : Terms) (all : List Event) : Type 0 where
  pub due : All (λ a. a.due ≤ slots all) (arrivals 0 all)
  pub none_left_out : LeavesOutNone plan terms (slots all)

-- what comes in a life that starts in this slot of the clock
abbrev pub at_later : ℕ → TaskArrival → TaskArrival
at_later first a = record {
  at = first + a.at;
  collects = a.collects;
  task = a.task;
  release = first + a.release;
  due = first + a.due;
  ops = a.ops;
}

-- the slots of all lives, and what came in them; the newest life stands first
abbrev pub slots_of_all : List Calls → ℕ
slots_of_all [] = 0
slots_of_all (calls ∷ earlier) = slots_of_all earlier + slots (events_of_calls calls)

abbrev pub all_arrivals : List Calls → List TaskArrival
all_arrivals [] = []
all_arrivals (calls ∷ earlier) = all_arrivals earlier ++ map (at_later (slots_of_all earlier)) (arrivals 0 (events_of_calls calls))

-- what comes in any period has no more writes than the task may ask for, also over lives; the period may be longer than a
-- life
abbrev pub WritesAreFew : DiePlan → Terms → List Calls → Type 0
WritesAreFew plan terms all = (task slot : ℕ) → task < length plan.caps → let t = terms_of terms task in
    sum_by (λ a. if comes_in task slot (slot + t.period) a then writes a.ops else 0) (all_arrivals all) ≤ t.writes

-- the calls of each life keep the plan, and end where a life may
abbrev pub KeepDemandPlans : DiePlan → Terms → List Calls → Type 0
KeepDemandPlans plan terms [] = Unit {0}
KeepDemandPlans plan terms (calls ∷ earlier) =
    KeepDemandPlans plan terms earlier × KeepsDemandPlan plan terms (events_of_calls calls) × EndPeriods plan terms (events_of_calls calls)
    × WritesAreFew plan terms (calls ∷ earlier)

-- What a task lacks where a life starts in slot `first` of the clock, after what came before. It lacks no more to its
-- cap than `owed` pages and what a collection gives, less its share of alpha for `gap` slots. At least `owed` pages
-- were written by jobs that came in these slots, or in those for which a job may be held.
pub record IsStockedAfter (start : Start) (t : TaskTerms) (before : List TaskArrival) (first task : ℕ) : Type 0 where
  pub gap : ℕ
  pub owed : ℕ
  pub stocked : t.collect_period * slice_index start.plan.caps task + start.plan.alpha * gap
      ≤ t.collect_period * (slice_index start.accounts.balances task + owed) + start.plan.alpha * t.collect_period
  pub known : owed ≤ sum_by (λ a. if (not a.collects && (a.task == task)) && nat_le (first + 1 - (gap + t.held)) a.at then writes a.ops else 0) before

abbrev pub AreStockedAfter : Start → Terms → List TaskArrival → ℕ → Type 0
AreStockedAfter start terms before first = (task : ℕ) → task < length start.plan.caps
    → IsStockedAfter start (terms_of terms task) before first task

-- no task lacks more than alpha pages to its cap; on a fresh die none lacks any
abbrev pub AreFull : Start → Type 0
AreFull start = (task : ℕ) → task < length start.plan.caps
    → slice_index start.plan.caps task ≤ slice_index start.accounts.balances task + start.plan.alpha

-- it holds wherever a die starts full, at an opening whose plan passes both tests, and the calls of each life keep the
-- plan and end where a life may
abbrev pub ForDemandedLives : (Start → Terms → List Calls → Type 0) → Type 0
ForDemandedLives Holds =
    (first : Start) (terms : Terms) → IsOpening first → PassesDemand first.plan terms → PassesSupply first.plan terms → AreFull first
    → (all : List Calls) → KeepDemandPlans first.plan terms all → Holds first terms all
