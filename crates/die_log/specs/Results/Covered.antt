-- What keeps a task supplied with pages under a plan with bursts: of an exact log, what its balance lacks at most.
use Rattle.std.specs.Prelude.{◌≡◌, ℕ, ◌⊎◌, ◌+◌, ◌*◌, ◌<◌, ◌≤◌, ◌==◌, ◌&&◌, not, nat_lt, if◌then◌else◌, List, length, sum_by, slice_index}
use Rattle.slot_types.specs.declared.events.Event.{Event}
use Rattle.slot_types.specs.Operations.{writes}
use Rattle.plan_rules.specs.Keeping.{TaskArrival, arrivals}
use Rattle.demand_rules.specs.declared.terms.TaskTerms.{TaskTerms}
use Rattle.demand_rules.specs.declared.terms.Terms.{Terms}
use Rattle.demand_rules.specs.Demand.{terms_of}
use Rattle.die_log.specs.Model.Start.{Start}
use Rattle.die_log.specs.Model.Log.{Log, Job, jobs, now}
use Rattle.die_log.specs.Results.Supply.{balance_of, collections_of, pending_at}

-- what the jobs of a task write that are due after a slot
abbrev pub owed_after : ℕ → ℕ → List Job → ℕ
owed_after task since js = sum_by (λ j. if (not j.collects && (j.task == task)) && nat_lt since j.due then writes j.ops else 0) js

-- Since some slot the balance lacks no more to its cap than the jobs write that are due after it, less a share for each
-- collection that was closed and isn't one of those that came by that slot: of `rate` pages in `span` slots. Where that
-- slot is the first one, it may have lacked `owed` pages at the start, less its share for `gap` slots before. All is
-- multiplied by the span.
pub record IsCovered (start : Start) (t : TaskTerms) (rate span gap owed : ℕ) (log : Log) (task : ℕ) : Type 0 where
  pub since : ℕ
  pub ago : ℕ
  pub lacked : ℕ
  pub by_now : since ≤ now log
  pub from_start : ((ago ≡ 0) × (lacked ≡ 0)) ⊎ ((since ≡ 0) × (ago ≡ gap) × (lacked ≡ owed))
  pub covered : span * slice_index start.plan.caps task
      + rate * t.collect_period * collections_of (jobs log) task + rate * ago
      ≤ span * balance_of start log task + span * (owed_after task since (jobs log) + lacked)
      + rate * (since + t.collect_period) + rate * t.collect_period * pending_at start.plan log task

-- what the jobs of a task write that come before a slot
abbrev pub written_before : ℕ → ℕ → List TaskArrival → ℕ
written_before task slot came = sum_by (λ a. if (not a.collects && (a.task == task)) && nat_lt a.at slot then writes a.ops else 0) came

-- Where a log starts, a task lacks no more to its cap than `owed` pages and what a collection gives, less its share of
-- alpha for `gap` slots; and with what was owed its jobs write no more than they may in these slots, in those for which a
-- job may be held, and in a period.
pub record IsStockedFor (start : Start) (t : TaskTerms) (came : List TaskArrival) (task : ℕ) : Type 0 where
  pub gap : ℕ
  pub owed : ℕ
  pub stocked : t.collect_period * slice_index start.plan.caps task + start.plan.alpha * gap
      ≤ t.collect_period * (slice_index start.accounts.balances task + owed) + start.plan.alpha * t.collect_period
  pub coming : (slot : ℕ) → t.period * (owed + written_before task (slot + 1) came) ≤ t.writes * (gap + t.held + slot + t.period)

abbrev pub AreStockedFor : Start → Terms → List Event → Type 0
AreStockedFor start terms all = (task : ℕ) → task < length start.plan.caps → IsStockedFor start (terms_of terms task) (arrivals 0 all) task

-- Where a log starts, each task lacks few pages to its cap: its share of its writes for as long as a job may be held, and
-- what a collection gives. So it is on a fresh die, on which it lacks none; and it is stocked for any events then.
abbrev pub AreStocked : Start → Terms → Type 0
AreStocked start terms = (task : ℕ) → task < length start.plan.caps → let t = terms_of terms task in
    t.period * slice_index start.plan.caps task
    ≤ t.period * slice_index start.accounts.balances task + t.writes * t.held + start.plan.alpha * t.period
