-- What a task may write, what is held for it, and its collections; and a start at which it lacks few pages.
use Rattle.std.specs.Prelude.{ℕ, ◌+◌, ◌*◌, ◌<◌, ◌≤◌, ◌==◌, ◌&&◌, List, length, count_by, slice_index}
use Rattle.slot_types.specs.declared.plans.DiePlan.{DiePlan}
use Rattle.die_log.specs.Model.Log.{Log, Job, jobs, acts, is_waived}
use Rattle.die_log.specs.Model.Accounts.{accounts}
use Rattle.die_log.specs.Invariants.TrueAccounts.{pending_of}
use Rattle.slot_types.specs.declared.plans.Times.{Times}
use Rattle.plan_rules.specs.Times.{times_of}
use Rattle.die_log.specs.Model.Start.{Start}

-- what a task may write, and what its jobs still write
abbrev pub balance_of : Start → Log → ℕ → ℕ
balance_of start log task = slice_index (accounts start log).balances task

abbrev pub hold_of : Start → Log → ℕ → ℕ
hold_of start log task = slice_index (accounts start log).holds task

-- how many collections of the task were taken
abbrev pub collections_of : List Job → ℕ → ℕ
collections_of js task = count_by (λ j. j.collects && (j.task == task)) js

-- and how many of them are neither done nor waived
abbrev pub pending_at : DiePlan → Log → ℕ → ℕ
pending_at plan log task = pending_of plan (λ n. acts n log) (is_waived log) (jobs log) task

-- Where a log starts, each task lacks few pages to its cap: those of one job, and its share for one collect period. So
-- it is on a fresh die, on which it lacks none.
abbrev pub AreStocked : Start → Times → Type 0
AreStocked start times = (task : ℕ) → task < length start.plan.caps → let t = times_of times task in
    t.period * slice_index start.plan.caps task
    ≤ t.period * slice_index start.accounts.balances task + t.period * t.writes + t.writes * t.collect_period
