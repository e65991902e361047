-- What the jobs of each task are held, and what its collector is lent, counted over the log with no account in it; and
-- accounts that agree with it.
use Rattle.std.specs.Prelude.{◌≡◌, ℕ, ◌<◌, ◌≤◌, ◌==◌, ◌&&◌, not, Bool, true, if◌then◌else◌, List, [], length, drop, sum_by, count_by, ◌+◌}
use Rattle.std.specs.Prelude.{◌-◌, sum, slice_index}
use Rattle.std.specs.List.{AllByRecursion}
use Rattle.slot_types.specs.declared.plans.DiePlan.{DiePlan}
use Rattle.slot_types.specs.declared.acts.Act.{Act}
use Rattle.plan_rules.specs.Accounts.{Accounts}
use Rattle.die_log.specs.Model.Log.{Log, Job, jobs, acts, is_waived}
use Rattle.die_log.specs.Model.Flash.{free}
use Rattle.slot_types.specs.Operations.{writes}
use Rattle.die_log.specs.Model.Work.{are_all, is_copy_program, owed_writes}
use Rattle.die_log.specs.Model.Accounts.{accounts}
use Rattle.die_log.specs.Model.Start.{Start}

-- `n` at this task, and nothing at others
abbrev pub at_task : ℕ → ℕ → ℕ → ℕ
at_task task n other = if task == other then n else 0

-- below, `own` gives the acts of a number, and `gone` tells whether it was waived

-- the writes of a job that are not yet carried
abbrev pub left_of : (ℕ → List Act) → Job → ℕ
left_of own j = writes (drop (length (own j.number)) j.ops)

-- those of the jobs of a task
abbrev pub held_of : (ℕ → List Act) → List Job → ℕ → ℕ
held_of own js task = sum_by (λ j. at_task j.task (left_of own j) task) js

-- a collection that is neither done nor waived
abbrev pub is_pending : DiePlan → (ℕ → List Act) → (ℕ → Bool) → Job → Bool
is_pending plan own gone j = j.collects && not (are_all plan j (own j.number)) && not (gone j.number)

-- the pages that it copied so far
abbrev pub copied_of : (ℕ → List Act) → Job → ℕ
copied_of own j = count_by is_copy_program (own j.number)

abbrev pub lent_of : DiePlan → (ℕ → List Act) → (ℕ → Bool) → Job → ℕ
lent_of plan own gone j = if is_pending plan own gone j then copied_of own j else 0

-- those of the collections of a task
abbrev pub lent_to : DiePlan → (ℕ → List Act) → (ℕ → Bool) → List Job → ℕ → ℕ
lent_to plan own gone js task = sum_by (λ j. at_task j.task (lent_of plan own gone j) task) js

abbrev pub pending_of : DiePlan → (ℕ → List Act) → (ℕ → Bool) → List Job → ℕ → ℕ
pending_of plan own gone js task = count_by (λ j. (j.task == task) && is_pending plan own gone j) js

-- Accounts

-- what a collector's reserve is when it lent nothing
abbrev pub reserve_full : DiePlan → ℕ
reserve_full plan = plan.shape.pages - plan.alpha

-- accounts where `held` says what each task holds, and `lent` what its collector lent; `owed` is what is owed in all,
-- and `free` what is free
pub record AccountsAgree (plan : DiePlan) (a : Accounts) (held lent : ℕ → ℕ) (owed free : ℕ) : Type 0 where
  pub plan_is : a.plan ≡ plan
  pub balances_len : length a.balances ≡ length plan.caps
  pub holds_len : length a.holds ≡ length plan.caps
  pub reserves_len : length a.reserves ≡ length plan.caps
  pub owned : (task : ℕ) → slice_index a.balances task + slice_index a.holds task ≤ slice_index plan.caps task
  pub holds_are : (task : ℕ) → task < length plan.caps → slice_index a.holds task ≡ held task
  pub reserves_are : (task : ℕ) → task < length plan.caps → slice_index a.reserves task + lent task ≡ reserve_full plan
  pub owed_is : sum a.holds ≡ owed
  pub total_is : a.spare + sum a.balances + sum a.holds + sum a.reserves ≡ free

-- a task of the plan, and no operations where it is a collection
pub record HasTaskAndOps (plan : DiePlan) (j : Job) : Type 0 where
  pub task : j.task < length plan.caps
  pub none : j.collects ≡ true → j.ops ≡ []

-- the accounts at the end of a log come to what the log says; each task has at most one collection that is neither done
-- nor waived, and no waived one has an act
pub record AreTrueAccounts (start : Start) (log : Log) : Type 0 where
  pub agree : AccountsAgree start.plan (accounts start log) (held_of (λ n. acts n log) (jobs log))
      (lent_to start.plan (λ n. acts n log) (is_waived log) (jobs log)) (owed_writes log) (free start log)
  pub taken : AllByRecursion (HasTaskAndOps start.plan) (jobs log)
  pub one_each : (task : ℕ) → pending_of start.plan (λ n. acts n log) (is_waived log) (jobs log) task ≤ 1
  pub idle_waived : (number : ℕ) → is_waived log number ≡ true → acts number log ≡ []
