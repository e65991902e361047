-- What is overdue, and why: the slots from some start on went to work that was due no later.
use Rattle.std.specs.Prelude.{◌≡◌, ℕ, ◌+◌, ◌<◌, ◌≤◌, ◌⊎◌, nat_le, Bool, true, List, Option, Some, Contains, IsTrue, filter, sum_by}
use Rattle.std.specs.List.Sorted.{IsStrictlyIncreasing}
use Rattle.slot_types.specs.declared.plans.DiePlan.{DiePlan}
use Rattle.late_cert.specs.declared.rows.JobRow.{JobRow}
use Rattle.late_cert.specs.Schedule.{Slots, slot_at, work_in, completion_in}
use Rattle.late_cert.specs.Rows.{release_of, due_of, work_of}
use Rattle.late_cert.specs.Bound.{is_listed}
use Rattle.die_log.specs.Model.Log.{Log, Job, jobs, now}
use Rattle.die_log.specs.Model.Work.{is_ready, ready, least}
use Rattle.die_log.specs.Model.Rows.{rows, carried_numbers}

-- its deadline is the present slot, or lies before it
abbrev pub is_due : Log → Job → Bool
is_due log j = nat_le j.due (now log)

-- released, neither done nor waived, and due by now: of these the one with the least key
abbrev pub overdue : DiePlan → Log → Option Job
overdue plan log = least (filter (is_due log) (ready plan log))

-- these jobs, all released from a start on, and none due after j, filled each slot from there to n: they took no other
pub record IsOverload (rows : List JobRow) (carried : Slots) (j n start : ℕ) (jobs : List ℕ) : Type 0 where
  pub own : start ≤ release_of rows j
  pub rising : IsStrictlyIncreasing jobs
  pub released : (k : ℕ) → is_listed jobs k ≡ true → start ≤ release_of rows k
  pub due_by : (k : ℕ) → is_listed jobs k ≡ true → due_of rows k ≤ due_of rows j
  pub filled : (t : ℕ) → start ≤ t → t < n → (k : ℕ) × (slot_at carried t ≡ Some k) × (is_listed jobs k ≡ true)
  pub sum : sum_by (work_of rows) jobs + start ≡ n

-- a schedule gives each of the jobs the slots that it had or more, and j more than it had, none of them below its release
pub record ServesOneMore (rows : List JobRow) (j : ℕ) (jobs : List ℕ) (f : Slots) : Type 0 where
  pub works : (k : ℕ) → is_listed jobs k ≡ true → work_of rows k ≤ work_in f k
  pub more : work_of rows j < work_in f j
  pub released : (k t : ℕ) → (is_listed jobs k ≡ true) ⊎ (k ≡ j) → slot_at f t ≡ Some k → release_of rows k ≤ t

-- then it carries one of them, or j, in slot n or later
abbrev pub NoneServesByThen : List JobRow → ℕ → ℕ → List ℕ → Type 0
NoneServesByThen rows j n jobs =
    (f : Slots) → ServesOneMore rows j jobs f → (k : ℕ) × ((is_listed jobs k ≡ true) ⊎ (k ≡ j)) × (n < completion_in f k)

-- there was too much work for j to be done by now
pub record HadTooMuch (plan : DiePlan) (log : Log) (j : Job) : Type 0 where
  pub start : ℕ
  pub others : List ℕ
  pub overload : IsOverload (rows plan log) (carried_numbers log) j.number (now log) start others
  pub binds : NoneServesByThen (rows plan log) j.number (now log) others

-- it is said of each that is released, and neither done nor waived
abbrev pub WaitsForTooMuch : DiePlan → Log → Type 0
WaitsForTooMuch plan log = (j : Job) → Contains (jobs log) j → IsTrue (is_ready plan log j) → HadTooMuch plan log j
