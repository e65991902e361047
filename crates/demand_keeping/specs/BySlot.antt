-- What is counted of a task's jobs, in a list of its own.
use Rattle.std.specs.Prelude.{ℕ, ◌≡◌, ◌+◌, ◌<◌, ◌≤◌, nat_lt, if◌then◌else◌, List, sum_by, take}
use Rattle.slot_types.specs.declared.events.Event.{Event}
use Rattle.plan_rules.specs.Keeping.{TaskArrival, arrivals}
use Rattle.demand_keeping.specs.declared.windows.Count.{Count}
use Rattle.demand_keeping.specs.declared.windows.Counted.{Counted}
use Rattle.demand_keeping.specs.Windows.{is_in, window}

-- there is no job of the task among these
pub record CountsNothing (c : Count) (task : ℕ) (came : List TaskArrival) : Type 0 where
  pub inside : (start end : ℕ) → window c task start end came ≡ 0

-- there is one, and `amount` is counted of it, in this slot
pub record CountsOne (c : Count) (task : ℕ) (came : List TaskArrival) (slot amount : ℕ) : Type 0 where
  pub inside : (start end : ℕ) → window c task start end came ≡ (if is_in start end slot then amount else 0)

-- what is counted of a job, if it is one of the first `seen` events; and in the slots from `start` on, `end` not among them
abbrev pub own : ℕ → Counted → ℕ
own seen job = if nat_lt job.index seen then job.amount else 0

abbrev pub own_in : (seen start end : ℕ) → Counted → ℕ
own_in seen start end job = if is_in start end job.slot then own seen job else 0

-- and of all of them
abbrev pub counted : ℕ → List Counted → ℕ
counted seen jobs = sum_by (own seen) jobs

abbrev pub counted_in : (seen start end : ℕ) → List Counted → ℕ
counted_in seen start end jobs = sum_by (own_in seen start end) jobs

-- in each window what is counted of the first `seen` events is what they have there, however many they are
abbrev pub AreCounted : Count → ℕ → List Event → List Counted → Type 0
AreCounted c task all jobs = (seen start end : ℕ) → counted_in seen start end jobs ≡ window c task start end (arrivals 0 (take seen all))

-- with the first `seen` events no window of a period has more than the limit
abbrev pub HaveRoom : (period limit seen : ℕ) → List Counted → Type 0
HaveRoom period limit seen jobs = (start : ℕ) → counted_in seen start (start + period) jobs ≤ limit

-- with them this window has more, and it is the first of those that have
pub record IsFirstAbove (period limit seen : ℕ) (jobs : List Counted) (start : ℕ) : Type 0 where
  pub above : limit < counted_in seen start (start + period) jobs
  pub sooner : (other : ℕ) → other < start → counted_in seen other (other + period) jobs ≤ limit

-- before the event at `index` no window has more than the limit, and with it this one is the first that has
pub record IsFirstOfAll (period limit : ℕ) (jobs : List Counted) (start : ℕ) : Type 0 where
  pub index : ℕ
  pub before : HaveRoom period limit index jobs
  pub first : IsFirstAbove period limit (index + 1) jobs start
