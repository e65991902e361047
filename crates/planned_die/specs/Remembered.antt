-- What a die remembers of its tasks' asks, to answer the next one.
use Rattle.std.specs.Prelude.{◌≡◌, ℕ, ◌+◌, ◌-◌, ◌%◌, ◌≤◌, ◌<◌, ◌==◌, ◌||◌, nat_lt, nat_le, Bool, if◌then◌else◌, List, [], ◌∷◌, ◌++◌, length, slice_index_or, take, drop}
use Rattle.std.specs.Prelude.{sum_by, All, Option, Some, None}
use Rattle.std.specs.VecDeque.{deque_capacity}
use Rattle.slot_types.specs.declared.plans.DiePlan.{DiePlan}
use Rattle.demand_rules.specs.declared.terms.TaskTerms.{TaskTerms}
use Rattle.demand_rules.specs.declared.terms.Terms.{Terms}
use Rattle.demand_rules.specs.Demand.{terms_of}
use Rattle.die_log.specs.Model.Lives.{Lives}
use Rattle.planned_log.specs.declared.refusals.AskRefusal.{AskRefusal}
use Rattle.planned_log.specs.declared.refusals.AskRefusal.TheVariants as because
use Rattle.planned_log.specs.Asks.{Asked, counting, asked_by, has_room, room_at}
use Rattle.planned_die.specs.declared.memory.AskedJob.{AskedJob}
use Rattle.planned_die.specs.declared.task_asks.TaskAsks.{TaskAsks}

-- the amount that a limit is of
abbrev pub amount_of : Bool → Asked → ℕ
amount_of of_writes a = if of_writes then a.writes else a.operations

-- what a task asked for by these jobs, of which the newest stands last: the newest first
abbrev pub newest_first : List AskedJob → List Asked
newest_first [] = []
newest_first (j ∷ later) = newest_first later ++ record { at = j.at; operations = j.operations; writes = j.writes } ∷ []

-- by task the jobs that it asked for
abbrev pub own_asks : ℕ → List (List AskedJob) → List Asked
own_asks task asked = newest_first (slice_index_or asked task [])

-- From a slot of the clock on these jobs count as those of all lives do
abbrev pub CountAs : DiePlan → Terms → ℕ → List (List AskedJob) → Lives → Type 0
CountAs plan terms clock asked lives = (task slot : ℕ) → task < length plan.caps → clock ≤ slot
    → let period = (terms_of terms task).period in
    counting period slot (own_asks task asked) ≡ counting period slot (asked_by task lives)

-- the slot, counted from slot `first` of the clock, in which there is room again, where there is none now
abbrev pub next_room : TaskTerms → (first clock : ℕ) → List Asked → (operations writes : ℕ) → Option ℕ
next_room t first clock asked ops written =
    if has_room t clock asked ops written then None else Some (room_at t (counting t.period clock asked) ops written - first)

-- whether a job that is released in the slot would be due after the end of the life
abbrev pub late_for : (life deadline slot : ℕ) → Option AskRefusal
late_for life deadline slot = if nat_lt life (slot + deadline) then Some because.LifeEnd else None

-- What the plan says of an ask as at slot `slot`, where it says this of it now: what it has too much of it still has, there is
-- room from slot `next` on, and then the end of the life decides.
abbrev pub said_later : (life deadline slot : ℕ) → Option AskRefusal → Option AskRefusal
said_later life deadline slot None = late_for life deadline slot
said_later life deadline slot (Some because.LifeEnd) = late_for life deadline slot
said_later life deadline slot (Some (because.TooSoon next)) =
    if nat_le next slot then late_for life deadline slot else Some (because.TooSoon next)
said_later life deadline slot (Some refusal) = Some refusal

-- each collection of the task that comes in a life of `life` slots is due by its end: the life ends where the task's
-- collections come again, or no sooner after the last one than that is due
abbrev pub ends_well : ℕ → TaskTerms → Bool
ends_well life t = (life % t.collect_period == 0) || nat_le t.collect_deadline (life % t.collect_period)

-- How the sums are kept

-- all of these count in the slot
abbrev pub AllCount : (period slot : ℕ) → List AskedJob → Type 0
AllCount period slot jobs = All (λ j. slot < j.at + period) jobs

-- they came one after the other
abbrev pub CameInOrder : List AskedJob → Type 0
CameInOrder [] = Unit {0}
CameInOrder (j ∷ later) = All (λ k. j.at ≤ k.at) later × CameInOrder later

-- In this slot of the clock: what was passed by counts no more, and the sums are those of the others.
pub record IsKeptFor (period clock : ℕ) (t : TaskAsks) : Type 0 where
  pub fits : t.passed ≤ length t.jobs.items
  pub gone : All (λ j. j.at + period ≤ clock) (take t.passed t.jobs.items)
  pub came : All (λ j. j.at ≤ clock) t.jobs.items
  pub in_order : CameInOrder t.jobs.items
  pub operations : t.operations ≡ sum_by (λ j. j.operations) (drop t.passed t.jobs.items)
  pub writes : t.writes ≡ sum_by (λ j. j.writes) (drop t.passed t.jobs.items)

-- the jobs alone
abbrev pub jobs_of : TaskAsks → List AskedJob
jobs_of t = t.jobs.items

-- so it is of each task
abbrev pub AreKept : Terms → ℕ → List TaskAsks → Type 0
AreKept terms clock asked =
    (task : ℕ) (d : TaskAsks) → task < length asked → IsKeptFor (terms_of terms task).period clock (slice_index_or asked task d)

-- Each job has an operation, those that count have no more of them than the task may ask for, and there is room for as
-- many jobs as that.
pub record HasMemory (work : ℕ) (t : TaskAsks) : Type 0 where
  pub some : All (λ j. 1 ≤ j.operations) t.jobs.items
  pub few : t.operations ≤ work
  pub room : work ≤ deque_capacity t.jobs

-- so it is of each task
abbrev pub HaveMemory : Terms → List TaskAsks → Type 0
HaveMemory terms asked = (task : ℕ) (d : TaskAsks) → task < length asked → HasMemory (terms_of terms task).work (slice_index_or asked task d)

-- a job more may be noted, once those that count no more are dropped
abbrev pub HasRoomForOne : TaskAsks → Type 0
HasRoomForOne t = length (drop t.passed t.jobs.items) < deque_capacity t.jobs

-- with these operations and writes more the sums still have 32 bits
abbrev pub HasRoomFor : TaskAsks → (operations writes : ℕ) → Type 0
HasRoomFor t ops written = (t.operations + ops ≤ 4294967295) × (t.writes + written ≤ 4294967295)
