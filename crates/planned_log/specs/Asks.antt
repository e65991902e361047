-- When a task may ask for a job, and why not.
use Rattle.std.specs.Prelude.{ℕ, ◌+◌, ◌-◌, ◌==◌, nat_lt, nat_le, not, ◌&&◌, Bool, if◌then◌else◌, max, filter, List}
use Rattle.std.specs.Prelude.{[], ◌∷◌, length, sum_by}
use Rattle.std.specs.Prelude.{Option, Some, None, is_some, unwrap_or}
use Rattle.slot_types.specs.declared.limits.TheConstants.{MAX_OPS}
use Rattle.slot_types.specs.declared.events.Op.{Op}
use Rattle.slot_types.specs.declared.events.Event.{Event}
use Rattle.slot_types.specs.declared.events.Event.TheVariants as events
use Rattle.slot_types.specs.declared.plans.DiePlan.{DiePlan}
use Rattle.slot_types.specs.Operations as counted
use Rattle.demand_rules.specs.declared.terms.TaskTerms.{TaskTerms}
use Rattle.demand_rules.specs.declared.terms.Terms.{Terms}
use Rattle.demand_rules.specs.Demand.{terms_of}
use Rattle.die_log.specs.Model.Log.{Log, now}
use Rattle.die_log.specs.Model.Lives.{Lives, all_slots}
use Rattle.die_log.specs.Model.Answers.{bad_page}
use Rattle.planned_log.specs.declared.refusals.AskRefusal.{AskRefusal}
use Rattle.planned_log.specs.declared.refusals.AskRefusal.TheVariants as because

-- What a task asked for

-- a job that a task asked for: the slot of the clock of all lives in which it came and was released, and how many
-- operations and how many writes it has
pub record Asked : Type 0 where
  pub at : ℕ
  pub operations : ℕ
  pub writes : ℕ

-- the jobs of the task after an event of a life that began in slot `first` of the clock, the newest first
abbrev pub with_ask : (task first : ℕ) → Event → List Asked → List Asked
with_ask task first (events.Submit other release due ops) before =
    if other == task then record { at = first + release; operations = length ops; writes = counted.writes ops } ∷ before else before
with_ask task first _ before = before

-- those of the log of a life, after those before it
abbrev pub asked_in : (task first : ℕ) → List Asked → Log → List Asked
asked_in task first before [] = before
asked_in task first before (e ∷ past) = with_ask task first e.event (asked_in task first before past)

-- and those of all lives
abbrev pub asked_by : ℕ → Lives → List Asked
asked_by task [] = []
asked_by task (log ∷ earlier) = asked_in task (all_slots earlier) (asked_by task earlier) log

-- What a period leaves room for

-- A job counts for a period, from the slot in which it came on
abbrev pub counts_in : (period slot : ℕ) → Asked → Bool
counts_in period slot a = nat_lt slot (a.at + period)

-- the operations, and the writes, of those that count in a slot
abbrev pub operations_in : (period slot : ℕ) → List Asked → ℕ
operations_in period slot asked = sum_by (λ a. if counts_in period slot a then a.operations else 0) asked

abbrev pub writes_in : (period slot : ℕ) → List Asked → ℕ
writes_in period slot asked = sum_by (λ a. if counts_in period slot a then a.writes else 0) asked

-- in slot `slot` of the clock there is room for a job more with `ops` operations and `written` writes
abbrev pub has_room : TaskTerms → ℕ → List Asked → (operations writes : ℕ) → Bool
has_room t slot asked ops written =
    nat_le (operations_in t.period slot asked + ops) t.work && nat_le (writes_in t.period slot asked + written) t.writes

-- The first slot in which `n` more keep to the limit, with what then counts of the jobs of before: a period after the
-- newest job that would exceed it together with those after it; where none would, slot 0
abbrev pub free_at : (Asked → ℕ) → (limit period : ℕ) → List Asked → ℕ → ℕ
free_at amount limit period [] n = 0
free_at amount limit period (a ∷ older) n =
    if nat_lt limit (amount a + n) then a.at + period else free_at amount limit period older (amount a + n)

-- the first slot of the clock in which there is room for it
abbrev pub room_at : TaskTerms → List Asked → (operations writes : ℕ) → ℕ
room_at t asked ops written =
    max (free_at (λ a. a.operations) t.work t.period asked ops) (free_at (λ a. a.writes) t.writes t.period asked written)

-- those that count in the slot
abbrev pub counting : (period slot : ℕ) → List Asked → List Asked
counting period slot asked = filter (counts_in period slot) asked

-- Asks

-- what an ask is for: a job that is released in the present slot and due as many slots later as the task's jobs have
abbrev pub asked_job : Terms → Log → ℕ → List Op → Event
asked_job terms log task ops = events.Submit task (now log) (now log + (terms_of terms task).deadline) ops

-- the most operations of a job of the task
abbrev pub most_operations : TaskTerms → ℕ
most_operations t = if nat_le t.work MAX_OPS then t.work else MAX_OPS

-- What refuses that a task asks for these operations in slot `slot` of a life that began in slot `first` of the clock,
-- where it may ask for at most `most` at once and asked for this before, in the order in which it is looked at
abbrev pub refusals_above : (most : ℕ) → DiePlan → Terms → (life first slot : ℕ) → List Asked → ℕ → List Op → List (Bool × AskRefusal)
refusals_above most plan terms life first slot asked task ops =
    let t = terms_of terms task in
    (nat_le (length plan.caps) task, because.UnknownTask)
    ∷ (length ops == 0, because.EmptyJob)
    ∷ (nat_lt most (length ops), because.TooManyOps most)
    ∷ (is_some (bad_page plan ops), because.BadPage (unwrap_or (bad_page plan ops) 0))
    ∷ (nat_lt t.writes (counted.writes ops), because.TooManyWrites t.writes)
    ∷ (
      not (has_room t (first + slot) asked (length ops) (counted.writes ops)),
      because.TooSoon (room_at t (counting t.period (first + slot) asked) (length ops) (counted.writes ops) - first),
    )
    ∷ (nat_lt life (slot + t.deadline), because.LifeEnd)
    ∷ []

-- an ask is for one job
abbrev pub ask_refusals : DiePlan → Terms → (life first slot : ℕ) → List Asked → ℕ → List Op → List (Bool × AskRefusal)
ask_refusals plan terms life first slot asked task ops =
    refusals_above (most_operations (terms_of terms task)) plan terms life first slot asked task ops

-- a burst is for as many jobs as it takes, and may have all operations that the task may ask for in a period
abbrev pub burst_refusals : DiePlan → Terms → (life first slot : ℕ) → List Asked → ℕ → List Op → List (Bool × AskRefusal)
burst_refusals plan terms life first slot asked task ops = refusals_above (terms_of terms task).work plan terms life first slot asked task ops

-- the first whose condition stands
abbrev pub first_refusal : List (Bool × AskRefusal) → Option AskRefusal
first_refusal [] = None
first_refusal (c ∷ rest) = if c.0 then Some c.1 else first_refusal rest

-- Why an ask is refused after a log, which follows those of earlier lives. Of these it sees the present slot and what
-- the task itself asked for, and nothing of other tasks.
abbrev pub ask_refusal : DiePlan → Terms → ℕ → Lives → Log → ℕ → List Op → Option AskRefusal
ask_refusal plan terms life earlier log task ops =
    first_refusal (ask_refusals plan terms life (all_slots earlier) (now log) (asked_by task (log ∷ earlier)) task ops)

-- and why a burst is, which sees no more
abbrev pub burst_refusal : DiePlan → Terms → ℕ → Lives → Log → ℕ → List Op → Option AskRefusal
burst_refusal plan terms life earlier log task ops =
    first_refusal (burst_refusals plan terms life (all_slots earlier) (now log) (asked_by task (log ∷ earlier)) task ops)
