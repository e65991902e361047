-- What the jobs of a task ask of a window of slots.
use Rattle.std.specs.Prelude.{ℕ, ◌+◌, ◌-◌, ◌≤◌, ◌&&◌, ◌==◌, not, nat_le, nat_lt, Bool, if◌then◌else◌, List, length, sum_by}
use Rattle.slot_types.specs.declared.events.Event.{Event}
use Rattle.slot_types.specs.Operations.{writes}
use Rattle.plan_rules.specs.Keeping.{TaskArrival, arrivals}
use Rattle.demand_keeping.specs.declared.windows.Count.{Count}
use Rattle.demand_keeping.specs.declared.windows.Count.TheVariants as count

-- operations are counted where a job is released, writes where it comes
abbrev pub slot_of : Count → TaskArrival → ℕ
slot_of count.Operations a = a.release
slot_of count.Writes a = a.at

abbrev pub amount_of : Count → TaskArrival → ℕ
amount_of count.Operations a = length a.ops
amount_of count.Writes a = writes a.ops

abbrev pub is_job_of : ℕ → TaskArrival → Bool
is_job_of task a = not a.collects && (a.task == task)

abbrev pub is_in : ℕ → ℕ → ℕ → Bool
is_in start end slot = nat_le start slot && nat_lt slot end

-- what is counted of a job in the slots from `start` on, `end` not among them
abbrev pub amount_in : Count → ℕ → ℕ → ℕ → TaskArrival → ℕ
amount_in c task start end a = if is_job_of task a && is_in start end (slot_of c a) then amount_of c a else 0

abbrev pub window : Count → ℕ → ℕ → ℕ → List TaskArrival → ℕ
window c task start end all = sum_by (amount_in c task start end) all

-- in no window of a period is more counted than the limit
abbrev pub KeepsLimit : Count → (task period limit : ℕ) → List Event → Type 0
KeepsLimit c task period limit all = (start : ℕ) → window c task start (start + period) (arrivals 0 all) ≤ limit

-- where the first window of a period begins that has this slot
abbrev pub first_with : (period slot : ℕ) → ℕ
first_with period slot = slot - (period - 1)
