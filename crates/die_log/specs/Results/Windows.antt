-- Logs each window of which has the slots that are asked of it.
use Rattle.std.specs.Prelude.{ℕ, ◌-◌, ◌≤◌, ◌&&◌, nat_le, Bool, if◌then◌else◌, length, sum_by}
use Rattle.slot_types.specs.declared.plans.DiePlan.{DiePlan}
use Rattle.plan_rules.specs.Times.{collection_work}
use Rattle.die_log.specs.Model.Log.{Log, Job, jobs, now}

-- released in the window and due in it
abbrev pub is_in_window : ℕ → ℕ → Job → Bool
is_in_window start end j = nat_le start j.release && nat_le j.due end

-- the slots that a job or a collection takes at most
abbrev pub slots_of : DiePlan → Job → ℕ
slots_of plan j = if j.collects then collection_work plan else length j.ops

-- what it asks of the window
abbrev pub asked_of : DiePlan → ℕ → ℕ → Job → ℕ
asked_of plan start end j = if is_in_window start end j then slots_of plan j else 0

-- each window up to the present slot has as many slots as are asked of it
abbrev pub HasRoom : DiePlan → Log → Type 0
HasRoom plan log = (start end : ℕ) → start ≤ end → end ≤ now log → sum_by (asked_of plan start end) (jobs log) ≤ end - start
