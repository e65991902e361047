-- Events whose work fits, whatever plan they keep.
use Rattle.std.specs.Prelude.{ℕ, ◌-◌, ◌≤◌, ◌&&◌, nat_le, Bool, if◌then◌else◌, List, length, sum_by}
use Rattle.slot_types.specs.declared.plans.DiePlan.{DiePlan}
use Rattle.slot_types.specs.declared.limits.TheConstants.{MAX_SLOT}
use Rattle.slot_types.specs.declared.events.Event.{Event}
use Rattle.plan_rules.specs.Times.{collection_work}
use Rattle.plan_rules.specs.Keeping.{TaskArrival, arrivals}

-- released in the window and due in it
abbrev pub is_in_window : ℕ → ℕ → TaskArrival → Bool
is_in_window start end a = nat_le start a.release && nat_le a.due end

-- the slots that it takes at most
abbrev pub slots_of : DiePlan → TaskArrival → ℕ
slots_of plan a = if a.collects then collection_work plan else length a.ops

-- what it asks of the window
abbrev pub asked_of : DiePlan → ℕ → ℕ → TaskArrival → ℕ
asked_of plan start end a = if is_in_window start end a then slots_of plan a else 0

-- each window has as many slots as are asked of it
abbrev pub FitsWindows : DiePlan → List Event → Type 0
FitsWindows plan all = (start end : ℕ) → start ≤ end → end ≤ MAX_SLOT → sum_by (asked_of plan start end) (arrivals 0 all) ≤ end - start
