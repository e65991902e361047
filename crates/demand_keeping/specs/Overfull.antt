-- Windows that get more than a limit, as the events come one by one.
use Rattle.std.specs.Prelude.{ℕ, ◌+◌, ◌<◌, ◌≤◌, List, take}
use Rattle.slot_types.specs.declared.events.Event.{Event}
use Rattle.plan_rules.specs.Keeping.{arrivals}
use Rattle.demand_keeping.specs.declared.windows.Count.{Count}
use Rattle.demand_keeping.specs.Windows.{window, KeepsLimit}

-- the first window that gets more than the limit: none has more before the event at `index`, and of those that have with it
-- this one begins first
pub record IsFirstOverfull (c : Count) (task period limit : ℕ) (all : List Event) (start : ℕ) : Type 0 where
  pub index : ℕ
  pub before : KeepsLimit c task period limit (take index all)
  pub above : limit < window c task start (start + period) (arrivals 0 (take (index + 1) all))
  pub sooner : (other : ℕ) → other < start → window c task other (other + period) (arrivals 0 (take (index + 1) all)) ≤ limit
