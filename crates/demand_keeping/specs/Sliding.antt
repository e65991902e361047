-- A window that slides over jobs whose slots rise.
use Rattle.std.specs.Prelude.{ℕ, ◌≡◌, ◌+◌, ◌<◌, ◌≤◌, List, length, take, slice_index_or}
use Rattle.demand_keeping.specs.declared.sliding.Sliding.{Sliding}
use Rattle.demand_keeping.specs.declared.windows.Counted.{Counted}
use Rattle.demand_keeping.specs.BySlot.{counted}

-- the jobs before `tail` are past: none of them is in a window with one from `head` on; `sum` counts those between
pub record IsSliding (period limit seen : ℕ) (jobs : List Counted) (head : ℕ) (w : Sliding) : Type 0 where
  pub order : w.tail ≤ head
  pub small : w.sum ≤ limit
  pub sum : w.sum + counted seen (take w.tail jobs) ≡ counted seen (take head jobs)
  pub past : (before from : ℕ) (d : Counted) → before < w.tail → head ≤ from → from < length jobs
      → (slice_index_or jobs before d).slot + period ≤ (slice_index_or jobs from d).slot

-- those from `tail` on are in a window with the one at `head`
abbrev pub AreNear : (period : ℕ) → List Counted → (tail head : ℕ) → Type 0
AreNear period jobs tail head = (k : ℕ) (d : Counted) → tail ≤ k → k < head → (slice_index_or jobs head d).slot < (slice_index_or jobs k d).slot + period
