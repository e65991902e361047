-- What a heap of pairs holds, and what is always true of it.
use Rattle.std.specs.Prelude.{ℕ, ◌+◌, ◌≤◌, List, map}
use Rattle.std.specs.BinaryHeap.{IsHeap}
use Rattle.std.specs.Ordering.{nat_cmp, ordering_then}
use Rattle.std.specs.declared.cmp.Ordering.{Ordering}
use Rattle.std.specs.declared.cmp.Reverse.{Reverse}
use Rattle.due_queue.specs.Queue.{in_order, IsRising}
use Rattle.due_queue.specs.Pairs.{is_pair_before}

-- the pairs in order
abbrev pub pairs_in : List (Reverse (ℕ × ℕ)) → List (ℕ × ℕ)
pairs_in items = in_order is_pair_before (map (λ (item : Reverse (ℕ × ℕ)). item.0) items)

-- the order of the heap, whose greatest item is the least pair
abbrev pub reverse_cmp : Reverse (ℕ × ℕ) → Reverse (ℕ × ℕ) → Ordering
reverse_cmp x y = ordering_then (nat_cmp y.0.0 x.0.0) (nat_cmp y.0.1 x.0.1)

-- a heap with room for the spare ones, that holds no pair twice
pub record IsSoundHeap (items : List (Reverse (ℕ × ℕ))) (len capacity spare : ℕ) : Type 0 where
  pub in_order : IsHeap reverse_cmp items
  pub rising : IsRising is_pair_before (pairs_in items)
  pub room : len + spare ≤ capacity
