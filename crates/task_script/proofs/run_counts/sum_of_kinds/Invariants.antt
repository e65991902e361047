use Rattle.std.proofs.Common.{◌≡◌, ℕ, ◌+◌, ◌<◌, ◌≤◌, length}
use Rattle.std.specs.Prelude.{get_or}
use Rattle.task_script.specs.RunCounts.{capped}
use Rattle.task_script.proofs.run_counts.sum_of_kinds.Given as goal

abbrev pub invariant-loop-number : goal.invariant-loop-number
invariant-loop-number l =
    (length l.sum ≡ 25)
    × ((k : ℕ) → k < l.number → get_or l.sum k 0 ≡ capped (get_or l.fn.kinds k 0 + get_or l.more k 0))
    × ((k : ℕ) → l.number ≤ k → get_or l.sum k 0 ≡ get_or l.fn.kinds k 0)
