use Rattle.std.proofs.Common.{◌≡◌, ℕ, ◌+◌, ◌*◌, ◌%◌, ◌<◌, ◌≤◌}
use Rattle.flashplan_design.proofs.commons.multiple_for.Given as goal

abbrev pub invariant-loop-before : goal.invariant-loop-before
invariant-loop-before l = (j : ℕ) → 1 ≤ j → j < l.before + 1 → ¬ ((l.of * j) % l.period ≡ 0)
