use Rattle.std.proofs.Common.{◌≡◌, ◌<◌, ℕ, Some}
use Rattle.die_mount.specs.declared.label.Label.{Label}
use Rattle.die_mount.specs.Told.{told_at, IsFitLabel}
use Rattle.die_mount.proofs.scan.first_bad.Given as goal

abbrev pub invariant-loop-k : goal.invariant-loop-k
invariant-loop-k l = (k : ℕ) (x : Label) → k < l.k → told_at l.cells k ≡ Some x → IsFitLabel l.pages x
