use Rattle.std.proofs.Common.{◌≡◌, ◌<◌, ◌≤◌, false, ℕ}
use Rattle.spare_blocks.specs.Tables.{use_of}
use Rattle.stepped_spares.specs.Stepping.{must_erase}
use Rattle.stepped_spares.proofs.table.next_erase.Given as goal

abbrev pub invariant-loop-block : goal.invariant-loop-block
invariant-loop-block l = (y : ℕ) → l.from ≤ y → y < l.block → must_erase l.all (use_of l.table y) ≡ false
