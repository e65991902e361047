use Rattle.std.proofs.Common.{◌≡◌, ◌<◌, ℕ, count_by}
use Rattle.slot_types.specs.Places.{is_in}
use Rattle.die_mount.proofs.scan.Scan.first_erase.Given as goal

abbrev pub invariant-loop-block : goal.invariant-loop-block
invariant-loop-block l = (b : ℕ) → b < l.block → count_by (is_in b) l.self.places ≡ 0 → ⊥
