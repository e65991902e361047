use Rattle.std.proofs.Common.{◌≡◌, ◌<◌, ℕ}
use Rattle.std.specs.Prelude.{slice_index_or}
use Rattle.spare_blocks.specs.declared.cells.BlockUse.TheVariants as use_as
use Rattle.spare_blocks.proofs.table.find_spare.Given as goal

abbrev pub invariant-loop-index : goal.invariant-loop-index
invariant-loop-index l = (k : ℕ) → k < l.index → slice_index_or l.uses k use_as.Bad ≡ use_as.Spare → ⊥
