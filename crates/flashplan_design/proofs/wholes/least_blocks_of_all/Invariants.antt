use Rattle.std.proofs.Common.{ℕ, ◌<◌, ◌≤◌}
use Rattle.slot_types.specs.declared.limits.TheConstants.{MIN_BLOCKS}
use Rattle.flashplan_design.specs.Plans.{AllDo}
use Rattle.flashplan_design.specs.declared.numbers.Number.TheVariants as number
use Rattle.flashplan_design.proofs.wholes.least_blocks_of_all.Given as goal

abbrev pub invariant-loop-n : goal.invariant-loop-n
invariant-loop-n l = (fewer : ℕ) → MIN_BLOCKS ≤ fewer → fewer < l.n → ¬ AllDo number.Blocks l.plan fewer
