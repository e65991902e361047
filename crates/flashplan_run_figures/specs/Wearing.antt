-- What the blocks of a die wore.
use Rattle.std.specs.Prelude.{◌≡◌, ℕ, ◌*◌, ◌/◌, ◌==◌, ℤ, pos, min, max, sum, fold, length, if◌then◌else◌, List, Option, Some, None}
use Rattle.flashplan_run_figures.specs.SlotCounts.{capped}
use Rattle.flashplan_run_figures.specs.declared.lives.Wearing.{Wearing}

abbrev pub least_of : List ℕ → ℕ
least_of erases = fold min 4294967295 erases

abbrev pub greatest_of : List ℕ → ℕ
greatest_of erases = fold max 0 erases

-- of `slots` slots, and of blocks that were erased as often as `erases` says
pub record IsWearing (slots : ℕ) (erases : List ℕ) (wearing : Wearing) : Type 0 where
  pub slots_are : wearing.slots ≡ slots
  pub erases_are : wearing.erases ≡ capped (sum erases)
  pub blocks_are : wearing.blocks ≡ capped (length erases)
  pub least_is : wearing.least ≡ least_of erases
  pub greatest_is : wearing.greatest ≡ greatest_of erases

-- the mean of a block, in hundredths, rounded down; none of no block
abbrev pub mean_erases : Wearing → Option ℤ
mean_erases wearing = if wearing.blocks == 0 then None else Some (pos (wearing.erases * 100 / wearing.blocks))
