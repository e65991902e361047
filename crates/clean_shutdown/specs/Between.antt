-- A part between a clean shutdown and the start after it.
use Rattle.std.specs.Prelude.{◌≡◌, ℕ, Bool, List, Option, Some, map}
use Rattle.flash_die.specs.Flash.{Block}
use Rattle.power_loss.specs.Labels.{Labels}
use Rattle.power_loss.specs.Losses.{Life}
use Rattle.saving_nand.specs.declared.saved.Saved.{Saved}
use Rattle.slot_core.specs.Core.{Core}

-- Where this was left with something saved, the part shows that once its power has come again, and its cells as they
-- were. Erases are counted anew, also in what is saved.
pub record ShowsSaved {N : Type 0} (saved : N → Option Saved) (blocks : N → List Block) (labels : N → Labels) (left shown : N) (found : Saved)
    : Type 0 where
  pub was : Saved
  pub had : saved left ≡ Some was
  pub has : saved shown ≡ Some found
  pub aside : found.aside ≡ was.aside
  pub next : found.next ≡ was.next
  pub places : found.checkpoint.places ≡ was.checkpoint.places
  pub spare : found.checkpoint.spare ≡ was.checkpoint.spare
  pub balances : found.checkpoint.balances ≡ was.checkpoint.balances
  pub filled : map (λ counts. counts.filled) found.checkpoint.blocks ≡ map (λ counts. counts.filled) was.checkpoint.blocks
  pub cells : map (λ block. block.pages) (blocks shown) ≡ map (λ block. block.pages) (blocks left)
  pub labels_are : (labels shown).blocks ≡ (labels left).blocks

-- the life of a die so far
abbrev pub life_of : {N : Type 0} → Core N → (first : Labels) → (from : ℕ → ℕ) → (lost : Bool) → Life
life_of die first from lost = record { start = die.start; first = first; from = from; log = die.log; lost = lost }
