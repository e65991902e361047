-- The block to which a volume programs next is the log's.
use Rattle.std.proofs.Common.{◌≡◌, ◌+◌, ◌==◌, not, Bool, true, false, cond, List, [], ◌∷◌, refl, ap, map}
use Rattle.std.specs.List.{position, position_or_len}
use Rattle.std.proofs.lemmas.List.{length-map}
use Rattle.slot_types.specs.declared.plans.DiePlan.{DiePlan}
use Rattle.flash_die.specs.Flash as device
use Rattle.flash_volume.specs.Cells.{open_in, filled_of, is_open_with, is_wholly_free}
use Rattle.die_log.specs.Model.Flash as flash
use Rattle.slot_core.specs.Device.{counts_of}

first_mapped : {X Y : Type 0} (p : Y → Bool) (f : X → Y) (xs : List X) → position_or_len p (map f xs) ≡ position_or_len (λ x. p (f x)) xs
first_mapped p f [] = refl
first_mapped p f (x ∷ xs) = by_test (p (f x)) (first_mapped p f xs)
  where
    by_test : (b : Bool) → position_or_len p (map f xs) ≡ position_or_len (λ y. p (f y)) xs
        → cond (not b) (1 + position_or_len p (map f xs)) 0 ≡ cond (not b) (1 + position_or_len (λ y. p (f y)) xs) 0
    by_test true h = refl
    by_test false h = ap (λ n. 1 + n) h

position_mapped : {X Y : Type 0} (p : Y → Bool) (f : X → Y) (xs : List X) → position p (map f xs) ≡ position (λ x. p (f x)) xs
position_mapped p f xs = rw (first_mapped p f xs) (rw (length-map xs f) refl)

-- a volume's open block is the log's
pub opens_same : (plan : DiePlan) (c : flash.Cells) (blocks : List device.Block) → map counts_of blocks ≡ c.blocks
    → open_in plan.shape.pages blocks ≡ flash.open_block plan c
opens_same plan c blocks is =
    rw (position_mapped (is_open_with plan.shape.pages) filled_of blocks) (rw (position_mapped is_wholly_free filled_of blocks) (rw (← is)
    (rw (position_mapped (flash.is_open plan) counts_of blocks)
    (rw (position_mapped (λ (s : flash.Block). s.filled == 0) counts_of blocks) refl))))
