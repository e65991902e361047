-- A checkpoint with a fault fits no plan.
use Rattle.std.proofs.Common.{◌≡◌, ◌≢◌, ℕ, suc, ◌+◌, ◌<◌, ◌≤◌, Bool, true, false, List, length, drop, not, nat_lt, Option, Some, None, refl, sym, ap, ◌∙◌, arith}
use Rattle.std.specs.Prelude.{position, option_map}
use Rattle.std.proofs.lemmas.Bool.{true≢false}
use Rattle.std.proofs.lemmas.Bool.Decides.{nat_tests}
use Rattle.std.proofs.lemmas.List.{get_or-drop}
use Rattle.std.proofs.lemmas.List.Quantifiers.{position-Some}
use Rattle.std.proofs.lemmas.Option.{same_Some}
use Rattle.slot_types.specs.declared.pages.Place.{Place}
use Rattle.slot_types.specs.declared.plans.DiePlan.{DiePlan}
use Rattle.slot_types.specs.Places.{place_of}
use Rattle.die_checkpoint.specs.declared.checkpoint.BlockCounts.{BlockCounts}
use Rattle.die_checkpoint.specs.declared.checkpoint.Checkpoint.{Checkpoint}
use Rattle.die_checkpoint.specs.declared.fault.CheckpointFault.{CheckpointFault}
use Rattle.die_checkpoint.specs.declared.fault.CheckpointFault.TheVariants as faults
use Rattle.die_checkpoint.specs.Counts.{no_counts, counts_at, is_overfull, is_open, open_from, is_worn, is_astray, most_erases}
use Rattle.die_checkpoint.specs.Fits.{IsOpen, AreWithin, HasOneOpen, AreUnworn, ArePlaced, Fits}
use Rattle.die_checkpoint.specs.Faults.{IsSecondOpen, HasCheckpointFault}

above : (n m : ℕ) → nat_lt n m ≡ true → n < m
above n m h = grind (arith, nat_tests)

pub overfull_breaks : (pages : ℕ) (blocks : List BlockCounts) (b : ℕ) → position (is_overfull pages) blocks ≡ Some b
    → AreWithin pages blocks → ⊥
overfull_breaks pages blocks b is within =
    let more : pages < (counts_at blocks b).filled = above _ _ (position-Some (is_overfull pages) blocks b no_counts is).1 in
    omega (arith, within b)

pub worn_breaks : (blocks : List BlockCounts) (b : ℕ) → position is_worn blocks ≡ Some b → AreUnworn blocks → ⊥
worn_breaks blocks b is unworn =
    let more : most_erases < (counts_at blocks b).erases = above _ _ (position-Some is_worn blocks b no_counts is).1 in
    omega (arith, unworn b)

opened : (pages : ℕ) (block : BlockCounts) → is_open pages block ≡ true → (0 < block.filled) × (block.filled < pages)
opened pages block h = (grind (arith, nat_tests), grind (arith, nat_tests))

-- the block that is found after a number
found_after : (o : Option ℕ) (from block : ℕ) → option_map (λ beyond. from + beyond) o ≡ Some block
    → (beyond : ℕ) × (o ≡ Some beyond) × (from + beyond ≡ block)
found_after None from block is = absurd cc
found_after (Some beyond) from block is = (beyond, refl, same_Some (from + beyond) block is)

pub second_breaks : (pages : ℕ) (blocks : List BlockCounts) (b : ℕ) → IsSecondOpen pages blocks b → HasOneOpen pages blocks → ⊥
second_breaks pages blocks b s one_open =
    let first_open = opened pages (counts_at blocks s.first) (position-Some (is_open pages) blocks s.first no_counts s.first_is).1 in
    let f = found_after (position (is_open pages) (drop (s.first + 1) blocks)) (s.first + 1) b s.second_is in
    let there : counts_at (drop (s.first + 1) blocks) f.0 ≡ counts_at blocks b = get_or-drop (s.first + 1) blocks f.0 no_counts
    ∙ ap (λ (k : ℕ). counts_at blocks k) f.2 in
    let second_open = opened pages (counts_at blocks b) (ap (is_open pages) (sym there)
    ∙ (position-Some (is_open pages) (drop (s.first + 1) blocks) f.0 no_counts f.1).1) in
    omega (arith, one_open s.first b first_open second_open, f.2)

nowhere_near : (blocks : List BlockCounts) (o : Option Place) → is_astray blocks o ≡ true
    → (place : Place) × (o ≡ Some place) × (nat_lt place.page (counts_at blocks place.block).filled ≡ false)
nowhere_near blocks None h = absurd (true≢false (sym h))
nowhere_near blocks (Some place) h = (place, refl, unprogrammed (nat_lt place.page (counts_at blocks place.block).filled) h)
  where
    unprogrammed : (b : Bool) → not b ≡ true → b ≡ false
    unprogrammed true k = absurd (true≢false (sym k))
    unprogrammed false k = refl

no_less : (n m : ℕ) → nat_lt n m ≡ false → n < m → ⊥
no_less n m h k = grind (arith, nat_tests)

pub astray_breaks : (c : Checkpoint) (page : ℕ) → position (is_astray c.blocks) c.places ≡ Some page → ArePlaced c → ⊥
astray_breaks c page is placed =
    let f = nowhere_near c.blocks (place_of c.places page) (position-Some (is_astray c.blocks) c.places page None is).1 in
    no_less f.0.page (counts_at c.blocks f.0.block).filled f.2 (placed page f.0 f.1)

-- all causes but the lack of memory
pub fault_breaks : (plan : DiePlan) (c : Checkpoint) (fault : CheckpointFault) → HasCheckpointFault plan c fault → fault ≢ faults.NoMemory
    → Fits plan c → ⊥
fault_breaks plan c faults.OtherShape h other fits = h fits.all_else.blocks.plan_is.shape
fault_breaks plan c faults.BadPlan h other fits = h.1 fits.all_else.blocks.plan_is.bound
fault_breaks plan c (faults.Overfull b) h other fits = overfull_breaks plan.shape.pages c.blocks b h.1 fits.all_else.blocks.within
fault_breaks plan c (faults.SecondOpen b) h other fits = second_breaks plan.shape.pages c.blocks b h.2 fits.all_else.blocks.one_open
fault_breaks plan c (faults.WornOut b) h other fits = worn_breaks c.blocks b h.3 fits.all_else.blocks.unworn
fault_breaks plan c (faults.Unprogrammed page) h other fits = astray_breaks c page h.1 fits.all_else.placed
fault_breaks plan c (faults.AboveCap task) h other fits = omega (arith, h.2.above, fits.all_else.capped task)
fault_breaks plan c (faults.OtherSum accounts free) h other fits = h.5 (h.3 ∙ fits.all_else.sums ∙ sym h.4)
fault_breaks plan c faults.NoMemory h other fits = other refl
fault_breaks plan c (faults.SharedCell page) h other fits =
    omega (arith, h.1.before, fits.apart.apart page h.1.other h.1.place h.1.lies h.1.also)
