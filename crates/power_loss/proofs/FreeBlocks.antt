-- Where as many pages are free as a block has, a block is wholly free.
use Rattle.std.proofs.Common.{◌≡◌, ◌⊎◌, ℕ, suc, ◌<◌, ◌≤◌, ◌==◌, List, [], ◌∷◌, length}
use Rattle.std.proofs.Common.{Option, Some, None, refl, inl, inr, arith, get_or}
use Rattle.std.specs.Prelude.{sum_by}
use Rattle.std.specs.List.{position}
use Rattle.std.proofs.lemmas.Bool.{cases_eq, eqb-true, eqb-false}
use Rattle.std.proofs.lemmas.List.Sums.{sum_by-cons}
use Rattle.std.proofs.lemmas.List.Quantifiers.{position-Some}
use Rattle.slot_types.specs.declared.plans.DiePlan.{DiePlan}
use Rattle.die_log.specs.Model.Flash.{Cells, Block, block_at, free_block, free_in}
use Rattle.die_log.specs.Invariants.SoundCells.{IsOpen, AreSoundCells}
use Rattle.die_log.proofs.Cells.Steps.{no_position}
use Rattle.die_log.proofs.Cells.FreePages.{free_idle, free_erasing}
use Rattle.power_loss.specs.Recovery.{IsFreeBlock}

-- Sums

none_after : {X : Type 0} (f : X → ℕ) (d : X) (xs : List X) → ((i : ℕ) → i < length xs → f (get_or xs i d) ≡ 0) → sum_by f xs ≡ 0
none_after f d [] h = refl
none_after f d (x ∷ xs) h =
    let first : f x ≡ 0 = h 0 (omega arith) in
    omega (arith, sum_by-cons f x xs, none_after f d xs (λ i lt. h (suc i) (omega arith)))

-- where at most one counts, and that for less than p
one_counts : {X : Type 0} (f : X → ℕ) (d : X) (p : ℕ) (xs : List X) → 0 < p → ((i : ℕ) → i < length xs → f (get_or xs i d) < p)
    → ((i k : ℕ) → i < length xs → k < length xs → 0 < f (get_or xs i d) → 0 < f (get_or xs k d) → i ≡ k) → sum_by f xs < p
one_counts f d p [] some less one = omega arith
one_counts f d p (x ∷ xs) some less one =
    by_head (one_counts f d p xs some (λ i lt. less (suc i) (omega arith))
    (λ i k lt lt' a b. omega (arith, one (suc i) (suc k) (omega arith) (omega arith) a b))) (cases_eq (f x) 0)
  where
    zero_at : (f x ≡ 0 → ⊥) → (i : ℕ) → i < length xs → (f (get_or xs i d) ≡ 0) ⊎ (f (get_or xs i d) ≡ 0 → ⊥) → f (get_or xs i d) ≡ 0
    zero_at counts i lt (inl e) = e
    zero_at counts i lt (inr e) = absurd (omega (arith, one 0 (suc i) (omega arith) (omega arith) (omega arith) (omega arith)))

    by_head : sum_by f xs < p → (f x ≡ 0) ⊎ (f x ≡ 0 → ⊥) → sum_by f (x ∷ xs) < p
    by_head rest (inl e) = omega (arith, sum_by-cons f x xs)
    by_head rest (inr counts) =
        let first : f x < p = less 0 (omega arith) in
        omega (arith, sum_by-cons f x xs, none_after f d xs (λ i lt. zero_at counts i lt (cases_eq (f (get_or xs i d)) 0)))

-- Free pages

idle_by : (plan : DiePlan) (c : Cells) (b : ℕ) → 0 < plan.shape.pages → AreSoundCells plan c → (block_at c b).filled ≡ 0 → (block_at c b).erasing ≡ 0
idle_by plan c b more s none = by_case (cases_eq (block_at c b).erasing 0)
  where
    by_case : ((block_at c b).erasing ≡ 0) ⊎ ((block_at c b).erasing ≡ 0 → ⊥) → (block_at c b).erasing ≡ 0
    by_case (inl e) = e
    by_case (inr busy) = let closed : (block_at c b).filled ≡ plan.shape.pages = (s.erasing b (omega arith)).1 in absurd (omega arith)

-- where no block is wholly free, one with free pages is open
open_by : (plan : DiePlan) (c : Cells) (b : ℕ) → ((block_at c b).filled ≡ 0 → ⊥) → 0 < free_in plan (block_at c b) → IsOpen plan c b
    × (free_in plan (block_at c b) < plan.shape.pages)
open_by plan c b filled room = by_case (cases_eq (block_at c b).erasing 0)
  where
    by_case : ((block_at c b).erasing ≡ 0) ⊎ ((block_at c b).erasing ≡ 0 → ⊥) → IsOpen plan c b × (free_in plan (block_at c b) < plan.shape.pages)
    by_case (inl e) =
        let is = free_idle plan (block_at c b) e in
        ((omega arith, omega arith), omega arith)
    by_case (inr busy) = let none = free_erasing plan (block_at c b) busy in absurd (omega arith)

less_by : (plan : DiePlan) (c : Cells) (b : ℕ) → 0 < plan.shape.pages → ((block_at c b).filled ≡ 0 → ⊥)
    → (free_in plan (block_at c b) ≡ 0) ⊎ (free_in plan (block_at c b) ≡ 0 → ⊥) → free_in plan (block_at c b) < plan.shape.pages
less_by plan c b more filled (inl e) = omega arith
less_by plan c b more filled (inr e) = (open_by plan c b filled (omega arith)).1

-- where as many pages are free as a block has, a block is wholly free
pub has_free_block : (plan : DiePlan) (c : Cells) → 0 < plan.shape.pages → AreSoundCells plan c → plan.shape.pages ≤ sum_by (free_in plan) c.blocks
    → (b : ℕ) × IsFreeBlock c b
has_free_block plan c more s many = by_place (position (λ (t : Block). t.filled == 0) c.blocks) refl
  where
    by_place : (o : Option ℕ) → position (λ (t : Block). t.filled == 0) c.blocks ≡ o → (b : ℕ) × IsFreeBlock c b
    by_place (Some b) e =
        let k = position-Some (λ (t : Block). t.filled == 0) c.blocks b free_block e in
        let none : (block_at c b).filled ≡ 0 = eqb-true (block_at c b).filled 0 k.1 in
        (b, record { stands = k.0; unfilled = none; idle = idle_by plan c b more s none })
    by_place None e =
        let filled : (b : ℕ) → b < length c.blocks → (block_at c b).filled ≡ 0 → ⊥ =
        λ b lt z. eqb-false (block_at c b).filled 0 (no_position (λ (t : Block). t.filled == 0) c.blocks e b free_block lt) z in
        let few : sum_by (free_in plan) c.blocks < plan.shape.pages = one_counts (free_in plan) free_block plan.shape.pages c.blocks more
        (λ i lt. less_by plan c i more (filled i lt) (cases_eq (free_in plan (block_at c i)) 0))
        (λ i k lt lt' a b. s.one_open i k (open_by plan c i (filled i lt) a).0 (open_by plan c k (filled k lt') b).0) in
        absurd (omega arith)
