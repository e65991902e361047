-- What an act does to the number of free pages.
use Rattle.std.proofs.Common.{◌≡◌, ℕ, ◌+◌, ◌-◌, ◌<◌, ◌==◌, Bool, true, false, cond, Some, refl, ap, sym, subst, arith, length, slice_set}
use Rattle.std.specs.List.{sum_by}
use Rattle.std.proofs.lemmas.List.Sums.{sum_by-set}
use Rattle.std.proofs.lemmas.Bool.{cases_lt, ne_eqb}
use Rattle.slot_types.specs.declared.plans.DiePlan.{DiePlan}
use Rattle.slot_types.specs.declared.acts.Act.TheVariants as does
use Rattle.die_log.specs.Model.Flash.{Cells, Block, free_block, block_at, cells_after_program_in, cells_after_program, free_in, block_after_erase_slot, cells_after}
use Rattle.die_log.specs.Invariants.SoundCells.{IsClosed, AreSoundCells}
use Rattle.die_log.proofs.Cells.Acts.{open_idle}
use Rattle.die_log.proofs.Cells.Steps.{opens, open_is, within_blocks}

-- the free pages of a block by whether it is in erase
pub free_idle : (plan : DiePlan) (s : Block) → s.erasing ≡ 0 → free_in plan s ≡ plan.shape.pages - s.filled
free_idle plan s e = rw e refl

pub free_erasing : (plan : DiePlan) (s : Block) → (s.erasing ≡ 0 → ⊥) → free_in plan s ≡ 0
free_erasing plan s busy = ap (λ (b : Bool). cond b (plan.shape.pages - s.filled) 0) (ne_eqb s.erasing 0 busy)

-- a block's change is the sum's
changed : (plan : DiePlan) (c : Cells) (b : ℕ) (s : Block) → b < length c.blocks
    → sum_by (free_in plan) (slice_set c.blocks b s) + free_in plan (block_at c b) ≡ sum_by (free_in plan) c.blocks + free_in plan s
changed plan c b s lt = sum_by-set (free_in plan) c.blocks b s free_block lt

open_free : (plan : DiePlan) (page b : ℕ) (c : Cells) → b < length c.blocks → (block_at c b).filled < plan.shape.pages
    → (block_at c b).erasing ≡ 0
    → sum_by (free_in plan) (cells_after_program_in page (Some b) c).blocks + 1 ≡ sum_by (free_in plan) c.blocks
open_free plan page b c lt room idle =
    let s : Block = block_at c b in
    let after : Block = record s { filled = s.filled + 1 } in
    omega (arith, changed plan c b after lt, free_idle plan s idle, free_idle plan after idle)

-- a program takes one free page
pub program_free : (plan : DiePlan) (page : ℕ) (c : Cells) → 0 < plan.shape.pages → AreSoundCells plan c → 0 < sum_by (free_in plan) c.blocks
    → sum_by (free_in plan) (cells_after_program plan page c).blocks + 1 ≡ sum_by (free_in plan) c.blocks
program_free plan page c more s free =
    let o = opens plan c free in
    let k = open_is plan c o.0 more s o.1 in
    subst (λ x. sum_by (free_in plan) (cells_after_program_in page x c).blocks + 1 ≡ sum_by (free_in plan) c.blocks) (sym o.1)
    (open_free plan page o.0 c k.stands k.room (open_idle plan c o.0 s k.room))

closed_none : (plan : DiePlan) (s : Block) → s.filled ≡ plan.shape.pages → free_in plan s ≡ 0
closed_none plan s closed = by_test (s.erasing == 0)
  where
    by_test : (t : Bool) → cond t (plan.shape.pages - s.filled) 0 ≡ 0
    by_test true = omega arith
    by_test false = refl

erased_free : (plan : DiePlan) (s : Block) (t : Bool) → s.filled ≡ plan.shape.pages
    → free_in plan (cond t (record { filled = 0; erasing = 0; erases = s.erases + 1 }) (record s { erasing = s.erasing + 1 }))
    ≡ cond t plan.shape.pages 0
erased_free plan s true closed = omega arith
erased_free plan s false closed = closed_none plan (record s { erasing = s.erasing + 1 }) closed

-- the last slot of a closed block's erase frees its pages, and the others none
pub erase_free : (plan : DiePlan) (n : ℕ) (b : ℕ) (c : Cells) → 0 < plan.shape.pages → IsClosed plan c b
    → sum_by (free_in plan) (cells_after plan (Some (n, does.Erase b)) c).blocks
    ≡ sum_by (free_in plan) c.blocks + cond ((block_at c b).erasing + 1 == plan.shape.erase_slots) plan.shape.pages 0
erase_free plan n b c more closed =
    let lt : b < length c.blocks = within_blocks plan c b (omega arith) (cases_lt b (length c.blocks)) in
    let s : Block = block_at c b in
    omega (
      arith,
      changed plan c b (block_after_erase_slot plan s) lt,
      closed_none plan s closed,
      erased_free plan s
          (s.erasing + 1 == plan.shape.erase_slots) closed,
    )
