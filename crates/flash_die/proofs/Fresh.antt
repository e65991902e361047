-- The blocks of a device on which nothing was done yet.
use Rattle.std.proofs.Common.{◌≡◌, ℕ, ◌*◌, ◌<◌, List, [], length, get_or, sym, ap, ◌∙◌, arith, inl, inr}
use Rattle.std.specs.Prelude.{replicate}
use Rattle.std.proofs.lemmas.List.{get_or-replicate, get_or_past, length-replicate}
use Rattle.std.proofs.lemmas.Bool.{cases_lt}
use Rattle.std.proofs.lemmas.List.FromFn.{fill_by_all}
use Rattle.slot_types.specs.declared.plans.Shape.{Shape}
use Rattle.slot_types.specs.declared.pages.PageData.{PageData}
use Rattle.flash_die.specs.Flash.{Block, free_block, fresh_blocks}
use Rattle.slot_types.specs.Shapes.{IsShape}
use Rattle.flash_die.specs.Memory.{IsMemory, block_of, blocks_of, cells_up_to}
use Rattle.flash_die.proofs.Erase.{block_with}
use Rattle.flash_die.proofs.Laid.{length-laid}

pub blocks_fresh : (shape : Shape) (cells : List PageData)
    → blocks_of shape.pages cells (replicate shape.blocks 0) (replicate shape.blocks 0) (replicate shape.blocks 0) ≡ fresh_blocks shape
blocks_fresh shape cells =
    let zeros : List ℕ = replicate shape.blocks 0 in
    let len : length zeros ≡ shape.blocks = length-replicate shape.blocks 0 in
    sym (fill_by_all (block_of shape.pages cells zeros zeros zeros) (fresh_blocks shape) (length zeros) free_block
    (length-replicate shape.blocks free_block ∙ sym len) (λ k h.
    let below : k < shape.blocks = omega (arith, h, len) in
    let F : ℕ → Block = λ n. block_with shape.pages cells k n n n in
    get_or-replicate shape.blocks k free_block free_block below ∙ ap F (sym (get_or-replicate shape.blocks k 0 0 below))))

pub zero_at : (counts : List ℕ) (n i : ℕ) → counts ≡ replicate n 0 → get_or counts i 0 ≡ 0
zero_at counts n i are =
    ap (λ (l : List ℕ). get_or l i 0) are ∙ elim (cases_lt i n) [
      | inl below ↦ get_or-replicate n i 0 0 below
      | inr past ↦ get_or_past (replicate n 0) i 0 (omega (arith, past, length-replicate {A = ℕ} n 0))
    ]

-- no cell of it is laid down
pub memory_fresh : (shape : Shape) (cells : List PageData) (filled erasing erases : List ℕ) → IsShape shape → cells ≡ [] → filled
    ≡ replicate shape.blocks 0 → erasing ≡ replicate shape.blocks 0 → erases ≡ replicate shape.blocks 0
    → IsMemory shape (cells_up_to (shape.blocks * shape.pages) cells) filled erasing erases
memory_fresh shape cells filled erasing erases is no_cells no_filled no_erasing no_erases = record {
  limits = is;
  filled_len = ap length no_filled ∙ length-replicate shape.blocks 0;
  erasing_len = ap length no_erasing ∙ length-replicate shape.blocks 0;
  erases_len = ap length no_erases ∙ length-replicate shape.blocks 0;
  cells_len = length-laid (shape.blocks * shape.pages) cells (omega (arith, ap length no_cells));
  within = λ block. omega (arith, zero_at filled shape.blocks block no_filled);
  few_slots = λ block. omega (arith, zero_at erasing shape.blocks block no_erasing, is.some_slots);
}
