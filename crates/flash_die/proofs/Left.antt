-- A device as it was left.
use Rattle.std.proofs.Common.{◌≡◌, ℕ, ◌+◌, ◌*◌, ◌<◌, ◌≤◌, List, length, get_or, drop, refl, ap, ◌∙◌, arith, inl, inr}
use Rattle.std.specs.Prelude.{replicate}
use Rattle.std.proofs.Math.Nat.{mul-le-mul_right}
use Rattle.std.proofs.lemmas.Bool.{cases_lt}
use Rattle.std.proofs.lemmas.List.{get_or-drop, get_or-take, get_or_past, length-drop, length-replicate, length-take-le}
use Rattle.slot_types.specs.declared.plans.Shape.{Shape}
use Rattle.slot_types.specs.declared.pages.PageData.{PageData}
use Rattle.slot_types.specs.Shapes.{IsShape}
use Rattle.flash_die.specs.Flash.{Block, blank, free_block}
use Rattle.flash_die.specs.Memory.{AreLeftSo, IsMemory, blocks_of, cells_up_to, left_memory}
use Rattle.flash_die.proofs.Cut.{block_is, count_is}
use Rattle.flash_die.proofs.Fresh.{zero_at}
use Rattle.flash_die.proofs.Laid.{length-laid, read-laid}

one_more : (n k : ℕ) → (n + 1) * k ≡ n * k + k
one_more n k = grind arith

pub memory_left : (shape : Shape) (cells : List PageData) (filled erasing erases : List ℕ) → IsShape shape
    → length cells ≤ shape.blocks * shape.pages → length filled ≡ shape.blocks → length erases ≡ shape.blocks
    → ((block : ℕ) → get_or filled block 0 ≤ shape.pages) → erasing ≡ replicate shape.blocks 0
    → IsMemory shape (cells_up_to (shape.blocks * shape.pages) cells) filled erasing erases
memory_left shape cells filled erasing erases is few filled_len erases_len within no_erasing = record {
  limits = is;
  filled_len = filled_len;
  erasing_len = ap length no_erasing ∙ length-replicate shape.blocks 0;
  erases_len = erases_len;
  cells_len = length-laid (shape.blocks * shape.pages) cells few;
  within = within;
  few_slots = λ block. omega (arith, zero_at erasing shape.blocks block no_erasing, is.some_slots);
}

pub left_so : (shape : Shape) (cells : List PageData) (filled erases : List ℕ) → length cells ≤ shape.blocks * shape.pages
    → length filled ≡ shape.blocks → ((block : ℕ) → get_or filled block 0 ≤ shape.pages)
    → AreLeftSo shape cells filled erases (left_memory shape cells filled erases).blocks
left_so shape cells filled erases few len within =
    let zeros : List ℕ = replicate shape.blocks 0 in
    let all : List PageData = cells_up_to (shape.blocks * shape.pages) cells in
    let blocks : List Block = blocks_of shape.pages all filled zeros erases in
    let all_len : length all ≡ shape.blocks * shape.pages = length-laid (shape.blocks * shape.pages) cells few in
    let room : (k : ℕ) → k < length filled → k * shape.pages + get_or filled k 0 ≤ length all = λ k h.
    let next : k + 1 ≤ shape.blocks = omega (arith, h, len) in
    omega (arith, mul-le-mul_right shape.pages next, one_more k shape.pages, within k, all_len) in
    record {
      count = count_is shape.pages all filled zeros erases;
      counts = λ k h. ap (λ (b : Block). length b.pages) (block_is shape.pages all filled zeros erases k h)
          ∙ length-take-le (get_or filled k 0) (drop (k * shape.pages) all) (omega (arith, room k h, length-drop (k * shape.pages) all));
      idle = λ k. elim (cases_lt k (length filled)) [
        | inl h ↦ ap (λ (b : Block). b.erasing) (block_is shape.pages all filled zeros erases k h) ∙ zero_at zeros shape.blocks k refl
        | inr past ↦ ap (λ (b : Block). b.erasing) (get_or_past blocks k free_block (omega (arith, past, count_is shape.pages all filled zeros erases)))
      ];
      worn = λ k h. ap (λ (b : Block). b.erases) (block_is shape.pages all filled zeros erases k h);
      cells_are = λ place h below.
          ap (λ (b : Block). get_or b.pages place.page blank) (block_is shape.pages all filled zeros erases place.block h)
          ∙ get_or-take (get_or filled place.block 0) (drop (place.block * shape.pages) all) place.page blank below
          ∙ get_or-drop (place.block * shape.pages) all place.page blank
          ∙ read-laid (shape.blocks * shape.pages) cells (place.block * shape.pages + place.page);
    }
