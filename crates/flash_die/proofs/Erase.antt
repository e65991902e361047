-- What an erase slot does to blocks that are cut out of one list of cells.
use Rattle.std.proofs.Common.{◌≡◌, ℕ, ◌+◌, ◌*◌, ◌<◌, ◌≤◌, Bool, true, false, List, [], length, get_or, set, take, drop, refl, sym, ap, ◌∙◌}
use Rattle.std.proofs.Common.{arith}
use Rattle.std.specs.Prelude.{◌==◌, if◌then◌else◌}
use Rattle.std.proofs.lemmas.Bool.{cases_eq, ne_eqb}
use Rattle.std.proofs.Common.{eq-eqb, inl, inr}
use Rattle.std.proofs.lemmas.List.{length-set, get_or-set_same, get_or-set_other}
use Rattle.slot_types.specs.declared.plans.Shape.{Shape}
use Rattle.slot_types.specs.declared.pages.PageData.{PageData}
use Rattle.flash_die.specs.Flash.{Block, block_at, IsErasable, blocks_after_erase_slot, block_after_erase_slot}
use Rattle.flash_die.specs.Memory.{block_of, blocks_of, IsMemory}
use Rattle.flash_die.proofs.Cut.{count_is, block_is, one_changed}

abbrev pub block_with : ℕ → List PageData → ℕ → ℕ → ℕ → ℕ → Block
block_with pages cells block filled erasing erases = record
    { pages = take filled (drop (block * pages) cells); erasing = erasing; erases = erases }

-- a block that may be erased
pub record Erasing (shape : Shape) (cells : List PageData) (filled erasing erases : List ℕ) (block : ℕ) : Type 0 where
  pub in_filled : block < length filled
  pub in_erasing : block < length erasing
  pub in_erases : block < length erases
  pub old_is : block_at (blocks_of shape.pages cells filled erasing erases) block ≡ block_of shape.pages cells filled erasing erases block
  pub few_erases : get_or erases block 0 < 4294967295

pub erasing_at : (shape : Shape) (cells : List PageData) (filled erasing erases : List ℕ) (block : ℕ)
    → IsMemory shape cells filled erasing erases → IsErasable (blocks_of shape.pages cells filled erasing erases) shape.pages block
    → Erasing shape cells filled erasing erases block
erasing_at shape cells filled erasing erases block is there =
    let below : block < length filled = omega (arith, there.in_range, count_is shape.pages cells filled erasing erases) in
    let old_is = block_is shape.pages cells filled erasing erases block below in
    record {
      in_filled = below;
      in_erasing = omega (arith, below, is.filled_len, is.erasing_len);
      in_erases = omega (arith, below, is.filled_len, is.erases_len);
      old_is = old_is;
      few_erases = omega (arith, there.few_erases, ap (λ (x : Block). x.erases) old_is);
    }

pub going_tested : (shape : Shape) (cells : List PageData) (filled erasing erases : List ℕ) (block : ℕ)
    → Erasing shape cells filled erasing erases block → get_or erasing block 0 + 1 < shape.erase_slots
    → ((block_at (blocks_of shape.pages cells filled erasing erases) block).erasing + 1 == shape.erase_slots) ≡ false
going_tested shape cells filled erasing erases block at less =
    ne_eqb ((block_at (blocks_of shape.pages cells filled erasing erases) block).erasing + 1) shape.erase_slots
    (λ same. omega (arith, same, less, ap (λ (x : Block). x.erasing) at.old_is))

pub last_tested : (shape : Shape) (cells : List PageData) (filled erasing erases : List ℕ) (block : ℕ)
    → IsMemory shape cells filled erasing erases → Erasing shape cells filled erasing erases block → shape.erase_slots
    ≤ get_or erasing block 0 + 1 → ((block_at (blocks_of shape.pages cells filled erasing erases) block).erasing + 1 == shape.erase_slots)
    ≡ true
last_tested shape cells filled erasing erases block is at enough =
    eq-eqb ((block_at (blocks_of shape.pages cells filled erasing erases) block).erasing + 1) shape.erase_slots
    (omega (arith, enough, is.few_slots block, ap (λ (x : Block). x.erasing) at.old_is))

-- a slot of an erase that is not the last
pub blocks_going : (shape : Shape) (cells : List PageData) (filled erasing erases : List ℕ) (block : ℕ)
    → Erasing shape cells filled erasing erases block → get_or erasing block 0 + 1 < shape.erase_slots
    → blocks_of shape.pages cells filled (set erasing block (get_or erasing block 0 + 1)) erases
    ≡ blocks_after_erase_slot (blocks_of shape.pages cells filled erasing erases) shape.erase_slots block
blocks_going shape cells filled erasing erases block at less =
    let before : List Block = blocks_of shape.pages cells filled erasing erases in
    let old : Block = block_at before block in
    let tested : (old.erasing + 1 == shape.erase_slots) ≡ false = going_tested shape cells filled erasing erases block at less in
    let E : List ℕ = set erasing block (get_or erasing block 0 + 1) in
    let T : Bool → Block = λ t. if t then record { pages = []; erasing = 0; erases = old.erases + 1 } else record old
    { erasing = old.erasing + 1 } in
    let G : Block → Block = λ x. record x { erasing = x.erasing + 1 } in
    let S : ℕ → Block = λ n. record (block_of shape.pages cells filled erasing erases block) { erasing = n } in
    one_changed shape.pages cells filled erasing erases cells filled E erases block (block_after_erase_slot shape.erase_slots old) refl at.in_filled
    (ap S (get_or-set_same erasing block (get_or erasing block 0 + 1) 0 at.in_erasing) ∙ ap G (sym at.old_is) ∙ ap T (sym tested))
    (λ k below other.
    let K : ℕ → Block = λ n. record (block_of shape.pages cells filled erasing erases k) { erasing = n } in
    ap K (get_or-set_other erasing block k (get_or erasing block 0 + 1) 0 other))

-- the last slot of an erase
pub blocks_freed : (shape : Shape) (cells : List PageData) (filled erasing erases : List ℕ) (block : ℕ)
    → IsMemory shape cells filled erasing erases → Erasing shape cells filled erasing erases block → shape.erase_slots
    ≤ get_or erasing block 0 + 1 → blocks_of shape.pages cells (set filled block 0) (set erasing block 0)
    (set erases block (get_or erases block 0 + 1)) ≡ blocks_after_erase_slot (blocks_of shape.pages cells filled erasing erases) shape.erase_slots block
blocks_freed shape cells filled erasing erases block is at enough =
    let before : List Block = blocks_of shape.pages cells filled erasing erases in
    let old : Block = block_at before block in
    let tested : (old.erasing + 1 == shape.erase_slots) ≡ true = last_tested shape cells filled erasing erases block is at enough in
    let F : List ℕ = set filled block 0 in
    let E : List ℕ = set erasing block 0 in
    let N : List ℕ = set erases block (get_or erases block 0 + 1) in
    let T : Bool → Block = λ t. if t then record { pages = []; erasing = 0; erases = old.erases + 1 } else record old
    { erasing = old.erasing + 1 } in
    let A : ℕ → Block = λ n. block_with shape.pages cells block n (get_or E block 0) (get_or N block 0) in
    let B : ℕ → Block = λ n. block_with shape.pages cells block 0 n (get_or N block 0) in
    let C : ℕ → Block = λ n. block_with shape.pages cells block 0 0 n in
    let D : ℕ → Block = λ n. record { pages = []; erasing = 0; erases = n + 1 } in
    one_changed shape.pages cells filled erasing erases cells F E N block (block_after_erase_slot shape.erase_slots old) (length-set filled block 0)
    at.in_filled
    (ap A (get_or-set_same filled block 0 0 at.in_filled) ∙ ap B (get_or-set_same erasing block 0 0 at.in_erasing)
    ∙ ap C (get_or-set_same erases block (get_or erases block 0 + 1) 0 at.in_erases)
    ∙ ap D (sym (ap (λ (x : Block). x.erases) at.old_is)) ∙ ap T (sym tested))
    (λ k below other.
    let X : ℕ → Block = λ n. block_with shape.pages cells k n (get_or E k 0) (get_or N k 0) in
    let Y : ℕ → Block = λ n. block_with shape.pages cells k (get_or filled k 0) n (get_or N k 0) in
    let Z : ℕ → Block = λ n. block_with shape.pages cells k (get_or filled k 0) (get_or erasing k 0) n in
    ap X (get_or-set_other filled block k 0 0 other) ∙ ap Y (get_or-set_other erasing block k 0 0 other)
    ∙ ap Z (get_or-set_other erases block k (get_or erases block 0 + 1) 0 other))

zero_or : (xs : List ℕ) (block k n : ℕ) → block < length xs → get_or xs k 0 ≤ n → get_or (set xs block 0) k 0 ≤ n
zero_or xs block k n below le =
    elim (cases_eq k block) [
      | inl same ↦ omega (arith, ap (λ (j : ℕ). get_or (set xs block 0) j 0) same, get_or-set_same xs block 0 0 below)
      | inr other ↦ omega (arith, get_or-set_other xs block k 0 0 other, le)
    ]

pub still_memory : (shape : Shape) (cells : List PageData) (filled erasing erases : List ℕ) (block count : ℕ)
    → IsMemory shape cells filled erasing erases → Erasing shape cells filled erasing erases block
    → IsMemory shape cells (set filled block 0) (set erasing block 0) (set erases block count)
still_memory shape cells filled erasing erases block count is at = record {
  limits = is.limits;
  filled_len = length-set filled block 0 ∙ is.filled_len;
  erasing_len = length-set erasing block 0 ∙ is.erasing_len;
  erases_len = length-set erases block count ∙ is.erases_len;
  cells_len = is.cells_len;
  within = λ k. zero_or filled block k shape.pages at.in_filled (is.within k);
  few_slots = λ k. omega (arith, zero_or erasing block k (get_or erasing k 0) at.in_erasing (omega arith), is.few_slots k);
}
