-- Blocks that are cut out of one list of cells.
use Rattle.std.proofs.Common.{◌≡◌, ◌≢◌, ℕ, ◌+◌, ◌-◌, ◌*◌, ◌<◌, ◌≤◌, List, [], ◌∷◌, ◌++◌, length, get_or, set, take, drop, sym, ap, ◌∙◌}
use Rattle.std.proofs.Common.{subst, arith, inl, inr}
use Rattle.std.proofs.lemmas.Bool.{cases_eq, cases_lt}
use Rattle.std.proofs.lemmas.List.{get_or-take, get_or-drop, length-take, length-take-le, length-drop, length-set, get_or-set_same}
use Rattle.std.proofs.lemmas.List.{get_or-set_other, drop-set-add, drop-set-lt, take-set-le, take_more_set}
use Rattle.std.proofs.lemmas.List.FromFn.{length-map-range_with_len, get_or-map-range_with_len, fill_by_all}
use Rattle.std.proofs.Math.Nat.{mul-le-mul_right}
use Rattle.slot_types.specs.declared.pages.Place.{Place}
use Rattle.slot_types.specs.declared.plans.Shape.{Shape}
use Rattle.slot_types.specs.declared.pages.PageData.{PageData}
use Rattle.flash_die.specs.Flash.{Block, blank, free_block, block_at, cell_at, IsProgrammed, IsNextCell, blocks_after_program}
use Rattle.flash_die.specs.Memory.{block_of, blocks_of, IsMemory}

one_more : (n k : ℕ) → (n + 1) * k ≡ n * k + k
one_more n k = grind arith

pub count_is : (pages : ℕ) (cells : List PageData) (filled erasing erases : List ℕ) → length (blocks_of pages cells filled erasing erases)
    ≡ length filled
count_is pages cells filled erasing erases = length-map-range_with_len (block_of pages cells filled erasing erases) 0 (length filled)

pub block_is : (pages : ℕ) (cells : List PageData) (filled erasing erases : List ℕ) (k : ℕ) → k < length filled
    → block_at (blocks_of pages cells filled erasing erases) k ≡ block_of pages cells filled erasing erases k
block_is pages cells filled erasing erases k below = get_or-map-range_with_len (block_of pages cells filled erasing erases) 0
    (length filled) k k free_block below (omega arith)

pub record Within (shape : Shape) (cells : List PageData) (filled : List ℕ) (place : Place) : Type 0 where
  pub block : place.block < length filled
  pub page : place.page < get_or filled place.block 0
  pub at : place.block * shape.pages + place.page < length cells
  pub small : place.block * shape.pages + place.page < 262144

pub within : (shape : Shape) (cells : List PageData) (filled erasing erases : List ℕ) (place : Place)
    → IsMemory shape cells filled erasing erases → IsProgrammed (blocks_of shape.pages cells filled erasing erases) place
    → Within shape cells filled place
within shape cells filled erasing erases place is there =
    let block : place.block < length filled = omega (arith, there.in_range, count_is shape.pages cells filled erasing erases) in
    let b = block_is shape.pages cells filled erasing erases place.block block in
    let cut : place.page < length (take (get_or filled place.block 0) (drop (place.block * shape.pages) cells)) = subst
    (λ (x : Block). place.page < length x.pages) b there.filled in
    let page : place.page < get_or filled place.block 0 = omega
    (arith, cut, length-take (get_or filled place.block 0) (drop (place.block * shape.pages) cells)) in
    let next : place.block + 1 ≤ shape.blocks = omega (arith, block, is.filled_len) in
    let most : shape.blocks * shape.pages ≤ 262144 = omega (arith, mul-le-mul_right shape.pages is.limits.few_blocks, is.limits.few_pages)
    in
    let at : place.block * shape.pages + place.page < shape.blocks * shape.pages = omega
    (arith, mul-le-mul_right shape.pages next, one_more place.block shape.pages, page, is.within place.block) in
    record { block = block; page = page; at = omega (arith, at, is.cells_len); small = omega (arith, at, most) }

pub cell_is : (shape : Shape) (cells : List PageData) (filled erasing erases : List ℕ) (place : Place) → Within shape cells filled place
    → cell_at (blocks_of shape.pages cells filled erasing erases) place ≡ get_or cells (place.block * shape.pages + place.page) blank
cell_is shape cells filled erasing erases place is =
    ap (λ (x : Block). get_or x.pages place.page blank) (block_is shape.pages cells filled erasing erases place.block is.block)
    ∙ get_or-take (get_or filled place.block 0) (drop (place.block * shape.pages) cells) place.page blank is.page
    ∙ get_or-drop (place.block * shape.pages) cells place.page blank

-- one block changed
pub one_changed : (pages : ℕ) (cells : List PageData) (filled erasing erases : List ℕ) (cells_then : List PageData)
    (filled_then erasing_then erases_then : List ℕ) (b : ℕ) (new : Block) → length filled_then ≡ length filled → b < length filled
    → block_of pages cells_then filled_then erasing_then erases_then b ≡ new
    → ((k : ℕ) → k < length filled → k ≢ b → block_of pages cells_then filled_then erasing_then erases_then k
    ≡ block_of pages cells filled erasing erases k) → blocks_of pages cells_then filled_then erasing_then erases_then
    ≡ set (blocks_of pages cells filled erasing erases) b new
one_changed pages cells filled erasing erases cells_then filled_then erasing_then erases_then b new len below here others =
    let before : List Block = blocks_of pages cells filled erasing erases in
    let count : length before ≡ length filled = count_is pages cells filled erasing erases in
    sym (fill_by_all (block_of pages cells_then filled_then erasing_then erases_then) (set before b new) (length filled_then) free_block
    (length-set before b new ∙ count ∙ sym len) (λ k h.
    elim (cases_eq k b) [
      | inl same ↦ ap (λ (j : ℕ). get_or (set before b new) j free_block) same
          ∙ get_or-set_same before b new free_block (omega (arith, below, count)) ∙ sym here
          ∙ ap (block_of pages cells_then filled_then erasing_then erases_then) (sym same)
      | inr other ↦
          let in_range : k < length filled = omega (arith, h, len) in
          get_or-set_other before b k new free_block other ∙ block_is pages cells filled erasing erases k in_range
          ∙ sym (others k in_range other)
    ]))

-- the cells of another block stay
apart : (pages : ℕ) (cells : List PageData) (count k b page : ℕ) (bytes : PageData) → count ≤ pages → page < pages → k ≢ b
    → take count (drop (k * pages) (set cells (b * pages + page) bytes)) ≡ take count (drop (k * pages) cells)
apart pages cells count k b page bytes few room other =
    elim (cases_lt k b) [
      | inl below ↦
          let next : k + 1 ≤ b = omega (arith, below) in
          let up : k * pages + pages ≤ b * pages = omega (arith, mul-le-mul_right pages next, one_more k pages) in
          let far : b * pages + page ≡ k * pages + (b * pages + page - k * pages) = omega (arith, up) in
          ap (λ (i : ℕ). take count (drop (k * pages) (set cells i bytes))) far
          ∙ ap (take count) (drop-set-add (k * pages) cells (b * pages + page - k * pages) bytes)
          ∙ take-set-le count (drop (k * pages) cells) (b * pages + page - k * pages) bytes (omega (arith, up, few))
      | inr above ↦
          let next : b + 1 ≤ k = omega (arith, above, other) in
          let up : b * pages + pages ≤ k * pages = omega (arith, mul-le-mul_right pages next, one_more b pages) in
          ap (take count) (drop-set-lt (k * pages) cells (b * pages + page) bytes (omega (arith, up, room)))
    ]

pub record Fits (shape : Shape) (cells : List PageData) (filled erasing : List ℕ) (place : Place) : Type 0 where
  pub block : place.block < length filled
  pub next : place.page ≡ get_or filled place.block 0
  pub room : place.page < shape.pages
  pub at : place.block * shape.pages + place.page < length cells
  pub small : place.block * shape.pages + place.page < 262144

pub fits : (shape : Shape) (cells : List PageData) (filled erasing erases : List ℕ) (place : Place)
    → IsMemory shape cells filled erasing erases → IsNextCell (blocks_of shape.pages cells filled erasing erases) shape.pages place
    → Fits shape cells filled erasing place
fits shape cells filled erasing erases place is there =
    let block : place.block < length filled = omega (arith, there.in_range, count_is shape.pages cells filled erasing erases) in
    let b = block_is shape.pages cells filled erasing erases place.block block in
    let next : place.block + 1 ≤ shape.blocks = omega (arith, block, is.filled_len) in
    let whole : place.block * shape.pages + shape.pages ≤ shape.blocks * shape.pages = omega
    (arith, mul-le-mul_right shape.pages next, one_more place.block shape.pages) in
    let most : shape.blocks * shape.pages ≤ 1024 * shape.pages = mul-le-mul_right shape.pages is.limits.few_blocks in
    let filled_is : length (take (get_or filled place.block 0) (drop (place.block * shape.pages) cells))
    ≡ get_or filled place.block 0 = length-take-le (get_or filled place.block 0) (drop (place.block * shape.pages) cells)
    (omega (arith, length-drop (place.block * shape.pages) cells, is.cells_len, is.within place.block, whole)) in
    record {
      block = block;
      next = there.next ∙ ap (λ (x : Block). length x.pages) b ∙ filled_is;
      room = there.room;
      at = omega (arith, whole, there.room, is.cells_len);
      small = omega (arith, whole, there.room, most, is.limits.few_pages);
    }

-- after a program of the block's next cell
pub blocks_programmed : (shape : Shape) (cells : List PageData) (filled erasing erases : List ℕ) (place : Place) (bytes : PageData)
    → IsMemory shape cells filled erasing erases → Fits shape cells filled erasing place
    → blocks_of shape.pages (set cells (place.block * shape.pages + place.page) bytes) (set filled place.block (place.page + 1)) erasing
    erases ≡ blocks_after_program (blocks_of shape.pages cells filled erasing erases) place.block bytes
blocks_programmed shape cells filled erasing erases place bytes is fit =
    let b : ℕ = place.block in
    let pages : ℕ = shape.pages in
    let rest : List PageData = drop (b * pages) cells in
    let old : Block = block_at (blocks_of pages cells filled erasing erases) b in
    let old_is : old ≡ block_of pages cells filled erasing erases b = block_is pages cells filled erasing erases b fit.block in
    let cut : take (place.page + 1) (drop (b * pages) (set cells (b * pages + place.page) bytes)) ≡ take place.page rest ++ bytes
    ∷ [] = ap (take (place.page + 1)) (drop-set-add (b * pages) cells place.page bytes)
    ∙ take_more_set rest place.page bytes (omega (arith, length-drop (b * pages) cells, fit.at)) in
    let count_now : get_or (set filled b (place.page + 1)) b 0 ≡ place.page + 1 = get_or-set_same filled b (place.page + 1) 0 fit.block in
    one_changed pages cells filled erasing erases (set cells (b * pages + place.page) bytes) (set filled b (place.page + 1)) erasing erases
    b (record old { pages = old.pages ++ bytes ∷ [] }) (length-set filled b (place.page + 1)) fit.block
    (let F : ℕ → List PageData → Block = λ n l. record { pages = take n l; erasing = get_or erasing b 0; erases = get_or erases b 0 } in
    let G : List PageData → Block = λ l. record { pages = l; erasing = get_or erasing b 0; erases = get_or erases b 0 } in
    let H : Block → Block = λ x. record x { pages = x.pages ++ bytes ∷ [] } in
    ap (λ (n : ℕ). F n (drop (b * pages) (set cells (b * pages + place.page) bytes))) count_now ∙ ap G cut
    ∙ ap (λ (n : ℕ). G (take n rest ++ bytes ∷ [])) fit.next ∙ ap H (sym old_is))
    (λ k below other.
    let F : ℕ → List PageData → Block = λ n l. record { pages = take n l; erasing = get_or erasing k 0; erases = get_or erases k 0 } in
    let G : List PageData → Block = λ l. record { pages = l; erasing = get_or erasing k 0; erases = get_or erases k 0 } in
    ap (λ (n : ℕ). F n (drop (k * pages) (set cells (b * pages + place.page) bytes))) (get_or-set_other filled b k (place.page + 1) 0 other)
    ∙ ap G (apart pages cells (get_or filled k 0) k b place.page bytes (is.within k) fit.room other))

pub memory_programmed : (shape : Shape) (cells : List PageData) (filled erasing erases : List ℕ) (place : Place) (bytes : PageData)
    → IsMemory shape cells filled erasing erases → Fits shape cells filled erasing place
    → IsMemory shape (set cells (place.block * shape.pages + place.page) bytes) (set filled place.block (place.page + 1)) erasing erases
memory_programmed shape cells filled erasing erases place bytes is fit = record {
  limits = is.limits;
  filled_len = length-set filled place.block (place.page + 1) ∙ is.filled_len;
  erasing_len = is.erasing_len;
  erases_len = is.erases_len;
  cells_len = length-set cells (place.block * shape.pages + place.page) bytes ∙ is.cells_len;
  within = λ block. elim (cases_eq block place.block) [
    | inl same ↦ omega (
      arith,
      ap (λ (b : ℕ). get_or (set filled place.block (place.page + 1)) b 0) same,
      get_or-set_same filled place.block
          (place.page + 1) 0 fit.block,
      fit.room,
    )
    | inr other ↦ omega (arith, get_or-set_other filled place.block block (place.page + 1) 0 other, is.within block)
  ];
  few_slots = is.few_slots;
}
