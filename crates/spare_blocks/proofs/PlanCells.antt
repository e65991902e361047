-- The blocks of a part after a call, and the blocks of the plan as the store sees them.
use Rattle.std.proofs.Common.{◌≡◌, ◌≢◌, ◌⊎◌, ℕ, ◌<◌, false, List, length, map, get_or, set}
use Rattle.std.proofs.Common.{ap, sym, ◌∙◌, subst, inl, inr, arith}
use Rattle.std.specs.List.{range_with_len}
use Rattle.std.proofs.lemmas.Bool.{cases_eq, cases_lt, true≢false}
use Rattle.std.proofs.lemmas.List.{get_or-set_same, get_or-set_other, length-set, get_or_past, length-map, get_or-map}
use Rattle.std.proofs.lemmas.List.FromFn.{length-map-range_with_len, get_or-map-range_with_len, fill_by_all}
use Rattle.slot_types.specs.declared.pages.Place.{Place}
use Rattle.flash_die.specs.Flash.{Block, blank, block_at, cell_at, free_block, IsProgrammed, IsNextCell, IsErasable}
use Rattle.spare_blocks.specs.declared.cells.Cell.{Cell}
use Rattle.spare_blocks.specs.Parts.{PartBlock, part_block, lost_block, blank_cell}
use Rattle.spare_blocks.specs.Spares.{Spared, numbered, spared_block, spared_blocks}

-- a block that didn't fail is one of the part's
pub whole_within : (blocks : List PartBlock) (x : ℕ) → (part_block blocks x).failed ≡ false → x < length blocks
whole_within blocks x whole = elim (cases_lt x (length blocks)) [
  | inl below ↦ below
  | inr past ↦ absurd (true≢false (sym (ap (λ (b : PartBlock). b.failed) (get_or_past blocks x lost_block past)) ∙ whole))
]

pub set_here : (blocks : List PartBlock) (x : ℕ) (b : PartBlock) → (part_block blocks x).failed ≡ false → part_block (set blocks x b) x ≡ b
set_here blocks x b whole = get_or-set_same blocks x b lost_block (whole_within blocks x whole)

pub set_other : (blocks : List PartBlock) (x y : ℕ) (b : PartBlock) → y ≢ x → part_block (set blocks x b) y ≡ part_block blocks y
set_other blocks x y b other = get_or-set_other blocks x y b lost_block other

-- Lists by number

pub one_changed : (n b : ℕ) (before after : ℕ → Block) (new : Block) → b < n → after b ≡ new → ((k : ℕ) → k < n → k ≢ b → after k ≡ before k)
    → map after (range_with_len 0 n) ≡ set (map before (range_with_len 0 n)) b new
one_changed n b before after new lt here others =
    sym (fill_by_all after (set (map before (range_with_len 0 n)) b new) n free_block
    (length-set (map before (range_with_len 0 n)) b new ∙ length-map-range_with_len before 0 n) (λ k less. at k less (cases_eq k b)))
  where
    at : (k : ℕ) → k < n → (k ≡ b) ⊎ (k ≡ b → ⊥) → get_or (set (map before (range_with_len 0 n)) b new) k free_block ≡ after k
    at k less (inl same) =
        ap (λ (j : ℕ). get_or (set (map before (range_with_len 0 n)) b new) j free_block) same
        ∙ (get_or-set_same (map before (range_with_len 0 n)) b new free_block (omega (arith, lt, length-map-range_with_len before 0 n))
        ∙ (sym here ∙ ap after (sym same)))
    at k less (inr other) =
        get_or-set_other (map before (range_with_len 0 n)) b k new free_block other
        ∙ (get_or-map-range_with_len before 0 n k k free_block less (omega arith) ∙ sym (others k less other))

pub none_changed : (n : ℕ) (before after : ℕ → Block) → ((k : ℕ) → after k ≡ before k)
    → map after (range_with_len 0 n) ≡ map before (range_with_len 0 n)
none_changed n before after same =
    sym (fill_by_all after (map before (range_with_len 0 n)) n free_block (length-map-range_with_len before 0 n)
    (λ k less. get_or-map-range_with_len before 0 n k k free_block less (omega arith) ∙ sym (same k)))

-- A device's blocks

module _ {N : Type 0} (blocks : N → List PartBlock) (d : Spared N) where
  pub count_is : length (spared_blocks blocks d) ≡ d.shape.blocks
  count_is = length-map-range_with_len (spared_block blocks d) 0 d.shape.blocks

  pub block_is : (b : ℕ) → b < d.shape.blocks → block_at (spared_blocks blocks d) b ≡ spared_block blocks d b
  block_is b lt = get_or-map-range_with_len (spared_block blocks d) 0 d.shape.blocks b b free_block lt (omega arith)

  -- the next cell of a block of the plan, on the part
  pub record NextHere (pages : ℕ) (place : Place) : Type 0 where
    pub lt : place.block < d.shape.blocks
    pub next : place.page ≡ length (numbered blocks d place.block).cells
    pub room : place.page < pages
    pub quiet : (numbered blocks d place.block).erasing ≡ 0

  bytes_count : (b : ℕ) → length (spared_block blocks d b).pages ≡ length (numbered blocks d b).cells
  bytes_count b = length-map (numbered blocks d b).cells (λ (cell : Cell). cell.bytes)

  pub next_here : (pages : ℕ) (place : Place) → IsNextCell (spared_blocks blocks d) pages place → NextHere pages place
  next_here pages place is =
      let lt : place.block < d.shape.blocks = omega (arith, is.in_range, count_is) in
      let e = block_is place.block lt in
      record {
        lt = lt;
        next = is.next ∙ (ap (λ (b : Block). length b.pages) e ∙ bytes_count place.block);
        room = is.room;
        quiet = sym (ap (λ (b : Block). b.erasing) e) ∙ is.quiet;
      }

  -- a programmed cell of a block of the plan, on the part
  pub record CellHere (place : Place) : Type 0 where
    pub lt : place.block < d.shape.blocks
    pub filled : place.page < length (numbered blocks d place.block).cells
    pub quiet : (numbered blocks d place.block).erasing ≡ 0

  pub cell_here : (place : Place) → IsProgrammed (spared_blocks blocks d) place → CellHere place
  cell_here place is =
      let lt : place.block < d.shape.blocks = omega (arith, is.in_range, count_is) in
      let e = block_is place.block lt in
      record {
        lt = lt;
        filled = subst (λ (n : ℕ). place.page < n) (ap (λ (b : Block). length b.pages) e ∙ bytes_count place.block) is.filled;
        quiet = sym (ap (λ (b : Block). b.erasing) e) ∙ is.quiet;
      }

  pub cell_is : (place : Place) → CellHere place
      → (get_or (numbered blocks d place.block).cells place.page blank_cell).bytes ≡ cell_at (spared_blocks blocks d) place
  cell_is place here =
      sym (ap (λ (b : Block). get_or b.pages place.page blank) (block_is place.block here.lt)
      ∙ get_or-map (λ (cell : Cell). cell.bytes) (numbered blocks d place.block).cells place.page blank_cell blank here.filled)

  pub record ErasableHere (b : ℕ) : Type 0 where
    pub lt : b < d.shape.blocks
    pub few_erases : get_or d.erases b 0 < 4294967295
    pub erasing : (block_at (spared_blocks blocks d) b).erasing ≡ (numbered blocks d b).erasing

  pub erasable_here : (pages b : ℕ) → IsErasable (spared_blocks blocks d) pages b → ErasableHere b
  erasable_here pages b is =
      let lt : b < d.shape.blocks = omega (arith, is.in_range, count_is) in
      let e = block_is b lt in
      record {
        lt = lt;
        few_erases = subst (λ (x : Block). x.erases < 4294967295) e is.few_erases;
        erasing = ap (λ (x : Block). x.erasing) e;
      }
