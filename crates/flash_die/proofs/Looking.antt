-- Cells and erases that are looked at, whether the device has them or not.
use Rattle.std.proofs.Common.{◌≡◌, ℕ, ◌+◌, ◌*◌, ◌<◌, ◌≤◌, true, ltb, List, length, get_or, take, drop, sym, ap, ◌∙◌, arith}
use Rattle.std.proofs.lemmas.Bool.{ltb-true}
use Rattle.std.proofs.lemmas.List.{get_or-take, get_or-drop, get_or_past, get_or_read, length-take}
use Rattle.slot_types.specs.declared.pages.PageData.{PageData}
use Rattle.slot_types.specs.declared.pages.Place.{Place}
use Rattle.flash_die.specs.Flash.{Block, blank, free_block, block_at, cell_at}
use Rattle.flash_die.specs.Memory.{blocks_of}
use Rattle.flash_die.proofs.Cut.{count_is, block_is}

-- a programmed cell
pub cell_in : (pages : ℕ) (cells : List PageData) (filled erasing erases : List ℕ) (place : Place) (count : ℕ)
    → place.block < length filled → count ≡ get_or filled place.block count → place.page < count
    → cell_at (blocks_of pages cells filled erasing erases) place ≡ get_or cells (place.block * pages + place.page) blank
cell_in pages cells filled erasing erases place count block look below =
    let is : get_or filled place.block 0 ≡ count = sym (get_or_read filled place.block count block look 0) in
    ap (λ (x : Block). get_or x.pages place.page blank) (block_is pages cells filled erasing erases place.block block)
    ∙ get_or-take (get_or filled place.block 0) (drop (place.block * pages) cells) place.page blank (omega (arith, is, below))
    ∙ get_or-drop (place.block * pages) cells place.page blank

-- a free cell
pub cell_free : (pages : ℕ) (cells : List PageData) (filled erasing erases : List ℕ) (place : Place) (count : ℕ)
    → place.block < length filled → count ≡ get_or filled place.block count → count ≤ place.page → cell_at (blocks_of pages cells filled erasing erases) place ≡ blank
cell_free pages cells filled erasing erases place count block look past =
    let is : get_or filled place.block 0 ≡ count = sym (get_or_read filled place.block count block look 0) in
    let kept : List PageData = take (get_or filled place.block 0) (drop (place.block * pages) cells) in
    ap (λ (x : Block). get_or x.pages place.page blank) (block_is pages cells filled erasing erases place.block block)
    ∙ get_or_past kept place.page blank
    (omega (arith, is, past, length-take (get_or filled place.block 0) (drop (place.block * pages) cells)))

-- a block that the device doesn't have
pub block_outside : (pages : ℕ) (cells : List PageData) (filled erasing erases : List ℕ) (block : ℕ) → length filled ≤ block
    → block_at (blocks_of pages cells filled erasing erases) block ≡ free_block
block_outside pages cells filled erasing erases block past =
    get_or_past (blocks_of pages cells filled erasing erases) block free_block
    (omega (arith, past, count_is pages cells filled erasing erases))

-- how many slots a running erase has had
pub erasing_in : (pages : ℕ) (cells : List PageData) (filled erasing erases : List ℕ) (block done : ℕ) → length filled ≡ length erasing
    → block < length erasing → done ≡ get_or erasing block done → (block_at (blocks_of pages cells filled erasing erases) block).erasing ≡ done
erasing_in pages cells filled erasing erases block done same within look =
    let below : block < length filled = omega (arith, same, within) in
    ap (λ (x : Block). x.erasing) (block_is pages cells filled erasing erases block below)
    ∙ sym (get_or_read erasing block done within look 0)

pub erasing_outside : (pages : ℕ) (cells : List PageData) (filled erasing erases : List ℕ) (block : ℕ)
    → length filled ≡ length erasing → length erasing ≤ block
    → (block_at (blocks_of pages cells filled erasing erases) block).erasing ≡ 0
erasing_outside pages cells filled erasing erases block same past =
    ap (λ (x : Block). x.erasing) (get_or_past (blocks_of pages cells filled erasing erases) block free_block
    (omega (arith, same, past, count_is pages cells filled erasing erases)))

-- what the list of its erases says of a block

pub erases_in : (pages : ℕ) (cells : List PageData) (filled erasing erases : List ℕ) (block n : ℕ) → length filled ≡ length erases
    → block < length erases → n ≡ get_or erases block n → (block_at (blocks_of pages cells filled erasing erases) block).erases ≡ n
erases_in pages cells filled erasing erases block n same within look =
    let below : block < length filled = omega (arith, same, within) in
    ap (λ (x : Block). x.erases) (block_is pages cells filled erasing erases block below)
    ∙ sym (get_or_read erases block n within look 0)

pub erases_outside : (pages : ℕ) (cells : List PageData) (filled erasing erases : List ℕ) (block : ℕ)
    → length filled ≡ length erases → length erases ≤ block
    → (block_at (blocks_of pages cells filled erasing erases) block).erases ≡ 0
erases_outside pages cells filled erasing erases block same past =
    ap (λ (x : Block). x.erases) (get_or_past (blocks_of pages cells filled erasing erases) block free_block
    (omega (arith, same, past, count_is pages cells filled erasing erases)))

-- what a lookup's test says
pub within : {a b : ℕ} → true ≡ ltb a b → a < b
within {a = a} {b = b} test = ltb-true a b (sym test)
