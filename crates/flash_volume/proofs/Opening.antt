-- The block that is open, and its next cell.
use Rattle.std.proofs.Common.{◌≡◌, ◌≢◌, ℕ, suc, ◌<◌, true, false, List, [], ◌∷◌, ◌++◌, length, get_or, sum_by, Option, Some, None, IsSome}
use Rattle.std.proofs.Common.{refl, sym, ap, ◌∙◌, subst, arith, ◌⊎◌, inl, inr}
use Rattle.std.specs.Prelude.{position, unwrap_or}
use Rattle.std.specs.Option.{option_or}
use Rattle.std.proofs.lemmas.Bool.{cases_eq, cases_lt}
use Rattle.std.proofs.lemmas.List.{get_or-set_same, get_or-set_other, length-set, length-map, get_or_past, get_or-map, get_or_append_left}
use Rattle.std.proofs.lemmas.List.{length_push}
use Rattle.std.proofs.lemmas.List.Sums.{sum_by-cons}
use Rattle.std.proofs.lemmas.List.Quantifiers.{position-Some}
use Rattle.std.proofs.lemmas.Bool.Decides.{nat_tests}
use Rattle.slot_types.specs.declared.pages.Place.{Place}
use Rattle.slot_types.specs.declared.plans.Shape.{Shape}
use Rattle.slot_types.specs.declared.pages.PageData.{PageData}
use Rattle.slot_types.specs.Places.{owner_of}
use Rattle.victim_pick.specs.Candidates.{Candidates}
use Rattle.page_map.specs.Placing.{Placing, IsCell}
use Rattle.page_map.proofs.Owners.{fails_where_none, no_owner}
use Rattle.flash_die.specs.Flash.{Block, blank, free_block, block_at, cell_at, IsProgrammed, IsNextCell, blocks_after_program}
use Rattle.flash_volume.specs.Cells.{filled_of, fills_of, erases_in, is_open_with, is_wholly_free, opened_in, open_in, next_cell}
use Rattle.flash_volume.specs.Cells.{free_in, free_cells}
use Rattle.flash_volume.specs.Array.{IsSoundState}

-- The open block

-- a block with a free cell, such that no other one is open
pub record Opens (pages : ℕ) (fills : List ℕ) (block : ℕ) : Type 0 where
  pub below : block < length fills
  pub room : get_or fills block 0 < pages
  pub alone : (k : ℕ) → 0 < get_or fills k 0 → get_or fills k 0 < pages → k ≡ block

-- no two blocks are open
abbrev pub OneOpen : ℕ → List ℕ → Type 0
OneOpen pages fills = (i j : ℕ) → 0 < get_or fills i 0 → get_or fills i 0 < pages → 0 < get_or fills j 0 → get_or fills j 0 < pages → i ≡ j

pub opened_means : (pages filled : ℕ) → is_open_with pages filled ≡ true → (0 < filled) × (filled < pages)
opened_means pages filled is = grind (arith, nat_tests)

opened_fails : (pages filled : ℕ) → is_open_with pages filled ≡ false → 0 < filled → filled < pages → ⊥
opened_fails pages filled is some few = grind (arith, nat_tests)

pub free_means : (filled : ℕ) → is_wholly_free filled ≡ true → filled ≡ 0
free_means filled is = grind (arith, nat_tests)

pub free_fails : (filled : ℕ) → is_wholly_free filled ≡ false → 0 < filled
free_fails filled is = grind (arith, nat_tests)

pub none_opened : (pages : ℕ) (fills : List ℕ) (k : ℕ) → position (is_open_with pages) fills ≡ None → 0 < get_or fills k 0
    → get_or fills k 0 < pages → ⊥
none_opened pages fills k none some few =
    elim (cases_lt k (length fills)) [
      | inl below ↦ opened_fails pages (get_or fills k 0) (fails_where_none (is_open_with pages) fills k 0 none below) some few
      | inr past ↦ omega (arith, get_or_past fills k 0 past)
    ]

-- the open block is the one that is found
pub opened_is : (pages : ℕ) (fills : List ℕ) (block : ℕ) (p : Option ℕ) → position (is_open_with pages) fills ≡ p → OneOpen pages fills → 0
    < get_or fills block 0 → get_or fills block 0 < pages → p ≡ Some block
opened_is pages fills block None is one some few = absurd (none_opened pages fills block is some few)
opened_is pages fills block (Some k) is one some few =
    let at = position-Some (is_open_with pages) fills k 0 is in
    let means = opened_means pages (get_or fills k 0) at.1 in
    ap (λ (n : ℕ). Some n) (one k block means.0 means.1 some few)

opened_none_by : (pages : ℕ) (fills : List ℕ) (p : Option ℕ) → position (is_open_with pages) fills ≡ p
    → ((k : ℕ) → 0 < get_or fills k 0 → get_or fills k 0 < pages → ⊥) → p ≡ None
opened_none_by pages fills None is none = refl
opened_none_by pages fills (Some k) is none =
    let at = position-Some (is_open_with pages) fills k 0 is in
    let means = opened_means pages (get_or fills k 0) at.1 in
    absurd (none k means.0 means.1)

-- where no block is open, none is found
pub opened_none : (pages : ℕ) (fills : List ℕ) → ((k : ℕ) → 0 < get_or fills k 0 → get_or fills k 0 < pages → ⊥)
    → position (is_open_with pages) fills ≡ None
opened_none pages fills none = opened_none_by pages fills (position (is_open_with pages) fills) refl none

open_cases : (pages : ℕ) (fills : List ℕ) (block : ℕ) (p : Option ℕ) → position (is_open_with pages) fills ≡ p
    → option_or p (position is_wholly_free fills) ≡ Some block → (position (is_open_with pages) fills ≡ Some block)
    ⊎ ((position (is_open_with pages) fills ≡ None) × (position is_wholly_free fills ≡ Some block))
open_cases pages fills block None e is = inr (e, is)
open_cases pages fills block (Some k) e is = inl (e ∙ is)

pub opens : (pages : ℕ) (blocks : List Block) (block : ℕ) → 0 < pages → OneOpen pages (fills_of blocks) → open_in pages blocks ≡ Some block
    → Opens pages (fills_of blocks) block
opens pages blocks block some_pages one is =
    let fills : List ℕ = fills_of blocks in
    elim (open_cases pages fills block (position (is_open_with pages) fills) refl is) [
      | inl opened ↦
          let at = position-Some (is_open_with pages) fills block 0 opened in
          let means : (0 < get_or fills block 0) × (get_or fills block 0 < pages) = opened_means pages (get_or fills block 0) at.1 in
          record { below = at.0; room = means.1; alone = λ k some few. one k block some few means.0 means.1 }
      | inr none ↦
          let at = position-Some is_wholly_free fills block 0 none.1 in
          let zero_is : get_or fills block 0 ≡ 0 = free_means (get_or fills block 0) at.1 in
          record { below = at.0; room = omega arith; alone = λ k some few. absurd (none_opened pages fills k none.0 some few) }
    ]

sum_none : (f : Block → ℕ) (xs : List Block) → ((i : ℕ) → i < length xs → f (get_or xs i free_block) ≡ 0) → sum_by f xs ≡ 0
sum_none f [] none = refl
sum_none f (x ∷ xs) none = omega (arith, sum_by-cons f x xs, none 0 (omega arith), sum_none f xs (λ i h. none (suc i) (omega (arith, h))))

open_none : (pages : ℕ) (fills : List ℕ) (p : Option ℕ) → position (is_open_with pages) fills ≡ p
    → option_or p (position is_wholly_free fills) ≡ None → (position (is_open_with pages) fills ≡ None)
    × (position is_wholly_free fills ≡ None)
open_none pages fills None e is = (e, is)
open_none pages fills (Some k) e is = cc

pub fill_at : (blocks : List Block) (k : ℕ) → k < length blocks → get_or (fills_of blocks) k 0 ≡ length (block_at blocks k).pages
fill_at blocks k below = get_or-map filled_of blocks k free_block 0 below

pub erases_at : (blocks : List Block) (k : ℕ) → k < length blocks → get_or (erases_in blocks) k 0 ≡ (block_at blocks k).erases
erases_at blocks k below = get_or-map (λ (b : Block). b.erases) blocks k free_block 0 below

-- also past the last block
pub fill_is : (blocks : List Block) (k : ℕ) → get_or (fills_of blocks) k 0 ≡ filled_of (block_at blocks k)
fill_is blocks k =
    elim (cases_lt k (length blocks)) [
      | inl below ↦ fill_at blocks k below
      | inr past ↦ get_or_past (fills_of blocks) k 0 (omega (arith, past, length-map blocks filled_of))
          ∙ ap (λ (b : Block). filled_of b) (sym (get_or_past blocks k free_block past))
    ]

all_full : (pages : ℕ) (blocks : List Block) → open_in pages blocks ≡ None → free_cells pages blocks ≡ 0
all_full pages blocks none =
    let both = open_none pages (fills_of blocks) (position (is_open_with pages) (fills_of blocks)) refl none in
    sum_none (free_in pages) blocks (λ i below.
    let here : i < length (fills_of blocks) = omega (arith, below, length-map blocks filled_of) in
    let is = fill_at blocks i below in
    let some : 0 < get_or (fills_of blocks) i 0 = free_fails (get_or (fills_of blocks) i 0)
    (fails_where_none is_wholly_free (fills_of blocks) i 0 both.1 here) in
    elim (cases_lt (get_or (fills_of blocks) i 0) pages) [
      | inl few ↦ absurd (none_opened pages (fills_of blocks) i both.0 some few)
      | inr closed ↦ omega (arith, closed, is)
    ])

some_open_by : (pages : ℕ) (blocks : List Block) (o : Option ℕ) → open_in pages blocks ≡ o → 0 < free_cells pages blocks → IsSome o
some_open_by pages blocks None is some = absurd (omega (arith, all_full pages blocks is, some))
some_open_by pages blocks (Some k) is some = refl

-- while a cell is free a block is open
pub some_open : (pages : ℕ) (blocks : List Block) → 0 < free_cells pages blocks → IsSome (open_in pages blocks)
some_open pages blocks some = some_open_by pages blocks (open_in pages blocks) refl some

-- The cell

pub same_block : (blocks : List Block) (block : ℕ) (bytes : PageData) → block < length blocks
    → block_at (blocks_after_program blocks block bytes) block ≡ record (block_at blocks block) {
      pages = (block_at blocks block).pages ++ bytes
          ∷ [];
    }
same_block blocks block bytes below = get_or-set_same blocks block
    (record (block_at blocks block) { pages = (block_at blocks block).pages ++ bytes ∷ [] }) free_block below

pub other_block : (blocks : List Block) (block k : ℕ) (bytes : PageData) → k ≢ block → block_at (blocks_after_program blocks block bytes) k
    ≡ block_at blocks k
other_block blocks block k bytes other = get_or-set_other blocks block k
    (record (block_at blocks block) { pages = (block_at blocks block).pages ++ bytes ∷ [] }) free_block other

pub count_programmed : (blocks : List Block) (block : ℕ) (bytes : PageData) → length (blocks_after_program blocks block bytes) ≡ length blocks
count_programmed blocks block bytes = length-set blocks block
    (record (block_at blocks block) { pages = (block_at blocks block).pages ++ bytes ∷ [] })

-- a program leaves what is programmed
pub stays : (blocks : List Block) (block : ℕ) (bytes : PageData) (q : Place) → block < length blocks → IsProgrammed blocks q
    → IsProgrammed (blocks_after_program blocks block bytes) q × (cell_at (blocks_after_program blocks block bytes) q ≡ cell_at blocks q)
stays blocks block bytes q below is =
    let len : length (blocks_after_program blocks block bytes) ≡ length blocks = count_programmed blocks block bytes in
    elim (cases_eq q.block block) [
      | inl same ↦
          let b : block_at (blocks_after_program blocks block bytes) q.block
          ≡ record (block_at blocks q.block) { pages = (block_at blocks q.block).pages ++ bytes ∷ [] } = rw same
          (same_block blocks block bytes below) in (
            record {
              in_range = omega (arith, len, is.in_range);
              filled = rw b (omega (arith, is.filled, length_push (block_at blocks q.block).pages bytes));
              quiet = rw b is.quiet;
            },
            rw b (get_or_append_left (block_at blocks q.block).pages (bytes ∷ []) blank q.page is.filled),
          )
      | inr other ↦
          let b : block_at (blocks_after_program blocks block bytes) q.block
          ≡ block_at blocks q.block = other_block blocks block q.block bytes other in (
            record { in_range = omega (arith, len, is.in_range); filled = rw b is.filled; quiet = rw b is.quiet },
            rw b refl,
          )
    ]

-- the cell that comes next
pub record Fits (shape : Shape) (blocks : List Block) (place : Place) : Type 0 where
  pub opens : Opens shape.pages (fills_of blocks) place.block
  pub in_range : place.block < length blocks
  pub next : place.page ≡ length (block_at blocks place.block).pages
  pub room : place.page < shape.pages

-- the array as its callers see it
abbrev pub Sound : Shape → ℕ → List Block → Placing → Candidates → Type 0
Sound shape failures blocks placing candidates = IsSoundState shape failures blocks placing (fills_of blocks) (erases_in blocks)
    (opened_in shape.pages blocks) candidates

-- what is kept is what callers see
pub seen : {shape : Shape} {failures : ℕ} {blocks : List Block} {placing : Placing} {fills worn : List ℕ} {writing : Option ℕ}
    {candidates : Candidates} → IsSoundState shape failures blocks placing fills worn writing candidates
    → Sound shape failures blocks placing candidates
seen {shape} {failures} {blocks} {placing} {fills} {worn} {writing} {candidates} stands = record {
  limits = stands.limits;
  map_shape = stands.map_shape;
  well = stands.well;
  count = stands.count;
  fills_are = refl;
  erases_are = refl;
  within = rw (← stands.fills_are) stands.within;
  one_open = rw (← stands.fills_are) stands.one_open;
  writing_is = refl;
  quiet = rw (← stands.fills_are) stands.quiet;
  placed = stands.placed;
  few_valid = stands.few_valid;
  candidates_len = stands.candidates_len;
  worn_len = stands.worn_len;
  candidates_pages = stands.candidates_pages;
  counted = stands.counted;
  worn = stands.worn;
}

pub fits : {shape : Shape} {failures : ℕ} {blocks : List Block} {placing : Placing} {fills worn : List ℕ} {writing : Option ℕ}
    {candidates : Candidates} (place : Place) → IsSoundState shape failures blocks placing fills worn writing candidates
    → open_in shape.pages blocks ≡ Some place.block → place.page ≡ filled_of (block_at blocks place.block) → Fits shape blocks place
fits {shape} {failures} {blocks} {placing} {fills} {worn} {writing} {candidates} place stands is page =
    let o : Opens shape.pages (fills_of blocks) place.block = opens shape.pages blocks place.block (omega (arith, stands.limits.some_pages))
    (seen stands).one_open is in
    record {
      opens = o;
      in_range = omega (arith, o.below, length-map blocks filled_of);
      next = page;
      room = omega (arith, page, o.room, fill_is blocks place.block);
    }

-- the next cell, where a block is open
next_fits_by : {shape : Shape} {failures : ℕ} {blocks : List Block} {placing : Placing} {fills worn : List ℕ} {writing : Option ℕ}
    {candidates : Candidates} (o : Option ℕ) → IsSoundState shape failures blocks placing fills worn writing candidates
    → open_in shape.pages blocks ≡ o → IsSome o → Fits shape blocks
    (record { block = unwrap_or o 0; page = filled_of (block_at blocks (unwrap_or o 0)) })
next_fits_by None stands is some = absurd (cc)
next_fits_by (Some block) stands is some = fits (record { block = block; page = filled_of (block_at _ block) }) stands is refl

pub next_fits : {shape : Shape} {failures : ℕ} {blocks : List Block} {placing : Placing} {fills worn : List ℕ} {writing : Option ℕ}
    {candidates : Candidates} → IsSoundState shape failures blocks placing fills worn writing candidates → 0 < free_cells shape.pages blocks
    → Fits shape blocks (next_cell shape.pages blocks)
next_fits {shape} {failures} {blocks} stands some = next_fits_by (open_in shape.pages blocks) stands refl
    (some_open shape.pages blocks some)

pub fits_next : {shape : Shape} {failures : ℕ} {blocks : List Block} {placing : Placing} {fills worn : List ℕ} {writing : Option ℕ}
    {candidates : Candidates} {place : Place} → IsSoundState shape failures blocks placing fills worn writing candidates → 0
    < free_cells shape.pages blocks → place ≡ next_cell shape.pages blocks → Fits shape blocks place
fits_next {shape} {failures} {blocks} stands some is = subst (λ (p : Place). Fits shape blocks p) (sym is) (next_fits stands some)

-- an array that stands, a page of it, and the cell that is written next
pub record Ready (shape : Shape) (failures : ℕ) (blocks : List Block) (placing : Placing) (fills worn : List ℕ) (writing : Option ℕ)
    (candidates : Candidates) (page : ℕ) (place : Place) : Type 0 where
  pub stands : IsSoundState shape failures blocks placing fills worn writing candidates
  pub is : place ≡ next_cell shape.pages blocks
  pub fit : Fits shape blocks place
  pub in_list : page < length placing.places

pub is_next : {shape : Shape} {failures : ℕ} {blocks : List Block} {placing : Placing} {fills worn : List ℕ} {writing : Option ℕ}
    {candidates : Candidates} {place : Place} → IsSoundState shape failures blocks placing fills worn writing candidates → Fits shape blocks place
    → IsNextCell blocks shape.pages place
is_next {shape} {failures} {blocks} {placing} {fills} {worn} {writing} {candidates} {place} stands fit = record {
  in_range = fit.in_range;
  next = fit.next;
  room = fit.room;
  quiet = (seen stands).quiet place.block fit.opens.room;
}

pub is_cell : {shape : Shape} {failures : ℕ} {blocks : List Block} {placing : Placing} {fills worn : List ℕ} {writing : Option ℕ}
    {candidates : Candidates} {place : Place} → IsSoundState shape failures blocks placing fills worn writing candidates → Fits shape blocks place
    → IsCell placing.shape place
is_cell {shape} {failures} {blocks} {placing} {fills} {worn} {writing} {candidates} {place} stands fit =
    subst (λ (s : Shape). IsCell s place) (sym stands.map_shape)
    (let cell : IsCell shape place = record { block = omega (arith, fit.in_range, stands.count); page = fit.room } in cell)

-- nothing lies in a free cell
pub unplaced : {shape : Shape} {failures : ℕ} {blocks : List Block} {placing : Placing} {fills worn : List ℕ} {writing : Option ℕ}
    {candidates : Candidates} {place : Place} → IsSoundState shape failures blocks placing fills worn writing candidates → Fits shape blocks place
    → owner_of placing.places place ≡ None
unplaced {shape} {failures} {blocks} {placing} {fills} {worn} {writing} {candidates} {place} stands fit =
    no_owner placing.places place (λ page lies. omega (arith, (stands.placed page place lies).filled, fit.next))
