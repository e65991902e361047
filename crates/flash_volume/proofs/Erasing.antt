-- What an erase slot does to an array of pages.
use Rattle.std.proofs.Common.{◌≡◌, ◌≢◌, ℕ, ◌+◌, ◌<◌, ◌≤◌, Bool, true, false, cond, suc, List, [], length, get_or, set, Option, Some, None}
use Rattle.std.proofs.Common.{refl, sym, ap, ◌∙◌, arith, inl, inr, ◌∷◌, count_by}
use Rattle.std.specs.Prelude.{◌==◌, if◌then◌else◌, position}
use Rattle.std.proofs.lemmas.Bool.{cases_eq}
use Rattle.std.proofs.lemmas.List.{get_or_read, get_or-set_same, get_or-set_other, length-set, length-map, get_or-map, map-set, set-get_or}
use Rattle.std.proofs.lemmas.List.{ext_get_or}
use Rattle.std.proofs.lemmas.List.Sums.{sum_by-set, sum_by-cons}
use Rattle.std.proofs.lemmas.List.Quantifiers.{position-Some}
use Rattle.slot_types.specs.declared.pages.Place.{Place}
use Rattle.slot_types.specs.declared.plans.Shape.{Shape}
use Rattle.slot_types.specs.Places.{place_of, is_in, owner_of}
use Rattle.victim_pick.specs.Candidates.{Candidates, count_of, erases_of}
use Rattle.page_map.specs.Placing.{Placing}
use Rattle.page_map.proofs.Owners.{unowned}
use Rattle.flash_die.specs.Flash.{Block, free_block, blank, block_at, cell_at, IsProgrammed, IsErasable, blocks_after_erase_slot}
use Rattle.flash_volume.specs.Cells.{filled_of, fills_of, erases_in, is_open_with, free_in, free_cells, content_at, contents}
use Rattle.flash_volume.specs.Array.{IsSoundState}
use Rattle.flash_volume.proofs.Opening.{OneOpen, erases_at, fill_is, seen, opened_is, opened_none, opened_means, none_opened}
use Rattle.flash_volume.proofs.Counting.{here_other}

-- a closed block in which no page lies
pub record IsEmptied (shape : Shape) (blocks : List Block) (places : List (Option Place)) (block : ℕ) : Type 0 where
  pub in_range : block < length blocks
  pub closed : filled_of (block_at blocks block) ≡ shape.pages
  pub none : (p : ℕ) (q : Place) → place_of places p ≡ Some q → q.block ≡ block → ⊥

pub unplaced_of : {shape : Shape} {failures : ℕ} {blocks : List Block} {placing : Placing} {fills worn : List ℕ} {writing : Option ℕ}
    {candidates : Candidates} (block : ℕ) → IsSoundState shape failures blocks placing fills worn writing candidates → block < length blocks
    → filled_of (block_at blocks block) ≡ shape.pages → ((page : ℕ) → page < shape.pages
    → owner_of placing.places (record { block = block; page = page }) ≡ None) → IsEmptied shape blocks placing.places block
unplaced_of {shape} {failures} {blocks} {placing} {fills} {worn} {writing} {candidates} block stands in_range closed unplaced = record {
  in_range = in_range;
  closed = closed;
  none = λ p q lies same.
      let there = stands.placed p q lies in
      let below : q.page < shape.pages = omega (arith, there.filled, fill_is blocks q.block, (seen stands).within q.block) in
      let at : ℕ → Place = λ b. record { block = b; page = q.page } in
      unowned placing.places p q (ap (λ (b : ℕ). owner_of placing.places (at b)) same ∙ unplaced q.page below) lies;
}

-- what is read of the counts of erases is the block's
pub erases_are_counted : {shape : Shape} {failures : ℕ} {blocks : List Block} {placing : Placing} {fills worn : List ℕ} {writing : Option ℕ}
    {candidates : Candidates} (block read : ℕ) → IsSoundState shape failures blocks placing fills worn writing candidates → block < length blocks
    → read ≡ get_or worn block read → read ≡ (block_at blocks block).erases
erases_are_counted {blocks = blocks} {worn = worn} block read stands below is =
    let in_worn : block < length worn = omega (arith, below, ap length stands.erases_are, length-map blocks (λ (b : Block). b.erases)) in
    get_or_read worn block read in_worn is 0 ∙ ap (λ (l : List ℕ). get_or l block 0) stands.erases_are ∙ erases_at blocks block below

pub erasable : {shape : Shape} {blocks : List Block} {places : List (Option Place)} {block : ℕ} → IsEmptied shape blocks places block
    → (block_at blocks block).erases < 4294967295 → IsErasable blocks shape.pages block
erasable clear few = record { in_range = clear.in_range; closed = λ _. clear.closed; few_erases = few }

-- another block's cells stay
elsewhere : (blocks : List Block) (block : ℕ) (new : Block) (q : Place) → (q.block ≡ block → ⊥) → IsProgrammed blocks q
    → IsProgrammed (set blocks block new) q
elsewhere blocks block new q other is =
    let b : block_at (set blocks block new) q.block ≡ block_at blocks q.block = get_or-set_other blocks block q.block new free_block other
    in
    record { in_range = omega (arith, length-set blocks block new, is.in_range); filled = rw b is.filled; quiet = rw b is.quiet }

pub same_cell : (blocks : List Block) (block : ℕ) (new : Block) (q : Place) → (q.block ≡ block → ⊥) → cell_at (set blocks block new) q
    ≡ cell_at blocks q
same_cell blocks block new q other = ap (λ (b : Block). get_or b.pages q.page blank)
    (get_or-set_other blocks block q.block new free_block other)

content_same : (blocks : List Block) (block : ℕ) (new : Block) (o : Option Place) → ((q : Place) → o ≡ Some q → q.block ≡ block → ⊥)
    → content_at (set blocks block new) o ≡ content_at blocks o
content_same blocks block new None none = refl
content_same blocks block new (Some q) none = same_cell blocks block new q (none q refl)

-- every page reads as before
pub contents_erased : {shape : Shape} {blocks : List Block} {places : List (Option Place)} {block : ℕ} (new : Block)
    → IsEmptied shape blocks places block → contents (set blocks block new) places ≡ contents blocks places
contents_erased {shape} {blocks} {places} {block} new clear =
    let left : length (contents (set blocks block new) places) ≡ length places = length-map places (content_at (set blocks block new)) in
    let right : length (contents blocks places) ≡ length places = length-map places (content_at blocks) in
    ext_get_or blank (contents (set blocks block new) places) (contents blocks places) (left ∙ sym right) (λ i h.
    let below : i < length places = omega (arith, h, left) in
    get_or-map (content_at (set blocks block new)) places i None blank below
    ∙ content_same blocks block new (get_or places i None) (λ q. clear.none i q)
    ∙ sym (get_or-map (content_at blocks) places i None blank below))

none_valid : (block : ℕ) (places : List (Option Place)) → ((p : ℕ) (q : Place) → place_of places p ≡ Some q → q.block ≡ block → ⊥)
    → count_by (is_in block) places ≡ 0
none_valid block [] none = refl
none_valid block (None ∷ os) none = none_valid block os (λ p q lies. none (suc p) q lies)
none_valid block (Some r ∷ os) none = omega (
  arith,
  sum_by-cons (λ (o : Option Place). cond (is_in block o) 1 0) (Some r) os,
  here_other
      block r (λ same. none 0 r refl (sym same)),
  none_valid block os (λ p q lies. none (suc p) q lies),
)

-- what holds of the pages and the candidates whatever becomes of such a block, which is no candidate
record RestStands (shape : Shape) (blocks : List Block) (placing : Placing) (candidates : Candidates) : Type 0 where
  placed : (p : ℕ) (q : Place) → place_of placing.places p ≡ Some q → IsProgrammed blocks q
  few_valid : (k : ℕ) → count_by (is_in k) placing.places ≤ filled_of (block_at blocks k)
  counted : (k n : ℕ) → count_of candidates.counts k ≡ Some n → (filled_of (block_at blocks k) ≡ shape.pages)
      × (n ≡ count_by (is_in k) placing.places)
  worn : (k n : ℕ) → count_of candidates.counts k ≡ Some n → erases_of candidates.erases k ≡ (block_at blocks k).erases

rest_stands : {shape : Shape} {failures : ℕ} {blocks : List Block} {placing : Placing} {fills worn : List ℕ} {writing : Option ℕ}
    {candidates : Candidates} {block : ℕ} (new : Block) → IsSoundState shape failures blocks placing fills worn writing candidates
    → IsEmptied shape blocks placing.places block → count_of candidates.counts block ≡ None
    → RestStands shape (set blocks block new) placing candidates
rest_stands {shape} {failures} {blocks} {placing} {fills} {worn} {writing} {candidates} {block} new stands clear taken = record {
  placed = λ p q lies. elsewhere blocks block new q (clear.none p q lies) (stands.placed p q lies);
  few_valid = λ k. elim (cases_eq k block) [
    | inl same ↦ omega (arith, ap (λ (b : ℕ). count_by (is_in b) placing.places) same, none_valid block placing.places clear.none)
    | inr other ↦ omega (arith, ap filled_of (get_or-set_other blocks block k new free_block other), stands.few_valid k)
  ];
  counted = λ k n is.
      let other : k ≢ block = λ same. (let both : count_of candidates.counts k ≡ None = ap (λ (b : ℕ). count_of candidates.counts b) same
      ∙ taken in cc) in
      (ap filled_of (get_or-set_other blocks block k new free_block other) ∙ (stands.counted k n is).0, (stands.counted k n is).1);
  worn = λ k n is.
      let other : k ≢ block = λ same. (let both : count_of candidates.counts k ≡ None = ap (λ (b : ℕ). count_of candidates.counts b) same
      ∙ taken in cc) in
      stands.worn k n is ∙ ap (λ (b : Block). b.erases) (sym (get_or-set_other blocks block k new free_block other));
}

-- one slot more, and not the last
pub stands_going : {shape : Shape} {failures : ℕ} {blocks : List Block} {placing : Placing} {fills worn : List ℕ} {writing : Option ℕ}
    {candidates : Candidates} {block : ℕ} → IsSoundState shape failures blocks placing fills worn writing candidates
    → IsEmptied shape blocks placing.places block → count_of candidates.counts block ≡ None
    → IsSoundState shape failures (set blocks block (record (block_at blocks block) { erasing = (block_at blocks block).erasing + 1 })) placing
    fills worn writing candidates
stands_going {shape} {failures} {blocks} {placing} {fills} {worn} {writing} {candidates} {block} stands clear taken =
    let new : Block = record (block_at blocks block) { erasing = (block_at blocks block).erasing + 1 } in
    let closed : get_or fills block 0 ≡ shape.pages = ap (λ (l : List ℕ). get_or l block 0) stands.fills_are ∙ fill_is blocks block
    ∙ clear.closed in
    let rest = rest_stands new stands clear taken in
    record {
      limits = stands.limits;
      map_shape = stands.map_shape;
      well = stands.well;
      count = length-set blocks block new ∙ stands.count;
      fills_are = stands.fills_are ∙ sym (set-get_or (fills_of blocks) block 0)
          ∙ ap (λ (m : ℕ). set (fills_of blocks) block m) (fill_is blocks block) ∙ sym (map-set filled_of blocks block new);
      erases_are = stands.erases_are ∙ sym (set-get_or (erases_in blocks) block 0)
          ∙ ap (λ (m : ℕ). set (erases_in blocks) block m) (erases_at blocks block clear.in_range)
          ∙ sym (map-set (λ (b : Block). b.erases) blocks block new);
      within = stands.within;
      one_open = stands.one_open;
      writing_is = stands.writing_is;
      quiet = λ k few. elim (cases_eq k block) [
        | inl same ↦ absurd (omega (arith, few, closed, ap (λ (j : ℕ). get_or fills j 0) same))
        | inr other ↦ ap (λ (b : Block). b.erasing) (get_or-set_other blocks block k new free_block other) ∙ stands.quiet k few
      ];
      placed = rest.placed;
      few_valid = rest.few_valid;
      candidates_len = stands.candidates_len;
      worn_len = stands.worn_len;
      candidates_pages = stands.candidates_pages;
      counted = rest.counted;
      worn = rest.worn;
    }

-- a block that is freed is not open, and was not
same_opened : (pages : ℕ) (fills : List ℕ) (block : ℕ) (p : Option ℕ) → position (is_open_with pages) fills ≡ p → get_or fills block 0
    ≡ pages → ((k : ℕ) → 0 < get_or (set fills block 0) k 0 → k ≢ block) → OneOpen pages (set fills block 0)
    → position (is_open_with pages) (set fills block 0) ≡ p
same_opened pages fills block None is closed other one =
    opened_none pages (set fills block 0) (λ k some few.
    let stays = get_or-set_other fills block k 0 0 (other k some) in
    none_opened pages fills k is (omega (arith, some, stays)) (omega (arith, few, stays)))
same_opened pages fills block (Some k) is closed other one =
    let at = position-Some (is_open_with pages) fills k 0 is in
    let means : (0 < get_or fills k 0) × (get_or fills k 0 < pages) = opened_means pages (get_or fills k 0) at.1 in
    let stays : get_or (set fills block 0) k 0 ≡ get_or fills k 0 = get_or-set_other fills block k 0 0
    (λ same. omega (arith, means.1, closed, ap (λ (j : ℕ). get_or fills j 0) same)) in
    opened_is pages (set fills block 0) k (position (is_open_with pages) (set fills block 0)) refl one (omega (arith, means.0, stays))
    (omega (arith, means.1, stays))

-- the last slot frees the block
pub stands_freed : {shape : Shape} {failures : ℕ} {blocks : List Block} {placing : Placing} {fills worn : List ℕ} {writing : Option ℕ}
    {candidates : Candidates} {block : ℕ} (erases : ℕ) → IsSoundState shape failures blocks placing fills worn writing candidates
    → IsEmptied shape blocks placing.places block → count_of candidates.counts block ≡ None
    → IsSoundState shape failures (set blocks block (record { pages = []; erasing = 0; erases = erases })) placing (set fills block 0)
    (set worn block erases) writing candidates
stands_freed {shape} {failures} {blocks} {placing} {fills} {worn} {writing} {candidates} {block} erases stands clear taken =
    let new : Block = record { pages = []; erasing = 0; erases = erases } in
    let closed : get_or fills block 0 ≡ shape.pages = ap (λ (l : List ℕ). get_or l block 0) stands.fills_are ∙ fill_is blocks block
    ∙ clear.closed in
    let rest = rest_stands new stands clear taken in
    let in_fills : block < length fills = omega (arith, clear.in_range, ap length stands.fills_are, length-map blocks filled_of) in
    let zero_is : get_or (set fills block 0) block 0 ≡ 0 = get_or-set_same fills block 0 0 in_fills in
    let only : (k : ℕ) → 0 < get_or (set fills block 0) k 0 → k
    ≢ block = λ k some same. omega (arith, some, zero_is, ap (λ (j : ℕ). get_or (set fills block 0) j 0) same) in
    let one : OneOpen shape.pages (set fills block 0) = (λ i j some_i few_i some_j few_j.
    let at_i = get_or-set_other fills block i 0 0 (only i some_i) in
    let at_j = get_or-set_other fills block j 0 0 (only j some_j) in
    stands.one_open i j (omega (arith, at_i, some_i)) (omega (arith, at_i, few_i)) (omega (arith, at_j, some_j))
    (omega (arith, at_j, few_j))) in
    record {
      limits = stands.limits;
      map_shape = stands.map_shape;
      well = stands.well;
      count = length-set blocks block new ∙ stands.count;
      fills_are = ap (λ (l : List ℕ). set l block 0) stands.fills_are ∙ sym (map-set filled_of blocks block new);
      erases_are = ap (λ (l : List ℕ). set l block erases) stands.erases_are ∙ sym (map-set (λ (b : Block). b.erases) blocks block new);
      within = λ k. elim (cases_eq k block) [
        | inl same ↦ omega (arith, ap (λ (j : ℕ). get_or (set fills block 0) j 0) same, zero_is)
        | inr other ↦ omega (arith, get_or-set_other fills block k 0 0 other, stands.within k)
      ];
      one_open = one;
      writing_is = same_opened shape.pages fills block writing stands.writing_is closed only one;
      quiet = λ k few. elim (cases_eq k block) [
        | inl same ↦ rw same (ap (λ (b : Block). b.erasing) (get_or-set_same blocks block new free_block clear.in_range))
        | inr other ↦ ap (λ (b : Block). b.erasing) (get_or-set_other blocks block k new free_block other)
            ∙ stands.quiet k (omega (arith, few, get_or-set_other fills block k 0 0 other))
      ];
      placed = rest.placed;
      few_valid = rest.few_valid;
      candidates_len = stands.candidates_len;
      worn_len = stands.worn_len;
      candidates_pages = stands.candidates_pages;
      counted = rest.counted;
      worn = rest.worn;
    }

-- a block's worth of cells more is free
pub free_freed : {shape : Shape} {blocks : List Block} {places : List (Option Place)} {block : ℕ} (erases : ℕ)
    → IsEmptied shape blocks places block → free_cells shape.pages (set blocks block (record { pages = []; erasing = 0; erases = erases }))
    ≡ free_cells shape.pages blocks + shape.pages
free_freed {shape} {blocks} {places} {block} erases clear =
    let new : Block = record { pages = []; erasing = 0; erases = erases } in
    omega (arith, sum_by-set (free_in shape.pages) blocks block new free_block clear.in_range, clear.closed)

pub free_going : {shape : Shape} {blocks : List Block} {places : List (Option Place)} {block : ℕ} → IsEmptied shape blocks places block
    → free_cells shape.pages (set blocks block (record (block_at blocks block) { erasing = (block_at blocks block).erasing + 1 }))
    ≡ free_cells shape.pages blocks
free_going {shape} {blocks} {places} {block} clear =
    let new : Block = record (block_at blocks block) { erasing = (block_at blocks block).erasing + 1 } in
    omega (arith, sum_by-set (free_in shape.pages) blocks block new free_block clear.in_range)

pub erased_last : (blocks after : List Block) (slots block : ℕ) (last : Bool) → after ≡ blocks_after_erase_slot blocks slots block → last
    ≡ ((block_at blocks block).erasing + 1 == slots) → last ≡ true → after
    ≡ set blocks block (record { pages = []; erasing = 0; erases = (block_at blocks block).erases + 1 })
erased_last blocks after slots block last is last_is so =
    let old : Block = block_at blocks block in
    let P : Bool → List Block = λ t. set blocks block (if t then record { pages = []; erasing = 0; erases = old.erases + 1 } else record old
    { erasing = old.erasing + 1 }) in
    is ∙ ap P (sym last_is ∙ so)

pub erased_going : (blocks after : List Block) (slots block : ℕ) (last : Bool) → after ≡ blocks_after_erase_slot blocks slots block → last
    ≡ ((block_at blocks block).erasing + 1 == slots) → last ≡ false → after
    ≡ set blocks block (record (block_at blocks block) { erasing = (block_at blocks block).erasing + 1 })
erased_going blocks after slots block last is last_is not_yet =
    let old : Block = block_at blocks block in
    let P : Bool → List Block = λ t. set blocks block (if t then record { pages = []; erasing = 0; erases = old.erases + 1 } else record old
    { erasing = old.erasing + 1 }) in
    is ∙ ap P (sym last_is ∙ not_yet)
