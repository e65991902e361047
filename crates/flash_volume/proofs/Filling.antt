-- What a program of the next free cell does to an array of pages.
use Rattle.std.proofs.Common.{◌≡◌, ℕ, ◌+◌, ◌<◌, true, false, List, [], ◌∷◌, ◌++◌, length, get_or, set, count_by, Option, Some, None, IsSome}
use Rattle.std.proofs.Common.{refl, sym, ap, ◌∙◌, subst, arith, inl, inr}
use Rattle.std.specs.Prelude.{position, if◌then◌else◌, nat_lt}
use Rattle.std.proofs.lemmas.Bool.{cases_eq, cases_lt}
use Rattle.std.proofs.lemmas.List.{get_or-set_same, get_or-set_other, length-set, length-map, get_or-map, get_or_at, map-set, set-get_or}
use Rattle.std.proofs.lemmas.List.{ext_get_or, length_push}
use Rattle.std.proofs.lemmas.List.Sums.{sum_by-set}
use Rattle.std.proofs.lemmas.Bool.Decides.{nat_tests}
use Rattle.slot_types.specs.declared.pages.Place.{Place}
use Rattle.slot_types.specs.declared.plans.Shape.{Shape}
use Rattle.slot_types.specs.declared.pages.PageData.{PageData}
use Rattle.slot_types.specs.Places.{place_of, is_in}
use Rattle.victim_pick.specs.Candidates.{Candidates, count_of, erases_of}
use Rattle.page_map.specs.Placing.{Placing, placing_with}
use Rattle.flash_die.specs.Flash.{Block, blank, free_block, block_at, cell_at, IsProgrammed, blocks_after_program}
use Rattle.flash_volume.specs.Cells.{filled_of, fills_of, erases_in, is_open_with, left_open, content_at, contents, free_in, free_cells}
use Rattle.flash_volume.specs.Array.{IsSoundState, counts_after_leaving}
use Rattle.flash_volume.proofs.Opening.{Opens, OneOpen, Fits, erases_at, opened_is, opened_none, same_block, other_block, stays}
use Rattle.flash_volume.proofs.Counting.{counts_written, erases_written, worn_written, closed_len, left_len, closed_here, few_written}
use Rattle.flash_volume.proofs.Counting.{candidates_written}

-- What the program keeps

only_this : {pages : ℕ} {fills : List ℕ} {block : ℕ} (n k : ℕ) → Opens pages fills block → 0 < get_or (set fills block n) k 0
    → get_or (set fills block n) k 0 < pages → k ≡ block
only_this {pages} {fills} {block} n k o some few =
    elim (cases_eq k block) [
      | inl same ↦ same
      | inr other ↦ let is = get_or-set_other fills block k n 0 other in o.alone k (omega (arith, is, some)) (omega (arith, is, few))
    ]

still_one : {pages : ℕ} {fills : List ℕ} {block : ℕ} (n : ℕ) → Opens pages fills block → OneOpen pages (set fills block n)
still_one n o = λ i j some_i few_i some_j few_j. only_this n i o some_i few_i ∙ sym (only_this n j o some_j few_j)

left_open_is : (pages : ℕ) (fills : List ℕ) (block n : ℕ) → Opens pages fills block
    → position (is_open_with pages) (set fills block (n + 1)) ≡ left_open pages block (n + 1)
left_open_is pages fills block n o =
    let now : get_or (set fills block (n + 1)) block 0 ≡ n + 1 = get_or-set_same fills block (n + 1) 0 o.below in
    elim (cases_lt (n + 1) pages) [
      | inl few ↦
          let test : nat_lt (n + 1) pages ≡ true = grind (arith, nat_tests) in
          opened_is pages (set fills block (n + 1)) block (position (is_open_with pages) (set fills block (n + 1))) refl
          (still_one (n + 1) o) (omega (arith, now)) (omega (arith, now, few)) ∙ ap (λ t. if t then Some block else None) (sym test)
      | inr closed ↦
          let test : nat_lt (n + 1) pages ≡ false = grind (arith, nat_tests) in
          opened_none pages (set fills block (n + 1)) (λ k some few. let k_is : k
          ≡ block = only_this (n + 1) k o some few in omega
          (arith, few, closed, now, ap (λ (j : ℕ). get_or (set fills block (n + 1)) j 0) k_is))
          ∙ ap (λ t. if t then Some block else None) (sym test)
    ]

pub stands_written : {shape : Shape} {failures : ℕ} {blocks : List Block} {placing : Placing} {fills worn : List ℕ} {writing : Option ℕ}
    {candidates : Candidates} (page : ℕ) (bytes : PageData) {place : Place}
    → IsSoundState shape failures blocks placing fills worn writing candidates → Fits shape blocks place → page < length placing.places
    → IsSoundState shape failures (blocks_after_program blocks place.block bytes) (placing_with placing page place) (set fills place.block (place.page + 1)) worn
    (left_open shape.pages place.block (place.page + 1))
    (record candidates {
      counts = counts_written shape page place placing.places candidates.counts;
      erases = erases_written shape place
          (get_or worn place.block 0) candidates.erases;
    })
stands_written {shape} {failures} {blocks} {placing} {fills} {worn} {writing} {candidates} page bytes {place} stands fit below =
    let old : Block = block_at blocks place.block in
    let new : Block = record old { pages = old.pages ++ bytes ∷ [] } in
    let longer : length new.pages ≡ length old.pages + 1 = length_push old.pages bytes in
    let o : Opens shape.pages fills place.block = rw stands.fills_are fit.opens in
    let worn_is : get_or worn place.block 0 ≡ old.erases = ap (λ (l : List ℕ). get_or l place.block 0) stands.erases_are
    ∙ erases_at blocks place.block fit.in_range in
    record {
      limits = stands.limits;
      map_shape = stands.map_shape;
      well = stands.well;
      count = length-set blocks place.block new ∙ stands.count;
      fills_are =
          let n : place.page + 1 ≡ filled_of new = omega (arith, longer, fit.next) in
          ap (λ (l : List ℕ). set l place.block (place.page + 1)) stands.fills_are ∙ ap (λ (m : ℕ). set (fills_of blocks) place.block m) n
          ∙ sym (map-set filled_of blocks place.block new);
      erases_are = stands.erases_are ∙ sym (set-get_or (erases_in blocks) place.block 0)
          ∙ ap (λ (n : ℕ). set (erases_in blocks) place.block n) (erases_at blocks place.block fit.in_range)
          ∙ sym (map-set (λ (b : Block). b.erases) blocks place.block new);
      within = λ k. elim (cases_eq k place.block) [
        | inl same ↦ omega (
          arith,
          ap (λ (j : ℕ). get_or (set fills place.block (place.page + 1)) j 0) same,
          get_or-set_same fills
              place.block (place.page + 1) 0 o.below,
          fit.room,
        )
        | inr other ↦ omega (arith, get_or-set_other fills place.block k (place.page + 1) 0 other, stands.within k)
      ];
      one_open = still_one (place.page + 1) o;
      writing_is = left_open_is shape.pages fills place.block place.page o;
      quiet = λ k few. elim (cases_eq k place.block) [
        | inl same ↦ rw same (ap (λ (b : Block). b.erasing) (same_block blocks place.block bytes fit.in_range)
            ∙ stands.quiet place.block o.room)
        | inr other ↦ ap (λ (b : Block). b.erasing) (other_block blocks place.block k bytes other)
            ∙ stands.quiet k (omega (arith, few, get_or-set_other fills place.block k (place.page + 1) 0 other))
      ];
      placed = λ p q lies. elim (cases_eq p page) [
        | inl same ↦
            let is : Some place ≡ Some q = sym (get_or-set_same placing.places page (Some place) None below)
            ∙ ap (λ (j : ℕ). get_or (set placing.places page (Some place)) j None) (sym same) ∙ lies in
            let q_is : place ≡ q = cc in
            let b = same_block blocks place.block bytes fit.in_range in
            let here : IsProgrammed (blocks_after_program blocks place.block bytes) place = record {
              in_range = omega (arith, length-set blocks place.block new, fit.in_range);
              filled = rw b (omega (arith, longer, fit.next));
              quiet = rw b (stands.quiet place.block o.room);
            } in
            subst (λ (r : Place). IsProgrammed (blocks_after_program blocks place.block bytes) r) q_is here
        | inr other ↦ (stays blocks place.block bytes q fit.in_range
            (stands.placed p q (sym (get_or-set_other placing.places page p (Some place) None other) ∙ lies))).0
      ];
      few_valid = λ block. few_written page bytes block stands fit below;
      candidates_len = closed_len shape.pages place.block (place.page + 1)
          (count_by (is_in place.block) (set placing.places page (Some place))) (counts_after_leaving (place_of placing.places page) candidates.counts)
          (nat_lt (place.page + 1) shape.pages) refl ∙ left_len (place_of placing.places page) candidates.counts ∙ stands.candidates_len;
      worn_len = closed_len shape.pages place.block (place.page + 1) (get_or worn place.block 0) candidates.erases
          (nat_lt (place.page + 1) shape.pages) refl ∙ stands.worn_len;
      candidates_pages = stands.candidates_pages;
      counted = λ block n. candidates_written page bytes block n stands fit below;
      worn = λ block n is. ap (λ (e : ℕ). erases_of (erases_written shape place e candidates.erases) block) worn_is
          ∙ worn_written page bytes block n stands fit is;
    }

-- a block that is closed then is a candidate
pub closes_filled : {shape : Shape} {failures : ℕ} {blocks : List Block} {placing : Placing} {fills worn : List ℕ} {writing : Option ℕ}
    {candidates : Candidates} {place : Place} (page : ℕ) (bytes : PageData)
    → IsSoundState shape failures blocks placing fills worn writing candidates → Fits shape blocks place
    → filled_of (block_at (blocks_after_program blocks place.block bytes) place.block) ≡ shape.pages
    → IsSome (count_of (counts_written shape page place placing.places candidates.counts) place.block)
closes_filled {shape} {failures} {blocks} {placing} {fills} {worn} {writing} {candidates} {place} page bytes stands fit closed =
    let valid : ℕ = count_by (is_in place.block) (set placing.places page (Some place)) in
    let there = closed_here shape.pages place.block (place.page + 1) valid (counts_after_leaving (place_of placing.places page) candidates.counts)
    (omega (
      arith,
      closed,
      ap filled_of (same_block blocks place.block bytes fit.in_range),
      length_push
          (block_at blocks place.block).pages bytes,
      fit.next,
    ))
    (omega (arith, left_len (place_of placing.places page) candidates.counts, stands.candidates_len, fit.in_range, stands.count)) in
    rw there refl

-- a cell less is free
pub free_written : {shape : Shape} {blocks : List Block} {place : Place} (bytes : PageData) → Fits shape blocks place
    → free_cells shape.pages (blocks_after_program blocks place.block bytes) + 1 ≡ free_cells shape.pages blocks
free_written {shape} {blocks} {place} bytes fit =
    let old : Block = block_at blocks place.block in
    let new : Block = record old { pages = old.pages ++ bytes ∷ [] } in
    omega (
      arith,
      sum_by-set (free_in shape.pages) blocks place.block new free_block fit.in_range,
      length_push old.pages bytes,
      fit.next,
      fit.room,
    )

content_stays : (blocks : List Block) (block : ℕ) (bytes : PageData) (o : Option Place) → block < length blocks
    → ((q : Place) → o ≡ Some q → IsProgrammed blocks q) → content_at (blocks_after_program blocks block bytes) o ≡ content_at blocks o
content_stays blocks block bytes None below placed = refl
content_stays blocks block bytes (Some q) below placed = (stays blocks block bytes q below (placed q refl)).1

-- the page reads what was programmed, and every other page as before
pub contents_written : {shape : Shape} {failures : ℕ} {blocks : List Block} {placing : Placing} {fills worn : List ℕ} {writing : Option ℕ}
    {candidates : Candidates} (page : ℕ) (bytes : PageData) {place : Place}
    → IsSoundState shape failures blocks placing fills worn writing candidates → Fits shape blocks place → page < length placing.places
    → contents (blocks_after_program blocks place.block bytes) (set placing.places page (Some place))
    ≡ set (contents blocks placing.places) page bytes
contents_written {shape} {failures} {blocks} {placing} {fills} {worn} {writing} {candidates} page bytes {place} stands fit below =
    let after : List Block = blocks_after_program blocks place.block bytes in
    let places : List (Option Place) = set placing.places page (Some place) in
    let len : length places ≡ length placing.places = length-set placing.places page (Some place) in
    let len_left : length (contents after places) ≡ length places = length-map places (content_at after) in
    let len_old : length (contents blocks placing.places) ≡ length placing.places = length-map placing.places (content_at blocks) in
    let len_right : length (set (contents blocks placing.places) page bytes)
    ≡ length placing.places = length-set (contents blocks placing.places) page bytes ∙ len_old in
    ext_get_or blank (contents after places) (set (contents blocks placing.places) page bytes) (omega (arith, len_left, len, len_right))
    (λ i h.
    let in_places : i < length places = omega (arith, h, len_left) in
    let in_old : i < length placing.places = omega (arith, in_places, len) in
    let left : get_or (contents after places) i blank ≡ content_at after (get_or places i None) = get_or-map (content_at after) places i
    None blank in_places in
    elim (cases_eq i page) [
      | inl same ↦
          let there : get_or places i None ≡ Some place = rw same (get_or-set_same placing.places page (Some place) None below) in
          let read : content_at after (Some place) ≡ bytes = rw (same_block blocks place.block bytes fit.in_range)
          (get_or_at (block_at blocks place.block).pages bytes [] blank place.page (sym fit.next)) in
          let right : get_or (set (contents blocks placing.places) page bytes) i blank
          ≡ bytes = rw same (get_or-set_same (contents blocks placing.places) page bytes blank (omega (arith, below, len_old))) in
          left ∙ ap (content_at after) there ∙ read ∙ sym right
      | inr other ↦
          let there : get_or places i None ≡ get_or placing.places i None = get_or-set_other placing.places page i (Some place) None other
          in
          let right : get_or (set (contents blocks placing.places) page bytes) i blank
          ≡ get_or (contents blocks placing.places) i blank = get_or-set_other (contents blocks placing.places) page i bytes blank other
          in
          let was : get_or (contents blocks placing.places) i blank
          ≡ content_at blocks (get_or placing.places i None) = get_or-map (content_at blocks) placing.places i None blank in_old in
          left ∙ ap (content_at after) there ∙ content_stays blocks place.block bytes (get_or placing.places i None) fit.in_range
          (λ q. stands.placed i q) ∙ sym was ∙ sym right
    ])

-- a page that holds what it held leaves every page as it reads
pub same_contents : (blocks : List Block) (places : List (Option Place)) (page : ℕ) (source : Place) (bytes : PageData) → page
    < length places → place_of places page ≡ Some source → bytes ≡ cell_at blocks source → set (contents blocks places) page bytes
    ≡ contents blocks places
same_contents blocks places page source bytes below lies is =
    let was : get_or (contents blocks places) page blank
    ≡ content_at blocks (get_or places page None) = get_or-map (content_at blocks) places page None blank below in
    let same : bytes ≡ get_or (contents blocks places) page blank = is ∙ ap (content_at blocks) (sym lies) ∙ sym was in
    ap (λ (b : PageData). set (contents blocks places) page b) same ∙ set-get_or (contents blocks places) page blank
