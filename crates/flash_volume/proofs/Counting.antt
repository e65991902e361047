-- The candidates for a collection, as pages are written.
use Rattle.std.proofs.Common.{◌≡◌, ◌≢◌, ℕ, ◌+◌, ◌-◌, ◌<◌, ◌≤◌, Bool, true, false, cond, List, length, set, count_by, Option, Some, None}
use Rattle.std.proofs.Common.{refl, sym, ap, ◌∙◌, arith, inl, inr}
use Rattle.std.specs.Prelude.{if◌then◌else◌, nat_lt, is_some, unwrap_or}
use Rattle.std.proofs.lemmas.Bool.{cases_eq, cases_lt}
use Rattle.std.proofs.lemmas.List.{get_or-set_same, get_or-set_other, length-set, get_or_past, length_push}
use Rattle.std.proofs.lemmas.List.Sums.{sum_by-set, get_or-le-sum_by}
use Rattle.std.proofs.lemmas.Bool.Decides.{nat_tests}
use Rattle.slot_types.specs.declared.pages.Place.{Place}
use Rattle.slot_types.specs.declared.plans.Shape.{Shape}
use Rattle.slot_types.specs.declared.pages.PageData.{PageData}
use Rattle.slot_types.specs.Places.{place_of, is_in}
use Rattle.victim_pick.specs.Candidates.{Candidates, count_of, erases_of, one_page_less}
use Rattle.page_map.specs.Placing.{Placing}
use Rattle.page_map.proofs.Owners.{within}
use Rattle.flash_die.specs.Flash.{Block, block_at, blocks_after_program}
use Rattle.flash_volume.specs.Cells.{filled_of}
use Rattle.flash_volume.specs.Array.{IsSoundState, counts_after_leaving, closed_when_filled, without_candidate}
use Rattle.flash_volume.proofs.Opening.{Fits, same_block, other_block}

abbrev pub here : ℕ → Option Place → ℕ
here block o = cond (is_in block o) 1 0

pub here_same : (block : ℕ) (place : Place) → block ≡ place.block → here block (Some place) ≡ 1
here_same block place same = grind (arith, nat_tests)

pub here_other : (block : ℕ) (place : Place) → block ≢ place.block → here block (Some place) ≡ 0
here_other block place other =
    elim (cases_eq place.block block) [
      | inl same ↦ absurd (other (sym same))
      | inr differs ↦ grind (arith, nat_tests)
    ]

-- the pages that lie in a block, before and after one comes to another cell
pub moves : (block page : ℕ) (place : Place) (places : List (Option Place)) → page < length places
    → count_by (is_in block) (set places page (Some place)) + here block (place_of places page)
    ≡ count_by (is_in block) places + here block (Some place)
moves block page place places below = sum_by-set (here block) places page (Some place) None below

not_candidate_by : {shape : Shape} {failures : ℕ} {blocks : List Block} {placing : Placing} {fills worn : List ℕ} {writing : Option ℕ}
    {candidates : Candidates} {place : Place} (o : Option ℕ) → count_of candidates.counts place.block ≡ o
    → IsSoundState shape failures blocks placing fills worn writing candidates → Fits shape blocks place → count_of candidates.counts place.block
    ≡ None
not_candidate_by None is stands fit = is
not_candidate_by {place} (Some n) is stands fit = absurd (omega (arith, (stands.counted place.block n is).0, fit.next, fit.room))

-- the open block is no candidate
pub not_candidate : {shape : Shape} {failures : ℕ} {blocks : List Block} {placing : Placing} {fills worn : List ℕ} {writing : Option ℕ}
    {candidates : Candidates} {place : Place} → IsSoundState shape failures blocks placing fills worn writing candidates → Fits shape blocks place
    → count_of candidates.counts place.block ≡ None
not_candidate {shape} {failures} {blocks} {placing} {fills} {worn} {writing} {candidates} {place} stands fit = not_candidate_by
    (count_of candidates.counts place.block) refl stands fit

-- a candidate has the page that lies in it
pub some_valid : {shape : Shape} {failures : ℕ} {blocks : List Block} {placing : Placing} {fills worn : List ℕ} {writing : Option ℕ}
    {candidates : Candidates} (page n : ℕ) (place : Place) → IsSoundState shape failures blocks placing fills worn writing candidates
    → place_of placing.places page ≡ Some place → count_of candidates.counts place.block ≡ Some n → 0 < n
some_valid {shape} {failures} {blocks} {placing} page n place stands lies counted =
    omega (
      arith,
      (stands.counted place.block n counted).1,
      get_or-le-sum_by (here place.block) placing.places page None
          (within placing.places page place lies),
      ap (here place.block) lies,
      here_same place.block place refl,
    )

-- taking a count away leaves none where none was
pub none_set : (counts : List (Option ℕ)) (b block : ℕ) → count_of counts block ≡ None → count_of (set counts b None) block ≡ None
none_set counts b block none =
    elim (cases_eq block b) [
      | inl same ↦ elim (cases_lt b (length counts)) [
        | inl below ↦ ap (λ (j : ℕ). count_of (set counts b None) j) same ∙ get_or-set_same counts b None None below
        | inr past ↦ get_or_past (set counts b None) block None (omega (arith, past, same, length-set {A = Option ℕ} counts b None))
      ]
      | inr other ↦ get_or-set_other counts b block None None other ∙ none
    ]

left_none : (before : Option Place) (counts : List (Option ℕ)) (block : ℕ) → count_of counts block ≡ None
    → count_of (counts_after_leaving before counts) block ≡ None
left_none None counts block none = none
left_none (Some place) counts block none =
    elim (cases_eq block place.block) [
      | inl same ↦
          let was : count_of counts place.block ≡ None = ap (λ (b : ℕ). count_of counts b) (sym same) ∙ none in
          ap (λ (o : Option ℕ). count_of (set counts place.block (one_page_less o)) block) was ∙ none_set counts place.block block none
      | inr other ↦ get_or-set_other counts place.block block (one_page_less (count_of counts place.block)) None other ∙ none
    ]

-- also after a page has left its block
pub left_open_block : {shape : Shape} {failures : ℕ} {blocks : List Block} {placing : Placing} {fills worn : List ℕ} {writing : Option ℕ}
    {candidates : Candidates} {place : Place} (before : Option Place) → IsSoundState shape failures blocks placing fills worn writing candidates
    → Fits shape blocks place → count_of (counts_after_leaving before candidates.counts) place.block ≡ None
left_open_block {shape} {failures} {blocks} {placing} {fills} {worn} {writing} {candidates} {place} before stands fit = left_none before
    candidates.counts place.block (not_candidate stands fit)

pub left_len : (before : Option Place) (counts : List (Option ℕ)) → length (counts_after_leaving before counts) ≡ length counts
left_len None counts = refl
left_len (Some place) counts = length-set counts place.block (one_page_less (count_of counts place.block))

lowered_some : (o : Option ℕ) → is_some (one_page_less o) ≡ is_some o
lowered_some None = refl
lowered_some (Some n) = refl

-- a page that leaves makes nobody a candidate, and takes none away
pub left_some : (before : Option Place) (counts : List (Option ℕ)) (block : ℕ) → is_some (count_of (counts_after_leaving before counts) block)
    ≡ is_some (count_of counts block)
left_some None counts block = refl
left_some (Some place) counts block =
    elim (cases_eq block place.block) [
      | inl same ↦ elim (cases_lt place.block (length counts)) [
        | inl below ↦ ap (λ (b : ℕ). is_some (count_of (counts_after_leaving (Some place) counts) b)) same
            ∙ ap is_some (get_or-set_same counts place.block (one_page_less (count_of counts place.block)) None below)
            ∙ lowered_some (count_of counts place.block) ∙ ap (λ (b : ℕ). is_some (count_of counts b)) (sym same)
        | inr past ↦ ap is_some (get_or_past (counts_after_leaving (Some place) counts) block None (omega (arith, past, same, left_len (Some place) counts))
            ∙ sym (get_or_past counts block None (omega (arith, past, same))))
      ]
      | inr other ↦ ap is_some (get_or-set_other counts place.block block (one_page_less (count_of counts place.block)) None other)
    ]

closed_other : (pages block filled valid b : ℕ) (counts : List (Option ℕ)) (t : Bool) → nat_lt filled pages ≡ t → b ≢ block
    → count_of (closed_when_filled pages block filled valid counts) b ≡ count_of counts b
closed_other pages block filled valid b counts true test other = ap
    (λ (t : Bool). count_of (if t then counts else set counts block (Some valid)) b) test
closed_other pages block filled valid b counts false test other = ap
    (λ (t : Bool). count_of (if t then counts else set counts block (Some valid)) b) test
    ∙ get_or-set_other counts block b (Some valid) None other

pub closed_len : (pages block filled valid : ℕ) (counts : List (Option ℕ)) (t : Bool) → nat_lt filled pages ≡ t
    → length (closed_when_filled pages block filled valid counts) ≡ length counts
closed_len pages block filled valid counts true test = ap (λ (t : Bool). length (if t then counts else set counts block (Some valid))) test
closed_len pages block filled valid counts false test = ap (λ (t : Bool). length (if t then counts else set counts block (Some valid))) test
    ∙ length-set counts block (Some valid)

pub closed_here : (pages block filled valid : ℕ) (counts : List (Option ℕ)) → pages ≤ filled → block < length counts
    → count_of (closed_when_filled pages block filled valid counts) block ≡ Some valid
closed_here pages block filled valid counts closed below =
    let test : nat_lt filled pages ≡ false = grind (arith, nat_tests) in
    ap (λ (t : Bool). count_of (if t then counts else set counts block (Some valid)) block) test
    ∙ get_or-set_same counts block (Some valid) None below

-- the erases of another block
pub erases_elsewhere : (erases : List (Option ℕ)) (b block : ℕ) (o : Option ℕ) → block ≢ b → erases_of (set erases b o) block
    ≡ erases_of erases block
erases_elsewhere erases b block o other = ap (λ (x : Option ℕ). unwrap_or x 0) (get_or-set_other erases b block o None other)

-- the candidates after a page came to a cell
abbrev pub counts_written : Shape → ℕ → Place → List (Option Place) → List (Option ℕ) → List (Option ℕ)
counts_written shape page place places counts =
    closed_when_filled shape.pages place.block (place.page + 1) (count_by (is_in place.block) (set places page (Some place)))
    (counts_after_leaving (place_of places page) counts)

abbrev pub erases_written : Shape → Place → ℕ → List (Option ℕ) → List (Option ℕ)
erases_written shape place worn erases = closed_when_filled shape.pages place.block (place.page + 1) worn erases

lowered_was : (o : Option ℕ) (n : ℕ) → one_page_less o ≡ Some n → (m : ℕ) × (o ≡ Some m) × (n ≡ m - 1)
lowered_was None n is = absurd (cc)
lowered_was (Some m) n is = (m, refl, (let e : m - 1 ≡ n = cc in sym e))

-- who is counted after a page has left was counted before, with that page
pub left_counted : (before : Option Place) (counts : List (Option ℕ)) (block n : ℕ) → count_of (counts_after_leaving before counts) block ≡ Some n → (m : ℕ)
    × (count_of counts block ≡ Some m) × (n ≡ m - here block before)
left_counted None counts block n is = (n, is, omega arith)
left_counted (Some place) counts block n is =
    elim (cases_eq block place.block) [
      | inl same ↦ elim (cases_lt place.block (length counts)) [
        | inl below ↦
            let now : one_page_less (count_of counts place.block)
            ≡ Some n = sym (get_or-set_same counts place.block (one_page_less (count_of counts place.block)) None below)
            ∙ ap (λ (b : ℕ). count_of (counts_after_leaving (Some place) counts) b) (sym same) ∙ is in
            let was = lowered_was (count_of counts place.block) n now in
            (was.0, ap (λ (b : ℕ). count_of counts b) same ∙ was.1, omega (arith, was.2, here_same block place same))
        | inr past ↦
            let none : count_of (counts_after_leaving (Some place) counts) block
            ≡ None = get_or_past (counts_after_leaving (Some place) counts) block None (omega (arith, past, same, left_len (Some place) counts)) in
            absurd (cc)
      ]
      | inr other ↦ (
        n,
        sym (get_or-set_other counts place.block block (one_page_less (count_of counts place.block)) None other)
            ∙ is,
        omega (arith, here_other block place other),
      )
    ]

-- a count that stays right where the block is not the open one
counted_other : {shape : Shape} {failures : ℕ} {blocks : List Block} {placing : Placing} {fills worn : List ℕ} {writing : Option ℕ}
    {candidates : Candidates} (place : Place) (page : ℕ) (bytes : PageData) (block n : ℕ)
    → IsSoundState shape failures blocks placing fills worn writing candidates → page < length placing.places → block ≢ place.block
    → count_of (counts_written shape page place placing.places candidates.counts) block ≡ Some n
    → (filled_of (block_at (blocks_after_program blocks place.block bytes) block) ≡ shape.pages)
    × (n ≡ count_by (is_in block) (set placing.places page (Some place)))
counted_other {shape} {failures} {blocks} {placing} {fills} {worn} {writing} {candidates} place page bytes block n stands below other is =
    let left_is : count_of (counts_after_leaving (place_of placing.places page) candidates.counts) block
    ≡ Some n = sym (closed_other shape.pages place.block (place.page + 1)
    (count_by (is_in place.block) (set placing.places page (Some place))) block (counts_after_leaving (place_of placing.places page) candidates.counts)
    (nat_lt (place.page + 1) shape.pages) refl other) ∙ is in
    let was = left_counted (place_of placing.places page) candidates.counts block n left_is in
    let old = stands.counted block was.0 was.1 in (
      ap filled_of (other_block blocks place.block block bytes other) ∙ old.0,
      omega (arith, was.2, old.1, moves block page place placing.places below, here_other block place other),
    )

pub candidates_written : {shape : Shape} {failures : ℕ} {blocks : List Block} {placing : Placing} {fills worn : List ℕ} {writing : Option ℕ}
    {candidates : Candidates} {place : Place} (page : ℕ) (bytes : PageData) (block n : ℕ)
    → IsSoundState shape failures blocks placing fills worn writing candidates → Fits shape blocks place → page < length placing.places
    → count_of (counts_written shape page place placing.places candidates.counts) block ≡ Some n
    → (filled_of (block_at (blocks_after_program blocks place.block bytes) block) ≡ shape.pages)
    × (n ≡ count_by (is_in block) (set placing.places page (Some place)))
candidates_written {shape} {failures} {blocks} {placing} {fills} {worn} {writing} {candidates} {place} page bytes block n stands fit below
    is =
    let new : List (Option Place) = set placing.places page (Some place) in
    let before : Option Place = place_of placing.places page in
    let counts : List (Option ℕ) = counts_written shape page place placing.places candidates.counts in
    elim (cases_eq block place.block) [
      | inr other ↦ counted_other place page bytes block n stands below other is
      | inl same ↦ elim (cases_lt (place.page + 1) shape.pages) [
        | inl few ↦
            let test : nat_lt (place.page + 1) shape.pages ≡ true = grind (arith, nat_tests) in
            let none : count_of counts place.block ≡ None = ap
            (λ (t : Bool). count_of (if t then counts_after_leaving before candidates.counts else set (counts_after_leaving before candidates.counts) place.block
            (Some (count_by (is_in place.block) new))) place.block) test ∙ left_open_block before stands fit in
            let there : count_of counts block ≡ None = ap (λ (b : ℕ). count_of counts b) same ∙ none in
            absurd (cc)
        | inr closed ↦
            let there : count_of counts block ≡ Some (count_by (is_in place.block) new) = ap (λ (b : ℕ). count_of counts b) same
            ∙ closed_here shape.pages place.block (place.page + 1) (count_by (is_in place.block) new) (counts_after_leaving before candidates.counts)
            closed (omega (arith, left_len before candidates.counts, stands.candidates_len, fit.in_range, stands.count)) in
            let n_is : count_by (is_in place.block) new ≡ n = cc in (
              ap (λ (b : ℕ). filled_of (block_at (blocks_after_program blocks place.block bytes) b)) same
                  ∙ ap filled_of (same_block blocks place.block bytes fit.in_range)
                  ∙ omega (arith, length_push (block_at blocks place.block).pages bytes, fit.next, fit.room, closed),
              sym n_is ∙ ap (λ (b : ℕ). count_by (is_in b) new) (sym same),
            )
      ]
    ]

pub few_written : {shape : Shape} {failures : ℕ} {blocks : List Block} {placing : Placing} {fills worn : List ℕ} {writing : Option ℕ}
    {candidates : Candidates} {place : Place} (page : ℕ) (bytes : PageData) (block : ℕ)
    → IsSoundState shape failures blocks placing fills worn writing candidates → Fits shape blocks place → page < length placing.places
    → count_by (is_in block) (set placing.places page (Some place)) ≤ filled_of (block_at (blocks_after_program blocks place.block bytes) block)
few_written {shape} {failures} {blocks} {placing} {fills} {worn} {writing} {candidates} {place} page bytes block stands fit below =
    elim (cases_eq block place.block) [
      | inl same ↦
          let now : filled_of (block_at (blocks_after_program blocks place.block bytes) block) ≡ filled_of (block_at blocks block) + 1 =
          ap (λ (b : ℕ). filled_of (block_at (blocks_after_program blocks place.block bytes) b)) same
          ∙ ap filled_of (same_block blocks place.block bytes fit.in_range) ∙ length_push (block_at blocks place.block).pages bytes
          ∙ ap (λ (b : ℕ). filled_of (block_at blocks b) + 1) (sym same) in
          omega (arith, now, moves block page place placing.places below, here_same block place same, stands.few_valid block)
      | inr other ↦
          let now : filled_of (block_at (blocks_after_program blocks place.block bytes) block)
          ≡ filled_of (block_at blocks block) = ap filled_of (other_block blocks place.block block bytes other) in
          omega (arith, now, moves block page place placing.places below, here_other block place other, stands.few_valid block)
    ]

-- a candidate has the erases of its block, also one that has just come
pub worn_written : {shape : Shape} {failures : ℕ} {blocks : List Block} {placing : Placing} {fills worn : List ℕ} {writing : Option ℕ}
    {candidates : Candidates} {place : Place} (page : ℕ) (bytes : PageData) (block n : ℕ)
    → IsSoundState shape failures blocks placing fills worn writing candidates → Fits shape blocks place
    → count_of (counts_written shape page place placing.places candidates.counts) block ≡ Some n
    → erases_of (erases_written shape place (block_at blocks place.block).erases candidates.erases) block
    ≡ (block_at (blocks_after_program blocks place.block bytes) block).erases
worn_written {shape} {blocks = blocks} {placing = placing} {candidates = candidates} {place = place} page bytes block n stands fit is =
    let before : Option Place = place_of placing.places page in
    let valid : ℕ = count_by (is_in place.block) (set placing.places page (Some place)) in
    let e : ℕ = (block_at blocks place.block).erases in
    let erases : List (Option ℕ) = erases_written shape place e candidates.erases in
    elim (cases_eq block place.block) [
      | inr other ↦
          let left_is : count_of (counts_after_leaving before candidates.counts) block
          ≡ Some n = sym (closed_other shape.pages place.block (place.page + 1) valid block (counts_after_leaving before candidates.counts)
          (nat_lt (place.page + 1) shape.pages) refl other) ∙ is in
          let was = left_counted before candidates.counts block n left_is in
          ap (λ (o : Option ℕ). unwrap_or o 0) (closed_other shape.pages place.block (place.page + 1) e block candidates.erases
          (nat_lt (place.page + 1) shape.pages) refl other)
          ∙ stands.worn block was.0 was.1 ∙ ap (λ (b : Block). b.erases) (sym (other_block blocks place.block block bytes other))
      | inl same ↦ elim (cases_lt (place.page + 1) shape.pages) [
        | inl few ↦
            let test : nat_lt (place.page + 1) shape.pages ≡ true = grind (arith, nat_tests) in
            let counts : List (Option ℕ) = counts_written shape page place placing.places candidates.counts in
            let none : count_of counts place.block ≡ None = ap
            (λ (t : Bool). count_of (if t then counts_after_leaving before candidates.counts else set (counts_after_leaving before candidates.counts) place.block
            (Some valid)) place.block) test ∙ left_open_block before stands fit in
            let there : count_of counts block ≡ None = ap (λ (b : ℕ). count_of counts b) same ∙ none in
            absurd (cc)
        | inr closed ↦
            ap (λ (b : ℕ). erases_of erases b) same
            ∙ ap (λ (o : Option ℕ). unwrap_or o 0) (closed_here shape.pages place.block (place.page + 1) e candidates.erases closed
            (omega (arith, stands.worn_len, fit.in_range, stands.count)))
            ∙ ap (λ (b : Block). b.erases) (sym (same_block blocks place.block bytes fit.in_range))
            ∙ ap (λ (b : ℕ). (block_at (blocks_after_program blocks place.block bytes) b).erases) (sym same)
      ]
    ]

-- no more pages lie in the open block than it has
pub few_open : {shape : Shape} {failures : ℕ} {blocks : List Block} {placing : Placing} {fills worn : List ℕ} {writing : Option ℕ}
    {candidates : Candidates} {place : Place} (page : ℕ) (bytes : PageData)
    → IsSoundState shape failures blocks placing fills worn writing candidates → Fits shape blocks place → page < length placing.places
    → count_by (is_in place.block) (set placing.places page (Some place)) ≤ candidates.pages
few_open {shape} {failures} {blocks} {placing} {fills} {worn} {writing} {candidates} {place} page bytes stands fit below =
    omega (
      arith,
      few_written page bytes place.block stands fit below,
      ap filled_of (same_block blocks place.block bytes fit.in_range),
      length_push (block_at blocks place.block).pages bytes,
      fit.next,
      fit.room,
      stands.candidates_pages,
    )

pub still_counted : (counts : List (Option ℕ)) (victim block n : ℕ) → count_of (set counts victim None) block ≡ Some n → block ≢ victim
still_counted counts victim block n is same =
    elim (cases_lt victim (length counts)) [
      | inl below ↦
          let gone : count_of (set counts victim None) block ≡ None = ap (λ (b : ℕ). count_of (set counts victim None) b) same
          ∙ get_or-set_same counts victim None None below in
          cc
      | inr past ↦
          let gone : count_of (set counts victim None) block
          ≡ None = get_or_past (set counts victim None) block None
          (omega (arith, past, same, length-set {A = Option ℕ} counts victim None)) in
          cc
    ]

-- without a candidate
pub stands_without : {shape : Shape} {failures : ℕ} {blocks : List Block} {placing : Placing} {fills worn : List ℕ} {writing : Option ℕ}
    {candidates : Candidates} (victim : ℕ) → IsSoundState shape failures blocks placing fills worn writing candidates
    → IsSoundState shape failures blocks placing fills worn writing (without_candidate victim candidates)
stands_without {shape} {failures} {blocks} {placing} {fills} {worn} {writing} {candidates} victim stands = record {
  limits = stands.limits;
  map_shape = stands.map_shape;
  well = stands.well;
  count = stands.count;
  fills_are = stands.fills_are;
  erases_are = stands.erases_are;
  within = stands.within;
  one_open = stands.one_open;
  writing_is = stands.writing_is;
  quiet = stands.quiet;
  placed = stands.placed;
  few_valid = stands.few_valid;
  candidates_len = length-set candidates.counts victim None ∙ stands.candidates_len;
  worn_len = length-set candidates.erases victim None ∙ stands.worn_len;
  candidates_pages = stands.candidates_pages;
  counted = λ block n is. stands.counted block n (sym (get_or-set_other candidates.counts victim block None None
      (still_counted candidates.counts victim block n is)) ∙ is);
  worn = λ block n is.
      let other : block ≢ victim = still_counted candidates.counts victim block n is in
      erases_elsewhere candidates.erases victim block None other
      ∙ stands.worn block n (sym (get_or-set_other candidates.counts victim block None None other) ∙ is);
}
