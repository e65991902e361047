-- What the tables of a map keep while a page leaves its cell, or comes into one.
use Rattle.std.specs.Prelude.{IfSome}
use Rattle.std.proofs.Common.{◌≡◌, ◌≢◌, ℕ, ◌+◌, ◌-◌, ◌*◌, ◌<◌, ◌≤◌, cond, List, length, get_or, set, count_by, Option, Some, None, refl}
use Rattle.std.proofs.Common.{sym, ap, ◌∙◌, subst, arith, inl, inr}
use Rattle.std.proofs.lemmas.Bool.{cases_eq, cases_lt}
use Rattle.std.proofs.lemmas.List.{get_or-set_same, get_or-set_other, length-set}
use Rattle.std.proofs.lemmas.List.Sums.{sum_by-set}
use Rattle.std.proofs.lemmas.Bool.Decides.{nat_tests}
use Rattle.std.proofs.Math.Nat.{mul-le-mul_right}
use Rattle.slot_types.specs.declared.pages.Place.{Place}
use Rattle.slot_types.specs.declared.plans.Shape.{Shape}
use Rattle.slot_types.specs.Places.{place_of, is_in, owner_of}
use Rattle.page_map.specs.Placing.{HaveOwnCells, IsCell, cell_index}
use Rattle.page_map.specs.Tables.{AreTables}
use Rattle.page_map.proofs.Owners.{same_place, no_owner, owner_is, owner_lies, same_owner, unowned}

-- Cells

one_more : (n k : ℕ) → (n + 1) * k ≡ n * k + k
one_more n k = grind arith

-- a cell is one of the table's
pub in_table : (shape : Shape) (place : Place) → IsCell shape place → cell_index shape place < shape.blocks * shape.pages
in_table shape place is =
    let next : place.block + 1 ≤ shape.blocks = omega (arith, is.block) in
    omega (arith, mul-le-mul_right shape.pages next, one_more place.block shape.pages, is.page)

comes_first : (shape : Shape) (q r : Place) → IsCell shape q → q.block < r.block → cell_index shape q < cell_index shape r
comes_first shape q r is below =
    let next : q.block + 1 ≤ r.block = omega (arith, below) in
    omega (arith, mul-le-mul_right shape.pages next, one_more q.block shape.pages, is.page)

-- two cells have two numbers
pub same_cell : (shape : Shape) (q r : Place) → IsCell shape q → IsCell shape r → cell_index shape q ≡ cell_index shape r → q ≡ r
same_cell shape q r is_q is_r same =
    elim (cases_lt q.block r.block) [
      | inl below ↦ absurd (omega (arith, comes_first shape q r is_q below, same))
      | inr not_below ↦ elim (cases_lt r.block q.block) [
        | inl above ↦ absurd (omega (arith, comes_first shape r q is_r above, same))
        | inr not_above ↦
            let block : q.block ≡ r.block = omega (arith, not_below, not_above) in
            let page : q.page ≡ r.page = omega (arith, same, ap (λ (b : ℕ). b * shape.pages) block) in
            same_place q r block page
      ]
    ]

-- Counts

abbrev here : ℕ → Option Place → ℕ
here block o = cond (is_in block o) 1 0

here_same : (block : ℕ) (place : Place) → block ≡ place.block → here block (Some place) ≡ 1
here_same block place same = grind (arith, nat_tests)

here_other : (block : ℕ) (place : Place) → block ≢ place.block → here block (Some place) ≡ 0
here_other block place other =
    elim (cases_eq place.block block) [
      | inl same ↦ absurd (other (sym same))
      | inr differs ↦ grind (arith, nat_tests)
    ]

-- A page leaves its cell

-- a page that still lies somewhere is another one, and lay there
pub stays_without : (places : List (Option Place)) (page i : ℕ) (place : Place) → page < length places → place_of (set places page None) i
    ≡ Some place → (i ≢ page) × (place_of places i ≡ Some place)
stays_without places page i place below lies =
    elim (cases_eq i page) [
      | inl same ↦
          let gone : get_or (set places page None) i None ≡ None = ap (λ (j : ℕ). get_or (set places page None) j None) same
          ∙ get_or-set_same places page None None below in
          absurd (cc)
      | inr other ↦ (other, sym (get_or-set_other places page i None None other) ∙ lies)
    ]

pub apart_without : (places : List (Option Place)) (page : ℕ) → HaveOwnCells places → page < length places → HaveOwnCells (set places page None)
apart_without places page are below = record {
  apart = λ i j place at_i at_j. are.apart i j place (stays_without places page i place below at_i).1
      (stays_without places page j place below at_j).1;
}

owner_without : (places : List (Option Place)) (page : ℕ) (old place : Place) → HaveOwnCells places → page < length places
    → place_of places page ≡ Some old → place ≢ old → owner_of (set places page None) place ≡ owner_of places place
owner_without places page old place are below lay other =
    same_owner places (set places page None) place (apart_without places page are below)
    (λ i lies. elim (cases_eq i page) [
      | inl same ↦ let both : Some place ≡ Some old = sym lies ∙ ap (λ (j : ℕ). place_of places j) same ∙ lay in absurd (other (cc))
      | inr differs ↦ get_or-set_other places page i None None differs ∙ lies
    ])
    (λ i lies. (stays_without places page i place below lies).1)

none_without : (places : List (Option Place)) (page : ℕ) (old : Place) → HaveOwnCells places → page < length places → place_of places page
    ≡ Some old → owner_of (set places page None) old ≡ None
none_without places page old are below lay =
    no_owner (set places page None) old (λ i lies. (stays_without places page i old below lies).0
    (are.apart i page old (stays_without places page i old below lies).1 lay))

-- the page's block has one page less
pub one_less : (places : List (Option Place)) (page : ℕ) (old : Place) → page < length places → place_of places page ≡ Some old
    → count_by (is_in old.block) (set places page None) + 1 ≡ count_by (is_in old.block) places
one_less places page old below lay =
    omega (arith, sum_by-set (here old.block) places page None None below, ap (here old.block) lay, here_same old.block old refl)

as_many : (places : List (Option Place)) (page block : ℕ) (old : Place) → page < length places → place_of places page ≡ Some old → block
    ≢ old.block → count_by (is_in block) (set places page None) ≡ count_by (is_in block) places
as_many places page block old below lay other =
    omega (arith, sum_by-set (here block) places page None None below, ap (here block) lay, here_other block old other)

pub tables_without : (shape : Shape) (places : List (Option Place)) (owners : List (Option ℕ)) (valid : List ℕ) (page count : ℕ)
    (old : Place) → AreTables shape places owners valid → page < length places → place_of places page ≡ Some old → count
    ≡ get_or valid old.block 0 → AreTables shape (set places page None) (set owners (cell_index shape old) None)
    (set valid old.block (count - 1))
tables_without shape places owners valid page count old are below lay count_is =
    let cell : IsCell shape old = are.within page old lay in
    let in_owners : cell_index shape old < length owners = omega (arith, in_table shape old cell, are.owners_len) in
    let in_valid : old.block < length valid = omega (arith, cell.block, are.valid_len) in
    record {
      few = rw (length-set places page None) are.few;
      apart = apart_without places page are.apart below;
      within = λ i place lies. are.within i place (stays_without places page i place below lies).1;
      owners_len = length-set owners (cell_index shape old) None ∙ are.owners_len;
      owners_are = λ place is. elim (cases_eq (cell_index shape place) (cell_index shape old)) [
        | inl same ↦
            let place_is : place ≡ old = same_cell shape place old is cell same in
            ap (λ (n : ℕ). get_or (set owners (cell_index shape old) None) n None) same
            ∙ get_or-set_same owners (cell_index shape old) None None in_owners ∙ sym (none_without places page old are.apart below lay)
            ∙ ap (λ (q : Place). owner_of (set places page None) q) (sym place_is)
        | inr other ↦
            get_or-set_other owners (cell_index shape old) (cell_index shape place) None None other ∙ are.owners_are place is
            ∙ sym (owner_without places page old place are.apart below lay (λ same. other (ap (cell_index shape) same)))
      ];
      valid_len = length-set valid old.block (count - 1) ∙ are.valid_len;
      valid_are = λ block is. elim (cases_eq block old.block) [
        | inl same ↦
            let now : get_or (set valid old.block (count - 1)) block 0
            ≡ count - 1 = ap (λ (b : ℕ). get_or (set valid old.block (count - 1)) b 0) same
            ∙ get_or-set_same valid old.block (count - 1) 0 in_valid in
            let was : count ≡ count_by (is_in old.block) places = count_is ∙ are.valid_are old.block cell.block in
            let less : count_by (is_in old.block) (set places page None) + 1
            ≡ count_by (is_in old.block) places = one_less places page old below lay in
            let less_is : count - 1 ≡ count_by (is_in old.block) (set places page None) = omega (arith, was, less) in
            now ∙ less_is ∙ ap (λ (b : ℕ). count_by (is_in b) (set places page None)) (sym same)
        | inr other ↦ get_or-set_other valid old.block block (count - 1) 0 other ∙ are.valid_are block is
            ∙ sym (as_many places page block old below lay other)
      ];
    }

-- A page comes into a cell

pub record Came (places : List (Option Place)) (page i : ℕ) (place q : Place) : Type 0 where
  pub moved : i ≡ page → place ≡ q
  pub stayed : i ≢ page → place_of places i ≡ Some q

pub came : (places : List (Option Place)) (page i : ℕ) (place q : Place) → page < length places → place_of (set places page (Some place)) i
    ≡ Some q → Came places page i place q
came places page i place q below lies = record {
  moved = λ same.
      let there : Some place ≡ Some q = sym (get_or-set_same places page (Some place) None below)
      ∙ ap (λ (j : ℕ). place_of (set places page (Some place)) j) (sym same) ∙ lies in
      cc;
  stayed = λ other. sym (get_or-set_other places page i (Some place) None other) ∙ lies;
}

comes : (places : List (Option Place)) (page i : ℕ) (place : Place) → page < length places → i ≡ page
    → place_of (set places page (Some place)) i ≡ Some place
comes places page i place below same = ap (λ (j : ℕ). place_of (set places page (Some place)) j) same
    ∙ get_or-set_same places page (Some place) None below

pub apart_with : (places : List (Option Place)) (page : ℕ) (place : Place) → HaveOwnCells places → page < length places → owner_of places place
    ≡ None → HaveOwnCells (set places page (Some place))
apart_with places page place are below free = record {
  apart = λ i j q at_i at_j.
      let in_i = came places page i place q below at_i in
      let in_j = came places page j place q below at_j in
      elim (cases_eq i page) [
        | inl same_i ↦ elim (cases_eq j page) [
          | inl same_j ↦ same_i ∙ sym same_j
          | inr other_j ↦ absurd (unowned places j place free (in_j.stayed other_j ∙ ap (λ (r : Place). Some r) (sym (in_i.moved same_i))))
        ]
        | inr other_i ↦ elim (cases_eq j page) [
          | inl same_j ↦ absurd (unowned places i place free (in_i.stayed other_i ∙ ap (λ (r : Place). Some r) (sym (in_j.moved same_j))))
          | inr other_j ↦ are.apart i j q (in_i.stayed other_i) (in_j.stayed other_j)
        ]
      ];
}

owner_with : (places : List (Option Place)) (page : ℕ) (place q : Place) → HaveOwnCells places → page < length places → owner_of places place
    ≡ None → place_of places page ≡ None → q ≢ place → owner_of (set places page (Some place)) q ≡ owner_of places q
owner_with places page place q are below free nowhere other =
    same_owner places (set places page (Some place)) q (apart_with places page place are below free)
    (λ i lies. elim (cases_eq i page) [
      | inl same ↦ let none : place_of places i ≡ None = ap (λ (j : ℕ). place_of places j) same ∙ nowhere in absurd (cc)
      | inr differs ↦ get_or-set_other places page i (Some place) None differs ∙ lies
    ])
    (λ i lies. elim (cases_eq i page) [
      | inl same ↦ absurd (other (sym ((came places page i place q below lies).moved same)))
      | inr differs ↦ (came places page i place q below lies).stayed differs
    ])

pub one_more_here : (places : List (Option Place)) (page block : ℕ) (place : Place) → page < length places → place_of places page ≡ None
    → block ≡ place.block → count_by (is_in block) (set places page (Some place)) ≡ count_by (is_in block) places + 1
one_more_here places page block place below nowhere same =
    omega (arith, sum_by-set (here block) places page (Some place) None below, ap (here block) nowhere, here_same block place same)

none_more : (places : List (Option Place)) (page block : ℕ) (place : Place) → page < length places → place_of places page ≡ None → block
    ≢ place.block → count_by (is_in block) (set places page (Some place)) ≡ count_by (is_in block) places
none_more places page block place below nowhere other =
    omega (arith, sum_by-set (here block) places page (Some place) None below, ap (here block) nowhere, here_other block place other)

pub tables_with : (shape : Shape) (places : List (Option Place)) (owners : List (Option ℕ)) (valid : List ℕ) (page count : ℕ)
    (place : Place) → AreTables shape places owners valid → page < length places → IsCell shape place → owner_of places place ≡ None
    → place_of places page ≡ None → count ≡ get_or valid place.block 0
    → AreTables shape (set places page (Some place)) (set owners (cell_index shape place) (Some page)) (set valid place.block (count + 1))
tables_with shape places owners valid page count place are below cell free nowhere count_is =
    let new : List (Option Place) = set places page (Some place) in
    let in_owners : cell_index shape place < length owners = omega (arith, in_table shape place cell, are.owners_len) in
    let in_valid : place.block < length valid = omega (arith, cell.block, are.valid_len) in
    let are_apart : HaveOwnCells new = apart_with places page place are.apart below free in
    record {
      few = rw (length-set places page (Some place)) are.few;
      apart = are_apart;
      within = λ i q lies. elim (cases_eq i page) [
        | inl same ↦ subst (IsCell shape) ((came places page i place q below lies).moved same) cell
        | inr other ↦ are.within i q ((came places page i place q below lies).stayed other)
      ];
      owners_len = length-set owners (cell_index shape place) (Some page) ∙ are.owners_len;
      owners_are = λ q is. elim (cases_eq (cell_index shape q) (cell_index shape place)) [
        | inl same ↦
            let q_is : q ≡ place = same_cell shape q place is cell same in
            ap (λ (n : ℕ). get_or (set owners (cell_index shape place) (Some page)) n None) same
            ∙ get_or-set_same owners (cell_index shape place) (Some page) None in_owners
            ∙ sym (owner_is new page place are_apart (comes places page page place below refl))
            ∙ ap (λ (r : Place). owner_of new r) (sym q_is)
        | inr other ↦
            get_or-set_other owners (cell_index shape place) (cell_index shape q) (Some page) None other ∙ are.owners_are q is
            ∙ sym (owner_with places page place q are.apart below free nowhere (λ same. other (ap (cell_index shape) same)))
      ];
      valid_len = length-set valid place.block (count + 1) ∙ are.valid_len;
      valid_are = λ block is. elim (cases_eq block place.block) [
        | inl same ↦
            let now : get_or (set valid place.block (count + 1)) block 0
            ≡ count + 1 = ap (λ (b : ℕ). get_or (set valid place.block (count + 1)) b 0) same
            ∙ get_or-set_same valid place.block (count + 1) 0 in_valid in
            let was : get_or valid block 0 ≡ count_by (is_in block) places = are.valid_are block is in
            let count_was : get_or valid block 0 ≡ count = ap (λ (b : ℕ). get_or valid b 0) same ∙ sym count_is in
            omega (arith, now, was, count_was, one_more_here places page block place below nowhere same)
        | inr other ↦ get_or-set_other valid place.block block (count + 1) 0 other ∙ are.valid_are block is
            ∙ sym (none_more places page block place below nowhere other)
      ];
    }

-- A page that moves

-- the new cell is free, also without the page
pub still_free : (places : List (Option Place)) (page : ℕ) (place : Place) → page < length places → owner_of places place ≡ None
    → owner_of (set places page None) place ≡ None
still_free places page place below free =
    no_owner (set places page None) place (λ i lies. unowned places i place free (stays_without places page i place below lies).1)

-- what lies somewhere lies in a cell
pub in_range : (shape : Shape) (o : Option Place) → ((place : Place) → o ≡ Some place → IsCell shape place)
    → IfSome o (λ place. IsCell shape place)
in_range shape None cells = tt
in_range shape (Some place) cells = cells place refl

-- the owner that the table tells lies in the cell
pub said : (places : List (Option Place)) (place : Place) (o : Option ℕ) → o ≡ owner_of places place
    → IfSome o (λ page. place_of places page ≡ Some place)
said places place None is = tt
said places place (Some page) is = owner_lies places page place (sym is)
