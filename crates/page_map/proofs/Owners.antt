-- Which page lies in a cell.
use Rattle.std.proofs.Common.{◌≡◌, ℕ, ◌<◌, Bool, true, false, List, length, get_or, Option, Some, None, refl, ap, ◌∙◌, arith, inl, inr}
use Rattle.std.specs.Prelude.{position}
use Rattle.std.specs.List.{position_or_len}
use Rattle.std.proofs.lemmas.Bool.{cases_lt, lt-ltb}
use Rattle.std.proofs.lemmas.List.{get_or_past}
use Rattle.std.proofs.lemmas.List.Sums.{fails_before_first}
use Rattle.std.proofs.lemmas.List.Quantifiers.{position-Some}
use Rattle.std.proofs.lemmas.Bool.Decides.{nat_tests}
use Rattle.slot_types.specs.declared.pages.Place.{Place}
use Rattle.slot_types.specs.Places.{place_of, is_at, owner_of}
use Rattle.page_map.specs.Placing.{HaveOwnCells}

at_itself : (place : Place) → is_at place (Some place) ≡ true
at_itself place = grind (arith, nat_tests)

pub same_place : (q r : Place) → q.block ≡ r.block → q.page ≡ r.page → q ≡ r
same_place q r block page =
    let P : ℕ → ℕ → Place = λ b p. record { block = b; page = p } in
    ap (λ (b : ℕ). P b q.page) block ∙ ap (λ (p : ℕ). P r.block p) page

at_means : (place : Place) (o : Option Place) → is_at place o ≡ true → o ≡ Some place
at_means place None is = absurd (cc)
at_means place (Some other) is = ap (λ (q : Place). Some q) (same_place other place (grind (arith, nat_tests)) (grind (arith, nat_tests)))

position_is : {X : Type 0} (p : X → Bool) (xs : List X) → position_or_len p xs < length xs → position p xs ≡ Some (position_or_len p xs)
position_is p xs below = rw (lt-ltb _ _ below) refl

-- where no place passes, none does
pub fails_where_none : {X : Type 0} (p : X → Bool) (xs : List X) (i : ℕ) (d : X) → position p xs ≡ None → i < length xs → p (get_or xs i d)
    ≡ false
fails_where_none p xs i d none below =
    elim (cases_lt (position_or_len p xs) (length xs)) [
      | inl passes ↦ let found : position p xs ≡ Some (position_or_len p xs) = position_is p xs passes in cc
      | inr past ↦ fails_before_first p xs i d (omega arith)
    ]

-- who lies somewhere is a page of the map
pub within : (places : List (Option Place)) (page : ℕ) (place : Place) → place_of places page ≡ Some place → page < length places
within places page place lies =
    elim (cases_lt page (length places)) [
      | inl below ↦ below
      | inr past ↦ let none : get_or places page None ≡ None = get_or_past places page None past in cc
    ]

-- nobody lies in a cell that has no owner
pub unowned : (places : List (Option Place)) (page : ℕ) (place : Place) → owner_of places place ≡ None → place_of places page ≡ Some place
    → ⊥
unowned places page place none lies =
    let below : page < length places = within places page place lies in
    let fails : is_at place (get_or places page None) ≡ false = fails_where_none (is_at place) places page None none below in
    let passes : is_at place (get_or places page None) ≡ true = rw lies (at_itself place) in
    cc

-- the owner of a cell lies in it
pub owner_lies : (places : List (Option Place)) (page : ℕ) (place : Place) → owner_of places place ≡ Some page → place_of places page
    ≡ Some place
owner_lies places page place is = at_means place (get_or places page None) (position-Some (is_at place) places page None is).1

no_owner_by : (places : List (Option Place)) (place : Place) (o : Option ℕ) → owner_of places place ≡ o
    → ((page : ℕ) → place_of places page ≡ Some place → ⊥) → owner_of places place ≡ None
no_owner_by places place None is none = is
no_owner_by places place (Some page) is none = absurd (none page (owner_lies places page place is))

-- a cell in which nobody lies has no owner
pub no_owner : (places : List (Option Place)) (place : Place) → ((page : ℕ) → place_of places page ≡ Some place → ⊥) → owner_of places place
    ≡ None
no_owner places place none = no_owner_by places place (owner_of places place) refl none

owner_is_by : (places : List (Option Place)) (page : ℕ) (place : Place) (o : Option ℕ) → owner_of places place ≡ o → HaveOwnCells places
    → place_of places page ≡ Some place → owner_of places place ≡ Some page
owner_is_by places page place None is are lies = absurd (unowned places page place is lies)
owner_is_by places page place (Some other) is are lies = is
    ∙ ap (λ (n : ℕ). Some n) (are.apart other page place (owner_lies places other place is) lies)

-- who lies in a cell owns it
pub owner_is : (places : List (Option Place)) (page : ℕ) (place : Place) → HaveOwnCells places → place_of places page ≡ Some place
    → owner_of places place ≡ Some page
owner_is places page place are lies = owner_is_by places page place (owner_of places place) refl are lies

same_owner_by : (old new : List (Option Place)) (place : Place) (o : Option ℕ) → owner_of old place ≡ o → HaveOwnCells new
    → ((page : ℕ) → place_of old page ≡ Some place → place_of new page ≡ Some place)
    → ((page : ℕ) → place_of new page ≡ Some place → place_of old page ≡ Some place) → owner_of new place ≡ o
same_owner_by old new place None is are on back = no_owner new place (λ page lies. unowned old page place is (back page lies))
same_owner_by old new place (Some page) is are on back = owner_is new page place are (on page (owner_lies old page place is))

-- a cell in which the same pages lie keeps its owner
pub same_owner : (old new : List (Option Place)) (place : Place) → HaveOwnCells new
    → ((page : ℕ) → place_of old page ≡ Some place → place_of new page ≡ Some place)
    → ((page : ℕ) → place_of new page ≡ Some place → place_of old page ≡ Some place) → owner_of new place ≡ owner_of old place
same_owner old new place are on back = same_owner_by old new place (owner_of old place) refl are on back
