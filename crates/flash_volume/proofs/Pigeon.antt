-- In the first pages of a block lie no more logical pages than those are.
use Rattle.std.proofs.Common.{◌≡◌, ◌≢◌, ℕ, suc, ◌+◌, ◌<◌, ◌≤◌, ◌==◌, ◌||◌, Bool, true, false, cond, List, [], ◌∷◌, length, count_by}
use Rattle.std.proofs.Common.{Option, Some, None, refl, sym, ap, ◌∙◌, arith, nat_eq}
use Rattle.std.specs.List.{list_any, IsDistinct, AllByRecursion}
use Rattle.std.proofs.lemmas.Bool.Decides.{nat_tests}
use Rattle.std.proofs.lemmas.List.Sums.{sum_by-cons}
use Rattle.std.proofs.lemmas.Map.Steps.{length-le_from_distinct_below}
use Rattle.slot_types.specs.declared.pages.Place.{Place}
use Rattle.slot_types.specs.Places.{place_of, is_in}
use Rattle.page_map.specs.Placing.{HaveOwnCells}
use Rattle.page_map.proofs.Owners.{same_place}

-- the pages of a block in which logical pages lie
abbrev pages_in : ℕ → List (Option Place) → List ℕ
pages_in b [] = []
pages_in b (None ∷ os) = pages_in b os
pages_in b (Some p ∷ os) = cond (p.block == b) (p.page ∷ pages_in b os) (pages_in b os)

record IsThere (b q : ℕ) (os : List (Option Place)) : Type 0 where
  pub page : ℕ
  pub place : Place
  pub lies : place_of os page ≡ Some place
  pub block : place.block ≡ b
  pub cell : place.page ≡ q

further : {b q : ℕ} {os : List (Option Place)} (o : Option Place) → IsThere b q os → IsThere b q (o ∷ os)
further o t = record { page = suc t.page; place = t.place; lies = t.lies; block = t.block; cell = t.cell }

same_number : (m n : ℕ) → (m == n) ≡ true → m ≡ n
same_number m n h = grind (arith, nat_tests)

other_number : (m n : ℕ) → m ≢ n → (m == n) ≡ false
other_number m n h = grind (arith, nat_tests)

found : (b q : ℕ) (os : List (Option Place)) → list_any (λ y. q == y) (pages_in b os) ≡ true → IsThere b q os
found b q [] h = absurd cc
found b q (None ∷ os) h = further None (found b q os h)
found b q (Some p ∷ os) h = by_block (p.block == b) refl (λ k. found b q os k) h
  where
    by_page : (t : Bool) → (q == p.page) ≡ t → p.block ≡ b
        → (list_any (λ y. q == y) (pages_in b os) ≡ true → IsThere b q os)
        → (t || list_any (λ y. q == y) (pages_in b os)) ≡ true → IsThere b q (Some p ∷ os)
    by_page true is block more k = record { page = 0; place = p; lies = refl; block = block; cell = sym (same_number q p.page is) }
    by_page false is block more k = further (Some p) (more k)

    by_block : (t : Bool) → (p.block == b) ≡ t → (list_any (λ y. q == y) (pages_in b os) ≡ true → IsThere b q os)
        → list_any (λ y. q == y) (cond t (p.page ∷ pages_in b os) (pages_in b os)) ≡ true → IsThere b q (Some p ∷ os)
    by_block true is more k = by_page (q == p.page) refl (same_number p.block b is) more k
    by_block false is more k = further (Some p) (more k)

others : (b q : ℕ) (os : List (Option Place)) → (IsThere b q os → ⊥) → AllByRecursion (λ y. (q == y) ≡ false) (pages_in b os)
others b q [] no_one = tt
others b q (None ∷ os) no_one = others b q os (λ t. no_one (further None t))
others b q (Some p ∷ os) no_one = by_block (p.block == b) refl (others b q os (λ t. no_one (further (Some p) t)))
  where
    by_block : (t : Bool) → (p.block == b) ≡ t → AllByRecursion (λ y. (q == y) ≡ false) (pages_in b os)
        → AllByRecursion (λ y. (q == y) ≡ false) (cond t (p.page ∷ pages_in b os) (pages_in b os))
    by_block true is more = (
      other_number q p.page (λ same. no_one (record {
        page = 0;
        place = p;
        lies = refl;
        block = same_number p.block b is;
        cell = sym same;
      })),
      more,
    )
    by_block false is more = more

rest_apart : (o : Option Place) (os : List (Option Place)) → HaveOwnCells (o ∷ os) → HaveOwnCells os
rest_apart o os are = record {
  apart = λ i j q at_i at_j. let same : suc i ≡ suc j = are.apart (suc i) (suc j) q at_i at_j in omega (arith, same);
}

distinct : (b : ℕ) (os : List (Option Place)) → HaveOwnCells os → IsDistinct nat_eq (pages_in b os)
unfolding IsDistinct
distinct b [] are = tt
distinct b (None ∷ os) are = distinct b os (rest_apart None os are)
distinct b (Some p ∷ os) are = by_block (p.block == b) refl (distinct b os (rest_apart (Some p) os are))
  where
    alone : p.block ≡ b → IsThere b p.page os → ⊥
    alone block t =
        let same : t.place ≡ p = same_place t.place p (t.block ∙ sym block) t.cell in
        let zero_is : 0 ≡ suc t.page = are.apart 0 (suc t.page) p refl (t.lies ∙ ap (λ (r : Place). Some r) same) in
        omega (arith, zero_is)

    by_block : (t : Bool) → (p.block == b) ≡ t → IsDistinct nat_eq (pages_in b os)
        → IsDistinct nat_eq (cond t (p.page ∷ pages_in b os) (pages_in b os))
    by_block true is more = (others b p.page os (alone (same_number p.block b is)), more)
    by_block false is more = more

counted : (b : ℕ) (os : List (Option Place)) → length (pages_in b os) ≡ count_by (is_in b) os
counted b [] = refl
counted b (None ∷ os) = omega (arith, counted b os, sum_by-cons (λ (o : Option Place). cond (is_in b o) 1 0) None os)
counted b (Some p ∷ os) = by_block (p.block == b) (counted b os)
    ∙ sym (sum_by-cons (λ (o : Option Place). cond (is_in b o) 1 0) (Some p) os)
  where
    by_block : (t : Bool) → length (pages_in b os) ≡ count_by (is_in b) os
        → length (cond t (p.page ∷ pages_in b os) (pages_in b os)) ≡ cond t 1 0 + count_by (is_in b) os
    by_block true more = omega (arith, more)
    by_block false more = omega (arith, more)

-- where no two pages lie in one cell, and all that lie in a block lie in its first pages
pub few_in : (places : List (Option Place)) (b n : ℕ) → HaveOwnCells places
    → ((page : ℕ) (place : Place) → place_of places page ≡ Some place → place.block ≡ b → place.page < n)
    → count_by (is_in b) places ≤ n
few_in places b n are below =
    omega (
      arith,
      counted b places,
      length-le_from_distinct_below (pages_in b places) n (distinct b places are)
          (λ q some. let t = found b q places some in omega (arith, t.cell, below t.page t.place t.lies t.block)),
    )
