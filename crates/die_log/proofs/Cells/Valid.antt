-- A block's valid pages are as many as are placed in it.
use Rattle.std.proofs.Common.{◌≡◌, ◌⊎◌, ℕ, zero, suc, ◌+◌, ◌<◌, ◌≤◌, ◌==◌, ◌&&◌, nat_lt, nat_le, Bool, true, false, cond, List, [], ◌∷◌}
use Rattle.std.proofs.Common.{Option, Some, None, refl, ap, sym, ◌∙◌, inl, inr, arith, length, option_map, get_or}
use Rattle.std.specs.List.{position, count_by, filter_map, cons_option, range_with_len, AllByRecursion}
use Rattle.std.proofs.lemmas.List.Sums.{sum_by-cons, get_or-le-sum_by}
use Rattle.std.proofs.lemmas.List.Quantifiers.{position-Some}
use Rattle.std.proofs.lemmas.Option.{same_Some, none-some}
use Rattle.std.proofs.lemmas.Bool.{false_from_ne_true, cases_lt, and_parts, eqb-true, eq-eqb}
use Rattle.std.proofs.lemmas.Bool.Decides.{nat_tests}
use Rattle.slot_types.specs.Places.{is_in, is_at}
use Rattle.slot_types.specs.declared.plans.DiePlan.{DiePlan}
use Rattle.slot_types.specs.declared.pages.Place.{Place}
use Rattle.die_log.specs.Model.Flash.{Cells, block_of_page, valid, valid_pages}
use Rattle.die_log.specs.Invariants.SoundCells.{IsUnplaced, AreSoundCells}
use Rattle.die_log.proofs.Cells.Acts.{in_block, of_block}
use Rattle.die_log.proofs.Cells.Steps.{no_position}
use Rattle.std.proofs.lemmas.List.{get_or_past}

-- Counts

abbrev one_if : Bool → ℕ
one_if b = cond b 1 0

count_none : {X : Type 0} (p : X → Bool) (d : X) (xs : List X) → ((i : ℕ) → i < length xs → p (get_or xs i d) ≡ false) → count_by p xs ≡ 0
count_none p d [] h = refl
count_none p d (x ∷ xs) h =
    let first : p x ≡ false = h 0 (omega arith) in
    sum_by-cons (λ y. cond (p y) 1 0) x xs ∙ rw first (omega (arith, count_none p d xs (λ i lt. h (suc i) (omega arith))))

count_single : {X : Type 0} (p : X → Bool) (d : X) (xs : List X) (k : ℕ) → k < length xs → p (get_or xs k d) ≡ true
    → ((i : ℕ) → i < length xs → p (get_or xs i d) ≡ true → i ≡ k) → count_by p xs ≡ 1
count_single p d [] k lt h only = absurd (omega arith)
count_single p d (x ∷ xs) zero lt h only =
    sum_by-cons (λ y. cond (p y) 1 0) x xs ∙ rw h (omega (
      arith,
      count_none p d xs (λ i less. false_from_ne_true (p (get_or xs i d))
          (λ e. absurd (omega (arith, only (suc i) (omega arith) e)))),
    ))
count_single p d (x ∷ xs) (suc k) lt h only =
    let first : p x ≡ false = false_from_ne_true (p x) (λ e. absurd (omega (arith, only 0 (omega arith) e))) in
    sum_by-cons (λ y. cond (p y) 1 0) x xs ∙ rw first (omega
    (arith, count_single p d xs k (omega arith) h (λ i less e. omega (arith, only (suc i) (omega arith) e))))

count_same : {X : Type 0} (p q : X → Bool) (d : X) (xs : List X) → ((i : ℕ) → i < length xs → p (get_or xs i d) ≡ q (get_or xs i d))
    → count_by p xs ≡ count_by q xs
count_same p q d [] h = refl
count_same p q d (x ∷ xs) h =
    let first : p x ≡ q x = h 0 (omega arith) in
    let rest : count_by p xs ≡ count_by q xs = count_same p q d xs (λ i lt. h (suc i) (omega arith)) in
    sum_by-cons (λ y. cond (p y) 1 0) x xs ∙ (rw (first, rest) refl ∙ sym (sum_by-cons (λ y. cond (q y) 1 0) x xs))

count_both : {X : Type 0} (p q r : X → Bool) → ((x : X) → one_if (p x) ≡ one_if (q x) + one_if (r x)) → (xs : List X) → count_by p xs
    ≡ count_by q xs + count_by r xs
count_both p q r h [] = refl
count_both p q r h (x ∷ xs) =
    omega (
      arith,
      h x,
      count_both p q r h xs,
      sum_by-cons (λ y. cond (p y) 1 0) x xs,
      sum_by-cons (λ y. cond (q y) 1 0) x xs,
      sum_by-cons
          (λ y. cond (r y) 1 0) x xs,
    )

count_zero : {X : Type 0} (p : X → Bool) (d : X) (xs : List X) (i : ℕ) → count_by p xs ≡ 0 → i < length xs → p (get_or xs i d) ≡ true → ⊥
count_zero p d xs i none lt h =
    let one : one_if (p (get_or xs i d)) ≡ 1 = ap one_if h in
    omega (arith, get_or-le-sum_by (λ y. cond (p y) 1 0) xs i d lt)

-- A place by its page

abbrev found : Option ℕ → ℕ
found None = 0
found (Some k) = 1

found_is : {X : Type 0} (p : X → Bool) (d : X) (xs : List X)
    → ((i k : ℕ) → i < length xs → k < length xs → p (get_or xs i d) ≡ true → p (get_or xs k d) ≡ true → i ≡ k) → found (position p xs)
    ≡ count_by p xs
found_is {X = X} p d xs one = by_found (position p xs) refl
  where
    by_found : (o : Option ℕ) → position p xs ≡ o → found o ≡ count_by p xs
    by_found None e = sym (count_none p d xs (λ i lt. no_position p xs e i d lt))
    by_found (Some k) e = let h = position-Some p xs k d e in sym (count_single p d xs k h.0 h.1 (λ i lt x. one i k lt h.0 x h.1))

-- in this cell of the block
abbrev in_cell : ℕ → ℕ → Option Place → Bool
in_cell b cell = is_at (record { block = b; page = cell })

-- in the block, at one of n cells from a on
abbrev is_from : ℕ → ℕ → ℕ → Option Place → Bool
is_from b a n None = false
is_from b a n (Some q) = (q.block == b) && (nat_le a q.page && nat_lt q.page (a + n))

from_split : (b a n : ℕ) (o : Option Place) → one_if (is_from b a (suc n) o) ≡ one_if (in_cell b a o) + one_if (is_from b (a + 1) n o)
from_split b a n None = refl
from_split b a n (Some q) = grind (arith, nat_tests)

from_none : (b a : ℕ) (o : Option Place) → is_from b a 0 o ≡ false
from_none b a None = refl
from_none b a (Some q) = grind (arith, nat_tests)

length_option : (o : Option ℕ) (xs : List ℕ) → length (cons_option o xs) ≡ found o + length xs
length_option None xs = omega arith
length_option (Some k) xs = omega arith

pages_from : (b : ℕ) (ps : List (Option Place)) → ((cell : ℕ) → found (position (in_cell b cell) ps) ≡ count_by (in_cell b cell) ps)
    → (a n : ℕ) → length (filter_map (λ cell. position (in_cell b cell) ps) (range_with_len a n)) ≡ count_by (is_from b a n) ps
pages_from b ps each a zero = sym (count_none (is_from b a 0) None ps (λ i lt. from_none b a (get_or ps i None)))
pages_from b ps each a (suc n) =
    omega (
      arith,
      length_option (position (in_cell b a) ps) (filter_map (λ cell. position (in_cell b cell) ps) (range_with_len (a + 1) n)),
      each a,
      pages_from b ps each (a + 1) n,
      count_both (is_from b a (suc n)) (in_cell b a) (is_from b (a + 1) n) (from_split b a n) ps,
    )

-- Valid pages

at_says : (b cell : ℕ) (o : Option Place) → in_cell b cell o ≡ true → (q : Place) × (o ≡ Some q) × (q.block ≡ b) × (q.page ≡ cell)
at_says b cell None h = absurd cc
at_says b cell (Some q) h = let k = and_parts (q.block == b) (q.page == cell) h in
    (q, refl, eqb-true q.block b k.0, eqb-true q.page cell k.1)

one_at : (plan : DiePlan) (c : Cells) (b cell : ℕ) → AreSoundCells plan c → (i k : ℕ) → i < length c.places → k < length c.places
    → in_cell b cell (get_or c.places i None) ≡ true → in_cell b cell (get_or c.places k None) ≡ true → i ≡ k
one_at plan c b cell s i k x y h g =
    let m = at_says b cell (get_or c.places i None) h in
    let n = at_says b cell (get_or c.places k None) g in
    s.apart i k m.0 n.0 m.1 n.1 (m.2 ∙ sym n.2) (m.3 ∙ sym n.3)

from_whole : (plan : DiePlan) (b : ℕ) (o : Option Place) → ((q : Place) → o ≡ Some q → q.page < plan.shape.pages)
    → is_from b 0 plan.shape.pages o ≡ is_in b o
from_whole plan b None h = refl
from_whole plan b (Some q) h = let lt : q.page < plan.shape.pages = h q refl in grind (arith, nat_tests)

-- as many pages are placed in a block as its cells hold placed pages
pub valid_is : (plan : DiePlan) (c : Cells) (b : ℕ) → AreSoundCells plan c → length (valid_pages plan c b) ≡ valid c b
valid_is plan c b s =
    pages_from b c.places (λ cell. found_is (in_cell b cell) None c.places (one_at plan c b cell s)) 0 plan.shape.pages
    ∙ count_same (is_from b 0 plan.shape.pages) (is_in b) None c.places
    (λ i lt. from_whole plan b (get_or c.places i None) (λ q e. omega (arith, s.placed i q e, s.within q.block)))

in_says : (b : ℕ) (o : Option Place) → option_map (λ (r : Place). r.block) o ≡ Some b → is_in b o ≡ true
in_says b None h = absurd cc
in_says b (Some q) h = eq-eqb q.block b (same_Some q.block b h)

placed_within : (c : Cells) (p b : ℕ) → block_of_page c p ≡ Some b → (p < length c.places) ⊎ (length c.places ≤ p) → p < length c.places
placed_within c p b h (inl lt) = lt
placed_within c p b h (inr past) = let q = of_block c p b h in absurd (none-some q.0 (sym (get_or_past c.places p None past) ∙ q.1))

-- a block with no valid page has no page placed in it
pub unplaced_is : (plan : DiePlan) (c : Cells) (b : ℕ) → valid c b ≡ 0 → IsUnplaced c b
unplaced_is plan c b none p h =
    let lt : p < length c.places = placed_within c p b h (cases_lt p (length c.places)) in
    count_zero (is_in b) None c.places p none lt (in_says b (get_or c.places p None) h)

all_found : {X Y : Type 0} (P : Y → Type 0) (h : X → Option Y) → ((x : X) (y : Y) → h x ≡ Some y → P y) → (xs : List X)
    → AllByRecursion P (filter_map h xs)
all_found P h each [] = tt
all_found {X = X} {Y = Y} P h each (x ∷ xs) = by_head (h x) refl (all_found P h each xs)
  where
    by_head : (o : Option Y) → h x ≡ o → AllByRecursion P (filter_map h xs) → AllByRecursion P (cons_option o (filter_map h xs))
    by_head None e rest = rest
    by_head (Some y) e rest = (each x y e, rest)

-- its valid pages are placed in it
pub valid_placed : (plan : DiePlan) (c : Cells) (b : ℕ) → AllByRecursion (λ page. block_of_page c page ≡ Some b) (valid_pages plan c b)
valid_placed plan c b = all_found (λ page. block_of_page c page ≡ Some b) (λ cell. position (in_cell b cell) c.places) each
    (range_with_len 0 plan.shape.pages)
  where
    each : (cell page : ℕ) → position (in_cell b cell) c.places ≡ Some page → block_of_page c page ≡ Some b
    each cell page e =
        let h = position-Some (in_cell b cell) c.places page None e in
        let q = at_says b cell (get_or c.places page None) h.1 in
        in_block c page b q.0 q.1 q.2
