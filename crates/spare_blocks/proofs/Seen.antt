-- What is seen of a block, cell by cell, and of blocks, one by one.
use Rattle.std.proofs.Common.{◌≡◌, ◌≢◌, ◌⊎◌, ℕ, ◌+◌, ◌<◌, ◌≤◌, List, [], ◌∷◌, ◌++◌, length, get_or, refl, ap, sym, ◌∙◌, subst, inl, inr, arith}
use Rattle.std.specs.Prelude.{Option, Some, None, Contains, slice_get}
use Rattle.std.proofs.lemmas.Bool.{cases_eq, cases_lt}
use Rattle.std.proofs.lemmas.List.{get_or_past, get_or_push, get_or_append_left, length_push}
use Rattle.std.proofs.lemmas.Option.{slice_get_cases, get_or_from_slice_get, none-some}
use Rattle.slot_types.specs.declared.plans.Shape.{Shape}
use Rattle.spare_blocks.specs.declared.cells.Cell.{Cell}
use Rattle.spare_blocks.specs.declared.cells.Mark.{Mark}
use Rattle.spare_blocks.specs.declared.powering.Farthest.{Farthest}
use Rattle.spare_blocks.specs.declared.powering.Labelled.{Labelled}
use Rattle.spare_blocks.specs.Parts.{PartBlock, part_block, blank_cell}
use Rattle.spare_blocks.specs.Powering.{mark_in, mark_at, with_cell, seen_at, StartsWith, HasLabels, IsSeen, AreSeen, SharesFirst, IsFarther, IsFarthest, IsHolder}

pub mark_of : (b : PartBlock) (k : ℕ) → mark_in (slice_get b.cells k) ≡ mark_at b k
mark_of b k = by_case (slice_get_cases b.cells k).1
  where
    by_case : ((x : Cell) × (k < length b.cells) × (slice_get b.cells k ≡ Some x) × (get_or b.cells k x ≡ x))
        ⊎ ((length b.cells ≤ k) × (slice_get b.cells k ≡ None)) → mark_in (slice_get b.cells k) ≡ mark_at b k
    by_case (inl (x, lt, is, at)) = ap mark_in is ∙ ap (λ (c : Cell). c.mark) (sym (get_or_from_slice_get b.cells k x blank_cell is))
    by_case (inr (past, is)) = ap mark_in is ∙ ap (λ (c : Cell). c.mark) (sym (get_or_past b.cells k blank_cell past))

-- up to k or at k
pub up_to : (k page : ℕ) → page < k + 1 → (page < k) ⊎ (page ≡ k)
up_to k page lt = elim (cases_lt page k) [ inl below ↦ inl below | inr past ↦ inr (omega (arith, lt, past)) ]

pub one_cell : (b : PartBlock) (k : ℕ) (mark : Option Mark) (seen : Option Labelled) → mark_at b k ≡ mark → IsSeen b k seen
    → IsSeen b (k + 1) (with_cell k mark seen)
one_cell b k None None e is = λ page lt. at page (up_to k page lt)
  where
    at : (page : ℕ) → (page < k) ⊎ (page ≡ k) → mark_at b page ≡ None
    at page (inl below) = is page below
    at page (inr same) = ap (mark_at b) same ∙ e
one_cell b k None (Some s) e is = record { starts = is.starts; last = is.last; none = λ page far lt. at page far (up_to k page lt) }
  where
    at : (page : ℕ) → s.last < page → (page < k) ⊎ (page ≡ k) → mark_at b page ≡ None
    at page far (inl below) = is.none page far below
    at page far (inr same) = ap (mark_at b) same ∙ e
one_cell b k (Some m) None e is = record {
  starts = record { is = e; before = is };
  last = (m, e);
  none = λ page far lt. absurd (omega (arith, far, lt));
}
one_cell b k (Some m) (Some s) e is = record {
  starts = is.starts;
  last = (m, e);
  none = λ page far lt. absurd (omega (arith, far, lt));
}

-- Blocks

-- so many were seen
pub record AreSeenTo (pages k : ℕ) (blocks : List PartBlock) (bad : List ℕ) (all : List (Option Labelled)) : Type 0 where
  pub count : length all ≡ k
  pub listed : (x : ℕ) → Contains bad x → seen_at all x ≡ None
  pub seen : (x : ℕ) → x < k → (Contains bad x → ⊥) → IsSeen (part_block blocks x) pages (seen_at all x)

pub none_seen : (pages : ℕ) (blocks : List PartBlock) (bad : List ℕ) → AreSeenTo pages 0 blocks bad []
none_seen pages blocks bad = record { count = refl; listed = λ x is. refl; seen = λ x lt off. absurd (omega (arith, lt)) }

seen_here : (all : List (Option Labelled)) (s : Option Labelled) (k : ℕ) → length all ≡ k → seen_at (all ++ s ∷ []) k ≡ s
seen_here all s k count = get_or_push all s None k count

seen_before : (all : List (Option Labelled)) (s : Option Labelled) (x : ℕ) → x < length all → seen_at (all ++ s ∷ []) x ≡ seen_at all x
seen_before all s x lt = get_or_append_left all (s ∷ []) None x lt

pub one_seen : (pages k : ℕ) (blocks : List PartBlock) (bad : List ℕ) (all : List (Option Labelled)) (s : Option Labelled) → AreSeenTo pages k blocks bad all
    → (Contains bad k → s ≡ None) → ((Contains bad k → ⊥) → IsSeen (part_block blocks k) pages s) → AreSeenTo pages (k + 1) blocks bad (all ++ s ∷ [])
one_seen pages k blocks bad all s is none here = record {
  count = length_push all s ∙ ap (λ (n : ℕ). n + 1) is.count;
  listed = λ x listed. listed_at x listed (cases_lt x k);
  seen = λ x lt off. seen_is x off (up_to k x lt);
}
  where
    listed_at : (x : ℕ) → Contains bad x → (x < k) ⊎ (k ≤ x) → seen_at (all ++ s ∷ []) x ≡ None
    listed_at x listed (inl below) = seen_before all s x (omega (arith, below, is.count)) ∙ is.listed x listed
    listed_at x listed (inr past) = elim (cases_eq x k) [
      | inl same ↦ ap (seen_at (all ++ s ∷ [])) same ∙ (seen_here all s k is.count ∙ none (subst (λ (y : ℕ). Contains bad y) same listed))
      | inr other ↦ get_or_past (all ++ s ∷ []) x None (omega (arith, past, other, is.count, length_push all s))
    ]

    seen_is : (x : ℕ) → (Contains bad x → ⊥) → (x < k) ⊎ (x ≡ k) → IsSeen (part_block blocks x) pages (seen_at (all ++ s ∷ []) x)
    seen_is x off (inl below) =
        subst (IsSeen (part_block blocks x) pages) (sym (seen_before all s x (omega (arith, below, is.count)))) (is.seen x below off)
    seen_is x off (inr same) =
        subst (λ (y : ℕ). IsSeen (part_block blocks y) pages (seen_at (all ++ s ∷ []) y)) (sym same)
        (subst (IsSeen (part_block blocks k) pages) (sym (seen_here all s k is.count)) (here (λ listed. off (subst (λ (y : ℕ). Contains bad y) (sym same) listed))))

-- The block that has the most

-- of so many blocks
pub record IsFarthestOf (all : List (Option Labelled)) (s : Labelled) (k : ℕ) (best : Farthest) : Type 0 where
  pub own : Labelled
  pub is : seen_at all best.block ≡ Some own
  pub same : SharesFirst own s
  pub last : own.last ≡ best.last
  pub most : (y : ℕ) (other : Labelled) → y < k → seen_at all y ≡ Some other → SharesFirst other s
      → (other.last < best.last) ⊎ ((other.last ≡ best.last) × (best.block ≤ y))

pub first_farthest : (all : List (Option Labelled)) (s : Labelled) (x : ℕ) → seen_at all x ≡ Some s
    → IsFarthestOf all s 0 (record { block = x; last = s.last })
first_farthest all s x is = record {
  own = s;
  is = is;
  same = (refl, refl);
  last = refl;
  most = λ y other lt e shares. absurd (omega (arith, lt));
}

some_same : {A : Type 0} {x y : A} → Some x ≡ Some y → x ≡ y
some_same e = grind arith

pub next_farthest : (all : List (Option Labelled)) (s : Labelled) (k : ℕ) (best after : Farthest) → IsFarthestOf all s k best
    → IsFarthest (seen_at all k) k s best after → IsFarthestOf all s (k + 1) after
next_farthest all s k best after is (inl (own, here, shares, far, e)) =
    subst (λ (f : Farthest). IsFarthestOf all s (k + 1) f) (sym e) (record {
      own = own;
      is = here;
      same = shares;
      last = refl;
      most = λ y other lt at same. most_at y other at same (up_to k y lt) far;
    })
  where
    most_at : (y : ℕ) (other : Labelled) → seen_at all y ≡ Some other → SharesFirst other s → (y < k) ⊎ (y ≡ k)
        → IsFarther own.last k best.last best.block → (other.last < own.last) ⊎ ((other.last ≡ own.last) × (k ≤ y))
    most_at y other at same (inr here_is) f =
        inr (ap (λ (l : Labelled). l.last) (some_same (sym at ∙ (ap (seen_at all) here_is ∙ here))), omega (arith, here_is))
    most_at y other at same (inl below) (inl more) = inl (by_most (is.most y other below at same))
      where
        by_most : (other.last < best.last) ⊎ ((other.last ≡ best.last) × (best.block ≤ y)) → other.last < own.last
        by_most (inl less) = omega (arith, less, more)
        by_most (inr (e, le)) = omega (arith, e, more)
    most_at y other at same (inl below) (inr (as_far, before)) = by_most (is.most y other below at same)
      where
        by_most : (other.last < best.last) ⊎ ((other.last ≡ best.last) × (best.block ≤ y)) → (other.last < own.last) ⊎ ((other.last ≡ own.last) × (k ≤ y))
        by_most (inl less) = inl (omega (arith, less, as_far))
        by_most (inr (e, le)) = absurd (omega (arith, le, before, below))
next_farthest all s k best after is (inr (not, e)) =
    subst (λ (f : Farthest). IsFarthestOf all s (k + 1) f) (sym e) (record {
      own = is.own;
      is = is.is;
      same = is.same;
      last = is.last;
      most = λ y other lt at same. most_at y other at same (up_to k y lt);
    })
  where
    most_at : (y : ℕ) (other : Labelled) → seen_at all y ≡ Some other → SharesFirst other s → (y < k) ⊎ (y ≡ k)
        → (other.last < best.last) ⊎ ((other.last ≡ best.last) × (best.block ≤ y))
    most_at y other at same (inl below) = is.most y other below at same
    most_at y other at same (inr here_is) =
        let far : (IsFarther other.last k best.last best.block → ⊥) = not other (sym (ap (seen_at all) here_is) ∙ at) same in
        elim (cases_lt other.last best.last) [
          | inl less ↦ inl less
          | inr more ↦ elim (cases_eq other.last best.last) [
            | inl as_far ↦ inr (
              as_far,
              elim (cases_lt k best.block) [
                | inl before ↦ absurd (far (inr (as_far, before)))
                | inr after_it ↦ omega (arith, after_it, here_is)
              ],
            )
            | inr differ ↦ absurd (far (inl (omega (arith, more, differ))))
          ]
        ]

pub holder_of : (all : List (Option Labelled)) (s : Labelled) (k : ℕ) (best : Farthest) → length all ≤ k → IsFarthestOf all s k best
    → IsHolder all s best.block
holder_of all s k best past is = record {
  own = is.own;
  is = is.is;
  same = is.same;
  most = λ y other at same. most_at y other at same (cases_lt y k);
}
  where
    most_at : (y : ℕ) (other : Labelled) → seen_at all y ≡ Some other → SharesFirst other s → (y < k) ⊎ (k ≤ y)
        → (other.last < is.own.last) ⊎ ((other.last ≡ is.own.last) × (best.block ≤ y))
    most_at y other at same (inl below) =
        subst (λ (n : ℕ). (other.last < n) ⊎ ((other.last ≡ n) × (best.block ≤ y))) (sym is.last) (is.most y other below at same)
    most_at y other at same (inr over) = absurd (none-some other (sym (get_or_past all y None (omega (arith, past, over))) ∙ at))

-- two that hold the same labels are one
pub one_holder : (all : List (Option Labelled)) (s : Labelled) (x y : ℕ) → IsHolder all s x → IsHolder all s y → x ≡ y
one_holder all s x y a b = by_most (a.most y b.own b.is b.same) (b.most x a.own a.is a.same)
  where
    by_most : (b.own.last < a.own.last) ⊎ ((b.own.last ≡ a.own.last) × (x ≤ y)) → (a.own.last < b.own.last) ⊎ ((a.own.last ≡ b.own.last) × (y ≤ x)) → x ≡ y
    by_most (inl less) (inl more) = absurd (omega (arith, less, more))
    by_most (inl less) (inr (e, le)) = absurd (omega (arith, less, e))
    by_most (inr (e, le)) (inl more) = absurd (omega (arith, e, more))
    by_most (inr (e, le)) (inr (f, ge)) = omega (arith, le, ge)

pub shares_back : (s t u : Labelled) → SharesFirst s u → SharesFirst t u → SharesFirst s t
shares_back s t u a b = (a.0 ∙ sym b.0, a.1 ∙ sym b.1)

-- what one that shares the first label holds
pub holds_for : (all : List (Option Labelled)) (s t : Labelled) (x : ℕ) → SharesFirst s t → IsHolder all s x → IsHolder all t x
holds_for all s t x shares h = record {
  own = h.own;
  is = h.is;
  same = (h.same.0 ∙ shares.0, h.same.1 ∙ shares.1);
  most = λ y other at same. h.most y other at (same.0 ∙ sym shares.0, same.1 ∙ sym shares.1);
}
