-- The highest place among the blocks of a count, while one of them comes or goes.
use Rattle.std.proofs.Common.{◌≡◌, ◌≢◌, ◌↔◌, ℕ, ◌<◌, List, length, set, Option, Some, None, ap, ◌∙◌, subst, arith, inl, inr}
use Rattle.std.proofs.lemmas.Bool.{cases_lt}
use Rattle.victim_pick.specs.Candidates.{count_of}
use Rattle.victim_pick.specs.Links.{IsHighest}
use Rattle.victim_pick.proofs.Setting.{counted_below, still_counted, counted_after}
use Rattle.victim_pick.proofs.Places.{ArePlaces, IsMovedUp, same_order}

-- two blocks of one count, the link of each of which leads to the same third one, are the same
pub one_above : (counts : List (Option ℕ)) (place : ℕ → ℕ) (count one other block : ℕ) (link other_link : Option ℕ)
    → ArePlaces (length counts) place → count_of counts one ≡ Some count → count_of counts other ≡ Some count
    → count_of counts block ≡ Some count → IsHighest counts place count (place one) link
    → IsHighest counts place count (place other) other_link
    → link ≡ Some block → other_link ≡ Some block → one ≡ other
one_above counts place count one other block link other_link are one_in other_in block_in highest other_highest is other_is =
    let above = highest.below block is in
    let other_above = other_highest.below block other_is in
    let not_below : place one < place other → ⊥ = (λ h.
    let found = other_highest.highest one one_in h in
    let same : found.0 ≡ block = cc (found.1, other_is) in
    omega (arith, above, found.2, ap place same)) in
    let not_above : place other < place one → ⊥ = (λ h.
    let found = highest.highest other other_in h in
    let same : found.0 ≡ block = cc (found.1, is) in
    omega (arith, other_above, found.2, ap place same)) in
    are.apart one other (counted_below counts one count one_in) (counted_below counts other count other_in)
    (omega (arith, not_below, not_above))

-- a block has come to a count, and the limit kept its place among the others
pub highest_come : (counts : List (Option ℕ)) (place now : ℕ → ℕ) (block count c limit limit_now : ℕ) (link : Option ℕ)
    → ArePlaces (length counts) place → IsMovedUp (length counts) block place now → block < length counts → count_of counts block ≡ None
    → ((x : ℕ) → x < length counts → x ≢ block → (place x < limit) ↔ (now x < limit_now))
    → (count ≡ c → now block < limit_now → ⊥)
    → IsHighest counts place c limit link → IsHighest (set counts block (Some count)) now c limit_now link
highest_come counts place now block count c limit limit_now link are moved below free limits outside highest =
    let apart : (x k : ℕ) → count_of counts x ≡ Some k → x ≢ block = (λ x k is same.
    let was : count_of counts x ≡ None = ap (λ (n : ℕ). count_of counts n) same ∙ free in
    absurd (cc)) in
    record {
      counted = λ h is. still_counted counts block h c (Some count) (apart h c (highest.counted h is)) (highest.counted h is);
      below = λ h is.
          let there = highest.counted h is in
          (limits h (counted_below counts h c there) (apart h c there)).0 (highest.below h is);
      highest = λ x x_in x_below. elim (counted_after counts block x c (Some count) below x_in) [
        | inl came ↦
            let same : count ≡ c = (let both = came.1 in cc) in
            absurd (outside same (subst (λ (n : ℕ). now n < limit_now) came.0 x_below))
        | inr stayed ↦
            let x_fits = counted_below counts x c stayed.1 in
            let found = highest.highest x stayed.1 ((limits x x_fits stayed.0).1 x_below) in
            let there = highest.counted found.0 found.1 in
            let order = same_order (length counts) block found.0 x place now moved (counted_below counts found.0 c there) x_fits
            (apart found.0 c there) stayed.0 in (
              found.0,
              found.1,
              elim (cases_lt (now found.0) (now x)) [
                | inl low ↦ absurd (omega (arith, order.1 low, found.2))
                | inr not_low ↦ not_low
              ],
            )
      ];
    }

-- a block has gone to which the link didn't lead
pub highest_stays : (counts : List (Option ℕ)) (place : ℕ → ℕ) (block c limit : ℕ) (link : Option ℕ) → block < length counts
    → link ≢ Some block → IsHighest counts place c limit link → IsHighest (set counts block None) place c limit link
highest_stays counts place block c limit link below apart highest = record {
  counted = λ h is. still_counted counts block h c None (λ same. apart (is ∙ ap (λ (n : ℕ). Some n) same)) (highest.counted h is);
  below = highest.below;
  highest = λ x x_in x_below. elim (counted_after counts block x c None below x_in) [
    | inl came ↦ let both = came.1 in absurd (cc)
    | inr stayed ↦ highest.highest x stayed.1 x_below
  ];
}

-- a block has gone, and the next one is found in its stead
pub highest_next : (counts : List (Option ℕ)) (place : ℕ → ℕ) (block c limit : ℕ) (link next : Option ℕ) → ArePlaces (length counts) place
    → block < length counts → link ≡ Some block → IsHighest counts place c limit link → IsHighest counts place c (place block) next
    → IsHighest (set counts block None) place c limit next
highest_next counts place block c limit link next are below is highest following =
    let apart : (h : ℕ) → next ≡ Some h → h ≢ block = (λ h next_is same. omega (arith, following.below h next_is, ap place same)) in
    record {
      counted = λ h next_is. still_counted counts block h c None (apart h next_is) (following.counted h next_is);
      below = λ h next_is. omega (arith, following.below h next_is, highest.below block is);
      highest = λ x x_in x_below. elim (counted_after counts block x c None below x_in) [
        | inl came ↦ let both = came.1 in absurd (cc)
        | inr stayed ↦
            let found = highest.highest x stayed.1 x_below in
            let same : found.0 ≡ block = cc (found.1, is) in
            let unlike : place x ≢ place block = (λ e. stayed.0 (are.apart x block (counted_below counts x c stayed.1) below e)) in
            following.highest x stayed.1 (omega (arith, found.2, ap place same, unlike))
      ];
    }
