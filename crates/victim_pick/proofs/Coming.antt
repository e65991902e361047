-- The lists stay linked while a block comes to one of them.
use Rattle.std.proofs.Common.{◌≡◌, ◌≢◌, ℕ, ◌<◌, ◌≤◌, List, length, get_or, set, Option, Some, None, sym, ap, ◌∙◌, subst, arith, inl, inr}
use Rattle.std.proofs.lemmas.Bool.{cases_eq}
use Rattle.std.proofs.lemmas.List.{get_or-set_same, get_or-set_other, length-set}
use Rattle.victim_pick.specs.Candidates.{count_of}
use Rattle.victim_pick.specs.Links.{AreLinked, IsBefore, IsHighest, set_at}
use Rattle.victim_pick.proofs.Setting.{cases_link, counted_below, counted_after, now_counted, still_counted}
use Rattle.victim_pick.proofs.Setting.{set_at-same, set_at-other, length-set_at}
use Rattle.victim_pick.proofs.Places.{ArePlaces, IsMovedUp, moved_up, moved_up_is, moved_places, below_top, same_order}
use Rattle.victim_pick.proofs.Highest.{highest_come}

pub places_of : (pages : ℕ) (counts firsts nexts befores : List (Option ℕ)) (are : AreLinked pages counts firsts nexts befores)
    → ArePlaces (length counts) are.place
places_of pages counts firsts nexts befores are = record { places = are.places; apart = are.apart }

-- what is before another block, in terms of the lists with the block
before_come : (counts firsts nexts : List (Option ℕ)) (count block c y : ℕ) (link first : Option ℕ) → count_of counts block ≡ None
    → (c ≡ count → get_or firsts c None ≢ Some y) → IsBefore counts firsts nexts c y link
    → IsBefore (set counts block (Some count)) (set firsts count (Some block)) (set nexts block first) c y link
before_come counts firsts nexts count block c y None first free unlike is =
    elim (cases_eq c count) [
      | inl same ↦ absurd (unlike same is)
      | inr apart ↦ get_or-set_other firsts count c (Some block) None apart ∙ is
    ]
before_come counts firsts nexts count block c y (Some q) first free unlike is =
    let apart : q ≢ block = (λ same.
    let was : count_of counts q ≡ None = ap (λ (n : ℕ). count_of counts n) same ∙ free in
    let both = is.0 in
    absurd (cc)) in
    (still_counted counts block q c (Some count) apart is.0, get_or-set_other nexts block q first None apart ∙ is.1)

pub linked_come : (pages : ℕ) (counts firsts nexts befores : List (Option ℕ)) (count block : ℕ) (first : Option ℕ)
    → AreLinked pages counts firsts nexts befores → block < length counts → count_of counts block ≡ None → count ≤ pages
    → first ≡ get_or firsts count None
    → AreLinked pages (set counts block (Some count)) (set firsts count (Some block)) (set nexts block first)
    (set_at (set befores block None) first (Some block))
linked_come pages counts firsts nexts befores count block first are below free fits first_is =
    let n = length counts in
    let place = are.place in
    let placed : ArePlaces n place = places_of pages counts firsts nexts befores are in
    let now = moved_up n block place in
    let moved : IsMovedUp n block place now = moved_up_is n block place below placed in
    let now_placed : ArePlaces n now = moved_places n block place now placed moved below in
    let len : length (set counts block (Some count)) ≡ n = length-set counts block (Some count) in
    let nexts_len : length (set nexts block first) ≡ length nexts = length-set nexts block first in
    let befores_len : length (set befores block None) ≡ length befores = length-set befores block None in
    let in_firsts : count < length firsts = omega (arith, fits, are.firsts_len) in
    let in_nexts : block < length nexts = omega (arith, below, are.nexts_len) in
    let in_befores : block < length befores = omega (arith, below, are.befores_len) in
    let unlike : (x k : ℕ) → count_of counts x ≡ Some k → x ≢ block = (λ x k is same.
    let was : count_of counts x ≡ None = ap (λ (m : ℕ). count_of counts m) same ∙ free in
    absurd (cc)) in
    let first_highest : IsHighest counts place count n first = subst (λ (o : Option ℕ). IsHighest counts place count n o) (sym first_is)
    (are.firsts_are count fits) in
    record {
      few_pages = are.few_pages;
      firsts_len = length-set firsts count (Some block) ∙ are.firsts_len;
      nexts_len = omega (arith, nexts_len, are.nexts_len, len);
      befores_len = omega (arith, length-set_at (set befores block None) first (Some block), befores_len, are.befores_len, len);
      fit = λ x c is. elim (counted_after counts block x c (Some count) below is) [
        | inl came ↦ let both = came.1 in let same : count ≡ c = cc in omega (arith, same, fits)
        | inr stayed ↦ are.fit x c stayed.1
      ];
      place = now;
      places = λ x x_below. omega (arith, len, now_placed.places x (omega (arith, len, x_below)));
      apart = λ one other one_below other_below. now_placed.apart one other (omega (arith, len, one_below))
          (omega (arith, len, other_below));
      firsts_are = λ c c_fits. elim (cases_eq c count) [
        | inl same ↦
            let read : get_or (set firsts count (Some block)) c None
            ≡ Some block = ap (λ (m : ℕ). get_or (set firsts count (Some block)) m None) same
            ∙ get_or-set_same firsts count (Some block) None in_firsts in
            record {
              counted = λ h is.
                  let here : h ≡ block = cc (is, read) in
                  ap (λ (m : ℕ). count_of (set counts block (Some count)) m) here ∙ now_counted counts block (Some count) below
                  ∙ ap (λ (m : ℕ). Some m) (sym same);
              below = λ h is.
                  let here : h ≡ block = cc (is, read) in
                  omega (arith, len, ap now here, moved.top);
              highest = λ x x_in x_below. (block, read, omega (arith, len, x_below, moved.top));
            }
        | inr other ↦
            let read : get_or (set firsts count (Some block)) c None ≡ get_or firsts c None = get_or-set_other firsts count c
            (Some block) None other in
            subst (λ (o : Option ℕ). IsHighest (set counts block (Some count)) now c (length (set counts block (Some count))) o) (sym read)
            (highest_come counts place now block count c n (length (set counts block (Some count))) (get_or firsts c None) placed moved
            below free
            (λ x x_below x_apart. (λ h. omega (arith, len, now_placed.places x x_below), λ h. are.places x x_below))
            (λ same h. other (sym same)) (are.firsts_are c c_fits))
      ];
      nexts_are = λ x c is. elim (counted_after counts block x c (Some count) below is) [
        | inl came ↦
            let both = came.1 in
            let c_is : count ≡ c = cc in
            let read : get_or (set nexts block first) x None ≡ first = ap (λ (m : ℕ). get_or (set nexts block first) m None) came.0
            ∙ get_or-set_same nexts block first None in_nexts in
            let place_is : now x ≡ now block = ap now came.0 in
            subst (λ (o : Option ℕ). IsHighest (set counts block (Some count)) now c (now x) o) (sym read)
            (highest_come counts place now block count c n (now x) first placed moved below free
            (λ y y_below y_apart. (
              λ h. omega (arith, place_is, below_top n block y place now placed moved below y_below y_apart),
              λ h. are.places y y_below,
            ))
            (λ same h. omega (arith, place_is, h)) (subst (λ (k : ℕ). IsHighest counts place k n first) c_is first_highest))
        | inr stayed ↦
            let read : get_or (set nexts block first) x None ≡ get_or nexts x None = get_or-set_other nexts block x first None stayed.0 in
            let x_below = counted_below counts x c stayed.1 in
            subst (λ (o : Option ℕ). IsHighest (set counts block (Some count)) now c (now x) o) (sym read)
            (highest_come counts place now block count c (place x) (now x) (get_or nexts x None) placed moved below free
            (λ y y_below y_apart. same_order n block y x place now moved y_below x_below y_apart stayed.0)
            (λ same h. omega (arith, h, below_top n block x place now placed moved below x_below stayed.0)) (are.nexts_are x c stayed.1))
      ];
      befores_are = λ y c is. elim (counted_after counts block y c (Some count) below is) [
        | inl came ↦
            let both = came.1 in
            let c_is : count ≡ c = cc in
            let not_first : first ≢ Some y = (λ f. unlike y count (first_highest.counted y f) came.0) in
            let read : get_or (set_at (set befores block None) first (Some block)) y None
            ≡ None = set_at-other (set befores block None) first y (Some block) not_first
            ∙ ap (λ (m : ℕ). get_or (set befores block None) m None) came.0 ∙ get_or-set_same befores block None None in_befores in
            let head : get_or (set firsts count (Some block)) c None
            ≡ Some y = ap (λ (m : ℕ). get_or (set firsts count (Some block)) m None) (sym c_is)
            ∙ get_or-set_same firsts count (Some block) None in_firsts ∙ ap (λ (m : ℕ). Some m) (sym came.0) in
            subst
            (λ (o : Option ℕ). IsBefore (set counts block (Some count)) (set firsts count (Some block)) (set nexts block first) c y o)
            (sym read) head
        | inr stayed ↦ elim (cases_link first y) [
          | inl leads ↦
              let y_below = counted_below counts y c stayed.1 in
              let read : get_or (set_at (set befores block None) first (Some block)) y None
              ≡ Some block = set_at-same (set befores block None) first y (Some block)
              (omega (arith, y_below, are.befores_len, befores_len)) leads in
              let there = first_highest.counted y leads in
              let was = stayed.1 in
              let c_is : count ≡ c = cc in
              subst
              (λ (o : Option ℕ). IsBefore (set counts block (Some count)) (set firsts count (Some block)) (set nexts block first) c y o)
              (sym read) (
                now_counted counts block (Some count) below ∙ ap (λ (m : ℕ). Some m) c_is,
                get_or-set_same nexts block first None in_nexts ∙ leads,
              )
          | inr elsewhere ↦
              let read : get_or (set_at (set befores block None) first (Some block)) y None
              ≡ get_or befores y None = set_at-other (set befores block None) first y (Some block) elsewhere
              ∙ get_or-set_other befores block y None None stayed.0 in
              subst
              (λ (o : Option ℕ). IsBefore (set counts block (Some count)) (set firsts count (Some block)) (set nexts block first) c y o)
              (sym read)
              (before_come counts firsts nexts count block c y (get_or befores y None) first free
              (λ same f. elsewhere (first_is ∙ ap (λ (m : ℕ). get_or firsts m None) (sym same) ∙ f)) (are.befores_are y c stayed.1))
        ]
      ];
    }
