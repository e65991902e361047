-- What is released in a window and due in it, where what is released in a period has a limit.
use Rattle.std.proofs.Common.{◌≡◌, ℕ, zero, suc, ◌+◌, ◌-◌, ◌*◌, ◌/◌, ◌<◌, ◌≤◌, ◌&&◌, nat_le, nat_lt, Bool, true, false, cond, List}
use Rattle.std.proofs.Common.{[], ◌∷◌, sum_by, refl, sym, ap, arith}
use Rattle.std.specs.List.{AllByRecursion}
use Rattle.std.proofs.Math.Nat.{mod-lt}
use Rattle.std.proofs.lemmas.Nat.{div-add-mod'}
use Rattle.std.proofs.lemmas.Bool.{true≢false, and_parts, and_from, leb-true, le-leb}
use Rattle.std.proofs.lemmas.Bool.Decides.{nat_tests}
use Rattle.std.proofs.lemmas.List.Sums.{sum_by-cons}
use Rattle.demand_rules.specs.Demand.{periods_within}

split : (b : Bool) (start middle end release weight : ℕ) → start ≤ middle → middle ≤ end
    → cond (b && (nat_le start release && nat_lt release end)) weight 0
    ≤ cond (b && (nat_le start release && nat_lt release middle)) weight 0 + cond (b && (nat_le middle release && nat_lt release end)) weight 0
split true start middle end release weight le more = grind (arith, nat_tests)
split false start middle end release weight le more = omega arith

if_more : (b c : Bool) (weight : ℕ) → (b ≡ true → c ≡ true) → cond b weight 0 ≤ cond c weight 0
if_more true true weight h = omega arith
if_more true false weight h = absurd (true≢false (sym (h refl)))
if_more false c weight h = omega arith

module _ {X : Type 0} (release due : X → ℕ) (chosen : X → Bool) (weight : X → ℕ) where
  -- chosen, and released in these slots, the last one not among them
  abbrev pub is_released_in : ℕ → ℕ → X → Bool
  is_released_in start end x = chosen x && (nat_le start (release x) && nat_lt (release x) end)

  -- what those weigh that pass
  abbrev pub weight_of : (X → Bool) → List X → ℕ
  weight_of test xs = sum_by (λ x. cond (test x) (weight x) 0) xs

  pub weight_more : (p q : X → Bool) (xs : List X) → AllByRecursion (λ x. p x ≡ true → q x ≡ true) xs → weight_of p xs ≤ weight_of q xs
  weight_more p q [] h = omega arith
  weight_more p q (x ∷ xs) h = omega (
    arith,
    sum_by-cons (λ y. cond (p y) (weight y) 0) x xs,
    sum_by-cons (λ y. cond (q y) (weight y) 0) x xs,
    if_more (p x) (q x) (weight x) h.0,
    weight_more p q xs h.1,
  )

  weight_split : (start middle end : ℕ) → start ≤ middle → middle ≤ end → (xs : List X)
      → weight_of (is_released_in start end) xs ≤ weight_of (is_released_in start middle) xs + weight_of (is_released_in middle end) xs
  weight_split start middle end le more [] = omega arith
  weight_split start middle end le more (x ∷ xs) =
      omega (
        arith,
        sum_by-cons (λ y. cond (is_released_in start end y) (weight y) 0) x xs,
        sum_by-cons (λ y. cond (is_released_in start middle y) (weight y) 0) x xs,
        sum_by-cons (λ y. cond (is_released_in middle end y) (weight y) 0) x xs,
        split (chosen x) start middle end (release x) (weight x) le more,
        weight_split start middle end le more xs,
      )

  none_released : (start : ℕ) (xs : List X) → weight_of (is_released_in start start) xs ≡ 0
  none_released start [] = refl
  none_released start (x ∷ xs) = omega (
    arith,
    sum_by-cons (λ y. cond (is_released_in start start y) (weight y) 0) x xs,
    none (chosen x) start (release x) (weight x),
    none_released start xs,
  )
    where
      none : (b : Bool) (start release weight : ℕ) → cond (b && (nat_le start release && nat_lt release start)) weight 0 ≡ 0
      none true start release weight = grind (arith, nat_tests)
      none false start release weight = refl

  -- in `n` periods, `n` times the limit
  pub released_in_periods : (period limit : ℕ) (xs : List X)
      → ((start : ℕ) → weight_of (is_released_in start (start + period)) xs ≤ limit)
      → (n start : ℕ) → weight_of (is_released_in start (start + n * period)) xs ≤ limit * n
  released_in_periods period limit xs few zero start =
      let none : start + 0 * period ≡ start = grind arith in
      omega (arith, ap (λ (m : ℕ). weight_of (is_released_in start m) xs) none, none_released start xs)
  released_in_periods period limit xs few (suc n) start =
      let middle : ℕ = start + period in
      let end : start + suc n * period ≡ middle + n * period = grind arith in
      let over : limit * suc n ≡ limit + limit * n = grind arith in
      omega (
        arith,
        ap (λ (m : ℕ). weight_of (is_released_in start m) xs) end,
        weight_split start middle (middle + n * period) (omega arith) (omega arith) xs,
        few start,
        released_in_periods period limit xs few n middle,
        over,
      )

  -- chosen, released in the window and due in it
  abbrev pub is_inside : ℕ → ℕ → X → Bool
  is_inside start end x = chosen x && (nat_le start (release x) && nat_le (due x) end)

  -- what has `deadline` slots
  abbrev pub HasSlots : ℕ → X → Type 0
  HasSlots deadline x = chosen x ≡ true → release x + deadline ≤ due x

  too_short : (deadline start end : ℕ) → end < start + deadline → (xs : List X) → AllByRecursion (HasSlots deadline) xs
      → weight_of (is_inside start end) xs ≡ 0
  too_short deadline start end short [] h = refl
  too_short deadline start end short (x ∷ xs) h =
      omega (
        arith,
        sum_by-cons (λ y. cond (is_inside start end y) (weight y) 0) x xs,
        outside (is_inside start end x) refl,
        too_short deadline start end short xs h.1,
      )
    where
      outside : (b : Bool) → is_inside start end x ≡ b → cond (is_inside start end x) (weight x) 0 ≡ 0
      outside true is =
          let p = and_parts (chosen x) (nat_le start (release x) && nat_le (due x) end) is in
          let q = and_parts (nat_le start (release x)) (nat_le (due x) end) p.1 in
          absurd (omega (arith, short, h.0 p.0, leb-true start (release x) q.0, leb-true (due x) end q.1))
      outside false is = ap (λ b. cond b (weight x) 0) is

  released_early : (deadline start end until : ℕ) → end < until + deadline → (xs : List X) → AllByRecursion (HasSlots deadline) xs
      → AllByRecursion (λ x. is_inside start end x ≡ true → is_released_in start until x ≡ true) xs
  released_early deadline start end until before [] h = tt
  released_early deadline start end until before (x ∷ xs) h = (here, released_early deadline start end until before xs h.1)
    where
      here : is_inside start end x ≡ true → is_released_in start until x ≡ true
      here is =
          let p = and_parts (chosen x) (nat_le start (release x) && nat_le (due x) end) is in
          let q = and_parts (nat_le start (release x)) (nat_le (due x) end) p.1 in
          let early : release x < until = omega (arith, before, h.0 p.0, leb-true (due x) end q.1) in
          and_from (chosen x) (nat_le start (release x) && nat_lt (release x) until) p.0
          (and_from (nat_le start (release x)) (nat_lt (release x) until) q.0 (le-leb (suc (release x)) until early))

  -- what is released in a window and due in it: at most the limit, for each of the window's `periods_within`
  pub inside_fit : (period deadline limit : ℕ) → 1 ≤ period → (xs : List X) → AllByRecursion (HasSlots deadline) xs
      → ((start : ℕ) → weight_of (is_released_in start (start + period)) xs ≤ limit)
      → (start end : ℕ) → start ≤ end → weight_of (is_inside start end) xs
      ≤ limit * periods_within period deadline (end - start)
  inside_fit period deadline limit some xs h few start end le = by_test (nat_le deadline (end - start)) refl
    where
      by_test : (b : Bool) → nat_le deadline (end - start) ≡ b
          → weight_of (is_inside start end) xs ≤ limit * cond b ((end - start - deadline) / period + 1) 0
      by_test true is =
          let long : deadline ≤ end - start = leb-true deadline (end - start) is in
          let n : ℕ = (end - start - deadline) / period + 1 in
          let over : ((end - start - deadline) / period + 1) * period ≡ (end - start - deadline) / period * period + period = grind arith in
          let before : end < (start + n * period) + deadline = omega (
            arith,
            le,
            long,
            over,
            div-add-mod' (end - start - deadline) period,
            mod-lt (end - start - deadline) {m = period} (omega (arith, some)),
          ) in
          omega (
            arith,
            weight_more (is_inside start end) (is_released_in start (start + n * period)) xs
                (released_early deadline start end (start + n * period) before xs h),
            released_in_periods period limit xs few n start,
          )
      by_test false is =
          let short : end < start + deadline = grind (arith, nat_tests, is, le) in
          omega (arith, too_short deadline start end short xs h)
