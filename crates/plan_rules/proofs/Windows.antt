-- How many periods, one after the other, lie in a window.
use Rattle.std.proofs.Common.{◌≡◌, ℕ, ◌+◌, ◌-◌, ◌*◌, ◌≤◌, ◌&&◌, nat_le, Bool, true, false, cond, List, [], ◌∷◌, ◌++◌, count_by, refl, sym}
use Rattle.std.proofs.Common.{ap, inl, inr, arith}
use Rattle.std.specs.List.{AllByRecursion}
use Rattle.std.proofs.lemmas.Bool.{true≢false, cases_Bool, and_parts, and_from, leb-true, le-leb}
use Rattle.std.proofs.lemmas.List.Sums.{sum_by-cons}
use Rattle.std.proofs.Math.Nat.{mul-le-mul_right}

one_if : Bool → ℕ
one_if b = cond b 1 0

one_if_le : (b c : Bool) → (b ≡ true → c ≡ true) → one_if b ≤ one_if c
unfolding one_if
one_if_le true true h = omega arith
one_if_le true false h = absurd (true≢false (sym (h refl)))
one_if_le false c h = omega arith

pub count_more : {X : Type 0} (p q : X → Bool) (xs : List X) → AllByRecursion (λ x. p x ≡ true → q x ≡ true) xs → count_by p xs
    ≤ count_by q xs
unfolding one_if
count_more p q [] h = omega arith
count_more p q (x ∷ xs) h =
    omega (
      arith,
      sum_by-cons (λ y. cond (p y) 1 0) x xs,
      sum_by-cons (λ y. cond (q y) 1 0) x xs,
      one_if_le (p x) (q x) h.0,
      count_more p q
          xs h.1,
    )

module _ {X : Type 0} (release due : X → ℕ) (chosen : X → Bool) (period : ℕ) where
  -- each chosen one has a period, and those after it are released after that
  abbrev pub AreApart : List X → Type 0
  AreApart [] = Unit {0}
  AreApart (x ∷ xs) =
      (chosen x ≡ true → (due x ≡ release x + period) × AllByRecursion (λ y. chosen y ≡ true → release x + period ≤ release y) xs)
      × AreApart xs

  -- chosen, released in the window and due in it
  abbrev pub is_inside : ℕ → ℕ → X → Bool
  is_inside start end x = chosen x && (nat_le start (release x) && nat_le (due x) end)

  -- what the test says
  record IsInside (start end : ℕ) (x : X) : Type 0 where
    taken : chosen x ≡ true
    released : start ≤ release x
    due_by : due x ≤ end

  inside_says : (start end : ℕ) (x : X) → is_inside start end x ≡ true → IsInside start end x
  inside_says start end x h =
      let p = and_parts (chosen x) (nat_le start (release x) && nat_le (due x) end) h in
      let q = and_parts (nat_le start (release x)) (nat_le (due x) end) p.1 in
      record { taken = p.0; released = leb-true start (release x) q.0; due_by = leb-true (due x) end q.1 }

  inside_if : (start end : ℕ) (x : X) → IsInside start end x → is_inside start end x ≡ true
  inside_if start end x h =
      and_from (chosen x) (nat_le start (release x) && nat_le (due x) end) h.taken
      (and_from (nat_le start (release x)) (nat_le (due x) end) (le-leb start (release x) h.released) (le-leb (due x) end h.due_by))

  later_inside : (start from end : ℕ) (xs : List X) → AllByRecursion (λ y. chosen y ≡ true → from ≤ release y) xs
      → AllByRecursion (λ y. is_inside start end y ≡ true → is_inside from end y ≡ true) xs
  later_inside start from end [] h = tt
  later_inside start from end (x ∷ xs) h = (
    (λ inside. (let k = inside_says start end x inside in inside_if from end x
        (record { taken = k.taken; released = h.0 k.taken; due_by = k.due_by }))),
    later_inside start from end xs h.1,
  )

  one_more : (b : Bool) (n : ℕ) → b ≡ true → (cond b 1 0 + n) * period ≡ period + n * period
  one_more true n h = grind arith
  one_more false n h = absurd (true≢false (sym h))

  no_more : (b : Bool) (n : ℕ) → b ≡ false → (cond b 1 0 + n) * period ≡ n * period
  no_more true n h = absurd (true≢false h)
  no_more false n h = grind arith

  -- the periods of those inside fit into the window
  pub inside_fit : (xs : List X) → AreApart xs → (start end : ℕ) → count_by (is_inside start end) xs * period ≤ end - start
  inside_fit [] apart start end = omega arith
  inside_fit (x ∷ xs) apart start end =
      let count : count_by (is_inside start end) (x ∷ xs)
      ≡ cond (is_inside start end x) 1 0 + count_by (is_inside start end) xs = sum_by-cons (λ y. cond (is_inside start end y) 1 0) x xs
      in
      let product = ap (λ (n : ℕ). n * period) count in
      elim (cases_Bool (is_inside start end x)) [
        | inl inside ↦
            let k = inside_says start end x inside in
            let mine = apart.0 k.taken in
            let from : ℕ = release x + period in
            let fewer : count_by (is_inside start end) xs
            ≤ count_by (is_inside from end) xs = count_more (is_inside start end) (is_inside from end) xs
            (later_inside start from end xs mine.1) in
            let rest = inside_fit xs apart.1 from end in
            let less : count_by (is_inside start end) xs * period
            ≤ count_by (is_inside from end) xs * period = mul-le-mul_right period fewer in
            omega (
              arith,
              product,
              one_more (is_inside start end x) (count_by (is_inside start end) xs) inside,
              less,
              rest,
              k.released,
              k.due_by,
              mine.0,
            )
        | inr outside ↦ omega (
          arith,
          product,
          no_more (is_inside start end x) (count_by (is_inside start end) xs) outside,
          inside_fit xs
              apart.1 start end,
        )
      ]

  all_before : (P : X → Type 0) (xs ys : List X) → AllByRecursion P (xs ++ ys) → AllByRecursion P xs
  all_before P [] ys h = tt
  all_before P (x ∷ xs) ys h = (h.0, all_before P xs ys h.1)

  -- the first ones of a list that is apart
  pub apart_before : (xs ys : List X) → AreApart (xs ++ ys) → AreApart xs
  apart_before [] ys h = tt
  apart_before (x ∷ xs) ys h = (
    (λ taken. (let k = h.0 taken in (k.0, all_before (λ y. chosen y ≡ true → release x + period ≤ release y) xs ys k.1))),
    apart_before
        xs ys h.1,
  )
