-- Rows that rise by number, and lists that rise.
use Rattle.std.proofs.Common.{◌≡◌, ℕ, zero, suc, ◌+◌, ◌-◌, ◌<◌, ◌≤◌, Bool, true, false, eqb, ltb, List, [], ◌∷◌, length, map, Some, None}
use Rattle.std.proofs.Common.{get_or, arith, refl, sym, ap, ◌∙◌, inl, inr, eq-eqb, ne_eqb, add-one, lt-ltb, ltb-true, is_lt, is_le, nat_cmp}
use Rattle.std.proofs.Common.{eqb-true}
use Rattle.std.proofs.lemmas.Bool.Decides.{nat_tests}
use Rattle.std.proofs.lemmas.Bool.{and_parts, and_from, cases_order, cases_lt, eqb-false, false_from_ne_true}
use Rattle.std.proofs.lemmas.List.Kept.{AllPairs-from_increasing}
use Rattle.std.specs.List.Sorted.{IsStrictlyIncreasing}
use Rattle.late_cert.specs.declared.rows.JobRow.{JobRow}
use Rattle.late_cert.specs.Rows.{RowsRise, row_of}
use Rattle.late_cert.specs.Check.{is_rising_after, is_rising}

abbrev pub number : JobRow → ℕ
number row = row.number

pub map-length : (rows : List JobRow) → length (map number rows) ≡ length rows
map-length [] = refl
map-length (row ∷ rows) = ap suc (map-length rows)

pub map-get : (rows : List JobRow) (i : ℕ) (d : JobRow) (z : ℕ) → i < length rows → get_or (map number rows) i z ≡ (get_or rows i d).number
map-get [] i d z h = absurd (omega arith)
map-get (row ∷ rows) zero d z h = refl
map-get (row ∷ rows) (suc i) d z h = map-get rows i d z (omega arith)

-- an earlier row has no greater number
pub rows-rise-le : (rows : List JobRow) → RowsRise rows → (i j : ℕ) (d : JobRow) → i ≤ j → j < length rows
    → (get_or rows i d).number ≤ (get_or rows j d).number
rows-rise-le rows r i j d h k =
    elim (cases_order i j) [
      | inl e ↦ let q : (get_or rows i d).number ≡ (get_or rows j d).number = ap (λ n. (get_or rows n d).number) e in omega arith
      | inr (inl lt) ↦
          let p : get_or (map number rows) i 0 < get_or (map number rows) j 0 =
          AllPairs-from_increasing (map number rows) r i j 0 lt (let l : length (map number rows)
          ≡ length rows = map-length rows in omega arith) in
          let a : get_or (map number rows) i 0 ≡ (get_or rows i d).number = map-get rows i d 0 (omega arith) in
          let b : get_or (map number rows) j 0 ≡ (get_or rows j d).number = map-get rows j d 0 k in
          omega arith
      | inr (inr gt) ↦ absurd (omega arith)
    ]

-- an earlier row has a smaller number
pub rows-rise-lt : (rows : List JobRow) → RowsRise rows → (i j : ℕ) (d : JobRow) → i < j → j < length rows
    → (get_or rows i d).number < (get_or rows j d).number
rows-rise-lt rows r i j d lt k =
    let p : get_or (map number rows) i 0 < get_or (map number rows) j 0 =
    AllPairs-from_increasing (map number rows) r i j 0 lt (let l : length (map number rows) ≡ length rows = map-length rows in omega arith)
    in
    let a : get_or (map number rows) i 0 ≡ (get_or rows i d).number = map-get rows i d 0 (omega arith) in
    let b : get_or (map number rows) j 0 ≡ (get_or rows j d).number = map-get rows j d 0 k in
    omega arith

-- the rows up to one below the number are below it
pub rows-below : (rows : List JobRow) → RowsRise rows → (n i : ℕ) (d : JobRow) → i < length rows → (get_or rows i d).number < n
    → (k : ℕ) → k < i + 1 → (e : JobRow) → (get_or rows k e).number < n
rows-below rows r n i d h lt k b e =
    let a : (get_or rows k e).number ≤ (get_or rows i e).number = rows-rise-le rows r k i e (omega arith) h in
    let m : get_or (map number rows) i 0 ≡ (get_or rows i d).number = map-get rows i d 0 h in
    let m' : get_or (map number rows) i 0 ≡ (get_or rows i e).number = map-get rows i e 0 h in
    omega arith

-- the rows from one at or above the number on are not below it
pub rows-above : (rows : List JobRow) → RowsRise rows → (n i : ℕ) (d : JobRow) → i < length rows → n ≤ (get_or rows i d).number
    → (k : ℕ) → i ≤ k → k < length rows → (e : JobRow) → n ≤ (get_or rows k e).number
rows-above rows r n i d h le k b l e =
    let a : (get_or rows i e).number ≤ (get_or rows k e).number = rows-rise-le rows r i k e b l in
    let m : get_or (map number rows) i 0 ≡ (get_or rows i d).number = map-get rows i d 0 h in
    let m' : get_or (map number rows) i 0 ≡ (get_or rows i e).number = map-get rows i e 0 h in
    omega arith

-- the first row of the number is its row
pub row-at : (rows : List JobRow) (n i : ℕ) (d : JobRow) → i < length rows
    → ((k : ℕ) → k < i → (get_or rows k d).number < n) → (get_or rows i d).number ≡ n
    → row_of rows n ≡ Some (get_or rows i d)
row-at [] n i d h b e = absurd (omega arith)
row-at (row ∷ rows) n zero d h b e = rw (eq-eqb row.number n e) refl
row-at (row ∷ rows) n (suc i) d h b e =
    let lt : row.number < n = b 0 (omega arith) in
    rw (ne_eqb row.number n (λ q. absurd (omega arith))) (row-at rows n i d (omega arith) (λ k l. b (suc k) (omega arith)) e)

pub no-row : (rows : List JobRow) (n : ℕ) → ((k : ℕ) (d : JobRow) → k < length rows → (get_or rows k d).number ≡ n → ⊥) → row_of rows n
    ≡ None
no-row [] n h = refl
no-row (row ∷ rows) n h =
    rw (ne_eqb row.number n (λ q. h 0 row (omega arith) q)) (no-row rows n (λ k d l q. h (suc k) d (omega arith) q))

-- an element has no part of the default
pub get-same : {X : Type 0} (xs : List X) (i : ℕ) (d e : X) → i < length xs → get_or xs i d ≡ get_or xs i e
get-same [] i d e h = absurd (omega arith)
get-same (x ∷ xs) zero d e h = refl
get-same (x ∷ xs) (suc i) d e h = get-same xs i d e (omega arith)

-- the row at the place is that of the number, or the number has none
pub row-found : (rows : List JobRow) (n i : ℕ) (d : JobRow) → i < length rows
    → ((k : ℕ) (e : JobRow) → k < i → (get_or rows k e).number < n)
    → (e : JobRow) → true ≡ eqb (get_or rows i e).number n → row_of rows n ≡ Some (get_or rows i d)
row-found rows n i d h b e is =
    let s : (get_or rows i d).number ≡ (get_or rows i e).number = ap number (get-same rows i d e h) in
    row-at rows n i d h (λ k l. b k d l) (s ∙ eqb-true (get_or rows i e).number n (sym is))

pub row-missing : (rows : List JobRow) → RowsRise rows → (n i : ℕ) (e : JobRow) → i < length rows
    → ((k : ℕ) (d : JobRow) → k < i → (get_or rows k d).number < n)
    → ((k : ℕ) (d : JobRow) → i ≤ k → k < length rows → n ≤ (get_or rows k d).number)
    → false ≡ eqb (get_or rows i e).number n → row_of rows n ≡ None
row-missing rows r n i e h below above is =
    no-row rows n (λ k d l q.
    elim (cases_lt k i) [
      | inl lt ↦ let b : (get_or rows k d).number < n = below k d lt in absurd (omega arith)
      | inr ge ↦
          let a : n ≤ (get_or rows i d).number = above i d (omega arith) h in
          let up : (get_or rows i d).number ≤ (get_or rows k d).number = rows-rise-le rows r i k d ge l in
          let s : (get_or rows i d).number ≡ (get_or rows i e).number = ap number (get-same rows i d e h) in
          let z : (get_or rows i e).number ≡ n = omega arith in
          absurd (eqb-false (get_or rows i e).number n (sym is) z)
    ])

pub cmp-le : (b : Bool) (x y : ℕ) → b ≡ is_le (nat_cmp x y) → b ≡ true → x ≤ y
cmp-le b x y e h = grind (arith, nat_tests)

-- what a comparison of numbers answered
pub cmp-less : (b : Bool) (x n : ℕ) → b ≡ is_lt (nat_cmp x n) → b ≡ true → x < n
cmp-less b x n e h = grind (arith, nat_tests)

pub cmp-not-less : (b : Bool) (x n : ℕ) → b ≡ is_lt (nat_cmp x n) → b ≡ false → n ≤ x
cmp-not-less b x n e h = grind (arith, nat_tests)

-- a list rises where each number is below the next one
pub true-rising : (xs : List ℕ) → is_rising xs ≡ true → IsStrictlyIncreasing xs
true-rising [] h k l = absurd (omega arith)
true-rising (x ∷ []) h k l = absurd (omega arith)
true-rising (x ∷ y ∷ ys) h zero l =
    ltb-true x y (and_parts (ltb x y) (is_rising_after y ys) h).0
true-rising (x ∷ y ∷ ys) h (suc k) l =
    let ih = true-rising (y ∷ ys) (and_parts (ltb x y) (is_rising_after y ys) h).1 k (omega arith) in
    rw add-one (rw add-one at ih)

pub rising-true : (xs : List ℕ) → IsStrictlyIncreasing xs → is_rising xs ≡ true
rising-true [] h = refl
rising-true (x ∷ []) h = refl
rising-true (x ∷ y ∷ ys) h =
    let first : x < y = h 0 (omega arith) in
    let rest : IsStrictlyIncreasing (y ∷ ys) = (λ k l. rw add-one (rw add-one at (h (suc k) (omega arith)))) in
    and_from (ltb x y) (is_rising_after y ys) (lt-ltb x y first) (rising-true (y ∷ ys) rest)

pub not-rising : (xs : List ℕ) (i : ℕ) → 0 < i → i < length xs → get_or xs i 0 ≤ get_or xs (i - 1) 0 → is_rising xs ≡ false
not-rising xs i h k le =
    false_from_ne_true (is_rising xs) (λ e.
    let j : ℕ = i - 1 in
    let s : j + 1 ≡ i = omega arith in
    let up : get_or xs j 0 < get_or xs (j + 1) 0 = true-rising xs e j (omega arith) in
    let q : get_or xs (j + 1) 0 ≡ get_or xs i 0 = ap (λ n. get_or xs n 0) s in
    absurd (omega arith))

pub cmp-not-le : (b : Bool) (x y : ℕ) → b ≡ is_le (nat_cmp x y) → b ≡ false → y < x
cmp-not-le b x y e h = grind (arith, nat_tests)

-- the rows rise one place further
pub rows-rise-more : (rows : List JobRow) (i : ℕ) (d e : JobRow) → i < length rows
    → (get_or rows (i - 1) e).number < (get_or rows i d).number
    → ((k : ℕ) → k + 1 < i → get_or (map number rows) k 0 < get_or (map number rows) (k + 1) 0)
    → (k : ℕ) → k + 1 < i + 1 → get_or (map number rows) k 0 < get_or (map number rows) (k + 1) 0
rows-rise-more rows i d e h lt before k l =
    elim (cases_lt (k + 1) i) [
      | inl less ↦ before k less
      | inr more ↦
          let is : k + 1 ≡ i = omega arith in
          let is' : k ≡ i - 1 = omega arith in
          let a : get_or (map number rows) k 0 ≡ (get_or rows k e).number = map-get rows k e 0 (omega arith) in
          let a' : (get_or rows k e).number ≡ (get_or rows (i - 1) e).number = ap (λ (n : ℕ). (get_or rows n e).number) is' in
          let b : get_or (map number rows) (k + 1) 0 ≡ get_or (map number rows) i 0 = ap (λ (n : ℕ). get_or (map number rows) n 0) is in
          let b' : get_or (map number rows) i 0 ≡ (get_or rows i d).number = map-get rows i d 0 h in
          omega arith
    ]

-- they do not where a row's number is not above the one before
pub rows-fall : (rows : List JobRow) (i : ℕ) (d e : JobRow) → 0 < i → i < length rows
    → (get_or rows i d).number ≤ (get_or rows (i - 1) e).number → RowsRise rows → ⊥
rows-fall rows i d e h k le r =
    let j : ℕ = i - 1 in
    let up : (get_or rows j e).number < (get_or rows i e).number = rows-rise-lt rows r j i e (omega arith) k in
    let s : (get_or rows i e).number ≡ (get_or rows i d).number = ap number (get-same rows i e d k) in
    omega arith
