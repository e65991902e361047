-- Keys and rows.
use Rattle.std.proofs.Common.{◌≡◌, ℕ, ◌<◌, ◌≤◌, Bool, true, eqb, ltb, leb, ◌&&◌, List, [], ◌∷◌, map, Option, Some, None, is_some, filter}
use Rattle.std.proofs.Common.{arith, refl, sym, ap, inl, inr, eq-eqb, eqb-true, ltb-true, leb-true, lt-ltb, le-leb}
use Rattle.std.proofs.lemmas.Bool.{true≢false, or_left, or_right, or_cases, and_parts, and_from, cases_Bool, cases_lt}
use Rattle.std.proofs.lemmas.Bool.Decides.{nat_tests}
use Rattle.late_cert.specs.declared.rows.JobRow.{JobRow}
use Rattle.late_cert.specs.Schedule.{is_named}
use Rattle.late_cert.specs.Rows.{row_of, is_known, is_done_in, is_done, due_of}
use Rattle.late_cert.specs.Bound.{is_listed}
use Rattle.late_cert.specs.BusyInterval.{key_at_most, is_within}

-- what a key at most another says of deadlines and numbers
pub record KeyAtMost (due j due' k : ℕ) : Type 0 where
  pub deadlines : due ≤ due'
  pub numbers : due ≡ due' → j ≤ k

pub key-true : (due j due' k : ℕ) → key_at_most due j due' k ≡ true → KeyAtMost due j due' k
key-true due j due' k h =
    elim (or_cases (ltb due due') (eqb due due' && leb j k) h) [
      | inl lt ↦ let a : due < due' = ltb-true due due' lt in record { deadlines = omega arith; numbers = λ e. absurd (omega arith) }
      | inr both ↦
          let p = and_parts (eqb due due') (leb j k) both in
          let a : due ≡ due' = eqb-true due due' p.0 in
          let b : j ≤ k = leb-true j k p.1 in
          record { deadlines = omega arith; numbers = λ e. b }
    ]

pub true-key : (due j due' k : ℕ) → KeyAtMost due j due' k → key_at_most due j due' k ≡ true
true-key due j due' k h =
    elim (cases_lt due due') [
      | inl lt ↦ or_left (ltb due due') (eqb due due' && leb j k) (lt-ltb due due' lt)
      | inr ge ↦
          let a : due ≤ due' = h.deadlines in
          let e : due ≡ due' = omega arith in
          or_right (ltb due due') (eqb due due' && leb j k)
          (and_from (eqb due due') (leb j k) (eq-eqb due due' e) (le-leb j k (h.numbers e)))
    ]

-- what a slot within the keys carries
pub record Within (rows : List JobRow) (j : ℕ) (o : Option ℕ) : Type 0 where
  pub number : ℕ
  pub carries : o ≡ Some number
  pub known : is_known rows number ≡ true
  pub key : KeyAtMost (due_of rows number) number (due_of rows j) j

pub within-true : (rows : List JobRow) (j : ℕ) (o : Option ℕ) → is_within rows j o ≡ true → Within rows j o
within-true rows j None h = absurd (true≢false (sym h))
within-true rows j (Some k) h =
    let p = and_parts (is_known rows k) (key_at_most (due_of rows k) k (due_of rows j) j) h in
    record { number = k; carries = refl; known = p.0; key = key-true (due_of rows k) k (due_of rows j) j p.1 }

pub true-within : (rows : List JobRow) (j k : ℕ) (o : Option ℕ) → o ≡ Some k → is_known rows k ≡ true
    → KeyAtMost (due_of rows k) k (due_of rows j) j → is_within rows j o ≡ true
true-within rows j k o e known key =
    rw e (and_from (is_known rows k) (key_at_most (due_of rows k) k (due_of rows j) j) known
    (true-key (due_of rows k) k (due_of rows j) j key))

-- keys not above a key that is not above a third
pub key-trans : (a i b j c k : ℕ) → KeyAtMost a i b j → KeyAtMost b j c k → KeyAtMost a i c k
key-trans a i b j c k p q =
    let d : a ≤ b = p.deadlines in
    let e : b ≤ c = q.deadlines in
    record {
      deadlines = omega arith;
      numbers = λ s. (let x : i ≤ j = p.numbers (omega arith) in let y : j ≤ k = q.numbers (omega arith) in omega arith);
    }

-- two keys not above each other are of one number
pub key-same : (a i b j : ℕ) → KeyAtMost a i b j → KeyAtMost b j a i → i ≡ j
key-same a i b j p q =
    let d : a ≤ b = p.deadlines in
    let e : b ≤ a = q.deadlines in
    let x : i ≤ j = p.numbers (omega arith) in
    let y : j ≤ i = q.numbers (omega arith) in
    omega arith

pub key-refl : (a i : ℕ) → KeyAtMost a i a i
key-refl a i = record { deadlines = omega arith; numbers = λ e. omega arith }

-- a done job has a row
pub known-in : (o : Option JobRow) → is_done_in o ≡ true → is_some o ≡ true
known-in None h = absurd (true≢false (sym h))
known-in (Some row) h = refl

pub done-known : (rows : List JobRow) (j : ℕ) → is_done rows j ≡ true → is_known rows j ≡ true
done-known rows j h = known-in (row_of rows j) h

-- a number has a row exactly where it stands among the rows' numbers
pub known-listed : (rows : List JobRow) (j : ℕ) → is_known rows j ≡ is_listed (map (λ (row : JobRow). row.number) rows) j
known-listed [] j = refl
known-listed (row ∷ rows) j =
    elim (cases_Bool (eqb row.number j)) [
      | inl same ↦ rw same refl
      | inr other ↦ rw other (known-listed rows j)
    ]

-- what a filter keeps
pub filter-listed : (p : ℕ → Bool) (js : List ℕ) (k : ℕ) → is_listed (filter p js) k ≡ (p k && is_listed js k)
filter-listed p [] k = grind arith
filter-listed p (j ∷ js) k = grind (arith, nat_tests, filter-listed p js k)

pub named-some : (j : ℕ) (o : Option ℕ) → is_named j o ≡ true → o ≡ Some j
named-some j None h = absurd (true≢false (sym h))
named-some j (Some k) h = ap Some (sym (eqb-true j k h))
