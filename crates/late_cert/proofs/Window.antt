-- The slots of a busy interval, and their numbers.
use Rattle.std.proofs.Common.{◌≡◌, ℕ, zero, suc, ◌+◌, ◌<◌, ◌≤◌, Bool, true, false, cond, leb, ◌&&◌, List, [], ◌∷◌, length, map, Option}
use Rattle.std.proofs.Common.{Some, count_by, arith, refl, sym, ap, ◌∙◌, inl, inr, eq-eqb, leb-true, le-leb}
use Rattle.std.proofs.lemmas.Bool.{false≢true, or_left, or_right, or_cases, and_parts, and_from, cases_Bool, false_from_ne_true}
use Rattle.std.proofs.lemmas.Bool.{cases_order}
use Rattle.std.proofs.lemmas.List.Kept.{IsStrictlyIncreasing-filter}
use Rattle.std.proofs.lemmas.List.Sums.{sum_by-cons}
use Rattle.std.proofs.lemmas.Option.{same_Some}
use Rattle.std.specs.List.Sorted.{IsStrictlyIncreasing}
use Rattle.late_cert.specs.declared.rows.JobRow.{JobRow}
use Rattle.late_cert.specs.Schedule.{Slots, slot_at, is_named}
use Rattle.late_cert.specs.Rows.{is_known}
use Rattle.late_cert.specs.Bound.{is_listed}
use Rattle.late_cert.specs.BusyInterval.{is_within, IsBusyInterval, start_of, is_carried, jobs_of}
use Rattle.late_cert.proofs.Keys.{within-true, known-listed, filter-listed, named-some}

-- where just the slots from s on and below n pass, they are all that count
pub count-window : (p : Option ℕ → Bool) (f : Slots) (s n : ℕ) → s ≤ n → n ≤ length f
    → ((t : ℕ) → s ≤ t → t < n → p (slot_at f t) ≡ true)
    → ((t : ℕ) → t < length f → p (slot_at f t) ≡ true → (s ≤ t) × (t < n))
    → count_by p f + s ≡ n
count-window p [] s n h k pass only = omega arith
count-window p (x ∷ xs) (suc s) zero h k pass only = absurd (omega arith)
count-window p (x ∷ xs) zero zero h k pass only =
    let out : p x ≡ false = false_from_ne_true (p x) (λ e. let q = only 0 (omega arith) e in absurd (omega (arith, q.1))) in
    let w : ◌≡◌ {A = ℕ} (cond (p x) 1 0) 0 = ap (λ b. cond b 1 0) out in
    let ih : count_by p xs + 0 ≡ 0 =
    count-window p xs 0 0 (omega arith) (omega arith) (λ t a b. absurd (omega arith))
    (λ t a e. let q = only (suc t) (omega arith) e in absurd (omega (arith, q.1))) in
    omega (arith, w, ih, sum_by-cons (λ y. cond (p y) 1 0) x xs)
count-window p (x ∷ xs) zero (suc n) h k pass only =
    let in_it : p x ≡ true = pass 0 (omega arith) (omega arith) in
    let w : ◌≡◌ {A = ℕ} (cond (p x) 1 0) 1 = ap (λ b. cond b 1 0) in_it in
    let ih : count_by p xs + 0 ≡ n =
    count-window p xs 0 n (omega arith) (omega arith) (λ t a b. pass (suc t) (omega arith) (omega arith))
    (λ t a e. let q = only (suc t) (omega arith) e in let q1 : suc t < suc n = q.1 in (omega arith, omega arith)) in
    omega (arith, w, ih, sum_by-cons (λ y. cond (p y) 1 0) x xs)
count-window p (x ∷ xs) (suc s) (suc n) h k pass only =
    let out : p x ≡ false = false_from_ne_true (p x) (λ e. let q = only 0 (omega arith) e in absurd (omega (arith, q.0))) in
    let w : ◌≡◌ {A = ℕ} (cond (p x) 1 0) 0 = ap (λ b. cond b 1 0) out in
    let ih : count_by p xs + s ≡ n =
    count-window p xs s n (omega arith) (omega arith) (λ t a b. pass (suc t) (omega arith) (omega arith))
    (λ t a e. let q = only (suc t) (omega arith) e in
    let q0 : suc s ≤ suc t = q.0 in let q1 : suc t < suc n = q.1 in (omega arith, omega arith)) in
    omega (arith, w, ih, sum_by-cons (λ y. cond (p y) 1 0) x xs)

-- the start is at most n
pub start-le : (rows : List JobRow) (c : Slots) (j n : ℕ) → start_of rows c j n ≤ n
start-le rows c j zero = omega arith
start-le rows c j (suc n) =
    elim (cases_Bool (is_within rows j (slot_at c n))) [
      | inl is ↦ rw is (let ih : start_of rows c j n ≤ n = start-le rows c j n in omega arith)
      | inr not_is ↦ rw not_is (omega arith)
    ]

-- each slot from the start on passes
pub start-carries : (rows : List JobRow) (c : Slots) (j n t : ℕ) → start_of rows c j n ≤ t → t < n → is_within rows j (slot_at c t) ≡ true
start-carries rows c j zero t h k = absurd (omega arith)
start-carries rows c j (suc n) t h k =
    elim (cases_Bool (is_within rows j (slot_at c n))) [
      | inl is ↦
          let h' : start_of rows c j n ≤ t = (rw is at h) in
          elim (cases_order t n) [
            | inl e ↦ rw e is
            | inr (inl lt) ↦ start-carries rows c j n t h' lt
            | inr (inr gt) ↦ absurd (omega arith)
          ]
      | inr not_is ↦ let h' : suc n ≤ t = (rw not_is at h) in absurd (omega arith)
    ]

-- the slot below the start does not pass
pub start-least : (rows : List JobRow) (c : Slots) (j n t : ℕ) → start_of rows c j n ≡ suc t → is_within rows j (slot_at c t) ≡ false
start-least rows c j zero t h = absurd (omega arith)
start-least rows c j (suc n) t h =
    elim (cases_Bool (is_within rows j (slot_at c n))) [
      | inl is ↦ let h' : start_of rows c j n ≡ suc t = (rw is at h) in start-least rows c j n t h'
      | inr not_is ↦
          let h' : suc n ≡ suc t = (rw not_is at h) in
          let e : t ≡ n = omega arith in rw e not_is
    ]

-- some slot from s on, below n, carries k
abbrev pub CarriedIn : Slots → ℕ → ℕ → ℕ → Type 0
CarriedIn c s n k = (t : ℕ) × (s ≤ t) × (t < n) × (slot_at c t ≡ Some k)

pub carried-true : (c : Slots) (s n k : ℕ) → is_carried c s n k ≡ true → CarriedIn c s n k
carried-true c s zero k h = absurd (false≢true h)
carried-true c s (suc n) k h =
    elim (or_cases (leb s n && is_named k (slot_at c n)) (is_carried c s n k) h) [
      | inl here ↦
          let p = and_parts (leb s n) (is_named k (slot_at c n)) here in
          (n, leb-true s n p.0, omega arith, named-some k (slot_at c n) p.1)
      | inr below ↦
          let q = carried-true c s n k below in
          let lt : q.0 < n = q.2 in
          (q.0, q.1, omega arith, q.3)
    ]

pub true-carried : (c : Slots) (s n k t : ℕ) → s ≤ t → t < n → slot_at c t ≡ Some k → is_carried c s n k ≡ true
true-carried c s zero k t a b e = absurd (omega arith)
true-carried c s (suc n) k t a b e =
    elim (cases_order t n) [
      | inl same ↦
          let le : s ≤ n = omega arith in
          let at : slot_at c n ≡ Some k = ap (slot_at c) (sym same) ∙ e in
          or_left (leb s n && is_named k (slot_at c n)) (is_carried c s n k)
          (and_from (leb s n) (is_named k (slot_at c n)) (le-leb s n le) (rw at (eq-eqb k k refl)))
      | inr (inl lt) ↦
          or_right (leb s n && is_named k (slot_at c n)) (is_carried c s n k) (true-carried c s n k t a lt e)
      | inr (inr gt) ↦ absurd (omega arith)
    ]

-- each number has its busy interval
pub busy_interval-is : (rows : List JobRow) (c : Slots) (j n : ℕ) → IsStrictlyIncreasing (map (λ (row : JobRow). row.number) rows)
    → IsBusyInterval rows c j (start_of rows c j n) n (jobs_of rows c (start_of rows c j n) n)
busy_interval-is rows c j n rises =
    let s : ℕ = start_of rows c j n in
    let numbers : List ℕ = map (λ (row : JobRow). row.number) rows in
    record {
      ordered = start-le rows c j n;
      carries = start-carries rows c j n;
      least = start-least rows c j n;
      rising = IsStrictlyIncreasing-filter (is_carried c s n) numbers rises;
      listed = λ k. (
        (λ l. carried-true c s n k (and_parts (is_carried c s n k) (is_listed numbers k) (sym (filter-listed (is_carried c s n) numbers k)
            ∙ l)).0),
        (λ q.
            let w = within-true rows j (slot_at c q.0) (start-carries rows c j n q.0 q.1 q.2) in
            let e : w.number ≡ k = same_Some w.number k (sym w.carries ∙ q.3) in
            let known : is_known rows k ≡ true = ap (is_known rows) (sym e) ∙ w.known in
            filter-listed (is_carried c s n) numbers k
            ∙ and_from (is_carried c s n k) (is_listed numbers k) (true-carried c s n k q.0 q.1 q.2 q.3) (sym (known-listed rows k)
            ∙ known)),
      );
    }
