-- Too many slots for the time there is, in any schedule.
use Rattle.std.proofs.Common.{◌≡◌, ℕ, suc, ◌+◌, ◌-◌, ◌<◌, ◌≤◌, true, eqb, List, [], ◌∷◌, length, Some, count_by, sum_by}
use Rattle.std.proofs.Common.{arith, refl, sym, subst, eq-eqb, eqb-true, ◌⊎◌, inl, inr}
use Rattle.std.proofs.lemmas.Bool.{true≢false, cases_Bool, or_left, or_right, or_cases}
use Rattle.std.proofs.lemmas.List.Sums.{sum_by-cons}
use Rattle.std.proofs.lemmas.List.Kept.{AllPairs-from_increasing}
use Rattle.std.specs.List.Sorted.{IsStrictlyIncreasing}
use Rattle.late_cert.specs.declared.rows.JobRow.{JobRow}
use Rattle.late_cert.specs.Schedule.{Slots, slot_at, is_named, work_in, end_by, completion_in}
use Rattle.late_cert.specs.Rows.{release_of, work_of}
use Rattle.late_cert.specs.Bound.{is_listed}
use Rattle.late_cert.proofs.Counting.{slot-below-end, slot-at-end, count-le-end, is_one_of, some-named, count-jobs, count-cons}
use Rattle.late_cert.proofs.Binds.{listed-at, end-le-length}
use Rattle.die_log.specs.Results.Overdue.{ServesOneMore}

-- sums of terms that are no smaller
pub sum-le : (g h : ℕ → ℕ) (js : List ℕ) → ((k : ℕ) → is_listed js k ≡ true → g k ≤ h k) → sum_by g js ≤ sum_by h js
sum-le g h [] e = omega arith
sum-le g h (j ∷ js) e =
    let here : g j ≤ h j = e j (or_left (eqb j j) (is_listed js j) (eq-eqb j j refl)) in
    let rest : sum_by g js ≤ sum_by h js = sum-le g h js (λ k l. e k (or_right (eqb j k) (is_listed js k) l)) in
    omega (arith, here, rest, sum_by-cons g j js, sum_by-cons h j js)

-- .. and one of which is greater
pub sum-less : (g h : ℕ → ℕ) (js : List ℕ) (i : ℕ) → is_listed js i ≡ true → g i < h i
    → ((k : ℕ) → is_listed js k ≡ true → g k ≤ h k) → sum_by g js < sum_by h js
sum-less g h [] i l lt e = absurd (true≢false (sym l))
sum-less g h (j ∷ js) i l lt e =
    let sums = sum_by-cons g j js in
    let sums' = sum_by-cons h j js in
    let here : g j ≤ h j = e j (or_left (eqb j j) (is_listed js j) (eq-eqb j j refl)) in
    let later : (k : ℕ) → is_listed js k ≡ true → g k ≤ h k = λ k m. e k (or_right (eqb j k) (is_listed js k) m) in
    elim (or_cases (eqb j i) (is_listed js i) l) [
      | inl same ↦
          let greater : g j < h j = subst (λ (k : ℕ). g k < h k) (sym (eqb-true j i same)) lt in
          let rest : sum_by g js ≤ sum_by h js = sum-le g h js later in
          omega (arith, greater, rest, sums, sums')
      | inr among ↦
          let rest : sum_by g js < sum_by h js = sum-less g h js i among lt later in
          omega (arith, here, rest, sums, sums')
    ]

-- slots that carry the jobs, all from their releases on, are too many to end by n: one is carried in slot n or later
pub one-later : (rows : List JobRow) (f : Slots) (start n : ℕ) (js : List ℕ) → start ≤ n
    → ((k : ℕ) → is_listed js k ≡ true → start ≤ release_of rows k)
    → ((k t : ℕ) → is_listed js k ≡ true → slot_at f t ≡ Some k → release_of rows k ≤ t)
    → n < count_by (is_one_of js) f + start → (k : ℕ) × (is_listed js k ≡ true) × (n < completion_in f k)
one-later rows f start n js ordered from released many =
    let fits : count_by (is_one_of js) f ≤ end_by (is_one_of js) f - start =
    count-le-end (is_one_of js) f start (λ t h l.
    let at = listed-at js (slot_at f t) l in
    let a : start ≤ release_of rows at.0 = from at.0 at.2 in
    let b : release_of rows at.0 ≤ t = released at.0 t at.2 at.1 in
    omega (arith, a, b)) in
    let e : ℕ = end_by (is_one_of js) f - 1 in
    let is : end_by (is_one_of js) f ≡ suc e = omega (arith, fits, many, ordered) in
    let at = listed-at js (slot_at f e) (slot-at-end (is_one_of js) f e is) in
    let inside : e < length f = omega (arith, is, end-le-length (is_one_of js) f) in
    let named : is_named at.0 (slot_at f e) ≡ true = some-named at.0 (slot_at f e) at.1 in
    let late : e < completion_in f at.0 = slot-below-end (is_named at.0) f e inside named in
    let beyond : n < completion_in f at.0 = omega (arith, fits, many, ordered, is, late) in
    (at.0, at.2, beyond)

-- the jobs that had all slots from start to n, and one of them or another gets a slot more
pub served-later : (rows : List JobRow) (f : Slots) (j start n : ℕ) (js : List ℕ) → start ≤ n → IsStrictlyIncreasing js
    → start ≤ release_of rows j → ((k : ℕ) → is_listed js k ≡ true → start ≤ release_of rows k)
    → sum_by (work_of rows) js + start ≡ n → ServesOneMore rows j js f
    → (k : ℕ) × ((is_listed js k ≡ true) ⊎ (k ≡ j)) × (n < completion_in f k)
served-later rows f j start n js ordered rising own from sum serves =
    let counted : count_by (is_one_of js) f ≡ sum_by (work_in f) js = count-jobs js f (AllPairs-from_increasing js rising) in
    elim (cases_Bool (is_listed js j)) [
      | inl listed ↦
          let more : sum_by (work_of rows) js < sum_by (work_in f) js =
          sum-less (work_of rows) (work_in f) js j listed serves.more serves.works in
          let late = one-later rows f start n js ordered from (λ k t l. serves.released k t (inl l)) (omega (arith, counted, more, sum)) in
          (late.0, inl late.1, late.2)
      | inr other ↦
          let least : sum_by (work_of rows) js ≤ sum_by (work_in f) js = sum-le (work_of rows) (work_in f) js serves.works in
          let all : count_by (is_one_of (j ∷ js)) f ≡ count_by (is_named j) f + count_by (is_one_of js) f = count-cons j js f other in
          let either : (k : ℕ) → is_listed (j ∷ js) k ≡ true → (is_listed js k ≡ true) ⊎ (k ≡ j) = λ k l.
          elim (or_cases (eqb j k) (is_listed js k) l) [ inl same ↦ inr (sym (eqb-true j k same)) | inr among ↦ inl among ] in
          let late = one-later rows f start n (j ∷ js) ordered
          (λ k l. elim (either k l) [
            | inl among ↦ from k among
            | inr same ↦ subst (λ (m : ℕ). start ≤ release_of rows m) (sym same) own
          ])
          (λ k t l. serves.released k t (either k l)) (omega (arith, counted, least, all, sum, serves.more)) in
          (late.0, either late.0 late.1, late.2)
    ]
