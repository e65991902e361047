-- A certificate binds every schedule.
use Rattle.std.proofs.Common.{◌≡◌, ℕ, zero, suc, ◌-◌, ◌<◌, ◌≤◌, Bool, true, false, eqb, List, [], ◌∷◌, length, Option, Some, None, count_by}
use Rattle.std.proofs.Common.{sum_by, arith, refl, sym, eq-eqb, ◌≤ℤ◌}
use Rattle.std.proofs.lemmas.Bool.{true≢false, or_left}
use Rattle.std.proofs.lemmas.Int.{ints}
use Rattle.std.proofs.lemmas.List.Kept.{AllPairs-from_increasing}
use Rattle.std.proofs.lemmas.List.Sums.{sum_by-cons}
use Rattle.late_cert.specs.declared.rows.JobRow.{JobRow}
use Rattle.late_cert.specs.Schedule.{Slots, slot_at, is_named, work_in, end_step, end_by, completion_in, lateness_of}
use Rattle.late_cert.specs.Rows.{release_of, due_of, work_of}
use Rattle.late_cert.specs.Bound.{is_listed, IsCertificate, BindsEverySchedule}
use Rattle.late_cert.proofs.Counting.{slot-below-end, slot-at-end, count-le-end, is_one_of, some-named, count-jobs, sum-same}

pub end_step-le : (b : Bool) (n m : ℕ) → n ≤ m → end_step b n ≤ suc m
end_step-le true zero m h = omega arith
end_step-le false zero m h = omega arith
end_step-le b (suc n) m h = omega arith

pub end-le-length : (p : Option ℕ → Bool) (f : Slots) → end_by p f ≤ length f
end-le-length p [] = omega arith
end-le-length p (x ∷ xs) =
    let step : end_step (p x) (end_by p xs) ≤ suc (length xs) = end_step-le (p x) (end_by p xs) (length xs) (end-le-length p xs) in
    omega (arith, step)

-- a sum of one or more positive terms is positive
pub sum-pos : (g : ℕ → ℕ) (js : List ℕ) → 0 < length js → ((j : ℕ) → is_listed js j ≡ true → 0 < g j) → 0 < sum_by g js
sum-pos g [] h e = absurd (omega arith)
sum-pos g (j ∷ js) h e =
    let here : 0 < g j = e j (or_left (eqb j j) (is_listed js j) (eq-eqb j j refl)) in
    omega (arith, here, sum_by-cons g j js)

-- a slot that carries one of the jobs carries a listed number
pub listed-at : (js : List ℕ) (o : Option ℕ) → is_one_of js o ≡ true → (j : ℕ) × (o ≡ Some j) × (is_listed js j ≡ true)
listed-at js None h = absurd (true≢false (sym h))
listed-at js (Some j) h = (j, refl, h)

-- completing later for an earlier deadline is later
pub later : (c d c' d' : ℕ) → c ≤ c' → d' ≤ d → lateness_of c d ≤ℤ lateness_of c' d'
later c d c' d' h k = omega (arith, ints)

pub binds : (rows : List JobRow) (start due completion : ℕ) (jobs : List ℕ)
    → IsCertificate rows start due completion jobs → BindsEverySchedule rows due completion jobs
binds rows start due completion jobs cert f serves =
    let counted : count_by (is_one_of jobs) f ≡ sum_by (work_in f) jobs =
    count-jobs jobs f (AllPairs-from_increasing jobs cert.rising) in
    let summed : sum_by (work_in f) jobs ≡ sum_by (work_of rows) jobs = sum-same (work_in f) (work_of rows) jobs serves.works in
    let total : count_by (is_one_of jobs) f ≡ sum_by (work_of rows) jobs = omega (arith, counted, summed) in
    let some : 0 < sum_by (work_of rows) jobs = sum-pos (work_of rows) jobs cert.filled (λ j l. (cert.each j l).works) in
    let fits : count_by (is_one_of jobs) f ≤ end_by (is_one_of jobs) f - start =
    count-le-end (is_one_of jobs) f start (λ t h l.
    let at = listed-at jobs (slot_at f t) l in
    let a : start ≤ release_of rows at.0 = (cert.each at.0 at.2).released in
    let b : release_of rows at.0 ≤ t = serves.released at.0 t at.2 at.1 in
    omega (arith, a, b)) in
    let e : ℕ = end_by (is_one_of jobs) f - 1 in
    let is : end_by (is_one_of jobs) f ≡ suc e = omega (arith, total, some, fits, cert.sum) in
    let at = listed-at jobs (slot_at f e) (slot-at-end (is_one_of jobs) f e is) in
    let inside : e < length f = omega (arith, is, end-le-length (is_one_of jobs) f) in
    let named : is_named at.0 (slot_at f e) ≡ true = some-named at.0 (slot_at f e) at.1 in
    let late : e < completion_in f at.0 = slot-below-end (is_named at.0) f e inside named in
    let enough : completion ≤ completion_in f at.0 = omega (arith, total, some, fits, cert.sum, is, late) in
    (at.0, at.2, later completion due (completion_in f at.0) (due_of rows at.0) enough (cert.each at.0 at.2).due_by)
