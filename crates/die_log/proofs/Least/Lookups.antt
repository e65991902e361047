-- The rows of numbered jobs rise, and are looked up by place.
use Rattle.std.proofs.Common.{◌≡◌, ℕ, zero, suc, ◌+◌, ◌<◌, ◌≤◌, Bool, true, false, cond, eqb, not, List, [], ◌∷◌, map, filter, Option, Some}
use Rattle.std.proofs.Common.{None, refl, ap, sym, subst, ◌∙◌, arith, slice_get, slice_index}
use Rattle.std.specs.List.Sorted.{IsStrictlyIncreasing}
use Rattle.std.proofs.lemmas.Bool.{eq-eqb, ne_eqb}
use Rattle.late_cert.specs.declared.rows.JobRow.{JobRow}
use Rattle.late_cert.specs.Rows.{RowsRise, row_of}
use Rattle.die_log.specs.Model.Log.{Job}
use Rattle.die_log.specs.Invariants.RunningCollections.{AreNumbered}

-- below, `row` gives the row of a job, under its number, and `gone` tells whether a number was waived

abbrev pub rows_by : (Job → JobRow) → (ℕ → Bool) → List Job → List JobRow
rows_by row gone js = map row (filter (λ j. not (gone j.number)) js)

abbrev pub row_in : (Job → JobRow) → Bool → Option Job → Option JobRow
row_in row waived None = None
row_in row waived (Some j) = cond waived None (Some (row j))

abbrev pub Named : (Job → JobRow) → Type 0
Named row = (j : Job) → (row j).number ≡ j.number

abbrev with_first : (Job → JobRow) → Job → Bool → List JobRow → List JobRow
with_first row j waived rest = cond waived rest (row j ∷ rest)

first_is : (row : Job → JobRow) (gone : ℕ → Bool) (j : Job) (js : List Job) (b : Bool) → gone j.number ≡ b → rows_by row gone (j ∷ js)
    ≡ with_first row j b (rows_by row gone js)
first_is row gone j js true e = rw e refl
first_is row gone j js false e = rw e refl

-- Rising

abbrev RisesFrom : ℕ → List ℕ → Type 0
RisesFrom b [] = Unit {0}
RisesFrom b (x ∷ xs) = (b ≤ x) × RisesFrom (x + 1) xs

from_below : (b : ℕ) (xs : List ℕ) → RisesFrom (b + 1) xs → RisesFrom b xs
from_below b [] h = tt
from_below b (x ∷ xs) h = (omega (arith, h.0), h.1)

rises_strictly : (b : ℕ) (xs : List ℕ) → RisesFrom b xs → IsStrictlyIncreasing xs
rises_strictly b [] h k lt = absurd (omega (arith, lt))
rises_strictly b (x ∷ []) h k lt = absurd (omega (arith, lt))
rises_strictly b (x ∷ y ∷ xs) h zero lt = omega (arith, h.1.0)
rises_strictly b (x ∷ y ∷ xs) h (suc k) lt =
    let next : suc (k + 1) ≡ suc k + 1 = omega arith in
    subst (λ n. slice_index (y ∷ xs) k < slice_index (x ∷ y ∷ xs) n) next (rises_strictly (x + 1) (y ∷ xs) h.1 k (omega (arith, lt)))

abbrev numbers_by : (Job → JobRow) → (ℕ → Bool) → List Job → List ℕ
numbers_by row gone js = map (λ (r : JobRow). r.number) (rows_by row gone js)

rise_first : (row : Job → JobRow) (gone : ℕ → Bool) (b : ℕ) (j : Job) (js : List Job) (w : Bool) → gone j.number ≡ w → (row j).number ≡ b
    → RisesFrom (b + 1) (numbers_by row gone js) → RisesFrom b (numbers_by row gone (j ∷ js))
rise_first row gone b j js true e number rest = rw (first_is row gone j js true e) (from_below b (numbers_by row gone js) rest)
rise_first row gone b j js false e number rest = rw (first_is row gone j js false e)
    (omega (arith, number), subst (λ n. RisesFrom n (numbers_by row gone js)) (ap (λ n. n + 1) (sym number)) rest)

rise_from : (row : Job → JobRow) (gone : ℕ → Bool) (b : ℕ) (js : List Job) → Named row → AreNumbered b js
    → RisesFrom b (numbers_by row gone js)
rise_from row gone b [] named h = tt
rise_from row gone b (j ∷ js) named h = rise_first row gone b j js (gone j.number) refl (named j ∙ h.0)
    (rise_from row gone (b + 1) js named h.1)

pub rows_rise : (row : Job → JobRow) (gone : ℕ → Bool) (js : List Job) → Named row → AreNumbered 0 js → RowsRise (rows_by row gone js)
rows_rise row gone js named h = rises_strictly 0 (numbers_by row gone js) (rise_from row gone 0 js named h)

-- Looking up

below_first : (row : Job → JobRow) (gone : ℕ → Bool) (j : Job) (js : List Job) (k : ℕ) (o : Option JobRow) (w : Bool) → gone j.number ≡ w
    → eqb (row j).number k ≡ false
    → row_of (rows_by row gone js) k ≡ o → row_of (rows_by row gone (j ∷ js)) k ≡ o
below_first row gone j js k o true e apart rest = rw (first_is row gone j js true e) rest
below_first row gone j js k o false e apart rest = rw (first_is row gone j js false e, apart) rest

row_below : (row : Job → JobRow) (gone : ℕ → Bool) (b : ℕ) (js : List Job) (k : ℕ) → Named row → AreNumbered b js → k < b
    → row_of (rows_by row gone js) k ≡ None
row_below row gone b [] k named h lt = refl
row_below row gone b (j ∷ js) k named h lt =
    below_first row gone j js k None (gone j.number) refl (ne_eqb (row j).number k (λ e. absurd (omega (arith, e, named j, h.0, lt))))
    (row_below row gone (b + 1) js k named h.1 (omega (arith, lt)))

found_first : (row : Job → JobRow) (gone : ℕ → Bool) (j : Job) (js : List Job) (k : ℕ) (w : Bool) → gone k ≡ w → j.number ≡ k
    → (row j).number ≡ k
    → row_of (rows_by row gone js) k ≡ None → row_of (rows_by row gone (j ∷ js)) k ≡ row_in row w (Some j)
found_first row gone j js k true e number named rest = rw (first_is row gone j js true (ap gone number ∙ e)) rest
found_first row gone j js k false e number named rest = rw
    (first_is row gone j js false (ap gone number ∙ e), eq-eqb (row j).number k named) refl

row_from : (row : Job → JobRow) (gone : ℕ → Bool) (b : ℕ) (js : List Job) (i k : ℕ) → Named row → AreNumbered b js → k ≡ b + i
    → row_of (rows_by row gone js) k ≡ row_in row (gone k) (slice_get js i)
row_from row gone b [] i k named h is = refl
row_from row gone b (j ∷ js) zero k named h is =
    let number : j.number ≡ k = omega (arith, h.0, is) in
    found_first row gone j js k (gone k) refl number (named j ∙ number) (row_below row gone (b + 1) js k named h.1 (omega (arith, is)))
row_from row gone b (j ∷ js) (suc i) k named h is =
    below_first row gone j js k (row_in row (gone k) (slice_get js i)) (gone j.number) refl
    (ne_eqb (row j).number k (λ e. absurd (omega (arith, e, named j, h.0, is))))
    (row_from row gone (b + 1) js i k named h.1 (omega (arith, is)))

-- the row of a number: that of the job at this place, unless it was waived
pub row_at : (row : Job → JobRow) (gone : ℕ → Bool) (js : List Job) (k : ℕ) → Named row → AreNumbered 0 js → row_of (rows_by row gone js) k
    ≡ row_in row (gone k) (slice_get js k)
row_at row gone js k named h = row_from row gone 0 js k k named h (omega arith)
