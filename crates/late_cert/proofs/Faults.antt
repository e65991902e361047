-- The verdict is that a certificate holds just where it is one.
use Rattle.std.proofs.Common.{◌≡◌, ℕ, ◌+◌, ◌<◌, ◌≤◌, Bool, true, false, eqb, ltb, ◌||◌, List, [], ◌∷◌, Option, Some, None, is_none, is_some}
use Rattle.std.proofs.Common.{sum_by, arith, refl, sym, ap, subst, inl, inr, eq-eqb, eqb-true, ne_eqb, le-ltb, ltb-false}
use Rattle.std.proofs.lemmas.Bool.{true≢false, or_left, or_right, or_cases, or_parts, or_from, cases_Bool, eqb-false}
use Rattle.std.proofs.lemmas.Option.{none-some}
use Rattle.late_cert.specs.declared.rows.JobRow.{JobRow}
use Rattle.late_cert.specs.declared.verdicts.Verdict.{Verdict}
use Rattle.late_cert.specs.declared.verdicts.Verdict.TheVariants.{Holds, UnknownJob, Unfinished, EarlyRelease, LateDue}
use Rattle.late_cert.specs.Rows.{row_of, number_in, is_done_in, work_of}
use Rattle.late_cert.specs.Bound.{is_listed, IsCertificate}
use Rattle.late_cert.specs.Check.{is_rising, fault_of, or_else, first_fault, last_verdict, verdict_of}
use Rattle.late_cert.proofs.RowSearch.{true-rising, rising-true}

-- what a row without a fault says
pub record IsFaultless (start due : ℕ) (o : Option JobRow) : Type 0 where
  pub done : is_done_in o ≡ true
  pub works : 0 < number_in (λ row. row.work) o
  pub released : start ≤ number_in (λ row. row.release) o
  pub due_by : number_in (λ row. row.due) o ≤ due

pub some-is : (o : Option ℕ) → is_none o ≡ false → is_some o ≡ true
some-is None h = absurd (true≢false h)
some-is (Some x) h = refl

pub none-is : (o : Option ℕ) → is_some o ≡ true → is_none o ≡ false
none-is None h = absurd (true≢false (sym h))
none-is (Some x) h = refl

pub row-faultless : (start due : ℕ) (row : JobRow) → fault_of start due (Some row) ≡ None → IsFaultless start due (Some row)
row-faultless start due row h =
    elim (cases_Bool (is_none row.completion || eqb row.work 0)) [
      | inl open_or_idle ↦ absurd (none-some Unfinished (sym (rw open_or_idle at h)))
      | inr ran ↦
          let p = or_parts (is_none row.completion) (eqb row.work 0) ran in
          let h1 = (rw ran at h) in
          elim (cases_Bool (ltb row.release start)) [
            | inl early ↦ absurd (none-some EarlyRelease (sym (rw early at h1)))
            | inr in_time ↦
                let h2 = (rw in_time at h1) in
                elim (cases_Bool (ltb due row.due)) [
                  | inl late ↦ absurd (none-some LateDue (sym (rw late at h2)))
                  | inr by_then ↦
                      let w : row.work ≡ 0 → ⊥ = eqb-false row.work 0 p.1 in
                      record {
                        done = some-is row.completion p.0;
                        works = omega arith;
                        released = ltb-false row.release start in_time;
                        due_by = ltb-false due row.due by_then;
                      }
                ]
          ]
    ]

pub faultless : (start due : ℕ) (o : Option JobRow) → fault_of start due o ≡ None → IsFaultless start due o
faultless start due None h = absurd (none-some UnknownJob (sym h))
faultless start due (Some row) h = row-faultless start due row h

pub no-fault : (start due : ℕ) (o : Option JobRow) → IsFaultless start due o → fault_of start due o ≡ None
no-fault start due None h = absurd (true≢false (sym h.done))
no-fault start due (Some row) h =
    let w : 0 < row.work = h.works in
    let ran : (is_none row.completion || eqb row.work 0) ≡ false =
    or_from (is_none row.completion) (eqb row.work 0) (none-is row.completion h.done) (ne_eqb row.work 0 (λ e. absurd (omega arith))) in
    rw (ran, le-ltb row.release start h.released, le-ltb due row.due h.due_by) refl

-- no row has the fault that it holds
pub never-holds : (start due : ℕ) (o : Option JobRow) → fault_of start due o ≡ Some Holds → ⊥
never-holds start due None h = cc
never-holds start due (Some row) h =
    elim (cases_Bool (is_none row.completion || eqb row.work 0)) [
      | inl a ↦ let h1 = (rw a at h) in cc
      | inr a ↦
          let h1 = (rw a at h) in
          elim (cases_Bool (ltb row.release start)) [
            | inl b ↦ let h2 = (rw b at h1) in cc
            | inr b ↦
                let h2 = (rw b at h1) in
                elim (cases_Bool (ltb due row.due)) [
                  | inl d ↦ let h3 = (rw d at h2) in cc
                  | inr d ↦ let h3 = (rw d at h2) in cc
                ]
          ]
    ]

pub else-none : (o o' : Option Verdict) → or_else o o' ≡ None → (o ≡ None) × (o' ≡ None)
else-none None o' h = (refl, h)
else-none (Some v) o' h = absurd (none-some v (sym h))

pub else-some : (o o' : Option Verdict) → (o ≡ Some Holds → ⊥) → (o' ≡ Some Holds → ⊥) → or_else o o' ≡ Some Holds → ⊥
else-some None o' p q h = q h
else-some (Some v) o' p q h = p h

pub first-never-holds : (rows : List JobRow) (start due : ℕ) (js : List ℕ) → first_fault rows start due js ≡ Some Holds → ⊥
first-never-holds rows start due [] h = none-some Holds h
first-never-holds rows start due (j ∷ js) h =
    else-some (fault_of start due (row_of rows j)) (first_fault rows start due js)
    (never-holds start due (row_of rows j)) (first-never-holds rows start due js) h

pub first-faultless : (rows : List JobRow) (start due : ℕ) (js : List ℕ) → first_fault rows start due js ≡ None
    → (j : ℕ) → is_listed js j ≡ true → IsFaultless start due (row_of rows j)
first-faultless rows start due [] h j l = absurd (true≢false (sym l))
first-faultless rows start due (k ∷ js) h j l =
    let p = else-none (fault_of start due (row_of rows k)) (first_fault rows start due js) h in
    elim (or_cases (eqb k j) (is_listed js j) l) [
      | inl here ↦
          let P : ℕ → Type 0 = λ n. IsFaultless start due (row_of rows n) in
          subst P (eqb-true k j here) (faultless start due (row_of rows k) p.0)
      | inr there ↦ first-faultless rows start due js p.1 j there
    ]

pub no-first-fault : (rows : List JobRow) (start due : ℕ) (js : List ℕ)
    → ((j : ℕ) → is_listed js j ≡ true → IsFaultless start due (row_of rows j)) → first_fault rows start due js ≡ None
no-first-fault rows start due [] h = refl
no-first-fault rows start due (j ∷ js) h =
    rw (no-fault start due (row_of rows j) (h j (or_left (eqb j j) (is_listed js j) (eq-eqb j j refl))))
    (no-first-fault rows start due js (λ k l. h k (or_right (eqb j k) (is_listed js k) l)))

pub last-holds : (o : Option Verdict) (fits : Bool) → (o ≡ Some Holds → ⊥) → last_verdict o fits ≡ Holds → (o ≡ None) × (fits ≡ true)
last-holds None true never h = (refl, refl)
last-holds None false never h = absurd cc
last-holds (Some v) fits never h = absurd (never (ap Some h))

pub verdict-certifies : (rows : List JobRow) (start due completion : ℕ) (jobs : List ℕ)
    → verdict_of rows start due completion jobs ≡ Holds → IsCertificate rows start due completion jobs
verdict-certifies rows start due completion [] h = absurd cc
verdict-certifies rows start due completion (j ∷ js) h =
    elim (cases_Bool (is_rising (j ∷ js))) [
      | inl rises ↦
          let h1 = (rw rises at h) in
          let p = last-holds (first_fault rows start due (j ∷ js)) (eqb (sum_by (work_of rows) (j ∷ js) + start) completion)
          (first-never-holds rows start due (j ∷ js)) h1 in
          record {
            filled = omega arith;
            rising = true-rising (j ∷ js) rises;
            each = λ k l.
                let f = first-faultless rows start due (j ∷ js) p.0 k l in
                record { done = f.done; works = f.works; released = f.released; due_by = f.due_by };
            sum = eqb-true (sum_by (work_of rows) (j ∷ js) + start) completion p.1;
          }
      | inr falls ↦ let h1 = (rw falls at h) in absurd cc
    ]

pub certificate-verdict : (rows : List JobRow) (start due completion : ℕ) (jobs : List ℕ)
    → IsCertificate rows start due completion jobs → verdict_of rows start due completion jobs ≡ Holds
certificate-verdict rows start due completion [] c = absurd (let h = c.filled in omega arith)
certificate-verdict rows start due completion (j ∷ js) c =
    let rises : is_rising (j ∷ js) ≡ true = rising-true (j ∷ js) c.rising in
    let none : first_fault rows start due (j ∷ js) ≡ None =
    no-first-fault rows start due (j ∷ js) (λ k l.
    let e = c.each k l in
    record { done = e.done; works = e.works; released = e.released; due_by = e.due_by }) in
    let fits : eqb (sum_by (work_of rows) (j ∷ js) + start) completion
    ≡ true = eq-eqb (sum_by (work_of rows) (j ∷ js) + start) completion c.sum in
    rw (rises, none, fits) refl
