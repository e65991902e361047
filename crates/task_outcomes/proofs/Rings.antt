-- What lies in memory is the list of outcomes.
use Rattle.std.proofs.Common.{◌≡◌, ◌≢◌, ℕ, suc, ◌≤◌, ◌<◌, List, [], ◌∷◌, ◌++◌, length, take, drop, get_or, slice_get, sum_by, IsSomeAnd, refl, ap, sym, ◌∙◌, arith}
use Rattle.std.proofs.lemmas.List.{length-take-le, length-drop, take_all, take-append-le, drop-append-le}
use Rattle.std.proofs.lemmas.List.Sums.{sum_by-cons}
use Rattle.slot_types.specs.declared.pages.PageData.{PageData}
use Rattle.task_outcomes.specs.declared.task_outcome.TaskOutcome.{TaskOutcome}
use Rattle.task_outcomes.specs.declared.done_job.DoneJob.{DoneJob}
use Rattle.task_outcomes.specs.Queues.{pages_in}
use Rattle.task_outcomes.specs.Rings.{with_reads, outcomes_in}

abbrev given : List DoneJob → ℕ
given js = sum_by (λ j. j.reads) js

-- one outcome for each job
pub count_is : (js : List DoneJob) (ps : List PageData) → length (outcomes_in js ps) ≡ length js
count_is [] ps = refl
count_is (j ∷ js) ps = ap (λ n. suc n) (count_is js (drop j.reads ps))

-- the pages of the first job's reads are there, and then those of the others
pub rest_given : (j : DoneJob) (js : List DoneJob) (ps : List PageData) → length ps ≡ given (j ∷ js)
    → (j.reads ≤ length ps) × (length (drop j.reads ps) ≡ given js)
rest_given j js ps e = (
  omega (arith, e, sum_by-cons (λ (i : DoneJob). i.reads) j js),
  omega (arith, e, sum_by-cons (λ (i : DoneJob). i.reads) j js, length-drop j.reads ps),
)

-- all pages are those of some read
pub pages_are : (js : List DoneJob) (ps : List PageData) → length ps ≡ given js → pages_in (outcomes_in js ps) ≡ length ps
pages_are [] ps e = sym e
pages_are (j ∷ js) ps e =
    let r = rest_given j js ps e in
    let later = pages_are js (drop j.reads ps) r.1 in
    omega (
      arith,
      sum_by-cons (λ (o : TaskOutcome). length o.reads) (with_reads j (take j.reads ps)) (outcomes_in js (drop j.reads ps)),
      length-take-le j.reads ps r.0,
      later,
      length-drop j.reads ps,
      r.0,
    )

-- a job more, with its pages
pub added : (js : List DoneJob) (ps : List PageData) (j : DoneJob) (reads : List PageData) → length ps ≡ given js → j.reads ≡ length reads
    → outcomes_in (js ++ j ∷ []) (ps ++ reads) ≡ outcomes_in js ps ++ with_reads j reads ∷ []
added [] [] j reads e is = ap (λ (rs : List PageData). with_reads j rs ∷ []) (take_all j.reads reads (omega (arith, is)))
added [] (p ∷ ps) j reads e is = absurd (omega (arith, e))
added (i ∷ js) ps j reads e is =
    let r = rest_given i js ps e in
    (λ t. with_reads i (take-append-le i.reads ps reads r.0 t) ∷ outcomes_in (js ++ j ∷ []) (drop-append-le i.reads ps reads r.0 t))
    ∙ ap (λ (os : List TaskOutcome). with_reads i (take i.reads ps) ∷ os) (added js (drop i.reads ps) j reads r.1 is)

-- where the first job has a page, its reads gave something
pub first_gave : (js : List DoneJob) (ps : List PageData) (d : DoneJob) → length ps ≡ given js → 0 < length js → (get_or js 0 d).reads ≢ 0
    → IsSomeAnd (slice_get (outcomes_in js ps) 0) (λ o. o.reads ≢ [])
first_gave [] ps d e some gave = absurd (omega (arith, some))
first_gave (j ∷ js) ps d e some gave = λ empty.
    let r = rest_given j js ps e in
    absurd (gave (sym (length-take-le j.reads ps r.0) ∙ ap (λ (l : List PageData). length l) empty))
