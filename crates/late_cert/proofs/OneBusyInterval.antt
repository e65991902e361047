-- A done job has one busy interval.
use Rattle.std.proofs.Common.{IsSome, is_some, ◌≡◌, ℕ, suc, ◌-◌, ◌<◌, ◌≤◌, true, eqb, List, [], ◌∷◌, Option, Some, arith, refl, sym, ap}
use Rattle.std.proofs.Common.{◌∙◌, subst, inl, inr, eq-eqb, eqb-true}
use Rattle.std.proofs.lemmas.Bool.{false≢true, cases_Bool, cases_order, both_ways, or_left, or_right, or_cases}
use Rattle.std.proofs.lemmas.List.Kept.{AllPairs-from_increasing}
use Rattle.std.proofs.lemmas.Option.{none-some, same_Some}
use Rattle.late_cert.specs.declared.rows.JobRow.{JobRow}
use Rattle.late_cert.specs.declared.certificates.Certificate.{Certificate}
use Rattle.late_cert.specs.declared.verdicts.Verdict.{Verdict}
use Rattle.late_cert.specs.declared.verdicts.Verdict.TheVariants.{Holds}
use Rattle.late_cert.specs.Schedule.{Slots, slot_at}
use Rattle.late_cert.specs.Rows.{RowsRise, is_done, due_of, completion_of}
use Rattle.late_cert.specs.Bound.{is_listed}
use Rattle.late_cert.specs.BusyInterval.{is_within, IsBusyInterval, CarriesLeastKeys, start_of, jobs_of}
use Rattle.late_cert.specs.Check.{verdict_of}
use Rattle.late_cert.specs.Verdict.{is_holds}
use Rattle.late_cert.specs.Build.{busy_interval_of, verdict_on, certificate_of, IsOwn, busy_interval_if_done}
use Rattle.late_cert.proofs.Counting.{Rises, rises-tail, rises-head, above-not-listed, listed-all}
use Rattle.late_cert.proofs.Window.{busy_interval-is}
use Rattle.late_cert.proofs.Least.{busy_interval-certifies}
use Rattle.late_cert.proofs.Faults.{verdict-certifies, certificate-verdict}

-- a listed number is the first one or stands in the rest
pub first-or-rest : (x : ℕ) (xs : List ℕ) (k : ℕ) → is_listed (x ∷ xs) k ≡ true → (k ≡ x → ⊥) → is_listed xs k ≡ true
first-or-rest x xs k l ne =
    elim (or_cases (eqb x k) (is_listed xs k) l) [
      | inl here ↦ absurd (ne (sym (eqb-true x k here)))
      | inr there ↦ there
    ]

pub head-listed : (x : ℕ) (xs : List ℕ) → is_listed (x ∷ xs) x ≡ true
head-listed x xs = or_left (eqb x x) (is_listed xs x) (eq-eqb x x refl)

pub rest-listed : (x : ℕ) (xs : List ℕ) (k : ℕ) → is_listed xs k ≡ true → is_listed (x ∷ xs) k ≡ true
rest-listed x xs k l = or_right (eqb x k) (is_listed xs k) l

-- the least of a rising list is its first
pub first-least : (x : ℕ) (xs : List ℕ) → Rises (x ∷ xs) → (k : ℕ) → is_listed (x ∷ xs) k ≡ true → x ≤ k
first-least x xs r k l =
    elim (or_cases (eqb x k) (is_listed xs k) l) [
      | inl here ↦ let e : x ≡ k = eqb-true x k here in omega arith
      | inr there ↦ let lt : x < k = listed-all (λ y. x < y) xs (rises-head x xs r) k there in omega arith
    ]

-- a rising list is known by its members
pub same-members : (xs ys : List ℕ) → Rises xs → Rises ys
    → ((k : ℕ) → is_listed xs k ≡ true → is_listed ys k ≡ true)
    → ((k : ℕ) → is_listed ys k ≡ true → is_listed xs k ≡ true) → xs ≡ ys
same-members [] [] r s to from = refl
same-members [] (y ∷ ys) r s to from = absurd (false≢true (from y (head-listed y ys)))
same-members (x ∷ xs) [] r s to from = absurd (false≢true (to x (head-listed x xs)))
same-members (x ∷ xs) (y ∷ ys) r s to from =
    let a : y ≤ x = first-least y ys s x (to x (head-listed x xs)) in
    let b : x ≤ y = first-least x xs r y (from y (head-listed y ys)) in
    let e : x ≡ y = omega arith in
    let rest : xs ≡ ys =
    same-members xs ys (rises-tail x xs r) (rises-tail y ys s)
    (λ k l. first-or-rest y ys k (to k (rest-listed x xs k l))
    (λ q. both_ways (is_listed xs x) (above-not-listed x xs (rises-head x xs r)) (ap (is_listed xs) (e ∙ sym q) ∙ l)))
    (λ k l. first-or-rest x xs k (from k (rest-listed y ys k l))
    (λ q. both_ways (is_listed ys y) (above-not-listed y ys (rises-head y ys s)) (ap (is_listed ys) (sym e ∙ sym q) ∙ l))) in
    cc

-- a busy interval has one start
pub start-unique : (rows : List JobRow) (c : Slots) (j n s s' : ℕ) (js js' : List ℕ)
    → IsBusyInterval rows c j s n js → IsBusyInterval rows c j s' n js' → s < s' → ⊥
start-unique rows c j n s s' js js' a b lt =
    let t : ℕ = s' - 1 in
    let is : s' ≡ suc t = omega arith in
    let le : s' ≤ n = b.ordered in
    both_ways (is_within rows j (slot_at c t)) (b.least t is) (a.carries t (omega arith) (omega arith))

pub same-start : (rows : List JobRow) (c : Slots) (j n s s' : ℕ) (js js' : List ℕ)
    → IsBusyInterval rows c j s n js → IsBusyInterval rows c j s' n js' → s ≡ s'
same-start rows c j n s s' js js' a b =
    elim (cases_order s s') [
      | inl e ↦ e
      | inr (inl lt) ↦ absurd (start-unique rows c j n s s' js js' a b lt)
      | inr (inr gt) ↦ absurd (start-unique rows c j n s' s js' js b a gt)
    ]

-- and one list of jobs
pub same-jobs : (rows : List JobRow) (c : Slots) (j n s s' : ℕ) (js js' : List ℕ)
    → IsBusyInterval rows c j s n js → IsBusyInterval rows c j s' n js' → js ≡ js'
same-jobs rows c j n s s' js js' a b =
    let e : s ≡ s' = same-start rows c j n s s' js js' a b in
    same-members js js' (AllPairs-from_increasing js a.rising) (AllPairs-from_increasing js' b.rising)
    (λ k l. let q = (a.listed k).0 l in let q1 : s ≤ q.0 = q.1 in (b.listed k).1 (q.0, omega arith, q.2, q.3))
    (λ k l. let q = (b.listed k).0 l in let q1 : s' ≤ q.0 = q.1 in (a.listed k).1 (q.0, omega arith, q.2, q.3))

-- where the busy interval of a done job holds, it is the job's certificate
pub own-busy_interval : (rows : List JobRow) → RowsRise rows → (c : Slots) (j : ℕ) → is_done rows j ≡ true
    → verdict_on rows (busy_interval_of rows c j) ≡ Holds → IsOwn rows c j (busy_interval_of rows c j)
own-busy_interval rows r c j done h = record {
  done = done;
  job = refl;
  due = refl;
  completion = refl;
  busy_interval = busy_interval-is rows c j (completion_of rows j) r;
  holds = verdict-certifies rows _ _ _ _ h;
}

pub own-built : (rows : List JobRow) → RowsRise rows → (c : Slots) (j : ℕ) (answer : Option Certificate) (built : Certificate)
    (verdict : Verdict)
    → answer ≡ busy_interval_if_done rows c j → answer ≡ Some built → verdict ≡ verdict_on rows built → verdict ≡ Holds
    → IsOwn rows c j built
own-built rows r c j answer built verdict is some checked holds =
    let e : busy_interval_if_done rows c j ≡ Some built = sym is ∙ some in
    let h : verdict_on rows built ≡ Holds = sym checked ∙ holds in
    elim (cases_Bool (is_done rows j)) [
      | inl done ↦
          let same : busy_interval_of rows c j ≡ built = same_Some _ _ (rw done at e) in
          subst (λ (q : Certificate). IsOwn rows c j q) same
          (own-busy_interval rows r c j done (ap (verdict_on rows) same ∙ h))
      | inr open_job ↦ absurd (none-some built (rw open_job at e))
    ]

pub same-verdict : (rows : List JobRow) (s s' d d' n n' : ℕ) (js js' : List ℕ) → s ≡ s' → d ≡ d' → n ≡ n' → js ≡ js'
    → verdict_of rows s d n js ≡ verdict_of rows s' d' n' js'
same-verdict rows s s' d d' n n' js js' a b e f = cc

-- a certificate of the job's busy interval is that busy interval
pub own-verdict : (rows : List JobRow) → RowsRise rows → (c : Slots) (j : ℕ) (q : Certificate) → IsOwn rows c j q
    → verdict_on rows (busy_interval_of rows c j) ≡ Holds
own-verdict rows r c j q own =
    let n : ℕ = completion_of rows j in
    let start : ℕ = start_of rows c j n in
    let jobs : List ℕ = jobs_of rows c start n in
    let theirs : IsBusyInterval rows c j q.start n q.jobs =
    subst (λ (m : ℕ). IsBusyInterval rows c j q.start m q.jobs) own.completion own.busy_interval in
    let ours : IsBusyInterval rows c j start n jobs = busy_interval-is rows c j n r in
    same-verdict rows start q.start (due_of rows j) q.due n q.completion jobs q.jobs
    (same-start rows c j n start q.start jobs q.jobs ours theirs) (sym own.due) (sym own.completion)
    (same-jobs rows c j n start q.start jobs q.jobs ours theirs)
    ∙ certificate-verdict rows q.start q.due q.completion q.jobs own.holds

pub none-built : (rows : List JobRow) → RowsRise rows → (c : Slots) (j : ℕ) (answer : Option Certificate) (built q : Certificate)
    (verdict : Verdict)
    → answer ≡ busy_interval_if_done rows c j → answer ≡ Some built → verdict ≡ verdict_on rows built → (verdict ≡ Holds → ⊥)
    → IsOwn rows c j q → ⊥
none-built rows r c j answer built q verdict is some checked faulty own =
    let e : busy_interval_if_done rows c j ≡ Some built = sym is ∙ some in
    elim (cases_Bool (is_done rows j)) [
      | inl done ↦
          let same : busy_interval_of rows c j ≡ built = same_Some _ _ (rw done at e) in
          faulty (checked ∙ ap (verdict_on rows) (sym same) ∙ own-verdict rows r c j q own)
      | inr open_job ↦ absurd (none-some built (rw open_job at e))
    ]

-- where each slot carried a least key, the busy interval of a done job is its certificate
pub certificate_of-done : (rows : List JobRow) (c : Slots) → CarriesLeastKeys rows c → (j : ℕ) → is_done rows j ≡ true
    → certificate_of rows c j ≡ Some (busy_interval_of rows c j)
certificate_of-done rows c h j done =
    let n : ℕ = completion_of rows j in
    let start : ℕ = start_of rows c j n in
    let jobs : List ℕ = jobs_of rows c start n in
    let holds : verdict_on rows (busy_interval_of rows c j) ≡ Holds =
    certificate-verdict rows start (due_of rows j) n jobs
    (busy_interval-certifies rows c h j done start jobs (busy_interval-is rows c j n h.rising)) in
    rw (done, ap is_holds holds) refl

pub certificate-is-some : (rows : List JobRow) (c : Slots) → CarriesLeastKeys rows c → (j : ℕ) → is_done rows j ≡ true
    → IsSome (certificate_of rows c j)
certificate-is-some rows c h j done = ap is_some (certificate_of-done rows c h j done)
