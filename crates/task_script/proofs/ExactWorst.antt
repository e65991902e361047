-- The worst of a report's rows is the worst of its log, and has the log's certificate.
use Rattle.std.proofs.Common.{◌≡◌, ℕ, suc, ◌+◌, ◌<◌, ◌≤◌, ◌==◌, ◌^◌, ◌&&◌, ◌||◌, not, nat_lt, Bool, true, false, cond, List, [], ◌∷◌}
use Rattle.std.proofs.Common.{Option, Some, None, option_map, is_some, refl, ap, sym, ◌∙◌, subst, map, filter, fold, length, slice_get}
use Rattle.std.proofs.Common.{arith, ℤ, pos, ◌-ℤ◌}
use Rattle.std.specs.Prelude.{Contains, int_lt}
use Rattle.std.specs.List.{AllByRecursion, reduce}
use Rattle.std.proofs.lemmas.Bool.{true≢false, false_from_ne_true, eq-eqb}
use Rattle.std.proofs.lemmas.Bool.Decides.{nat_tests}
use Rattle.std.proofs.lemmas.Option.{slice_get_within}
use Rattle.std.proofs.lemmas.List.Elements.{All-from_recursion}
use Rattle.slot_types.specs.declared.plans.DiePlan.{DiePlan}
use Rattle.slot_types.specs.declared.pages.PageData.{PageData}
use Rattle.slot_types.specs.declared.replies.Waived.{Waived}
use Rattle.plan_rules.specs.Bound.{MeetsBound}
use Rattle.late_cert.specs.declared.certificates.Certificate.{Certificate}
use Rattle.late_cert.specs.Bound.{is_listed}
use Rattle.late_cert.specs.Rows.{is_done_in}
use Rattle.late_cert.specs.Rows.{is_done as is_done_row}
use Rattle.die_log.specs.Model.Log.{Log, Job, jobs, acts, waived_collections, work, is_waived}
use Rattle.die_log.specs.Model.Work.{is_done, is_worse, completion, lateness_of, worst}
use Rattle.die_log.specs.Model.Answers.{IsExact}
use Rattle.die_log.specs.Model.Rows.{rows, row_for, certificate, certificate_for, IsCertified}
use Rattle.die_log.specs.Invariants.RunningCollections.{AreNumbered}
use Rattle.die_log.proofs.Legal.Exact.{stands_well}
use Rattle.die_log.proofs.Limits.{keeps_limits}
use Rattle.die_log.proofs.Least.Certificates.{worst_certified}
use Rattle.die_log.proofs.Least.Lookups.{row_in, row_at}
use Rattle.die_log.proofs.Least.Worst.{worst_is}
use Rattle.die_log.proofs.LogInvariants.OneMoreEntry.{stands_at}
use Rattle.slot_types.specs.declared.events.JobHead.{JobHead}
use Rattle.slot_core.specs.Outcomes.{outcome_by, head_of}
use Rattle.slot_core.specs.Records.{waiver_among, pages_given, reads_of}
use Rattle.slot_core.proofs.Worsts.{waiver_stands}
use Rattle.report_texts.specs.WellFormed.{HasCert, IsCert}
use Rattle.report_texts.specs.Worst.{finish_of, worse_finish, worst_from, worst_of}
use Rattle.report_texts.specs.Worst as report
use Rattle.report_texts.specs.declared.report_certs.Finish.{Finish}
use Rattle.task_script.specs.DieReports.{report_row_of, report_rows_of, row_by}
use Rattle.task_script.proofs.ExactNumbers.{completed_by_now, done_worked}
use Rattle.die_log.specs.Model.Start.{fresh}
use Rattle.die_log.proofs.Openings.{fresh_opens}

-- What is done

numbered : (plan : DiePlan) (log : Log) → MeetsBound plan → IsExact (fresh plan) log → AreNumbered 0 (jobs log)
numbered plan log bound exact = (stands_well (fresh plan) (fresh_opens plan bound) log exact).0.numbered

-- what is done was not waived
pub done_unwaived : (plan : DiePlan) (log : Log) (j : Job) → MeetsBound plan → IsExact (fresh plan) log → Contains (jobs log) j → is_done plan log j
    ≡ true → is_waived log j.number ≡ false
done_unwaived plan log j bound exact stands done = false_from_ne_true (is_waived log j.number) idle
  where
    idle : is_waived log j.number ≡ true → ⊥
    idle gone = omega (
      arith,
      done_worked plan log j bound exact stands done,
      ap length
          ((stands_well (fresh plan) (fresh_opens plan bound) log exact).1.true_accounts.idle_waived j.number gone),
    )

abbrev finish_in : Log → Job → Finish
finish_in log j = record { job = j.number; due = j.due; completion = completion j.number log }

finish_by : (n took : ℕ) (h : JobHead) (o : Option Waived) (done : Bool) (c : ℕ) (l : ℤ) (g : ℕ) (rs : List PageData)
    → (done ≡ true → is_some o ≡ false)
    → finish_of (row_by n h took (outcome_by o done c l g rs)) ≡ cond done (Some (record { job = n; due = h.due; completion = c })) None
finish_by n took h (Some w) true c l g rs apart = absurd (true≢false (apart refl))
finish_by n took h (Some w) false c l g rs apart = refl
finish_by n took h None true c l g rs apart = refl
finish_by n took h None false c l g rs apart = refl

abbrev IsUnwaived : DiePlan → Log → Job → Type 0
IsUnwaived plan log j = is_done plan log j ≡ true → is_waived log j.number ≡ false

finish_is : (plan : DiePlan) (log : Log) (j : Job) → IsUnwaived plan log j → finish_of (report_row_of (fresh plan) log j)
    ≡ cond (is_done plan log j) (Some (finish_in log j)) None
finish_is plan log j apart =
    finish_by j.number (work j.number log) (head_of j) (waiver_among j.number (waived_collections log)) (is_done plan log j) (completion j.number log)
    (lateness_of log j) (pages_given (fresh plan) j.number log) (reads_of (acts j.number log))
    (λ done. waiver_stands j.number (waived_collections log) ∙ apart done)

-- The worse of two

abbrev worse_in : ℕ → ℕ → ℕ → ℕ → Bool
worse_in c d c' d' = int_lt (pos c' -ℤ pos d') (pos c -ℤ pos d) || (not (int_lt (pos c -ℤ pos d) (pos c' -ℤ pos d')) && nat_lt c c')

abbrev worse_by : ℕ → ℕ → ℕ → ℕ → ℕ → ℕ → Bool
worse_by c d n c' d' n' =
    int_lt (pos c' -ℤ pos d') (pos c -ℤ pos d) || (not (int_lt (pos c -ℤ pos d) (pos c' -ℤ pos d'))
    && (nat_lt c c' || ((c == c') && nat_lt n n')))

-- the greater number is never worse for its number
later_worse : (c d n c' d' n' : ℕ) → n' < n → worse_by c d n c' d' n' ≡ worse_in c d c' d'
later_worse c d n c' d' n' h = rw (no_less n n' h) (same (int_lt (pos c' -ℤ pos d') (pos c -ℤ pos d))
    (int_lt (pos c -ℤ pos d) (pos c' -ℤ pos d')) (nat_lt c c') (c == c'))
  where
    no_less : (m k : ℕ) → k < m → nat_lt m k ≡ false
    no_less m k lt = grind (arith, nat_tests)

    same : (x y z w : Bool) → (x || (not y && (z || (w && false)))) ≡ (x || (not y && z))
    same true y z w = refl
    same false true z w = refl
    same false false true w = refl
    same false false false true = refl
    same false false false false = refl

one_worse : (log : Log) (j best : Job) → best.number < j.number → report.is_worse (finish_in log j) (finish_in log best)
    ≡ is_worse log j best
one_worse log j best h = sym (later_worse (completion j.number log) j.due j.number (completion best.number log) best.due best.number h)

-- The worst of all

abbrev worse_of : Log → Job → Job → Job
worse_of log best j = cond (is_worse log j best) j best

abbrev finish_of_done : Log → Job → Bool → Option Finish
finish_of_done log j done = cond done (Some (finish_in log j)) None

-- from a job on whose number is smaller than those of the others
worst_on : (plan : DiePlan) (log : Log) (k : ℕ) (js : List Job) (best : Job) → AreNumbered k js → best.number < k
    → AllByRecursion (IsUnwaived plan log) js
    → worst_from (Some (finish_in log best)) (map (report_row_of (fresh plan) log) js)
    ≡ Some (finish_in log (fold (worse_of log) best (filter (is_done plan log) js)))
worst_on plan log k [] best n lt h = refl
worst_on plan log k (j ∷ js) best n lt h =
    ap (λ (o : Option Finish). worst_from (worse_finish (Some (finish_in log best)) o) (map (report_row_of (fresh plan) log) js))
    (finish_is plan log j h.0)
    ∙ by_done (is_done plan log j) (λ b below. worst_on plan log (k + 1) js b n.1 below h.1)
  where
    IsWorstOn : Job → List Job → Type 0
    IsWorstOn b rest = worst_from (Some (finish_in log b)) (map (report_row_of (fresh plan) log) js)
        ≡ Some (finish_in log (fold (worse_of log) b rest))

    by_worse : (b : Bool) → ((i : Job) → i.number < k + 1 → IsWorstOn i (filter (is_done plan log) js))
        → worst_from (Some (cond b (finish_in log j) (finish_in log best))) (map (report_row_of (fresh plan) log) js)
        ≡ Some (finish_in log (fold (worse_of log) (cond b j best) (filter (is_done plan log) js)))
    by_worse true again = again j (omega (arith, n.0))
    by_worse false again = again best (omega (arith, lt))

    by_done : (b : Bool) → ((i : Job) → i.number < k + 1 → IsWorstOn i (filter (is_done plan log) js))
        → worst_from (worse_finish (Some (finish_in log best)) (finish_of_done log j b)) (map (report_row_of (fresh plan) log) js)
        ≡ Some (finish_in log (fold (worse_of log) best (cond b (j ∷ filter (is_done plan log) js) (filter (is_done plan log) js))))
    by_done false again = again best (omega (arith, lt))
    by_done true again =
        ap (λ (t : Bool). worst_from (Some (cond t (finish_in log j) (finish_in log best))) (map (report_row_of (fresh plan) log) js))
        (one_worse log j best (omega (arith, lt, n.0)))
        ∙ by_worse (is_worse log j best) again

worst_new : (plan : DiePlan) (log : Log) (k : ℕ) (js : List Job) → AreNumbered k js → AllByRecursion (IsUnwaived plan log) js
    → worst_of (map (report_row_of (fresh plan) log) js) ≡ option_map (finish_in log) (reduce (worse_of log) (filter (is_done plan log) js))
worst_new plan log k [] n h = refl
worst_new plan log k (j ∷ js) n h =
    ap (λ (o : Option Finish). worst_from (worse_finish None o) (map (report_row_of (fresh plan) log) js)) (finish_is plan log j h.0)
    ∙ by_done (is_done plan log j) (worst_new plan log (k + 1) js n.1 h.1)
  where
    by_done : (b : Bool) → worst_of (map (report_row_of (fresh plan) log) js)
        ≡ option_map (finish_in log) (reduce (worse_of log) (filter (is_done plan log) js))
        → worst_from (worse_finish None (finish_of_done log j b)) (map (report_row_of (fresh plan) log) js)
        ≡ option_map (finish_in log) (reduce (worse_of log) (cond b (j ∷ filter (is_done plan log) js) (filter (is_done plan log) js)))
    by_done false again = again
    by_done true again = worst_on plan log (k + 1) js j n.1 (omega (arith, n.0)) h.1

pub contained_all : {X : Type 0} (P : X → Type 0) (xs : List X) → ((x : X) → Contains xs x → P x) → AllByRecursion P xs
contained_all P [] h = tt
contained_all P (x ∷ xs) h = (h x (0, omega arith, refl), contained_all P xs (λ y k. h y (suc k.0, omega (arith, k.1), k.2)))

worst_rows : (plan : DiePlan) (log : Log) → MeetsBound plan → IsExact (fresh plan) log → worst_of (report_rows_of (fresh plan) log)
    ≡ option_map (finish_in log) (worst plan log)
worst_rows plan log bound exact =
    worst_new plan log 0 (jobs log) (numbered plan log bound exact)
    (contained_all (IsUnwaived plan log) (jobs log) (λ j stands done. done_unwaived plan log j bound exact stands done))

-- Certificates

either : (b c : Bool) → c ≡ true → (b || c) ≡ true
either true c e = refl
either false c e = e

listed_all : (P : ℕ → Type 0) (xs : List ℕ) → ((k : ℕ) → is_listed xs k ≡ true → P k) → AllByRecursion P xs
listed_all P [] h = tt
listed_all P (x ∷ xs) h = (
  h x (ap (λ (b : Bool). b || is_listed xs x) (eq-eqb x x refl)),
  listed_all P xs
      (λ k e. h k (either (x == k) (is_listed xs k) e)),
)

pub number_small : (plan : DiePlan) (log : Log) (j : Job) → MeetsBound plan → IsExact (fresh plan) log → Contains (jobs log) j → j.number < 65536
number_small plan log j bound exact stands =
    omega (
      arith,
      slice_get_within (jobs log) j.number j (stands_at (jobs log) j (numbered plan log bound exact) stands),
      (keeps_limits (fresh plan) log exact).few_jobs,
    )

done_number : (plan : DiePlan) (log : Log) (k : ℕ) → MeetsBound plan → IsExact (fresh plan) log → is_done_row (rows plan log) k ≡ true → k < 2 ^ 32
done_number plan log k bound exact done =
    by_job (slice_get (jobs log) k) refl (sym (ap is_done_in
    (row_at (row_for plan log) (is_waived log) (jobs log) k (λ i. refl) (numbered plan log bound exact))) ∙ done)
  where
    by_job : (o : Option Job) → slice_get (jobs log) k ≡ o → is_done_in (row_in (row_for plan log) (is_waived log k) o) ≡ true → k < 2 ^ 32
    by_job None at e = absurd (true≢false (sym e))
    by_job (Some j) at e = omega (arith, slice_get_within (jobs log) k j at, (keeps_limits (fresh plan) log exact).few_jobs)

cert_of_worst : (plan : DiePlan) (log : Log) (j : Job) (c : Certificate) → MeetsBound plan → IsExact (fresh plan) log → worst plan log ≡ Some j
    → IsCertified plan log j c → IsCert (finish_in log j) c
cert_of_worst plan log j c bound exact is k =
    let stands : Contains (jobs log) j = (worst_is plan log j is).stands in
    let limits = keeps_limits (fresh plan) log exact in
    let number = number_small plan log j bound exact stands in
    let few : c.completion ≤ 1048576 = omega (arith, k.completion, completed_by_now j.number log, limits.slots) in
    record {
      worst = ap (λ (n : ℕ). record { job = n; due = j.due; completion = completion j.number log }) (sym k.own.job)
          ∙ (ap (λ (d : ℕ). record { job = c.job; due = d; completion = completion j.number log }) (sym k.due)
          ∙ ap (λ (n : ℕ). record { job = c.job; due = c.due; completion = n }) (sym k.completion));
      job = omega (arith, k.own.job, number);
      due = omega (arith, k.due, (limits.each j stands).due);
      completion = omega (arith, few);
      start = omega (arith, few, k.own.busy_interval.ordered);
      jobs = All-from_recursion (λ n. n < 2 ^ 32) c.jobs
          (listed_all (λ n. n < 2 ^ 32) c.jobs (λ n listed. done_number plan log n bound exact (k.own.holds.each n listed).done));
    }

pub has_cert : (plan : DiePlan) (log : Log) → MeetsBound plan → IsExact (fresh plan) log
    → HasCert (worst_of (report_rows_of (fresh plan) log)) (certificate plan log)
has_cert plan log bound exact = subst (λ (o : Option Finish). HasCert o (certificate plan log)) (sym (worst_rows plan log bound exact))
    (by_worst (worst plan log) refl)
  where
    by_worst : (o : Option Job) → worst plan log ≡ o → HasCert (option_map (finish_in log) o) (certificate_for plan log o)
    by_worst None is = tt
    by_worst (Some j) is =
        let c = worst_certified (fresh plan) log j (fresh_opens plan bound) exact is in
        let made : certificate_for plan log (Some j) ≡ Some c.0 = sym (ap (certificate_for plan log) is) ∙ c.1 in
        subst (λ (o : Option Certificate). HasCert (Some (finish_in log j)) o) (sym made) (cert_of_worst plan log j c.0 bound exact is c.2)
