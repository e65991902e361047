-- What is done has a row that says so, and the worst job has a certificate.
use Rattle.std.proofs.Common.{◌≡◌, ℕ, suc, ◌<◌, Bool, true, false, cond, List, [], ◌∷◌, Option, Some, None, unwrap_or, filter, refl, ap}
use Rattle.std.proofs.Common.{sym, subst, ◌∙◌, arith, slice_get}
use Rattle.std.specs.Prelude.{Contains, IsFalse, ◌↔◌}
use Rattle.std.specs.List.{AllByRecursion, reduce}
use Rattle.std.proofs.lemmas.Bool.{true≢false, ne_eqb, false_from_ne_true}
use Rattle.std.proofs.lemmas.Option.{none-some}
use Rattle.std.proofs.lemmas.List.Elements.{All-contains, All-from_recursion}
use Rattle.slot_types.specs.declared.plans.DiePlan.{DiePlan}
use Rattle.slot_types.specs.declared.events.Event.{Event}
use Rattle.slot_types.specs.declared.events.Event.TheVariants as events
use Rattle.late_cert.specs.declared.rows.JobRow.{JobRow}
use Rattle.late_cert.specs.declared.certificates.Certificate.{Certificate}
use Rattle.late_cert.specs.Schedule.{Slots}
use Rattle.late_cert.specs.Rows.{row_of, is_done_in, number_in, completion_of}
use Rattle.late_cert.specs.Rows.{is_done as is_done_row}
use Rattle.late_cert.specs.BusyInterval.{CarriesLeastKeys, start_of, jobs_of}
use Rattle.late_cert.specs.Build.{busy_interval_of, IsOwn}
use Rattle.late_cert.proofs.Window.{busy_interval-is}
use Rattle.late_cert.proofs.Least.{busy_interval-certifies}
use Rattle.late_cert.proofs.OneBusyInterval.{certificate_of-done}
use Rattle.die_log.specs.Model.Log.{Log, Job, jobs, work, is_waived}
use Rattle.die_log.specs.Model.Work.{are_all, is_done, is_worse, worst, completion}
use Rattle.die_log.specs.Model.Answers.{IsExact, reply_if_accepted, refusals}
use Rattle.die_log.specs.Model.Rows.{row_for, rows, carried_numbers, certificate, certificate_for, IsCertified}
use Rattle.die_log.proofs.Legality.{entry, exact_induction}
use Rattle.die_log.proofs.Known.{all_append}
use Rattle.die_log.proofs.Choices.{OfSome}
use Rattle.die_log.proofs.LogInvariants.OneMoreEntry.{stands_at}
use Rattle.die_log.proofs.Legal.Exact.{stands_well, has_slots}
use Rattle.die_log.proofs.Least.Lookups.{row_in, row_at}
use Rattle.die_log.proofs.Least.Worst.{worst_stands}
use Rattle.die_log.proofs.Least.Exact.{no_operations, least_keys}
use Rattle.die_log.specs.Model.Start.{Start}
use Rattle.die_log.specs.Model.Opening.{IsOpening}

-- What is done was carried

-- not done without an act
abbrev Begins : DiePlan → Job → Type 0
Begins plan j = are_all plan j [] ≡ false

all_begin : (start : Start) → 0 < start.plan.shape.erase_slots → (log : Log) → IsExact start log → AllByRecursion (Begins start.plan) (jobs log)
all_begin start more = exact_induction start (λ log. AllByRecursion (Begins start.plan) (jobs log)) tt step
  where
    step : (past : Log) (caller : ℕ) (event : Event) → IsExact start past → AllByRecursion (Begins start.plan) (jobs past)
        → AllByRecursion (λ c. c.0 ≡ false) (refusals start past event)
        → AllByRecursion (Begins start.plan) (jobs (entry caller event (reply_if_accepted start past event) ∷ past))
    step past caller (events.Submit task release due ops) exact h none = all_append (Begins start.plan) (jobs past) (_ ∷ []) h
        (no_operations ops none.1.0, tt)
    step past caller (events.Collect task release due) exact h none = all_append (Begins start.plan) (jobs past) (_ ∷ []) h
        (ne_eqb 0 start.plan.shape.erase_slots (λ e. absurd (omega (arith, e, more))), tt)
    step past caller events.Slot exact h none = h

-- so what is done was not waived
pub done_unwaived : (start : Start) (log : Log) (j : Job) → IsOpening start → IsExact start log → Contains (jobs log) j → is_done start.plan log j
    ≡ true → is_waived log j.number ≡ false
done_unwaived start log j bound exact stands done = false_from_ne_true (is_waived log j.number) idle
  where
    begins : Begins start.plan j
    begins = All-contains (Begins start.plan) (jobs log) j (All-from_recursion (Begins start.plan) (jobs log)
        (all_begin start (has_slots start.plan bound.bound) log exact)) stands

    idle : is_waived log j.number ≡ true → ⊥
    idle gone = true≢false (sym done ∙ (ap (are_all start.plan j) ((stands_well start bound log exact).1.true_accounts.idle_waived j.number gone)
        ∙ begins))

-- the row of what was not waived
pub row_stands : (start : Start) (log : Log) (j : Job) → IsOpening start → IsExact start log → Contains (jobs log) j
    → is_waived log j.number ≡ false → row_of (rows start.plan log) j.number ≡ Some (row_for start.plan log j)
row_stands start log j bound exact stands unwaived =
    let numbered = (stands_well start bound log exact).0.numbered in
    row_at (row_for start.plan log) (is_waived log) (jobs log) j.number (λ i. refl) numbered
    ∙ (ap (λ (b : Bool). row_in (row_for start.plan log) b (slice_get (jobs log) j.number)) unwaived
    ∙ ap (row_in (row_for start.plan log) false) (stands_at (jobs log) j numbered stands))

-- Certificates

completes : (b : Bool) (n : ℕ) → b ≡ true → unwrap_or (cond b (Some n) None) 0 ≡ n
completes true n e = refl
completes false n e = absurd cc

done_with : (b : Bool) (j : Job) (n w : ℕ) → b ≡ true → is_done_in
    (Some (record { number = j.number; release = j.release; due = j.due; work = w; completion = cond b (Some n) None })) ≡ true
done_with true j n w e = refl
done_with false j n w e = absurd cc

certificate_own : (rows : List JobRow) (carried : Slots) → CarriesLeastKeys rows carried → (k : ℕ) → is_done_row rows k ≡ true
    → IsOwn rows carried k (busy_interval_of rows carried k)
certificate_own rows carried keys k done =
    let busy_interval = busy_interval-is rows carried k (completion_of rows k) keys.rising in record {
      done = done;
      job = refl;
      due = refl;
      completion = refl;
      busy_interval = busy_interval;
      holds = busy_interval-certifies rows carried keys k done (start_of rows carried k (completion_of rows k))
          (jobs_of rows carried (start_of rows carried k (completion_of rows k)) (completion_of rows k)) busy_interval;
    }

-- what is done has a certificate
pub done_certified : (start : Start) (log : Log) (j : Job) → IsOpening start → IsExact start log → Contains (jobs log) j
    → is_done start.plan log j ≡ true
    → (c : Certificate) × (certificate_for start.plan log (Some j) ≡ Some c) × IsCertified start.plan log j c
done_certified start log j bound exact stands done =
    let keys = least_keys start bound log exact in
    let row = row_stands start log j bound exact stands (done_unwaived start log j bound exact stands done) in
    let done_row = ap is_done_in row ∙ done_with (is_done start.plan log j) j (completion j.number log) (work j.number log) done in
    let is = certificate_of-done (rows start.plan log) (carried_numbers log) keys j.number done_row in (
      busy_interval_of (rows start.plan log) (carried_numbers log) j.number,
      is,
      record {
        own = certificate_own (rows start.plan log) (carried_numbers log) keys j.number done_row;
        due = ap (number_in (λ r. r.due)) row;
        completion = ap (number_in (λ r. unwrap_or r.completion 0)) row ∙ completes (is_done start.plan log j) (completion j.number log) done;
      },
    )

-- The worst job

pub worst_certified : (start : Start) (log : Log) (j : Job) → IsOpening start → IsExact start log → worst start.plan log ≡ Some j
    → (c : Certificate) × (certificate start.plan log ≡ Some c) × IsCertified start.plan log j c
worst_certified start log j bound exact is =
    let w = subst (OfSome (λ i. Contains (jobs log) i × (is_done start.plan log i ≡ true))) is (worst_stands start.plan log) in
    let c = done_certified start log j bound exact w.0 w.1 in
    (c.0, ap (certificate_for start.plan log) is ∙ c.1, c.2)

-- where nothing is done there is no worst job
none_passes : {X : Type 0} (t : X → Bool) (xs : List X) → AllByRecursion (λ x. t x ≡ false) xs → filter t xs ≡ []
none_passes t [] h = refl
none_passes t (x ∷ xs) h = rw h.0 (none_passes t xs h.1)

nobody_passes : {X : Type 0} (t : X → Bool) (xs : List X) → filter t xs ≡ [] → AllByRecursion (λ x. t x ≡ false) xs
nobody_passes t [] e = tt
nobody_passes {X = X} t (x ∷ xs) e = by_test (t x) refl e (nobody_passes t xs)
  where
    by_test : (b : Bool) → t x ≡ b → cond b (x ∷ filter t xs) (filter t xs) ≡ [] → (filter t xs ≡ [] → AllByRecursion (λ y. t y ≡ false) xs)
        → AllByRecursion (λ y. t y ≡ false) (x ∷ xs)
    by_test true is none rest = absurd cc
    by_test false is none rest = (is, rest none)

none_best : (better : Job → Job → Bool) (xs : List Job) → reduce (λ best x. cond (better x best) x best) xs ≡ None → xs ≡ []
none_best better [] e = refl
none_best better (x ∷ xs) e = absurd cc

pub no_worst : (plan : DiePlan) (log : Log) → worst plan log ≡ None → (j : Job) → Contains (jobs log) j → is_done plan log j ≡ false
no_worst plan log none =
    let all = nobody_passes (is_done plan log) (jobs log) (none_best (is_worse log) (filter (is_done plan log) (jobs log)) none) in
    λ j stands. All-contains (λ i. is_done plan log i ≡ false) (jobs log) j
    (All-from_recursion (λ i. is_done plan log i ≡ false) (jobs log) all) stands

contained_all : {X : Type 0} (P : X → Type 0) (xs : List X) → ((x : X) → Contains xs x → P x) → AllByRecursion P xs
contained_all P [] h = tt
contained_all P (x ∷ xs) h = (h x (0, omega arith, refl), contained_all P xs (λ y k. h y (suc k.0, omega (arith, k.1), k.2)))

pub nothing_done : (plan : DiePlan) (log : Log) → ((j : Job) → Contains (jobs log) j → is_done plan log j ≡ false) → worst plan log ≡ None
nothing_done plan log h =
    let all = contained_all (λ i. is_done plan log i ≡ false) (jobs log) h in
    ap (reduce (λ best x. cond (is_worse log x best) x best)) (none_passes (is_done plan log) (jobs log) all)

none_certified : (start : Start) (log : Log) (o : Option Job) → IsOpening start → IsExact start log → worst start.plan log ≡ o
    → certificate_for start.plan log o ≡ None → worst start.plan log ≡ None
none_certified start log None bound exact is e = is
none_certified start log (Some j) bound exact is e =
    let w = subst (OfSome (λ i. Contains (jobs log) i × (is_done start.plan log i ≡ true))) is (worst_stands start.plan log) in
    let c = done_certified start log j bound exact w.0 w.1 in
    absurd (none-some c.0 (sym e ∙ c.1))

pub none_is : (start : Start) (log : Log) → IsOpening start → IsExact start log → (certificate start.plan log ≡ None)
    ↔ ((j : Job) → Contains (jobs log) j → IsFalse (is_done start.plan log j))
none_is start log bound exact = (
  λ e. no_worst start.plan log (none_certified start log (worst start.plan log) bound exact refl e),
  λ h. ap (certificate_for start.plan log) (nothing_done start.plan log h),
)
