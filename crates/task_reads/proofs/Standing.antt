-- Each read of a page of its own gives what the task itself left on it; and so does what stands once all is done.
use Rattle.std.proofs.Common.{◌≡◌, ℕ, zero, suc, ◌<◌, Bool, true, false, cond, List, [], ◌∷◌, ◌++◌, length, Some}
use Rattle.std.proofs.Common.{refl, ap, sym, ◌∙◌, inl, inr, arith, slice_get, filter, take}
use Rattle.std.specs.Prelude.{Contains}
use Rattle.std.specs.List.{AllByRecursion, flat_map}
use Rattle.std.proofs.lemmas.List.{take-append-le}
use Rattle.std.proofs.lemmas.Option.{none-some}
use Rattle.std.proofs.lemmas.List.Elements.{Contains-push_cases, All-contains, All-from_recursion}
use Rattle.slot_types.specs.declared.acts.Act.{Act}
use Rattle.slot_types.specs.declared.acts.Act.TheVariants as does
use Rattle.slot_types.specs.declared.events.Op.{Op}
use Rattle.slot_types.specs.declared.events.Event.{Event}
use Rattle.slot_types.specs.declared.events.Event.TheVariants as events
use Rattle.slot_types.specs.declared.pages.PageData.{PageData}
use Rattle.die_log.specs.Model.Log.{Log, Job, jobs, acts}
use Rattle.die_log.specs.Model.Flash.{content}
use Rattle.die_log.specs.Model.Start.{Start}
use Rattle.die_log.specs.Model.Work.{is_done}
use Rattle.die_log.specs.Model.Opening.{IsOpening, IsQuiet}
use Rattle.die_log.specs.Model.Answers.{IsExact, reply_if_accepted, refusals}
use Rattle.die_log.proofs.Collecting.{no_acts}
use Rattle.die_log.proofs.Known.{known}
use Rattle.die_log.proofs.Legality.{entry, exact_induction}
use Rattle.die_log.proofs.LogInvariants.OneMoreEntry.{number_at, contained}
use Rattle.task_reads.specs.Asked.{is_job_of, task_jobs, operations, ComeInOrder, left_on}
use Rattle.task_reads.specs.OwnPages.{IsOwnPage}
use Rattle.task_reads.proofs.Lists.{flat_map_same, in_filter}
use Rattle.task_reads.proofs.Turns.{Carries, InOrder, in_order, numbered_of, job_kind, order_before, unwaived}
use Rattle.task_reads.proofs.Doing.{does_next, act_cases}
use Rattle.task_reads.proofs.Settled.{whole_part, done_part, at_first, asked_before, part_done, parts_past, own_before, stands_as_had}

module _ (start : Start) (opens : IsOpening start) (task page : ℕ) where
  abbrev first_bytes : PageData
  first_bytes = at_first start opens task page

  abbrev asked : Log → ℕ → List Op
  asked log number = asked_before start opens task page log number

  abbrev pub ReadsSay : Log → Type 0
  ReadsSay log = (j : Job) → Contains (jobs log) j → is_job_of task j ≡ true → (n : ℕ) (bytes : PageData)
      → slice_get (acts j.number log) n ≡ Some (does.Read page bytes)
      → bytes ≡ left_on page (asked log j.number ++ take n j.ops) first_bytes

  taken : (past : Log) (new : Job) → IsExact start past → new.number ≡ length (jobs past) → ReadsSay past
      → (j : Job) → Contains (jobs past ++ new ∷ []) j → is_job_of task j ≡ true → (n : ℕ) (bytes : PageData)
      → slice_get (acts j.number past) n ≡ Some (does.Read page bytes)
      → bytes ≡ left_on page (flat_map (whole_part task) (take j.number (jobs past ++ new ∷ [])) ++ take n j.ops) first_bytes
  taken past new exact number h j js own n bytes e = elim (Contains-push_cases (jobs past) new j js) [
    | inl before ↦
        let low : j.number < length (jobs past) = All-contains (λ (x : Job). x.number < length (jobs past)) (jobs past) j
        (All-from_recursion (λ (x : Job). x.number < length (jobs past)) (jobs past) (known start past exact).of_jobs) before in
        h j before own n bytes e
        ∙ ap (λ (l : List Job). left_on page (flat_map (whole_part task) l ++ take n j.ops) first_bytes)
        (sym (take-append-le j.number (jobs past) (new ∷ []) (omega (arith, low))))
    | inr same ↦
        let none : acts j.number past ≡ [] = ap (λ (i : Job). acts i.number past) (sym same)
        ∙ (ap (λ (k : ℕ). acts k past) number ∙ no_acts start past exact) in
        absurd (none-some (does.Read page bytes) (sym (ap (λ (l : List Act). slice_get l n) none) ∙ e))
  ]

  abbrev Goal : Log → Type 0
  Goal log = IsExact start log → InOrder start opens task log → IsOwnPage task page log → ReadsSay log

  pub reads_say : (log : Log) → IsExact start log → InOrder start opens task log → IsOwnPage task page log → ReadsSay log
  reads_say log exact order own = exact_induction start Goal (λ exact order own j stands. absurd (omega (arith, stands.1))) step log exact exact order own
    where
      step : (past : Log) (caller : ℕ) (event : Event) → IsExact start past → Goal past
          → AllByRecursion (λ c. c.0 ≡ false) (refusals start past event)
          → Goal (entry caller event (reply_if_accepted start past event) ∷ past)
      step past caller (events.Submit t release due ops) exact h none longer order own =
          taken past _ exact refl (h exact (order_before start opens task past _ order) (own_before start opens task page past _ own))
      step past caller (events.Collect t release due) exact h none longer order own =
          taken past _ exact refl (h exact (order_before start opens task past _ order) (own_before start opens task page past _ own))
      step past caller events.Slot exact h none longer order own = λ j stands mine n bytes e.
          elim (act_cases start opens past caller exact j stands n (does.Read page bytes) e) [
            | inl before ↦ h exact order own j stands mine n bytes before
            | inr newest ↦
                let c : Carries start past j (does.Read page bytes) = newest.0 in
                (does_next start past j (does.Read page bytes) (job_kind start opens task j mine) c.act_is).says
                ∙ (stands_as_had start opens task page past exact order own
                ∙ (ap (λ (l : List Op). left_on page l first_bytes)
                (parts_past start opens task page past caller exact longer order j (does.Read page bytes) c mine)
                ∙ ap (λ (k : ℕ). left_on page (asked past j.number ++ take k j.ops) first_bytes) (sym newest.1)))
          ]

-- The task's jobs among all

-- where the k-th job of the task stands among all, and what the task asked for before it
pub kth_job : (task : ℕ) (js : List Job) (k : ℕ) (j : Job) → slice_get (filter (is_job_of task) js) k ≡ Some j
    → (m : ℕ) × (slice_get js m ≡ Some j) × (flat_map (whole_part task) (take m js) ≡ operations (take k (filter (is_job_of task) js)))
kth_job task [] k j e = absurd (none-some j e)
kth_job task (x ∷ xs) k j e = by_test (is_job_of task x) refl (λ k. kth_job task xs k j) k e
  where
    by_test : (b : Bool) → is_job_of task x ≡ b
        → ((k : ℕ) → slice_get (filter (is_job_of task) xs) k ≡ Some j
        → (m : ℕ) × (slice_get xs m ≡ Some j) × (flat_map (whole_part task) (take m xs) ≡ operations (take k (filter (is_job_of task) xs))))
        → (k : ℕ) → slice_get (cond b (x ∷ filter (is_job_of task) xs) (filter (is_job_of task) xs)) k ≡ Some j
        → (m : ℕ) × (slice_get (x ∷ xs) m ≡ Some j) × (flat_map (whole_part task) (take m (x ∷ xs)) ≡ operations (take k (cond b (x ∷ filter (is_job_of task) xs) (filter (is_job_of task) xs))))
    by_test true own rest zero e = (0, e, refl)
    by_test true own rest (suc k) e =
        let r = rest k e in (
          suc r.0,
          r.1,
          ap (λ (b : Bool). cond b x.ops [] ++ flat_map (whole_part task) (take r.0 xs)) own ∙ ap (λ (l : List Op). x.ops ++ l) r.2,
        )
    by_test false other rest k e =
        let r = rest k e in (
          suc r.0,
          r.1,
          ap (λ (b : Bool). cond b x.ops [] ++ flat_map (whole_part task) (take r.0 xs)) other ∙ r.2,
        )

pub all_parts : (task : ℕ) (js : List Job) → flat_map (whole_part task) js ≡ operations (filter (is_job_of task) js)
all_parts task [] = refl
all_parts task (x ∷ xs) = by_test (is_job_of task x) refl (all_parts task xs)
  where
    by_test : (b : Bool) → is_job_of task x ≡ b → flat_map (whole_part task) xs ≡ operations (filter (is_job_of task) xs)
        → flat_map (whole_part task) (x ∷ xs) ≡ operations (cond b (x ∷ filter (is_job_of task) xs) (filter (is_job_of task) xs))
    by_test true own rest = ap (λ (b : Bool). cond b x.ops [] ++ flat_map (whole_part task) xs) own ∙ ap (λ (l : List Op). x.ops ++ l) rest
    by_test false other rest = ap (λ (b : Bool). cond b x.ops [] ++ flat_map (whole_part task) xs) other ∙ rest

-- each read, of the k-th job
pub reads_as_asked : (start : Start) → IsOpening start → (log : Log) → IsExact start log → (task page : ℕ) → ComeInOrder task log
    → IsOwnPage task page log → (k : ℕ) (j : Job) → slice_get (task_jobs task log) k ≡ Some j → (n : ℕ) (bytes : PageData)
    → slice_get (acts j.number log) n ≡ Some (does.Read page bytes)
    → bytes ≡ left_on page (operations (take k (task_jobs task log)) ++ take n j.ops) (content start [] page)
reads_as_asked start opens log exact task page order own k j kth n bytes e =
    let place = kth_job task (jobs log) k j kth in
    let is_own = in_filter (is_job_of task) (jobs log) j (contained (task_jobs task log) k j kth) in
    let number : j.number ≡ place.0 = omega (arith, number_at 0 (jobs log) place.0 j (numbered_of start opens task log exact) place.1) in
    reads_say start opens task page log exact (in_order start opens task log order) own j is_own.0 is_own.1 n bytes e
    ∙ ap (λ (l : List Op). left_on page (l ++ take n j.ops) (content start [] page))
    (ap (λ (m : ℕ). flat_map (whole_part task) (take m (jobs log))) number ∙ place.2)

-- and what stands where all is done
pub ends_as_asked : (start : Start) → IsOpening start → (log : Log) → IsExact start log → (task page : ℕ) → ComeInOrder task log
    → IsOwnPage task page log → IsQuiet start log
    → content start log page ≡ left_on page (operations (task_jobs task log)) (content start [] page)
ends_as_asked start opens log exact task page order own quiet =
    stands_as_had start opens task page log exact (in_order start opens task log order) own
    ∙ ap (λ (l : List Op). left_on page l (content start [] page))
    (flat_map_same (done_part task log) (whole_part task) (jobs log) (λ j stands. part_done start opens task page log j (done_if j stands))
    ∙ all_parts task (jobs log))
  where
    done_if : (j : Job) → Contains (jobs log) j → is_job_of task j ≡ true → is_done start.plan log j ≡ true
    done_if j stands mine = elim (quiet j stands) [
      | inl done ↦ done
      | inr gone ↦ absurd (unwaived start opens task log exact j stands (job_kind start opens task j mine) gone)
    ]
