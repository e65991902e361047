-- What is found event by event is what it means to keep to a plan.
use Rattle.std.proofs.Common.{◌≡◌, ℕ, suc, ◌+◌, ◌%◌, ◌<◌, ◌≤◌, ◌==◌, ◌&&◌, ◌||◌, nat_le, nat_lt, not, Bool, true, false, cond, List, []}
use Rattle.std.proofs.Common.{◌∷◌, length, count_by, AllPairs, refl, sym, ap, subst, ◌∙◌, inl, inr, arith}
use Rattle.std.specs.List.{AllByRecursion, list_all}
use Rattle.std.proofs.lemmas.Bool.{true≢false, cases_Bool, cases_lt, cases_eq, and_parts, and_from, not-true, not_from_false, eqb-true}
use Rattle.std.proofs.lemmas.Bool.{eq-eqb, ne_eqb, leb-true, le-leb, ltb-true, lt-ltb}
use Rattle.std.proofs.lemmas.Bool.Decides.{nat_tests}
use Rattle.std.proofs.lemmas.List.Elements.{All-from_recursion, recursion_from_All}
use Rattle.std.proofs.lemmas.List.Kept.{AllPairs-cons}
use Rattle.std.proofs.lemmas.List.Sums.{sum_by-cons}
use Rattle.slot_types.specs.declared.plans.DiePlan.{DiePlan}
use Rattle.slot_types.specs.declared.limits.TheConstants.{MAX_SLOT, MAX_JOBS}
use Rattle.slot_types.specs.declared.events.Op.{Op}
use Rattle.slot_types.specs.declared.events.Event.{Event}
use Rattle.slot_types.specs.declared.events.Event.TheVariants as events
use Rattle.slot_types.specs.declared.plans.Times.{Times}
use Rattle.plan_rules.specs.Times.{times_of, HasTimes}
use Rattle.slot_types.specs.Operations.{page_of, is_write}
use Rattle.plan_rules.specs.Keeping.{TaskArrival, arrivals, slots, is_slot, IsPlannedJob, IsPlannedCollection, IsPlanned, AreApart}
use Rattle.plan_rules.specs.Keeping.{is_collection_at, KeepsPlan}
use Rattle.plan_rules.specs.Walks.{planned_job, planned_collection, planned_from, apart_from, is_due_at, collected_from, IsTaskKept}
use Rattle.plan_rules.proofs.Arriving.{is_job_of, come_from}

-- Tests

all_pass : {X : Type 0} (test : X → Bool) (xs : List X) → list_all test xs ≡ true → AllByRecursion (λ x. test x ≡ true) xs
all_pass test [] h = tt
all_pass test (x ∷ xs) h = let p = and_parts (test x) (list_all test xs) h in (p.0, all_pass test xs p.1)

pass_all : {X : Type 0} (test : X → Bool) (xs : List X) → AllByRecursion (λ x. test x ≡ true) xs → list_all test xs ≡ true
pass_all test [] h = refl
pass_all test (x ∷ xs) h = and_from (test x) (list_all test xs) h.0 (pass_all test xs h.1)

all_as : {X : Type 0} (P Q : X → Type 0) → ((x : X) → P x → Q x) → (xs : List X) → AllByRecursion P xs → AllByRecursion Q xs
all_as P Q f [] h = tt
all_as P Q f (x ∷ xs) h = (f x h.0, all_as P Q f xs h.1)

-- the job or the collection that comes
abbrev job : ℕ → ℕ → ℕ → ℕ → List Op → TaskArrival
job now task release due ops = record { at = now; collects = false; task = task; release = release; due = due; ops = ops }

abbrev collection : ℕ → ℕ → ℕ → ℕ → TaskArrival
collection now task release due = record { at = now; collects = true; task = task; release = release; due = due; ops = [] }

module _ (plan : DiePlan) (times : Times) where
  job_says : (now task release due : ℕ) (ops : List Op) → planned_job plan times now task release due ops ≡ true
      → IsPlannedJob plan times (job now task release due ops)
  job_says now task release due ops h =
      let t = times_of times task in
      let g = and_parts (nat_lt task (length plan.caps) && (release == now) && (due == release + t.period) && nat_le due MAX_SLOT
      && nat_le 1 (length ops) && nat_le (length ops) t.work && list_all (λ op. nat_lt (page_of op) plan.logical) ops)
      (nat_le (count_by is_write ops) t.writes) h in
      let f = and_parts (nat_lt task (length plan.caps) && (release == now) && (due == release + t.period) && nat_le due MAX_SLOT
      && nat_le 1 (length ops) && nat_le (length ops) t.work) (list_all (λ op. nat_lt (page_of op) plan.logical) ops) g.0 in
      let e = and_parts (nat_lt task (length plan.caps) && (release == now) && (due == release + t.period) && nat_le due MAX_SLOT
      && nat_le 1 (length ops)) (nat_le (length ops) t.work) f.0 in
      let d = and_parts (nat_lt task (length plan.caps) && (release == now) && (due == release + t.period) && nat_le due MAX_SLOT)
      (nat_le 1 (length ops)) e.0 in
      let c = and_parts (nat_lt task (length plan.caps) && (release == now) && (due == release + t.period)) (nat_le due MAX_SLOT) d.0 in
      let b = and_parts (nat_lt task (length plan.caps) && (release == now)) (due == release + t.period) c.0 in
      let a = and_parts (nat_lt task (length plan.caps)) (release == now) b.0 in
      record {
        task = ltb-true task (length plan.caps) a.0;
        comes = eqb-true release now a.1;
        due = eqb-true due (release + t.period) b.1;
        due_limit = leb-true due MAX_SLOT c.1;
        some = leb-true 1 (length ops) d.1;
        few = leb-true (length ops) t.work e.1;
        pages = All-from_recursion (λ op. page_of op < plan.logical) ops
            (all_as (λ op. nat_lt (page_of op) plan.logical ≡ true) (λ op. page_of op < plan.logical)
            (λ op k. ltb-true (page_of op) plan.logical k) ops (all_pass (λ op. nat_lt (page_of op) plan.logical) ops f.1));
        few_writes = leb-true (count_by is_write ops) t.writes g.1;
      }

  job_if : (now task release due : ℕ) (ops : List Op) → IsPlannedJob plan times (job now task release due ops)
      → planned_job plan times now task release due ops ≡ true
  job_if now task release due ops h =
      let t = times_of times task in
      and_from (nat_lt task (length plan.caps) && (release == now) && (due == release + t.period) && nat_le due MAX_SLOT
      && nat_le 1 (length ops) && nat_le (length ops) t.work && list_all (λ op. nat_lt (page_of op) plan.logical) ops)
      (nat_le (count_by is_write ops) t.writes)
      (and_from (nat_lt task (length plan.caps) && (release == now) && (due == release + t.period) && nat_le due MAX_SLOT
      && nat_le 1 (length ops) && nat_le (length ops) t.work) (list_all (λ op. nat_lt (page_of op) plan.logical) ops)
      (and_from (nat_lt task (length plan.caps) && (release == now) && (due == release + t.period) && nat_le due MAX_SLOT
      && nat_le 1 (length ops)) (nat_le (length ops) t.work)
      (and_from (nat_lt task (length plan.caps) && (release == now) && (due == release + t.period) && nat_le due MAX_SLOT)
      (nat_le 1 (length ops))
      (and_from (nat_lt task (length plan.caps) && (release == now) && (due == release + t.period)) (nat_le due MAX_SLOT)
      (and_from (nat_lt task (length plan.caps) && (release == now)) (due == release + t.period)
      (and_from (nat_lt task (length plan.caps)) (release == now) (lt-ltb task (length plan.caps) h.task) (eq-eqb release now h.comes))
      (eq-eqb due (release + t.period) h.due))
      (le-leb due MAX_SLOT h.due_limit))
      (le-leb 1 (length ops) h.some))
      (le-leb (length ops) t.work h.few))
      (pass_all (λ op. nat_lt (page_of op) plan.logical) ops
      (all_as (λ op. page_of op < plan.logical) (λ op. nat_lt (page_of op) plan.logical ≡ true)
      (λ op k. lt-ltb (page_of op) plan.logical k) ops (recursion_from_All (λ op. page_of op < plan.logical) ops h.pages))))
      (le-leb (count_by is_write ops) t.writes h.few_writes)

  module _ (end : ℕ) where
    collection_says : (now task release due : ℕ) → planned_collection plan times end now task release due ≡ true
        → IsPlannedCollection plan times end (collection now task release due)
    collection_says now task release due h =
        let q : ℕ = (times_of times task).collect_period in
        let e = and_parts (nat_lt task (length plan.caps) && (release == now) && (release % q == 0) && nat_lt release end
        && (due == release + q)) (nat_le due MAX_SLOT) h in
        let d = and_parts (nat_lt task (length plan.caps) && (release == now) && (release % q == 0) && nat_lt release end)
        (due == release + q) e.0 in
        let c = and_parts (nat_lt task (length plan.caps) && (release == now) && (release % q == 0)) (nat_lt release end) d.0 in
        let b = and_parts (nat_lt task (length plan.caps) && (release == now)) (release % q == 0) c.0 in
        let a = and_parts (nat_lt task (length plan.caps)) (release == now) b.0 in
        record {
          task = ltb-true task (length plan.caps) a.0;
          comes = eqb-true release now a.1;
          slot = record {
            multiple = eqb-true (release % q) 0 b.1;
            before_end = ltb-true release end c.1;
            due_limit = omega (arith, eqb-true due (release + q) d.1, leb-true due MAX_SLOT e.1);
          };
          due = eqb-true due (release + q) d.1;
        }

    collection_if : (now task release due : ℕ) → IsPlannedCollection plan times end (collection now task release due)
        → planned_collection plan times end now task release due ≡ true
    collection_if now task release due h =
        let q : ℕ = (times_of times task).collect_period in
        and_from (nat_lt task (length plan.caps) && (release == now) && (release % q == 0) && nat_lt release end && (due == release + q))
        (nat_le due MAX_SLOT)
        (and_from (nat_lt task (length plan.caps) && (release == now) && (release % q == 0) && nat_lt release end) (due == release + q)
        (and_from (nat_lt task (length plan.caps) && (release == now) && (release % q == 0)) (nat_lt release end)
        (and_from (nat_lt task (length plan.caps) && (release == now)) (release % q == 0)
        (and_from (nat_lt task (length plan.caps)) (release == now) (lt-ltb task (length plan.caps) h.task) (eq-eqb release now h.comes))
        (eq-eqb (release % q) 0 h.slot.multiple))
        (lt-ltb release end h.slot.before_end))
        (eq-eqb due (release + q) h.due))
        (le-leb due MAX_SLOT (omega (arith, h.due, h.slot.due_limit)))

    pub planned_says : (now : ℕ) (all : List Event) → planned_from plan times end now all ≡ true
        → AllByRecursion (IsPlanned plan times end) (arrivals now all)
    planned_says now [] h = tt
    planned_says now (events.Submit task release due ops ∷ rest) h =
        let p = and_parts (planned_job plan times now task release due ops) (planned_from plan times end now rest) h in
        (job_says now task release due ops p.0, planned_says now rest p.1)
    planned_says now (events.Collect task release due ∷ rest) h =
        let p = and_parts (planned_collection plan times end now task release due) (planned_from plan times end now rest) h in
        (collection_says now task release due p.0, planned_says now rest p.1)
    planned_says now (events.Slot ∷ rest) h = planned_says (now + 1) rest h

    pub planned_if : (now : ℕ) (all : List Event) → AllByRecursion (IsPlanned plan times end) (arrivals now all)
        → planned_from plan times end now all ≡ true
    planned_if now [] h = refl
    planned_if now (events.Submit task release due ops ∷ rest) h =
        and_from (planned_job plan times now task release due ops) (planned_from plan times end now rest)
        (job_if now task release due ops h.0) (planned_if now rest h.1)
    planned_if now (events.Collect task release due ∷ rest) h =
        and_from (planned_collection plan times end now task release due) (planned_from plan times end now rest)
        (collection_if now task release due h.0) (planned_if now rest h.1)
    planned_if now (events.Slot ∷ rest) h = planned_if (now + 1) rest h

-- Jobs apart

module _ (task period : ℕ) where
  later_by : (from more : ℕ) → from ≤ more → (all : List TaskArrival) → AllByRecursion (λ b. is_job_of task b ≡ true → more ≤ b.release) all
      → AllByRecursion (λ b. is_job_of task b ≡ true → from ≤ b.release) all
  later_by from more le all h = all_as (λ b. is_job_of task b ≡ true → more ≤ b.release) (λ b. is_job_of task b ≡ true → from ≤ b.release)
      (λ b k is. omega (arith, k is, le)) all h

  apart_later : (from now : ℕ) (all : List Event) → apart_from task period from all ≡ true
      → AllByRecursion (λ b. is_job_of task b ≡ true → from ≤ b.release) (arrivals now all)
  apart_later from now [] h = tt
  apart_later from now (events.Submit other release due ops ∷ rest) h = elim (cases_Bool (other == task)) [
    | inl same ↦ (
        let p = and_parts (nat_le from release) (apart_from task period (release + period) rest) (rw same at h) in
        let le : from ≤ release = leb-true from release p.0 in (
          (λ is. le),
          later_by from (release + period) (omega (arith, le)) (arrivals now rest)
              (apart_later (release + period) now rest p.1),
        ))
    | inr another ↦ (
      (λ is. absurd (true≢false (sym is ∙ another))),
      apart_later from now rest (rw another at h),
    )
  ]
  apart_later from now (events.Collect other release due ∷ rest) h = ((λ is. absurd (true≢false (sym is))), apart_later from now rest h)
  apart_later from now (events.Slot ∷ rest) h = apart_later from (now + 1) rest h

  apart_after : (from release due : ℕ) (ops : List Op) (rest : List Event)
      → apart_from task period from (events.Submit task release due ops ∷ rest) ≡ true → apart_from task period (release + period) rest
      ≡ true
  apart_after from release due ops rest h = (and_parts (nat_le from release) (apart_from task period (release + period) rest)
      (rw (eq-eqb task task refl) at h)).1

  -- what is found of a list is found of its rest
  apart_rest : (from : ℕ) (event : Event) (rest : List Event) → apart_from task period from (event ∷ rest) ≡ true → (next : ℕ)
      × (apart_from task period next rest ≡ true)
  apart_rest from (events.Submit other release due ops) rest h = elim (cases_Bool (other == task)) [
    | inl same ↦ (release + period, (and_parts (nat_le from release) (apart_from task period (release + period) rest) (rw same at h)).1)
    | inr another ↦ (from, rw another at h)
  ]
  apart_rest from (events.Collect other release due) rest h = (from, h)
  apart_rest from events.Slot rest h = (from, h)

module _ (plan : DiePlan) (times : Times) (end : ℕ) where
  -- the jobs of each task are found apart, from some slot on
  abbrev AreFoundApart : List Event → Type 0
  AreFoundApart all = (task : ℕ) → task < length plan.caps → (from : ℕ) × (apart_from task (times_of times task).period from all ≡ true)

  found_after : (now : ℕ) (event : Event) (rest : List Event) → AreFoundApart (event ∷ rest) → AreFoundApart rest
  found_after now event rest h task lt = let k = h task lt in apart_rest task (times_of times task).period k.0 event rest k.1

  pairs_of : (now task release due : ℕ) (ops : List Op) (rest : List TaskArrival)
      → AllByRecursion (λ b. is_job_of task b ≡ true → release + (times_of times task).period ≤ b.release) rest
      → AllByRecursion (AreApart times (job now task release due ops)) rest
  pairs_of now task release due ops rest h =
      all_as (λ b. is_job_of task b ≡ true → release + (times_of times task).period ≤ b.release)
      (AreApart times (job now task release due ops))
      (λ b k own other same. k (and_from (not b.collects) (b.task == task) (not_from_false b.collects other)
      (eq-eqb b.task task (sym same)))) rest h

  pub apart_says : (now : ℕ) (all : List Event) → AllByRecursion (IsPlanned plan times end) (arrivals now all) → AreFoundApart all
      → AllPairs (AreApart times) (arrivals now all)
  apart_says now [] planned h = λ i j d lt below. absurd (omega (arith, below))
  apart_says now (events.Submit task release due ops ∷ rest) planned h =
      let k = h task planned.0.task in
      AllPairs-cons (AreApart times) (job now task release due ops) (arrivals now rest)
      (All-from_recursion (AreApart times (job now task release due ops)) (arrivals now rest)
      (pairs_of now task release due ops (arrivals now rest)
      (apart_later task (times_of times task).period (release + (times_of times task).period) now rest
      (apart_after task (times_of times task).period k.0 release due ops rest k.1))))
      (apart_says now rest planned.1 (found_after now (events.Submit task release due ops) rest h))
  apart_says now (events.Collect task release due ∷ rest) planned h =
      AllPairs-cons (AreApart times) (collection now task release due) (arrivals now rest)
      (λ i d lt own other same. absurd (true≢false own))
      (apart_says now rest planned.1 (found_after now (events.Collect task release due) rest h))
  apart_says now (events.Slot ∷ rest) planned h = apart_says (now + 1) rest planned (found_after now events.Slot rest h)

first_pairs : {X : Type 0} (R : X → X → Type 0) (x : X) (xs : List X) → AllPairs R (x ∷ xs) → AllByRecursion (R x) xs × AllPairs R xs
first_pairs R x xs h = (
  recursion_from_All (R x) xs (λ i d lt. h 0 (suc i) d (omega arith) (omega (arith, lt))),
  λ i j d lt below. h (suc i) (suc j) d (omega (arith, lt)) (omega (arith, below)),
)

module _ (times : Times) (task : ℕ) where
  pub apart_if : (from now : ℕ) (all : List Event) → AllPairs (AreApart times) (arrivals now all)
      → AllByRecursion (λ b. is_job_of task b ≡ true → from ≤ b.release) (arrivals now all)
      → apart_from task (times_of times task).period from all ≡ true
  apart_if from now [] pairs h = refl
  apart_if from now (events.Submit other release due ops ∷ rest) pairs h =
      let first = first_pairs (AreApart times) (job now other release due ops) (arrivals now rest) pairs in
      elim (cases_Bool (other == task)) [
        | inl same ↦ rw same (and_from (nat_le from release)
            (apart_from task (times_of times task).period (release + (times_of times task).period) rest)
            (le-leb from release (h.0 same))
            (apart_if (release + (times_of times task).period) now rest first.1
            (all_as (AreApart times (job now other release due ops)) (λ b. is_job_of task b ≡ true → release + (times_of times task).period
            ≤ b.release)
            (λ b k is. (let p = and_parts (not b.collects) (b.task == task) is in
            subst (λ i. release + (times_of times i).period ≤ b.release) (eqb-true other task same)
            (k refl (not-true b.collects p.0) (eqb-true other task same ∙ sym (eqb-true b.task task p.1))))) (arrivals now rest)
            first.0)))
        | inr another ↦ rw another (apart_if from now rest first.1 h.1)
      ]
  apart_if from now (events.Collect other release due ∷ rest) pairs h =
      apart_if from now rest (first_pairs (AreApart times) (collection now other release due) (arrivals now rest) pairs).1 h.1
  apart_if from now (events.Slot ∷ rest) pairs h = apart_if from (now + 1) rest pairs h

pub from_zero : (task : ℕ) (all : List TaskArrival) → AllByRecursion (λ b. is_job_of task b ≡ true → 0 ≤ b.release) all
from_zero task [] = tt
from_zero task (b ∷ rest) = ((λ is. omega arith), from_zero task rest)

-- Collections

abbrev one_if : Bool → ℕ
one_if b = cond b 1 0

same_test : (n m : ℕ) → (n == m) ≡ (m == n)
same_test n m = grind (arith, nat_tests)

slots_more : (event : Event) (rest : List Event) → slots (event ∷ rest) ≡ one_if (is_slot event) + slots rest
slots_more event rest = sum_by-cons (λ e. cond (is_slot e) 1 0) event rest

both_at : (seen here : Bool) → here ≡ true → one_if (seen && here) ≡ one_if seen
both_at true here e = ap one_if e
both_at false here e = refl

both_away : (seen here : Bool) → here ≡ false → one_if (seen && here) ≡ 0
both_away true here e = ap one_if e
both_away false here e = refl

due_parts : (period now : ℕ) → is_due_at period now ≡ true → (now % period ≡ 0) × (now + period ≤ MAX_SLOT)
due_parts period now h = let p = and_parts (now % period == 0) (nat_le (now + period) MAX_SLOT) h in
    (eqb-true (now % period) 0 p.0, leb-true (now + period) MAX_SLOT p.1)

due_if : (period now : ℕ) → now % period ≡ 0 → now + period ≤ MAX_SLOT → is_due_at period now ≡ true
due_if period now a b = and_from (now % period == 0) (nat_le (now + period) MAX_SLOT) (eq-eqb (now % period) 0 a)
    (le-leb (now + period) MAX_SLOT b)

module _ (task period : ℕ) where
  abbrev count_at : ℕ → List TaskArrival → ℕ
  count_at slot all = count_by (is_collection_at task slot) all

  count_more : (slot : ℕ) (a : TaskArrival) (rest : List TaskArrival) → count_at slot (a ∷ rest)
      ≡ one_if (is_collection_at task slot a) + count_at slot rest
  count_more slot a rest = sum_by-cons (λ b. cond (is_collection_at task slot b) 1 0) a rest

  -- so far those of the present slot that were seen, and then those that come
  abbrev IsOnce : ℕ → Bool → List Event → Type 0
  IsOnce now seen all = (slot : ℕ) → now ≤ slot → slot < now + slots all → is_due_at period slot ≡ true
      → count_at slot (arrivals now all) + one_if (seen && (slot == now)) ≡ 1

  -- a collection of another task, or a job, is not counted
  passed_over : (now : ℕ) (seen : Bool) (a : TaskArrival) (event : Event) (rest : List Event) → arrivals now (event ∷ rest) ≡ a
      ∷ arrivals now rest → is_slot event ≡ false → (a.collects && (a.task == task)) ≡ false
      → IsOnce now seen rest → IsOnce now seen (event ∷ rest)
  passed_over now seen a event rest come arrives another h slot from below due =
      omega (
        arith,
        ap (count_at slot) come,
        count_more slot a (arrivals now rest),
        ap (λ b. one_if (b && (a.at == slot))) another,
        h slot from (omega (arith, below, slots_more event rest, ap one_if arrives)) due,
      )

  -- one of the task is counted in its slot
  counted_now : (now other release due : ℕ) (rest : List Event) → (other == task) ≡ true → IsOnce now true rest
      → IsOnce now false (events.Collect other release due ∷ rest)
  counted_now now other release due rest same h slot from below is =
      omega (
        arith,
        count_more slot (collection now other release due) (arrivals now rest),
        ap (λ b. one_if (b && (now == slot))) same,
        ap one_if (same_test now slot),
        h slot from (omega (arith, below, slots_more (events.Collect other release due) rest)) is,
      )

  -- none comes after a slot
  none_later : (slot : ℕ) (all : List TaskArrival) → AllByRecursion (λ b. slot + 1 ≤ b.at) all → count_at slot all ≡ 0
  none_later slot [] h = refl
  none_later slot (b ∷ rest) h =
      omega (
        arith,
        count_more slot b rest,
        ap one_if (and_not (b.collects && (b.task == task)) (b.at == slot)
            (ne_eqb b.at slot (λ e. absurd (omega (arith, e, h.0))))),
        none_later slot rest h.1,
      )
    where
      and_not : (x y : Bool) → y ≡ false → (x && y) ≡ false
      and_not true y e = e
      and_not false y e = refl

  was_seen : (seen due : Bool) → due ≡ true → (seen || not due) ≡ true → seen ≡ true
  was_seen true due e h = refl
  was_seen false true e h = absurd (true≢false (sym h))
  was_seen false false e h = absurd (true≢false (sym e))

  next_slot : (now slot : ℕ) → now ≤ slot → (slot ≡ now → ⊥) → now + 1 ≤ slot
  next_slot now slot le apart = elim (cases_lt now slot)
      [ inl less ↦ omega (arith, less) | inr more ↦ absurd (apart (omega (arith, le, more))) ]

  -- a slot ends the count of its collections
  slot_ends : (now : ℕ) (seen : Bool) (rest : List Event) → (seen || not (is_due_at period now)) ≡ true → IsOnce (now + 1) false rest
      → IsOnce now seen (events.Slot ∷ rest)
  slot_ends now seen rest counted h slot from below due = elim (cases_eq slot now) [
    | inl same ↦ (
        let had : seen ≡ true = was_seen seen (is_due_at period now) (subst (λ n. is_due_at period n ≡ true) same due) counted in
        let none : count_at slot (arrivals (now + 1) rest)
        ≡ 0 = subst (λ n. count_at n (arrivals (now + 1) rest) ≡ 0) (sym same)
        (none_later now (arrivals (now + 1) rest) (come_from (now + 1) rest)) in
        omega (arith, none, both_at seen (slot == now) (eq-eqb slot now same), ap one_if had))
    | inr apart ↦ omega (
      arith,
      both_away seen (slot == now) (ne_eqb slot now apart),
      h slot (next_slot now slot from apart) (omega (arith, below, slots_more events.Slot rest)) due,
    )
  ]

  pub collected_says : (now : ℕ) (seen : Bool) (all : List Event) → collected_from task period now seen all ≡ true → IsOnce now seen all
  collected_says now seen [] h = λ slot from below due. absurd (omega (arith, from, below))
  collected_says now seen (events.Submit other release due ops ∷ rest) h = passed_over now seen (job now other release due ops)
      (events.Submit other release due ops) rest refl refl refl (collected_says now seen rest h)
  collected_says now seen (events.Collect other release due ∷ rest) h = elim (cases_Bool (other == task)) [
    | inl same ↦ (
        let p = and_parts (not seen) (collected_from task period now true rest) (rw same at h) in
        subst (λ b. IsOnce now b (events.Collect other release due ∷ rest)) (sym (not-true seen p.0))
        (counted_now now other release due rest same (collected_says now true rest p.1)))
    | inr another ↦ passed_over now seen (collection now other release due) (events.Collect other release due) rest refl refl another
        (collected_says now seen rest (rw another at h))
  ]
  collected_says now seen (events.Slot ∷ rest) h =
      let p = and_parts (seen || not (is_due_at period now)) (collected_from task period (now + 1) false rest) h in
      slot_ends now seen rest p.0 (collected_says (now + 1) false rest p.1)

  -- the other way round

  passed_back : (now : ℕ) (seen : Bool) (a : TaskArrival) (event : Event) (rest : List Event) → arrivals now (event ∷ rest) ≡ a
      ∷ arrivals now rest → is_slot event ≡ false → (a.collects && (a.task == task)) ≡ false
      → IsOnce now seen (event ∷ rest) → IsOnce now seen rest
  passed_back now seen a event rest come arrives another h slot from below due =
      omega (
        arith,
        ap (count_at slot) come,
        count_more slot a (arrivals now rest),
        ap (λ b. one_if (b && (a.at == slot))) another,
        h slot from (omega (arith, below, slots_more event rest, ap one_if arrives)) due,
      )

  -- where one comes of which the plan has one, none was seen before
  unseen : (now other release due : ℕ) (seen : Bool) (rest : List Event) → (other == task) ≡ true → is_due_at period now ≡ true → now
      < now + slots rest → IsOnce now seen (events.Collect other release due ∷ rest) → seen ≡ false
  unseen now other release due false rest same is below h = refl
  unseen now other release due true rest same is below h =
      let one = h now (omega arith) (omega (arith, below, slots_more (events.Collect other release due) rest)) is in
      let here : one_if (is_collection_at task now (collection now other release due))
      ≡ 1 = ap one_if (and_from (other == task) (now == now) same (eq-eqb now now refl)) in
      let before : one_if (now == now) ≡ 1 = ap one_if (eq-eqb now now refl) in
      absurd (omega (arith, one, count_more now (collection now other release due) (arrivals now rest), here, before))

  counted_back : (now other release due : ℕ) (rest : List Event) → (other == task) ≡ true
      → IsOnce now false (events.Collect other release due ∷ rest) → IsOnce now true rest
  counted_back now other release due rest same h slot from below is =
      omega (
        arith,
        count_more slot (collection now other release due) (arrivals now rest),
        ap (λ b. one_if (b && (now == slot))) same,
        ap one_if (same_test now slot),
        h slot from (omega (arith, below, slots_more (events.Collect other release due) rest)) is,
      )

  seen_or_not_due : (now : ℕ) (seen due : Bool) (rest : List Event) → is_due_at period now ≡ due → IsOnce now seen (events.Slot ∷ rest)
      → (seen || not due) ≡ true
  seen_or_not_due now true due rest e h = refl
  seen_or_not_due now false false rest e h = refl
  seen_or_not_due now false true rest e h =
      absurd (omega (
        arith,
        h now (omega arith) (omega (arith, slots_more events.Slot rest)) e,
        none_later now (arrivals (now + 1) rest)
            (come_from (now + 1) rest),
      ))

  slot_back : (now : ℕ) (seen : Bool) (rest : List Event) → IsOnce now seen (events.Slot ∷ rest) → IsOnce (now + 1) false rest
  slot_back now seen rest h slot from below due =
      omega (
        arith,
        h slot (omega (arith, from)) (omega (arith, below, slots_more events.Slot rest)) due,
        both_away seen (slot == now) (ne_eqb slot now (λ e. absurd (omega (arith, e, from)))),
      )

module _ (plan : DiePlan) (times : Times) (end task : ℕ) where
  abbrev period_of : ℕ
  period_of = (times_of times task).collect_period

  pub collected_if : (now : ℕ) (seen : Bool) (all : List Event) → end ≡ now + slots all
      → AllByRecursion (IsPlanned plan times end) (arrivals now all)
      → IsOnce task period_of now seen all → collected_from task period_of now seen all ≡ true
  collected_if now seen [] is planned h = refl
  collected_if now seen (events.Submit other release due ops ∷ rest) is planned h =
      collected_if now seen rest (omega (arith, is, slots_more (events.Submit other release due ops) rest)) planned.1
      (passed_back task period_of now seen (job now other release due ops) (events.Submit other release due ops) rest refl refl refl h)
  collected_if now seen (events.Collect other release due ∷ rest) is planned h =
      let left : end ≡ now + slots rest = omega (arith, is, slots_more (events.Collect other release due) rest) in
      elim (cases_Bool (other == task)) [
        | inl same ↦ (
            let k = planned.0 in
            let of : other ≡ task = eqb-true other task same in
            let multiple : now % period_of ≡ 0 = subst (λ n. n % period_of ≡ 0) k.comes
            (subst (λ i. release % (times_of times i).collect_period ≡ 0) of k.slot.multiple) in
            let within : release + period_of ≤ MAX_SLOT = subst (λ i. release + (times_of times i).collect_period ≤ MAX_SLOT) of
            k.slot.due_limit in
            let is_due : is_due_at period_of now ≡ true = due_if period_of now multiple (omega (arith, k.comes, within)) in
            let new : seen ≡ false = unseen task period_of now other release due seen rest same is_due
            (omega (arith, k.comes, k.slot.before_end, left)) h in
            let once : IsOnce task period_of now false (events.Collect other release due ∷ rest) = subst
            (λ b. IsOnce task period_of now b (events.Collect other release due ∷ rest)) new h in
            rw same (and_from (not seen) (collected_from task period_of now true rest) (not_from_false seen new)
            (collected_if now true rest left planned.1 (counted_back task period_of now other release due rest same once))))
        | inr another ↦ rw another (collected_if now seen rest left planned.1
            (passed_back task period_of now seen (collection now other release due) (events.Collect other release due) rest refl refl
            another h))
      ]
  collected_if now seen (events.Slot ∷ rest) is planned h =
      and_from (seen || not (is_due_at period_of now)) (collected_from task period_of (now + 1) false rest)
      (seen_or_not_due task period_of now seen (is_due_at period_of now) rest refl h)
      (collected_if (now + 1) false rest (omega (arith, is, slots_more events.Slot rest)) planned
      (slot_back task period_of now seen rest h))

-- All together

-- jobs, collections and slots are all that there is
pub how_many : (now : ℕ) (all : List Event) → length (arrivals now all) + slots all ≡ length all
how_many now [] = refl
how_many now (events.Submit task release due ops ∷ rest) = omega
    (arith, slots_more (events.Submit task release due ops) rest, how_many now rest)
how_many now (events.Collect task release due ∷ rest) = omega (arith, slots_more (events.Collect task release due) rest, how_many now rest)
how_many now (events.Slot ∷ rest) = omega (arith, slots_more events.Slot rest, how_many (now + 1) rest)

-- what is found task by task
abbrev pub AreAllKept : DiePlan → Times → List Event → Type 0
AreAllKept plan times all = (task : ℕ) → task < length plan.caps → IsTaskKept times task all

pub keeps_if : (plan : DiePlan) (times : Times) (all : List Event) → HasTimes plan times → slots all ≤ MAX_SLOT → length (arrivals 0 all)
    ≤ MAX_JOBS
    → planned_from plan times (slots all) 0 all ≡ true → AreAllKept plan times all → KeepsPlan plan times all
keeps_if plan times all timed few_slots few planned kept =
    let each = planned_says plan times (slots all) 0 all planned in
    record {
      timed = timed;
      few_slots = few_slots;
      few_arrivals = few;
      planned = All-from_recursion (IsPlanned plan times (slots all)) (arrivals 0 all) each;
      apart = apart_says plan times (slots all) 0 all each (λ task lt. (0, (kept task lt).0));
      collected = λ task slot lt at.
          omega (
            arith,
            collected_says task (times_of times task).collect_period 0 false all (kept task lt).1 slot (omega arith)
                (omega (arith, at.before_end)) (due_if (times_of times task).collect_period slot at.multiple at.due_limit),
          );
    }

pub planned_found : (plan : DiePlan) (times : Times) (all : List Event) → KeepsPlan plan times all
    → planned_from plan times (slots all) 0 all ≡ true
planned_found plan times all h = planned_if plan times (slots all) 0 all
    (recursion_from_All (IsPlanned plan times (slots all)) (arrivals 0 all) h.planned)

pub kept_found : (plan : DiePlan) (times : Times) (all : List Event) → KeepsPlan plan times all → AreAllKept plan times all
kept_found plan times all h task lt = (
  apart_if times task 0 0 all h.apart (from_zero task (arrivals 0 all)),
  collected_if plan times (slots all) task 0 false all (omega arith)
      (recursion_from_All (IsPlanned plan times (slots all)) (arrivals 0 all) h.planned)
      (λ slot from below due.
      let p = due_parts (times_of times task).collect_period slot due in
      omega (arith, h.collected task slot lt (record { multiple = p.0; before_end = omega (arith, below); due_limit = p.1 }))),
)
