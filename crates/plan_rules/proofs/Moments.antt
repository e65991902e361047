-- What events that keep a plan say of each one of them and of those before it.
use Rattle.std.proofs.Common.{◌≡◌, ℕ, zero, suc, ◌+◌, ◌*◌, ◌%◌, ◌<◌, ◌≤◌, ◌==◌, Bool, true, false, List, [], ◌∷◌, ◌++◌, length, get_or}
use Rattle.std.proofs.Common.{count_by, refl, ap, sym, subst, ◌∙◌, arith, length-append}
use Rattle.std.specs.Prelude.{All, AllPairs}
use Rattle.std.specs.List.{AllByRecursion, AllZip}
use Rattle.std.proofs.Math.Seq.{get_or-append_seam}
use Rattle.std.proofs.lemmas.Bool.Decides.{nat_tests}
use Rattle.std.proofs.lemmas.List.{get_or_append_left, append-nil}
use Rattle.std.proofs.lemmas.List.Elements.{recursion_from_All}
use Rattle.std.proofs.lemmas.List.Sums.{sum_by-cons, sum_by-append}
use Rattle.slot_types.specs.declared.plans.DiePlan.{DiePlan}
use Rattle.slot_types.specs.declared.limits.TheConstants.{MAX_SLOT, MAX_JOBS}
use Rattle.slot_types.specs.declared.events.Op.{Op}
use Rattle.slot_types.specs.declared.events.Event.{Event}
use Rattle.slot_types.specs.declared.events.Event.TheVariants as events
use Rattle.slot_types.specs.declared.plans.Times.{Times}
use Rattle.plan_rules.specs.Times.{times_of, IsTaskTimes, HasTimes, IsSustained, Passes}
use Rattle.plan_rules.specs.Keeping.{TaskArrival, arrivals, slots, is_slot, is_collection_at, IsCollectSlot, IsPlanned, IsPlannedJob}
use Rattle.plan_rules.specs.Keeping.{IsPlannedCollection, AreApart, KeepsPlan}
use Rattle.plan_rules.proofs.Pacing.{one_if, ArePaced, is_collection_of, collections_in, paced_other, paced_collection, paced_slot}

-- Lists

all_left : {X : Type 0} (P : X → Type 0) (xs ys : List X) → AllByRecursion P (xs ++ ys) → AllByRecursion P xs
all_left P [] ys h = tt
all_left P (x ∷ xs) ys h = (h.0, all_left P xs ys h.1)

all_middle : {X : Type 0} (P : X → Type 0) (xs : List X) (x : X) (ys : List X) → AllByRecursion P (xs ++ x ∷ ys) → P x
all_middle P [] x ys h = h.0
all_middle P (y ∷ xs) x ys h = all_middle P xs x ys h.1

pairs_middle : {X : Type 0} (R : X → X → Type 0) (xs : List X) (x : X) (ys : List X) → AllPairs R (xs ++ x ∷ ys) → All (λ y. R y x) xs
pairs_middle R xs x ys h = λ k d lt.
    let seam : length xs < length (xs ++ x ∷ ys) = omega (arith, length-append xs (x ∷ ys)) in
    subst (λ y. R y x) (get_or_append_left xs (x ∷ ys) d k lt)
    (subst (λ y. R (get_or (xs ++ x ∷ ys) k d) y) (get_or-append_seam xs x ys d) (h k (length xs) d lt seam))

-- Events in two parts

slots_cons : (event : Event) (rest : List Event) → slots (event ∷ rest) ≡ one_if (is_slot event) + slots rest
slots_cons event rest = sum_by-cons (λ e. one_if (is_slot e)) event rest

pub slots_append : (xs ys : List Event) → slots (xs ++ ys) ≡ slots xs + slots ys
slots_append xs ys = sum_by-append (λ e. one_if (is_slot e)) xs ys

pub arrivals_append : (now m : ℕ) (xs ys : List Event) → m ≡ now + slots xs → arrivals now (xs ++ ys) ≡ arrivals now xs ++ arrivals m ys
arrivals_append now m [] ys e = ap (λ n. arrivals n ys) (omega (arith, e))
arrivals_append now m (events.Submit task release due ops ∷ xs) ys e =
    ap (λ l. record { at = now; collects = false; task = task; release = release; due = due; ops = ops } ∷ l)
    (arrivals_append now m xs ys (omega (arith, e, slots_cons (events.Submit task release due ops) xs)))
arrivals_append now m (events.Collect task release due ∷ xs) ys e =
    ap (λ l. record { at = now; collects = true; task = task; release = release; due = due; ops = [] } ∷ l)
    (arrivals_append now m xs ys (omega (arith, e, slots_cons (events.Collect task release due) xs)))
arrivals_append now m (events.Slot ∷ xs) ys e = arrivals_append (now + 1) m xs ys (omega (arith, e, slots_cons events.Slot xs))

pub arrivals_after : (before rest : List Event) → arrivals 0 (before ++ rest) ≡ arrivals 0 before ++ arrivals (slots before) rest
arrivals_after before rest = arrivals_append 0 (slots before) before rest (omega arith)

apart_slots : (task n m : ℕ) (a : TaskArrival) → n < m → m ≤ a.at → is_collection_at task n a ≡ false
apart_slots task n m a h k = grind (arith, nat_tests)

-- what comes later comes at a later slot
none_later : (task n m : ℕ) (xs : List Event) → n < m → count_by (is_collection_at task n) (arrivals m xs) ≡ 0
none_later task n m [] h = refl
none_later task n m (events.Submit t release due ops ∷ xs) h =
    omega (
      arith,
      sum_by-cons (λ a. one_if (is_collection_at task n a))
          (record { at = m; collects = false; task = t; release = release; due = due; ops = ops }) (arrivals m xs),
      none_later task n m xs h,
    )
none_later task n m (events.Collect t release due ∷ xs) h =
    let a : TaskArrival = record { at = m; collects = true; task = t; release = release; due = due; ops = [] } in
    omega (
      arith,
      sum_by-cons (λ b. one_if (is_collection_at task n b)) a (arrivals m xs),
      ap one_if
          (apart_slots task n m a h (omega arith)),
      none_later task n m xs h,
    )
none_later task n m (events.Slot ∷ xs) h = none_later task n (m + 1) xs (omega (arith, h))

-- The times of a task

pub task_times : (plan : DiePlan) (times : Times) (task : ℕ) → HasTimes plan times → task < length plan.caps
    → IsTaskTimes (times_of times task)
task_times plan times task h lt = h.each task _ (omega (arith, lt, h.one_each))

zip_at : {A B : Type 0} (R : A → B → Type 0) (xs : List A) (ys : List B) (k : ℕ) (d : A) (e : B) → AllZip R xs ys → k < length xs
    → R (get_or xs k d) (get_or ys k e)
zip_at R [] ys k d e h lt = absurd (omega (arith, lt))
zip_at R (x ∷ xs) [] k d e h lt = absurd h
zip_at R (x ∷ xs) (y ∷ ys) zero d e h lt = h.0
zip_at R (x ∷ xs) (y ∷ ys) (suc k) d e h lt = zip_at R xs ys k d e h.1 (omega (arith, lt))

pub task_sustained : (plan : DiePlan) (times : Times) (task : ℕ) → Passes plan times → task < length plan.caps
    → IsSustained plan times.common (get_or plan.caps task 0) (times_of times task)
task_sustained plan times task h lt = zip_at (IsSustained plan times.common) plan.caps times.tasks task 0 _ h.sustained lt

-- One event

-- a job, where events keep the plan: it is planned, and all jobs of its task before it are a period apart from it
pub record IsNextJob (plan : DiePlan) (times : Times) (before : List Event) (a : TaskArrival) : Type 0 where
  pub planned : IsPlannedJob plan times a
  pub apart : All (λ b. AreApart times b a) (arrivals 0 before)

abbrev pub job_arrival : ℕ → ℕ → ℕ → ℕ → List Op → TaskArrival
job_arrival now task release due ops = record { at = now; collects = false; task = task; release = release; due = due; ops = ops }

abbrev pub collection_arrival : ℕ → ℕ → ℕ → ℕ → TaskArrival
collection_arrival now task release due = record { at = now; collects = true; task = task; release = release; due = due; ops = [] }

abbrev ArePlanned : DiePlan → Times → List Event → Type 0
ArePlanned plan times all = AllByRecursion (IsPlanned plan times (slots all)) (arrivals 0 all)

all_planned : (plan : DiePlan) (times : Times) (all : List Event) → KeepsPlan plan times all → ArePlanned plan times all
all_planned plan times all h = recursion_from_All (IsPlanned plan times (slots all)) (arrivals 0 all) h.planned

-- those before are planned
pub before_planned : (plan : DiePlan) (times : Times) (before rest : List Event) → KeepsPlan plan times (before ++ rest)
    → AllByRecursion (IsPlanned plan times (slots (before ++ rest))) (arrivals 0 before)
before_planned plan times before rest h =
    all_left (IsPlanned plan times (slots (before ++ rest))) (arrivals 0 before) (arrivals (slots before) rest)
    (subst (AllByRecursion (IsPlanned plan times (slots (before ++ rest)))) (arrivals_after before rest)
    (all_planned plan times (before ++ rest) h))

pub next_job : (plan : DiePlan) (times : Times) (before rest : List Event) (task release due : ℕ) (ops : List Op)
    → KeepsPlan plan times (before ++ events.Submit task release due ops ∷ rest)
    → IsNextJob plan times before (job_arrival (slots before) task release due ops)
next_job plan times before rest task release due ops h =
    let all : List Event = before ++ events.Submit task release due ops ∷ rest in
    let a : TaskArrival = job_arrival (slots before) task release due ops in
    let parts : arrivals 0 all ≡ arrivals 0 before ++ a ∷ arrivals (slots before) rest = arrivals_after before
    (events.Submit task release due ops ∷ rest) in
    record {
      planned = all_middle (IsPlanned plan times (slots all)) (arrivals 0 before) a (arrivals (slots before) rest)
          (subst (AllByRecursion (IsPlanned plan times (slots all))) parts (all_planned plan times all h));
      apart = pairs_middle (AreApart times) (arrivals 0 before) a (arrivals (slots before) rest)
          (subst (AllPairs (AreApart times)) parts h.apart);
    }

pub next_collection : (plan : DiePlan) (times : Times) (before rest : List Event) (task release due : ℕ)
    → KeepsPlan plan times (before ++ events.Collect task release due ∷ rest)
    → IsPlannedCollection plan times (slots (before ++ events.Collect task release due ∷ rest))
    (collection_arrival (slots before) task release due)
next_collection plan times before rest task release due h =
    let all : List Event = before ++ events.Collect task release due ∷ rest in
    let a : TaskArrival = collection_arrival (slots before) task release due in
    all_middle (IsPlanned plan times (slots all)) (arrivals 0 before) a (arrivals (slots before) rest)
    (subst (AllByRecursion (IsPlanned plan times (slots all))) (arrivals_after before (events.Collect task release due ∷ rest))
    (all_planned plan times all h))

-- one more comes, and not too many have come
pub next_fits : (plan : DiePlan) (times : Times) (before rest : List Event) (a : TaskArrival) (after : List TaskArrival) (event : Event)
    → KeepsPlan plan times (before ++ event ∷ rest) → arrivals (slots before) (event ∷ rest) ≡ a ∷ after
    → length (arrivals 0 before) < MAX_JOBS
next_fits plan times before rest a after event h e =
    let parts : arrivals 0 (before ++ event ∷ rest) ≡ arrivals 0 before ++ a ∷ after = arrivals_after before (event ∷ rest)
    ∙ ap (λ l. arrivals 0 before ++ l) e in
    omega (arith, h.few_arrivals, ap (λ (l : List TaskArrival). length l) parts, length-append (arrivals 0 before) (a ∷ after))

pub next_slot : (plan : DiePlan) (times : Times) (before rest : List Event) → KeepsPlan plan times (before ++ events.Slot ∷ rest)
    → slots before < MAX_SLOT
next_slot plan times before rest h = omega (arith, h.few_slots, slots_append before (events.Slot ∷ rest), slots_cons events.Slot rest)

-- The collections so far

abbrev period_of : Times → ℕ → ℕ
period_of times task = (times_of times task).collect_period

-- at the slot at which a collection comes, none of its task has come
none_before : (plan : DiePlan) (times : Times) (before rest : List Event) (task release due : ℕ)
    → KeepsPlan plan times (before ++ events.Collect task release due ∷ rest)
    → count_by (is_collection_at task (slots before)) (arrivals 0 before) ≡ 0
none_before plan times before rest task release due h =
    let all : List Event = before ++ events.Collect task release due ∷ rest in
    let a : TaskArrival = collection_arrival (slots before) task release due in
    let p = next_collection plan times before rest task release due h in
    let test : TaskArrival → Bool = is_collection_at task (slots before) in
    let one : count_by test (arrivals 0 all) ≡ 1 = h.collected task (slots before) p.task (here p) in
    let is : test a ≡ true = grind (arith, nat_tests) in
    omega (
      arith,
      one,
      ap (λ (l : List TaskArrival). count_by test l) (arrivals_after before (events.Collect task release due ∷ rest)),
      sum_by-append (λ b. one_if (test b)) (arrivals 0 before) (a ∷ arrivals (slots before) rest),
      sum_by-cons (λ b. one_if (test b)) a (arrivals (slots before) rest),
      ap one_if is,
    )
  where
    -- the present slot is one in which the plan has a collection of the task
    here : IsPlannedCollection plan times (slots (before ++ events.Collect task release due ∷ rest))
        (collection_arrival (slots before) task release due)
        → IsCollectSlot times (slots (before ++ events.Collect task release due ∷ rest)) task (slots before)
    here p = record {
      multiple = ap (λ n. n % period_of times task) (sym p.comes) ∙ p.slot.multiple;
      before_end = omega (arith, p.slot.before_end, p.comes);
      due_limit = omega (arith, p.slot.due_limit, p.comes);
    }

-- when a slot is carried out at a multiple, its collection has come
one_before : (plan : DiePlan) (times : Times) (before rest : List Event) (task : ℕ) → task < length plan.caps
    → KeepsPlan plan times (before ++ events.Slot ∷ rest)
    → slots before % period_of times task ≡ 0 → slots before + period_of times task ≤ MAX_SLOT → 1
    ≤ count_by (is_collection_at task (slots before)) (arrivals 0 before)
one_before plan times before rest task lt h multiple within =
    let all : List Event = before ++ events.Slot ∷ rest in
    let test : TaskArrival → Bool = is_collection_at task (slots before) in
    let one : count_by test (arrivals 0 all) ≡ 1 = h.collected task (slots before) lt
    (record {
      multiple = multiple;
      before_end = omega (arith, slots_append before (events.Slot ∷ rest), slots_cons events.Slot rest);
      due_limit = within;
    }) in
    omega (
      arith,
      one,
      ap (λ (l : List TaskArrival). count_by test l) (arrivals_after before (events.Slot ∷ rest)),
      sum_by-append (λ b. one_if (test b)) (arrivals 0 before) (arrivals (slots before + 1) rest),
      none_later task (slots before) (slots before + 1) rest (omega arith),
    )

-- where the task's collection comes, it comes at the next multiple
pub at_multiple : (plan : DiePlan) (times : Times) (before rest : List Event) (task release due : ℕ)
    → KeepsPlan plan times (before ++ events.Collect task release due ∷ rest)
    → ArePaced (period_of times task) task (arrivals 0 before) (slots before)
    → (slots before ≡ period_of times task * collections_in task (arrivals 0 before))
    × ArePaced (period_of times task) task (arrivals 0 before ++ collection_arrival (slots before) task release due ∷ []) (slots before)
at_multiple plan times before rest task release due h paced =
    let p = next_collection plan times before rest task release due h in
    let t = task_times plan times task h.timed p.task in
    let itself : is_collection_of task (collection_arrival (slots before) task release due) ≡ true = grind (arith, nat_tests) in
    paced_collection (period_of times task) task (arrivals 0 before) (slots before) (collection_arrival (slots before) task release due)
    (omega (arith, t.some_collect_period)) itself refl
    (omega (arith, p.due, p.comes)) (ap (λ n. n % period_of times task) (sym p.comes) ∙ p.slot.multiple)
    (omega (arith, p.slot.due_limit, p.comes)) (none_before plan times before rest task release due h) paced

-- one event more
pub paced_event : (plan : DiePlan) (times : Times) (before rest : List Event) (event : Event) (task : ℕ) → task < length plan.caps
    → KeepsPlan plan times (before ++ event ∷ rest)
    → ArePaced (period_of times task) task (arrivals 0 before) (slots before)
    → ArePaced (period_of times task) task (arrivals 0 (before ++ event ∷ [])) (slots (before ++ event ∷ []))
paced_event plan times before rest (events.Submit t release due ops) task lt h paced =
    let a : TaskArrival = job_arrival (slots before) t release due ops in
    let count : slots (before ++ events.Submit t release due ops ∷ [])
    ≡ slots before = omega (arith, slots_append before (events.Submit t release due ops ∷ [])) in
    subst (ArePaced (period_of times task) task (arrivals 0 (before ++ events.Submit t release due ops ∷ []))) (sym count)
    (subst (λ l. ArePaced (period_of times task) task l (slots before)) (sym (arrivals_after before (events.Submit t release due ops ∷ [])))
    (paced_other (period_of times task) task (arrivals 0 before) (slots before) a refl paced))
paced_event plan times before rest (events.Collect t release due) task lt h paced =
    let a : TaskArrival = collection_arrival (slots before) t release due in
    let count : slots (before ++ events.Collect t release due ∷ [])
    ≡ slots before = omega (arith, slots_append before (events.Collect t release due ∷ [])) in
    subst (ArePaced (period_of times task) task (arrivals 0 (before ++ events.Collect t release due ∷ []))) (sym count)
    (subst (λ l. ArePaced (period_of times task) task l (slots before)) (sym (arrivals_after before (events.Collect t release due ∷ [])))
    (by_task (t == task) refl))
  where
    by_task : (b : Bool) → (t == task) ≡ b → ArePaced (period_of times task) task (arrivals 0 before
        ++ collection_arrival (slots before) t release due ∷ []) (slots before)
    by_task true e =
        let same : t ≡ task = grind (arith, nat_tests, e) in
        subst (λ k. ArePaced (period_of times k) k (arrivals 0 before ++ collection_arrival (slots before) t release due ∷ [])
        (slots before)) same
        (at_multiple plan times before rest t release due h
        (subst (λ k. ArePaced (period_of times k) k (arrivals 0 before) (slots before)) (sym same) paced)).1
    by_task false e = paced_other (period_of times task) task (arrivals 0 before) (slots before)
        (collection_arrival (slots before) t release due) e paced
paced_event plan times before rest events.Slot task lt h paced =
    let count : slots (before ++ events.Slot ∷ []) ≡ slots before + 1 = omega (arith, slots_append before (events.Slot ∷ [])) in
    let t = task_times plan times task h.timed lt in
    subst (ArePaced (period_of times task) task (arrivals 0 (before ++ events.Slot ∷ []))) (sym count)
    (subst (λ l. ArePaced (period_of times task) task l (slots before + 1))
    (sym (arrivals_after before (events.Slot ∷ []) ∙ append-nil (arrivals 0 before)))
    (paced_slot (period_of times task) task (arrivals 0 before) (slots before) (omega (arith, t.some_collect_period))
    (one_before plan times before rest task lt h) paced))
