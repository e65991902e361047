-- What events that keep a plan with deadlines say of each one of them and of those before it.
use Rattle.std.proofs.Common.{◌≡◌, ℕ, zero, suc, ◌+◌, ◌*◌, ◌%◌, ◌<◌, ◌≤◌, ◌==◌, Bool, true, false, List, [], ◌∷◌, ◌++◌, length, get_or}
use Rattle.std.proofs.Common.{count_by, refl, ap, sym, subst, ◌∙◌, arith, length-append}
use Rattle.std.specs.List.{AllByRecursion, AllZip}
use Rattle.std.proofs.lemmas.Bool.Decides.{nat_tests}
use Rattle.std.proofs.lemmas.List.{append-nil}
use Rattle.std.proofs.lemmas.List.Elements.{recursion_from_All}
use Rattle.std.proofs.lemmas.List.Sums.{sum_by-cons, sum_by-append}
use Rattle.slot_types.specs.declared.plans.DiePlan.{DiePlan}
use Rattle.slot_types.specs.declared.limits.TheConstants.{MAX_SLOT, MAX_JOBS}
use Rattle.slot_types.specs.declared.events.Op.{Op}
use Rattle.slot_types.specs.declared.events.Event.{Event}
use Rattle.slot_types.specs.declared.events.Event.TheVariants as events
use Rattle.plan_rules.specs.Keeping.{TaskArrival, arrivals, slots, is_slot, is_collection_at}
use Rattle.plan_rules.proofs.Pacing.{one_if, is_collection_of, collections_in}
use Rattle.plan_rules.proofs.Moments.{slots_append, arrivals_after, job_arrival, collection_arrival}
use Rattle.demand_rules.specs.declared.terms.Terms.{Terms}
use Rattle.demand_rules.specs.Demand.{terms_of}
use Rattle.demand_rules.specs.Supply.{IsSustained, PassesSupply}
use Rattle.demand_rules.specs.Keeping.{IsCollectSlot, IsDemanded, IsDemandedJob, IsDemandedCollection, KeepsDemandPlan}
use Rattle.demand_rules.proofs.Fitting.{task_terms}
use Rattle.demand_rules.proofs.Pacing.{ArePaced, paced_other, paced_collection, paced_slot}

-- Lists

all_left : {X : Type 0} (P : X → Type 0) (xs ys : List X) → AllByRecursion P (xs ++ ys) → AllByRecursion P xs
all_left P [] ys h = tt
all_left P (x ∷ xs) ys h = (h.0, all_left P xs ys h.1)

all_middle : {X : Type 0} (P : X → Type 0) (xs : List X) (x : X) (ys : List X) → AllByRecursion P (xs ++ x ∷ ys) → P x
all_middle P [] x ys h = h.0
all_middle P (y ∷ xs) x ys h = all_middle P xs x ys h.1

slots_cons : (event : Event) (rest : List Event) → slots (event ∷ rest) ≡ one_if (is_slot event) + slots rest
slots_cons event rest = sum_by-cons (λ e. one_if (is_slot e)) event rest

apart_slots : (task n m : ℕ) (a : TaskArrival) → n < m → m ≤ a.at → is_collection_at task n a ≡ false
apart_slots task n m a h k = grind (arith, nat_tests)

-- what comes later comes at a later slot
none_later : (task n m : ℕ) (xs : List Event) → n < m → count_by (is_collection_at task n) (arrivals m xs) ≡ 0
none_later task n m [] h = refl
none_later task n m (events.Submit t release due ops ∷ xs) h =
    omega (
      arith,
      sum_by-cons (λ a. one_if (is_collection_at task n a))
          (record { at = m; collects = false; task = t; release = release; due = due; ops = ops }) (arrivals m xs),
      none_later task n m xs h,
    )
none_later task n m (events.Collect t release due ∷ xs) h =
    let a : TaskArrival = record { at = m; collects = true; task = t; release = release; due = due; ops = [] } in
    omega (
      arith,
      sum_by-cons (λ b. one_if (is_collection_at task n b)) a (arrivals m xs),
      ap one_if
          (apart_slots task n m a h (omega arith)),
      none_later task n m xs h,
    )
none_later task n m (events.Slot ∷ xs) h = none_later task n (m + 1) xs (omega (arith, h))

-- The terms of a task

zip_at : {A B : Type 0} (R : A → B → Type 0) (xs : List A) (ys : List B) (k : ℕ) (d : A) (e : B) → AllZip R xs ys → k < length xs
    → R (get_or xs k d) (get_or ys k e)
zip_at R [] ys k d e h lt = absurd (omega (arith, lt))
zip_at R (x ∷ xs) [] k d e h lt = absurd h
zip_at R (x ∷ xs) (y ∷ ys) zero d e h lt = h.0
zip_at R (x ∷ xs) (y ∷ ys) (suc k) d e h lt = zip_at R xs ys k d e h.1 (omega (arith, lt))

pub task_sustained : (plan : DiePlan) (terms : Terms) (task : ℕ) → PassesSupply plan terms → task < length plan.caps
    → IsSustained plan (get_or plan.caps task 0) (terms_of terms task)
task_sustained plan terms task h lt = zip_at (IsSustained plan) plan.caps terms.tasks task 0 _ h.sustained lt

-- One event

abbrev ArePlanned : DiePlan → Terms → List Event → Type 0
ArePlanned plan terms all = AllByRecursion (IsDemanded plan terms (slots all)) (arrivals 0 all)

all_planned : (plan : DiePlan) (terms : Terms) (all : List Event) → KeepsDemandPlan plan terms all → ArePlanned plan terms all
all_planned plan terms all h = recursion_from_All (IsDemanded plan terms (slots all)) (arrivals 0 all) h.planned

-- those before are planned
pub before_planned : (plan : DiePlan) (terms : Terms) (before rest : List Event) → KeepsDemandPlan plan terms (before ++ rest)
    → AllByRecursion (IsDemanded plan terms (slots (before ++ rest))) (arrivals 0 before)
before_planned plan terms before rest h =
    all_left (IsDemanded plan terms (slots (before ++ rest))) (arrivals 0 before) (arrivals (slots before) rest)
    (subst (AllByRecursion (IsDemanded plan terms (slots (before ++ rest)))) (arrivals_after before rest)
    (all_planned plan terms (before ++ rest) h))

pub next_job : (plan : DiePlan) (terms : Terms) (before rest : List Event) (task release due : ℕ) (ops : List Op)
    → KeepsDemandPlan plan terms (before ++ events.Submit task release due ops ∷ rest)
    → IsDemandedJob plan terms (job_arrival (slots before) task release due ops)
next_job plan terms before rest task release due ops h =
    let all : List Event = before ++ events.Submit task release due ops ∷ rest in
    let a : TaskArrival = job_arrival (slots before) task release due ops in
    all_middle (IsDemanded plan terms (slots all)) (arrivals 0 before) a (arrivals (slots before) rest)
    (subst (AllByRecursion (IsDemanded plan terms (slots all))) (arrivals_after before (events.Submit task release due ops ∷ rest))
    (all_planned plan terms all h))

pub next_collection : (plan : DiePlan) (terms : Terms) (before rest : List Event) (task release due : ℕ)
    → KeepsDemandPlan plan terms (before ++ events.Collect task release due ∷ rest)
    → IsDemandedCollection plan terms (slots (before ++ events.Collect task release due ∷ rest))
    (collection_arrival (slots before) task release due)
next_collection plan terms before rest task release due h =
    let all : List Event = before ++ events.Collect task release due ∷ rest in
    let a : TaskArrival = collection_arrival (slots before) task release due in
    all_middle (IsDemanded plan terms (slots all)) (arrivals 0 before) a (arrivals (slots before) rest)
    (subst (AllByRecursion (IsDemanded plan terms (slots all))) (arrivals_after before (events.Collect task release due ∷ rest))
    (all_planned plan terms all h))

-- one more comes, and not too many have come
pub next_fits : (plan : DiePlan) (terms : Terms) (before rest : List Event) (a : TaskArrival) (after : List TaskArrival) (event : Event)
    → KeepsDemandPlan plan terms (before ++ event ∷ rest) → arrivals (slots before) (event ∷ rest) ≡ a ∷ after
    → length (arrivals 0 before) < MAX_JOBS
next_fits plan terms before rest a after event h e =
    let parts : arrivals 0 (before ++ event ∷ rest) ≡ arrivals 0 before ++ a ∷ after = arrivals_after before (event ∷ rest)
    ∙ ap (λ l. arrivals 0 before ++ l) e in
    omega (arith, h.few_arrivals, ap (λ (l : List TaskArrival). length l) parts, length-append (arrivals 0 before) (a ∷ after))

pub next_slot : (plan : DiePlan) (terms : Terms) (before rest : List Event) → KeepsDemandPlan plan terms (before ++ events.Slot ∷ rest)
    → slots before < MAX_SLOT
next_slot plan terms before rest h = omega (arith, h.few_slots, slots_append before (events.Slot ∷ rest), slots_cons events.Slot rest)

-- The collections so far

abbrev period_of : Terms → ℕ → ℕ
period_of terms task = (terms_of terms task).collect_period

abbrev deadline_of : Terms → ℕ → ℕ
deadline_of terms task = (terms_of terms task).collect_deadline

-- at the slot at which a collection comes, none of its task has come
none_before : (plan : DiePlan) (terms : Terms) (before rest : List Event) (task release due : ℕ)
    → KeepsDemandPlan plan terms (before ++ events.Collect task release due ∷ rest)
    → count_by (is_collection_at task (slots before)) (arrivals 0 before) ≡ 0
none_before plan terms before rest task release due h =
    let all : List Event = before ++ events.Collect task release due ∷ rest in
    let a : TaskArrival = collection_arrival (slots before) task release due in
    let p = next_collection plan terms before rest task release due h in
    let test : TaskArrival → Bool = is_collection_at task (slots before) in
    let one : count_by test (arrivals 0 all) ≡ 1 = h.collected task (slots before) p.task (here p) in
    let is : test a ≡ true = grind (arith, nat_tests) in
    omega (
      arith,
      one,
      ap (λ (l : List TaskArrival). count_by test l) (arrivals_after before (events.Collect task release due ∷ rest)),
      sum_by-append (λ b. one_if (test b)) (arrivals 0 before) (a ∷ arrivals (slots before) rest),
      sum_by-cons (λ b. one_if (test b)) a (arrivals (slots before) rest),
      ap one_if is,
    )
  where
    -- the present slot is one in which the plan has a collection of the task
    here : IsDemandedCollection plan terms (slots (before ++ events.Collect task release due ∷ rest))
        (collection_arrival (slots before) task release due)
        → IsCollectSlot terms (slots (before ++ events.Collect task release due ∷ rest)) task (slots before)
    here p = record {
      multiple = ap (λ n. n % period_of terms task) (sym p.comes) ∙ p.slot.multiple;
      before_end = omega (arith, p.slot.before_end, p.comes);
      due_limit = omega (arith, p.slot.due_limit, p.comes);
    }

-- when a slot is carried out at a multiple, its collection has come
one_before : (plan : DiePlan) (terms : Terms) (before rest : List Event) (task : ℕ) → task < length plan.caps
    → KeepsDemandPlan plan terms (before ++ events.Slot ∷ rest)
    → slots before % period_of terms task ≡ 0 → slots before + deadline_of terms task ≤ MAX_SLOT → 1
    ≤ count_by (is_collection_at task (slots before)) (arrivals 0 before)
one_before plan terms before rest task lt h multiple within =
    let all : List Event = before ++ events.Slot ∷ rest in
    let test : TaskArrival → Bool = is_collection_at task (slots before) in
    let one : count_by test (arrivals 0 all) ≡ 1 = h.collected task (slots before) lt
    (record {
      multiple = multiple;
      before_end = omega (arith, slots_append before (events.Slot ∷ rest), slots_cons events.Slot rest);
      due_limit = within;
    }) in
    omega (
      arith,
      one,
      ap (λ (l : List TaskArrival). count_by test l) (arrivals_after before (events.Slot ∷ rest)),
      sum_by-append (λ b. one_if (test b)) (arrivals 0 before) (arrivals (slots before + 1) rest),
      none_later task (slots before) (slots before + 1) rest (omega arith),
    )

-- where the task's collection comes, it comes at the next multiple
pub at_multiple : (plan : DiePlan) (terms : Terms) (before rest : List Event) (task release due : ℕ)
    → KeepsDemandPlan plan terms (before ++ events.Collect task release due ∷ rest)
    → ArePaced (period_of terms task) (deadline_of terms task) task (arrivals 0 before) (slots before)
    → (slots before ≡ period_of terms task * collections_in task (arrivals 0 before))
    × ArePaced (period_of terms task) (deadline_of terms task) task (arrivals 0 before ++ collection_arrival (slots before) task release due ∷ []) (slots before)
at_multiple plan terms before rest task release due h paced =
    let p = next_collection plan terms before rest task release due h in
    let t = task_terms plan terms task h.has p.task in
    let itself : is_collection_of task (collection_arrival (slots before) task release due) ≡ true = grind (arith, nat_tests) in
    paced_collection (period_of terms task) (deadline_of terms task) task (arrivals 0 before) (slots before) (collection_arrival (slots before) task release due)
    (omega (arith, t.some_collect_period)) t.few_collect_deadline itself refl
    (omega (arith, p.due, p.comes)) (ap (λ n. n % period_of terms task) (sym p.comes) ∙ p.slot.multiple)
    (omega (arith, p.slot.due_limit, p.comes)) (none_before plan terms before rest task release due h) paced

-- one event more
pub paced_event : (plan : DiePlan) (terms : Terms) (before rest : List Event) (event : Event) (task : ℕ) → task < length plan.caps
    → KeepsDemandPlan plan terms (before ++ event ∷ rest)
    → ArePaced (period_of terms task) (deadline_of terms task) task (arrivals 0 before) (slots before)
    → ArePaced (period_of terms task) (deadline_of terms task) task (arrivals 0 (before ++ event ∷ [])) (slots (before ++ event ∷ []))
paced_event plan terms before rest (events.Submit t release due ops) task lt h paced =
    let a : TaskArrival = job_arrival (slots before) t release due ops in
    let count : slots (before ++ events.Submit t release due ops ∷ [])
    ≡ slots before = omega (arith, slots_append before (events.Submit t release due ops ∷ [])) in
    subst (ArePaced (period_of terms task) (deadline_of terms task) task (arrivals 0 (before ++ events.Submit t release due ops ∷ []))) (sym count)
    (subst (λ l. ArePaced (period_of terms task) (deadline_of terms task) task l (slots before)) (sym (arrivals_after before (events.Submit t release due ops ∷ [])))
    (paced_other (period_of terms task) (deadline_of terms task) task (arrivals 0 before) (slots before) a refl paced))
paced_event plan terms before rest (events.Collect t release due) task lt h paced =
    let a : TaskArrival = collection_arrival (slots before) t release due in
    let count : slots (before ++ events.Collect t release due ∷ [])
    ≡ slots before = omega (arith, slots_append before (events.Collect t release due ∷ [])) in
    subst (ArePaced (period_of terms task) (deadline_of terms task) task (arrivals 0 (before ++ events.Collect t release due ∷ []))) (sym count)
    (subst (λ l. ArePaced (period_of terms task) (deadline_of terms task) task l (slots before)) (sym (arrivals_after before (events.Collect t release due ∷ [])))
    (by_task (t == task) refl))
  where
    by_task : (b : Bool) → (t == task) ≡ b → ArePaced (period_of terms task) (deadline_of terms task) task (arrivals 0 before
        ++ collection_arrival (slots before) t release due ∷ []) (slots before)
    by_task true e =
        let same : t ≡ task = grind (arith, nat_tests, e) in
        subst (λ k. ArePaced (period_of terms k) (deadline_of terms k) k (arrivals 0 before ++ collection_arrival (slots before) t release due ∷ [])
        (slots before)) same
        (at_multiple plan terms before rest t release due h
        (subst (λ k. ArePaced (period_of terms k) (deadline_of terms k) k (arrivals 0 before) (slots before)) (sym same) paced)).1
    by_task false e = paced_other (period_of terms task) (deadline_of terms task) task (arrivals 0 before) (slots before)
        (collection_arrival (slots before) t release due) e paced
paced_event plan terms before rest events.Slot task lt h paced =
    let count : slots (before ++ events.Slot ∷ []) ≡ slots before + 1 = omega (arith, slots_append before (events.Slot ∷ [])) in
    let t = task_terms plan terms task h.has lt in
    subst (ArePaced (period_of terms task) (deadline_of terms task) task (arrivals 0 (before ++ events.Slot ∷ []))) (sym count)
    (subst (λ l. ArePaced (period_of terms task) (deadline_of terms task) task l (slots before + 1))
    (sym (arrivals_after before (events.Slot ∷ []) ∙ append-nil (arrivals 0 before)))
    (paced_slot (period_of terms task) (deadline_of terms task) task (arrivals 0 before) (slots before) (omega (arith, t.some_collect_period))
    (one_before plan terms before rest task lt h) paced))
