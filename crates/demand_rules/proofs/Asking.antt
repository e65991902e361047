-- What is asked of a window, task by task.
use Rattle.std.proofs.Common.{◌≡◌, ℕ, zero, suc, ◌+◌, ◌-◌, ◌*◌, ◌<◌, ◌≤◌, ◌==◌, ◌&&◌, nat_lt, not, Bool, true, false, cond, List}
use Rattle.std.proofs.Common.{[], ◌∷◌, length, sum_by, take, refl, ap, arith}
use Rattle.std.specs.Prelude.{MatchBool}
use Rattle.std.specs.List.{AllByRecursion}
use Rattle.std.proofs.lemmas.Bool.Decides.{nat_tests}
use Rattle.std.proofs.lemmas.List.{take_all}
use Rattle.std.proofs.lemmas.List.Sums.{sum_by-cons, sum_by_more}
use Rattle.slot_types.specs.declared.plans.DiePlan.{DiePlan}
use Rattle.plan_rules.specs.Times.{collection_work}
use Rattle.plan_rules.specs.Keeping.{TaskArrival}
use Rattle.plan_rules.proofs.Arriving.{is_job_of, is_collection_of, release_of, due_of}
use Rattle.demand_rules.specs.declared.terms.TaskTerms.{TaskTerms}
use Rattle.demand_rules.specs.declared.terms.Terms.{Terms}
use Rattle.demand_rules.specs.Demand.{terms_of, periods_within, task_demand_in, demand_in, HasTerms}
use Rattle.demand_rules.specs.Keeping.{IsDemanded, IsDemandedJob, IsDemandedCollection}
use Rattle.demand_rules.specs.Fitting.{is_in_window, asked_of}
use Rattle.demand_rules.proofs.Bursts as bursts

-- Sums

sum_by_two : {X : Type 0} (f g h : X → ℕ) → ((x : X) → f x ≤ g x + h x) → (xs : List X) → sum_by f xs ≤ sum_by g xs + sum_by h xs
sum_by_two f g h le [] = omega arith
sum_by_two f g h le (x ∷ xs) = omega (arith, sum_by-cons f x xs, sum_by-cons g x xs, sum_by-cons h x xs, le x, sum_by_two f g h le xs)

sum_by_each : {X : Type 0} (f g : X → ℕ) (xs : List X) → AllByRecursion (λ x. f x ≤ g x) xs → sum_by f xs ≤ sum_by g xs
sum_by_each f g [] h = omega arith
sum_by_each f g (x ∷ xs) h = omega (arith, sum_by-cons f x xs, sum_by-cons g x xs, h.0, sum_by_each f g xs h.1)

sum_of_none : {X : Type 0} (f : X → ℕ) → ((x : X) → f x ≡ 0) → (xs : List X) → sum_by f xs ≡ 0
sum_of_none f h [] = refl
sum_of_none f h (x ∷ xs) = omega (arith, sum_by-cons f x xs, h x, sum_of_none f h xs)

-- Task by task

below_next : (task n v : ℕ) → cond (nat_lt task (suc n)) v 0 ≤ cond (nat_lt task n) v 0 + cond (task == n) v 0
below_next task n v = grind (arith, nat_tests)

below_none : (task v : ℕ) → cond (nat_lt task 0) v 0 ≡ 0
below_none task v = grind (arith, nat_tests)

below_all : (task n v : ℕ) → task < n → v ≤ cond (nat_lt task n) v 0
below_all task n v lt = grind (arith, nat_tests)

by_kind : (collects here inside : Bool) (slots own : ℕ) → cond here (cond inside (cond collects slots own) 0) 0
    ≤ cond ((not collects && here) && inside) own 0 + cond ((collects && here) && inside) slots 0
by_kind true true true slots own = omega arith
by_kind true true false slots own = omega arith
by_kind true false inside slots own = omega arith
by_kind false true true slots own = omega arith
by_kind false true false slots own = omega arith
by_kind false false inside slots own = omega arith

planned_task : (plan : DiePlan) (terms : Terms) (end : ℕ) (a : TaskArrival) (b : Bool)
    → MatchBool b (IsDemandedCollection plan terms end a) (IsDemandedJob plan terms a) → a.task < length plan.caps
planned_task plan terms end a true h = h.task
planned_task plan terms end a false h = h.task

-- the operations of a job, and the slots that a collection takes at most
abbrev pub operations_of : TaskArrival → ℕ
operations_of a = length a.ops

abbrev pub most_of : DiePlan → TaskArrival → ℕ
most_of plan a = collection_work plan

module _ (plan : DiePlan) (terms : Terms) (start end : ℕ) where
  -- what the jobs and the collections of a task ask of the window
  abbrev jobs_in : List TaskArrival → ℕ → ℕ
  jobs_in all task = bursts.weight_of release_of due_of (is_job_of task) operations_of
      (bursts.is_inside release_of due_of (is_job_of task) operations_of start end) all

  abbrev collections_in : List TaskArrival → ℕ → ℕ
  collections_in all task = bursts.weight_of release_of due_of (is_collection_of task) (most_of plan)
      (bursts.is_inside release_of due_of (is_collection_of task) (most_of plan) start end) all

  of_task : (all : List TaskArrival) (task : ℕ) → sum_by (λ a. cond (a.task == task) (asked_of plan start end a) 0) all
      ≤ jobs_in all task + collections_in all task
  of_task all task =
      sum_by_two (λ a. cond (a.task == task) (asked_of plan start end a) 0)
      (λ a. cond (bursts.is_inside release_of due_of (is_job_of task) operations_of start end a) (operations_of a) 0)
      (λ a. cond (bursts.is_inside release_of due_of (is_collection_of task) (most_of plan) start end a) (most_of plan a) 0)
      (λ a. by_kind a.collects (a.task == task) (is_in_window start end a) (collection_work plan) (length a.ops)) all

  -- what is known of it
  pub record AreFew (all : List TaskArrival) : Type 0 where
    pub jobs : (task : ℕ) → task < length plan.caps
        → jobs_in all task ≤ (terms_of terms task).work * periods_within (terms_of terms task).period (terms_of terms task).deadline (end - start)
    pub collections : (task : ℕ) → task < length plan.caps
        → collections_in all task
        ≤ collection_work plan * periods_within (terms_of terms task).collect_period (terms_of terms task).collect_deadline (end - start)

  of_first : (all : List TaskArrival) → HasTerms plan terms → AreFew all → (n : ℕ) → n ≤ length plan.caps
      → sum_by (λ a. cond (nat_lt a.task n) (asked_of plan start end a) 0) all
      ≤ sum_by (task_demand_in plan (end - start)) (take n terms.tasks)
  of_first all has few zero le = omega (
    arith,
    sum_of_none (λ a. cond (nat_lt a.task 0) (asked_of plan start end a) 0)
        (λ a. below_none a.task (asked_of plan start end a)) all,
  )
  of_first all has few (suc n) le =
      let lt : n < length plan.caps = omega (arith, le) in
      let next : suc n ≡ n + 1 = omega arith in
      omega (
        arith,
        sum_by_two (λ a. cond (nat_lt a.task (suc n)) (asked_of plan start end a) 0)
            (λ a. cond (nat_lt a.task n) (asked_of plan start end a) 0) (λ a. cond (a.task == n) (asked_of plan start end a) 0)
            (λ a. below_next a.task n (asked_of plan start end a)) all,
        of_first all has few n (omega (arith, le)),
        of_task all n,
        few.jobs n lt,
        few.collections n lt,
        sum_by_more (task_demand_in plan (end - start)) terms.tasks n (record {
          period = 0;
          deadline = 0;
          held = 0;
          work = 0;
          writes = 0;
          collect_period = 0;
          collect_deadline = 0;
        }) (omega (arith, lt, has.one_each)),
        ap (λ (k : ℕ). sum_by (task_demand_in plan (end - start)) (take k terms.tasks)) next,
      )

  of_known : (last : ℕ) (all : List TaskArrival) → AllByRecursion (IsDemanded plan terms last) all
      → AllByRecursion (λ a. asked_of plan start end a ≤ cond (nat_lt a.task (length plan.caps)) (asked_of plan start end a) 0) all
  of_known last [] h = tt
  of_known last (a ∷ all) h = (
    below_all a.task (length plan.caps) (asked_of plan start end a) (planned_task plan terms last a a.collects h.0),
    of_known last all h.1,
  )

  -- so the demand covers all that is asked
  pub asked_within : (last : ℕ) (all : List TaskArrival) → HasTerms plan terms → AllByRecursion (IsDemanded plan terms last) all → AreFew all
      → sum_by (asked_of plan start end) all ≤ demand_in plan terms (end - start)
  asked_within last all has planned few =
      omega (
        arith,
        sum_by_each (asked_of plan start end) (λ a. cond (nat_lt a.task (length plan.caps)) (asked_of plan start end a) 0) all
            (of_known last all planned),
        of_first all has few (length plan.caps) (omega arith),
        ap (λ (ts : List TaskTerms). sum_by (task_demand_in plan (end - start)) ts)
            (take_all (length plan.caps) terms.tasks (omega (arith, has.one_each))),
      )
