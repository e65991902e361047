-- How many jobs and collections come where events keep a plan: no more than a life has numbers.
use Rattle.std.proofs.Common.{◌≡◌, ℕ, ◌+◌, ◌-◌, ◌*◌, ◌/◌, ◌%◌, ◌<◌, ◌≤◌, ◌==◌, ◌&&◌, nat_le, nat_lt, Bool, true, false, cond}
use Rattle.std.proofs.Common.{List, [], ◌∷◌, length, count_by, sum_by, refl, sym, ap, subst, ◌⊎◌, inl, inr, arith}
use Rattle.std.specs.Prelude.{MatchBool}
use Rattle.std.specs.List.{AllByRecursion}
use Rattle.std.proofs.Math.Nat.{mul-le-mul_left, mul-le-mul_right}
use Rattle.std.proofs.lemmas.Nat.{div-add-mod'}
use Rattle.std.proofs.lemmas.Bool.{cases_Bool, cases_lt, and_parts, and_from, eq-eqb, leb-true, ltb-true, le-leb}
use Rattle.std.proofs.lemmas.List.Sums.{sum_by-cons}
use Rattle.slot_types.specs.declared.plans.DiePlan.{DiePlan}
use Rattle.plan_rules.specs.Keeping.{TaskArrival, is_collection_at}
use Rattle.plan_rules.proofs.Arriving.{is_job_of, is_collection_of, release_of, due_of}
use Rattle.plan_rules.proofs.Windows.{count_more}
use Rattle.demand_rules.specs.declared.terms.TaskTerms.{TaskTerms}
use Rattle.demand_rules.specs.declared.terms.Terms.{Terms}
use Rattle.demand_rules.specs.Demand.{terms_of, task_demand_in, demand_in, HasTerms}
use Rattle.demand_rules.specs.Keeping.{IsDemanded, IsDemandedJob, IsDemandedCollection, IsCollectSlot, is_released_in}
use Rattle.demand_rules.specs.Fitting.{asked_of}
use Rattle.demand_rules.proofs.Bursts as bursts
use Rattle.demand_rules.proofs.Asking.{asked_within, operations_of, most_of}
use Rattle.demand_rules.proofs.Fitting.{task_terms, as_job, as_collection}
use Rattle.planned_log.specs.Lives.{task_arrivals, most_arrivals}

-- two multiples of a number that are less than it apart are one
one_multiple : (n m q : ℕ) → n % q ≡ 0 → m % q ≡ 0 → n ≤ m → m < n + q → n ≡ m
one_multiple n m q a b le near =
    let first : n ≡ n / q * q = omega (arith, div-add-mod' n q, a) in
    let second : m ≡ m / q * q = omega (arith, div-add-mod' m q, b) in
    elim (cases_lt (n / q) (m / q)) [
      | inl less ↦ (
          let up : (n / q + 1) * q ≤ m / q * q = mul-le-mul_right q (omega (arith, less)) in
          absurd (omega (arith, up, first, second, one_more (n / q) q, near)))
      | inr more ↦ (
          let down : m / q * q ≤ n / q * q = mul-le-mul_right q (omega (arith, more)) in
          omega (arith, down, first, second, le))
    ]
  where
    one_more : (k p : ℕ) → (k + 1) * p ≡ k * p + p
    one_more k p = grind arith

module _ (plan : DiePlan) (terms : Terms) (end task : ℕ) where
  jobs_have : (all : List TaskArrival) → AllByRecursion (IsDemanded plan terms end) all
      → AllByRecursion (bursts.HasSlots release_of due_of (is_job_of task) operations_of (terms_of terms task).deadline) all
  jobs_have [] h = tt
  jobs_have (a ∷ all) h = (
    (λ is. (let k = as_job plan terms end task a h.0 is in subst (λ i. a.release + (terms_of terms i).deadline ≤ a.due) k.1 k.2.due)),
    jobs_have all h.1,
  )

  collections_have : (all : List TaskArrival) → AllByRecursion (IsDemanded plan terms end) all
      → AllByRecursion (bursts.HasSlots release_of due_of (is_collection_of task) (most_of plan) (terms_of terms task).collect_deadline) all
  collections_have [] h = tt
  collections_have (a ∷ all) h = (
    (λ is.
        let k = as_collection plan terms end task a h.0 is in
        let due : a.due ≡ a.release + (terms_of terms task).collect_deadline = subst (λ i. a.due
        ≡ a.release + (terms_of terms i).collect_deadline) k.1 k.2.due in
        omega (arith, due)),
    collections_have all h.1,
  )

  -- in any collect period a collection of the task is released in one slot alone
  abbrev released : ℕ → TaskArrival → Bool
  released start a = bursts.is_released_in release_of due_of (is_collection_of task) (most_of plan) start (start + (terms_of terms task).collect_period) a

  -- a slot of a released collection, if there is one
  record IsSlotOf (start slot : ℕ) : Type 0 where
    planned : IsCollectSlot terms end task slot
    from : start ≤ slot
    near : slot < start + (terms_of terms task).collect_period

  slot_of : (start : ℕ) (a : TaskArrival) → IsDemanded plan terms end a → released start a ≡ true → IsSlotOf start a.at
      × (is_collection_at task a.at a ≡ true)
  slot_of start a h is =
      let p = and_parts (is_collection_of task a) (nat_le start a.release && nat_lt a.release (start + (terms_of terms task).collect_period)) is in
      let q = and_parts (nat_le start a.release) (nat_lt a.release (start + (terms_of terms task).collect_period)) p.1 in
      let k = as_collection plan terms end task a h p.0 in
      let at : IsCollectSlot terms end task a.at = subst (λ i. IsCollectSlot terms end i a.at) k.1
      (subst (λ n. IsCollectSlot terms end a.task n) k.2.comes k.2.slot) in (
        record {
          planned = at;
          from = omega (arith, leb-true start a.release q.0, k.2.comes);
          near = omega
              (arith, ltb-true a.release (start + (terms_of terms task).collect_period) q.1, k.2.comes);
        },
        and_from (is_collection_of task a) (a.at == a.at) p.0 (eq-eqb a.at a.at refl),
      )

  same_slot : (start n m : ℕ) → IsSlotOf start n → IsSlotOf start m → n ≡ m
  same_slot start n m a b = elim (cases_lt n m) [
    | inl less ↦ one_multiple n m (terms_of terms task).collect_period a.planned.multiple b.planned.multiple (omega (arith, less))
        (omega (arith, a.from, b.near))
    | inr more ↦ sym (one_multiple m n (terms_of terms task).collect_period b.planned.multiple a.planned.multiple (omega (arith, more))
        (omega (arith, b.from, a.near)))
  ]

  all_there : (start slot : ℕ) → IsSlotOf start slot → (all : List TaskArrival) → AllByRecursion (IsDemanded plan terms end) all
      → AllByRecursion (λ a. released start a ≡ true → is_collection_at task slot a ≡ true) all
  all_there start slot one [] h = tt
  all_there start slot one (a ∷ all) h = (
    (λ is.
        let k = slot_of start a h.0 is in
        subst (λ n. is_collection_at task n a ≡ true) (same_slot start a.at slot k.0 one) k.1),
    all_there start slot one all h.1,
  )

  -- none is released, or all are in one slot
  none_or_one : (start : ℕ) (all : List TaskArrival) → AllByRecursion (IsDemanded plan terms end) all
      → (count_by (released start) all ≡ 0) ⊎ ((slot : ℕ) × IsSlotOf start slot)
  none_or_one start [] h = inl refl
  none_or_one start (a ∷ all) h = elim (cases_Bool (released start a)) [
    | inl is ↦ inr (a.at, (slot_of start a h.0 is).0)
    | inr not_it ↦ elim (none_or_one start all h.1) [
      | inl none ↦ inl (omega (
        arith,
        sum_by-cons (λ b. cond (released start b) 1 0) a all,
        zero_by (released start a) not_it,
        none,
      ))
      | inr one ↦ inr one
    ]
  ]
    where
      zero_by : (b : Bool) → b ≡ false → ◌≡◌ {A = ℕ} (cond b 1 0) 0
      zero_by b e = ap (λ c. cond c 1 0) e

  weigh_one : (test : TaskArrival → Bool) (n : ℕ) (all : List TaskArrival) → count_by test all ≤ 1 → sum_by (λ a. cond (test a) n 0) all ≤ n
  weigh_one test n all one = omega (arith, weighed all, mul-le-mul_left n one, times_one n)
    where
      times_one : (k : ℕ) → k * 1 ≡ k
      times_one k = grind arith

      each : (b : Bool) (k : ℕ) → n * (cond b 1 0 + k) ≡ cond b n 0 + n * k
      each true k = grind arith
      each false k = grind arith

      weighed : (xs : List TaskArrival) → sum_by (λ a. cond (test a) n 0) xs ≡ n * count_by test xs
      weighed [] = grind arith
      weighed (a ∷ xs) = omega (
        arith,
        sum_by-cons (λ b. cond (test b) n 0) a xs,
        ap (λ (k : ℕ). n * k) (sum_by-cons (λ b. cond (test b) 1 0) a xs),
        each (test a) (count_by test xs),
        weighed xs,
      )

  one_in_period : (all : List TaskArrival) → AllByRecursion (IsDemanded plan terms end) all
      → ((slot : ℕ) → IsCollectSlot terms end task slot → count_by (is_collection_at task slot) all ≡ 1)
      → (start : ℕ) → count_by (released start) all ≤ 1
  one_in_period all h once start = elim (none_or_one start all h) [
    | inl none ↦ omega (arith, none)
    | inr one ↦ omega (
      arith,
      count_more (released start) (is_collection_at task one.0) all (all_there start one.0 one.1 all h),
      once one.0 one.1.planned,
    )
  ]

-- a plan whose collections take one slot each
abbrev counting : DiePlan → DiePlan
counting plan = record plan { alpha = 0; shape = record plan.shape { pages = 0; erase_slots = 1 } }

counted_event : (plan : DiePlan) (terms : Terms) (end : ℕ) (a : TaskArrival) (b : Bool)
    → MatchBool b (IsDemandedCollection plan terms end a) (IsDemandedJob plan terms a)
    → MatchBool b (IsDemandedCollection (counting plan) terms end a) (IsDemandedJob (counting plan) terms a)
counted_event plan terms end a true h = record { task = h.task; comes = h.comes; slot = h.slot; due = h.due }
counted_event plan terms end a false h = record {
  task = h.task;
  comes = h.comes;
  due = h.due;
  soon = h.soon;
  due_limit = h.due_limit;
  some = h.some;
  few = h.few;
  pages = h.pages;
}

counted_events : (plan : DiePlan) (terms : Terms) (end : ℕ) (all : List TaskArrival) → AllByRecursion (IsDemanded plan terms end) all
    → AllByRecursion (IsDemanded (counting plan) terms end) all
counted_events plan terms end [] h = tt
counted_events plan terms end (a ∷ all) h = (counted_event plan terms end a a.collects h.0, counted_events plan terms end all h.1)

-- what an arrival weighs
abbrev pub weight : TaskArrival → ℕ
weight a = cond a.collects 1 (length a.ops)

-- each has a slot of work at least
some_work : (plan : DiePlan) (terms : Terms) (end : ℕ) (a : TaskArrival) (b : Bool)
    → MatchBool b (IsDemandedCollection plan terms end a) (IsDemandedJob plan terms a) → 1 ≤ cond b 1 (length a.ops)
some_work plan terms end a true h = omega arith
some_work plan terms end a false h = h.some

each_asks : (plan : DiePlan) (life : ℕ) (all : List TaskArrival) → AllByRecursion (λ a. a.due ≤ life) all
    → sum_by weight all ≤ sum_by (asked_of (counting plan) 0 life) all
each_asks plan life [] due = omega arith
each_asks plan life (a ∷ all) due =
    omega (
      arith,
      sum_by-cons weight a all,
      sum_by-cons (asked_of (counting plan) 0 life) a all,
      here,
      each_asks plan life all due.1,
    )
  where
    same : (b : Bool) → cond b 1 (length a.ops) ≤ cond b 1 (length a.ops)
    same b = omega arith

    here : weight a ≤ asked_of (counting plan) 0 life a
    here = rw (le-leb 0 a.release (omega arith), le-leb a.due life due.0) (same a.collects)

each_weighs : (plan : DiePlan) (terms : Terms) (end : ℕ) (all : List TaskArrival) → AllByRecursion (IsDemanded plan terms end) all
    → length all ≤ sum_by weight all
each_weighs plan terms end [] h = omega arith
each_weighs plan terms end (a ∷ all) h = omega (
  arith,
  sum_by-cons weight a all,
  some_work plan terms end a a.collects h.0,
  each_weighs plan terms end all h.1,
)

same_demand : (plan : DiePlan) (slots : ℕ) (ts : List TaskTerms) → sum_by (task_demand_in (counting plan) slots) ts ≡ sum_by (task_arrivals slots) ts
same_demand plan slots [] = refl
same_demand plan slots (t ∷ ts) = omega (
  arith,
  sum_by-cons (task_demand_in (counting plan) slots) t ts,
  sum_by-cons (task_arrivals slots) t ts,
  same_demand plan slots ts,
)

-- so no more comes than a life may have
pub few_weights : (plan : DiePlan) (terms : Terms) (end life : ℕ) (came : List TaskArrival) → HasTerms plan terms
    → AllByRecursion (IsDemanded plan terms end) came → AllByRecursion (λ a. a.due ≤ life) came
    → ((task slot : ℕ) → task < length plan.caps → sum_by (λ a. cond (is_released_in task slot (slot + (terms_of terms task).period) a) (length a.ops) 0) came
    ≤ (terms_of terms task).work)
    → ((task slot : ℕ) → task < length plan.caps → IsCollectSlot terms end task slot → count_by (is_collection_at task slot) came ≡ 1)
    → sum_by weight came ≤ most_arrivals terms life
few_weights plan terms end life came has planned due few once =
    let plain : DiePlan = counting plan in
    let own = counted_events plan terms end came planned in
    let whole : life - 0 ≡ life = omega arith in
    let demand : demand_in plain terms (life - 0) ≡ sum_by (task_demand_in plain life) terms.tasks =
    ap (λ (n : ℕ). sum_by (task_demand_in plain n) terms.tasks) whole in
    omega (
      arith,
      each_asks plan life came due,
      asked_within plain terms 0 life end came (record { one_each = has.one_each; each = has.each }) own (record {
        jobs = λ task lt.
            bursts.inside_fit release_of due_of (is_job_of task) operations_of (terms_of terms task).period (terms_of terms task).deadline
            (terms_of terms task).work (task_terms plan terms task has lt).some_period came
            (jobs_have plan terms end task came planned) (λ slot. few task slot lt) 0 life (omega arith);
        collections = λ task lt.
            bursts.inside_fit release_of due_of (is_collection_of task) (most_of plain) (terms_of terms task).collect_period
            (terms_of terms task).collect_deadline 1 (task_terms plan terms task has lt).some_collect_period came
            (collections_have plain terms end task came own)
            (λ slot. weigh_one plain terms end task (released plain terms end task slot) 1 came
            (one_in_period plain terms end task came own (λ at is. once task at lt is) slot)) 0 life (omega arith);
      }),
      demand,
      same_demand plan life terms.tasks,
    )

pub few_come : (plan : DiePlan) (terms : Terms) (end life : ℕ) (came : List TaskArrival) → HasTerms plan terms
    → AllByRecursion (IsDemanded plan terms end) came → AllByRecursion (λ a. a.due ≤ life) came
    → ((task slot : ℕ) → task < length plan.caps → sum_by (λ a. cond (is_released_in task slot (slot + (terms_of terms task).period) a) (length a.ops) 0) came
    ≤ (terms_of terms task).work)
    → ((task slot : ℕ) → task < length plan.caps → IsCollectSlot terms end task slot → count_by (is_collection_at task slot) came ≡ 1)
    → length came ≤ most_arrivals terms life
few_come plan terms end life came has planned due few once = omega (
  arith,
  each_weighs plan terms end came planned,
  few_weights plan terms end life came has planned due few once,
)
