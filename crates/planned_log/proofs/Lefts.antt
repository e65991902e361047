-- What is left of a slot: its collections, each once, and the slot.
use Rattle.std.proofs.Common.{◌≡◌, ℕ, zero, suc, ◌+◌, ◌%◌, ◌<◌, ◌≤◌, ◌==◌, Bool, true, false, cond}
use Rattle.std.proofs.Common.{List, [], ◌∷◌, ◌++◌, length, get_or, count_by, sum_by, refl, ap, sym, subst, inl, inr, arith}
use Rattle.std.specs.List.{AllByRecursion}
use Rattle.std.proofs.lemmas.Bool.{cases_Bool, eq-eqb, ne_eqb, eqb-true}
use Rattle.std.proofs.lemmas.Bool.Decides.{nat_tests}
use Rattle.std.proofs.lemmas.List.Sums.{sum_by-cons}
use Rattle.slot_types.specs.declared.plans.DiePlan.{DiePlan}
use Rattle.slot_types.specs.declared.events.Event.{Event}
use Rattle.slot_types.specs.declared.events.Event.TheVariants as events
use Rattle.plan_rules.specs.Keeping.{TaskArrival, arrivals, slots, is_slot, is_collection_at}
use Rattle.demand_rules.specs.declared.terms.TaskTerms.{TaskTerms}
use Rattle.demand_rules.specs.declared.terms.Terms.{Terms}
use Rattle.demand_rules.specs.Demand.{terms_of}
use Rattle.demand_rules.specs.Keeping.{IsDemanded}
use Rattle.planned_log.specs.KeptLogs.{comes_at, collections_at}
use Rattle.planned_log.specs.Lives.{IsLife, IsWithinLife}

abbrev pub ended_by : List TaskTerms → ℕ → ℕ → List Event
ended_by ts first now = collections_at ts first now ++ events.Slot ∷ []

pub slots_cons : (event : Event) (rest : List Event) → slots (event ∷ rest) ≡ cond (is_slot event) 1 0 + slots rest
slots_cons event rest = sum_by-cons (λ e. cond (is_slot e) 1 0) event rest

pub one_slot : (first now : ℕ) (ts : List TaskTerms) → slots (ended_by ts first now) ≡ 1
one_slot first now [] = refl
one_slot first now (t ∷ ts) = elim (cases_Bool (comes_at t.collect_period now)) [
  | inl due ↦ rw due (omega (
    arith,
    slots_cons (events.Collect first now (now + t.collect_deadline)) (ended_by ts (first + 1) now),
    one_slot (first + 1) now ts,
  ))
  | inr not_due ↦ rw not_due (one_slot (first + 1) now ts)
]

abbrev collection : ℕ → ℕ → ℕ → TaskArrival
collection now task due = record { at = now; collects = true; task = task; release = now; due = due; ops = [] }

-- what weighs jobs alone weighs nothing of it
pub no_jobs : (weight : TaskArrival → ℕ) → ((a : TaskArrival) → a.collects ≡ true → weight a ≡ 0) → (at first now : ℕ) (ts : List TaskTerms)
    → sum_by weight (arrivals at (ended_by ts first now)) ≡ 0
no_jobs weight none at first now [] = refl
no_jobs weight none at first now (t ∷ ts) = elim (cases_Bool (comes_at t.collect_period now)) [
  | inl due ↦ rw due (omega (
    arith,
    sum_by-cons weight (record { at = at; collects = true; task = first; release = now; due = now + t.collect_deadline; ops = [] })
        (arrivals at (ended_by ts (first + 1) now)),
    none (record { at = at; collects = true; task = first; release = now; due = now + t.collect_deadline; ops = [] }) refl,
    no_jobs weight none at (first + 1) now ts,
  ))
  | inr not_due ↦ rw not_due (no_jobs weight none at (first + 1) now ts)
]

-- the terms from a task on are those of the tasks
abbrev pub AreTermsFrom : Terms → ℕ → List TaskTerms → Type 0
AreTermsFrom terms first ts = (k : ℕ) (d : TaskTerms) → k < length ts → terms_of terms (first + k) ≡ get_or ts k d

terms_next : (terms : Terms) (first : ℕ) (t : TaskTerms) (ts : List TaskTerms) → AreTermsFrom terms first (t ∷ ts) → AreTermsFrom terms (first + 1) ts
terms_next terms first t ts h k d lt = subst (λ n. terms_of terms n ≡ get_or ts k d) (moved first k) (h (suc k) d (omega (arith, lt)))
  where
    moved : (a b : ℕ) → a + suc b ≡ a + 1 + b
    moved a b = omega arith

terms_here : (terms : Terms) (first : ℕ) (t : TaskTerms) (ts : List TaskTerms) → AreTermsFrom terms first (t ∷ ts) → terms_of terms first ≡ t
terms_here terms first t ts h = subst (λ n. terms_of terms n ≡ t) (stays first) (h 0 t (omega arith))
  where
    stays : (a : ℕ) → a + 0 ≡ a
    stays a = omega arith

module _ (plan : DiePlan) (terms : Terms) (life : ℕ) (is_life : IsLife plan terms life) where
  due_here : (first now : ℕ) (t : TaskTerms) (ts : List TaskTerms) → AreTermsFrom terms first (t ∷ ts) → first < length plan.caps → now < life
      → comes_at t.collect_period now ≡ true
      → (now % (terms_of terms first).collect_period ≡ 0) × (now + t.collect_deadline ≤ life)
      × (now + t.collect_deadline ≡ now + (terms_of terms first).collect_deadline)
  due_here first now t ts are lt before due =
      let here = terms_here terms first t ts are in
      let multiple : now % (terms_of terms first).collect_period ≡ 0 =
      subst (λ (x : TaskTerms). now % x.collect_period ≡ 0) (sym here) (eqb-true (now % t.collect_period) 0 due) in
      let same : now + t.collect_deadline ≡ now + (terms_of terms first).collect_deadline =
      ap (λ (x : TaskTerms). now + x.collect_deadline) (sym here) in
      (multiple, omega (arith, is_life.collected first now lt before multiple, same), same)

  -- it is planned, and within the life
  pub left_planned : (end now first : ℕ) (ts : List TaskTerms) → now < end → now < life → first + length ts ≤ length plan.caps
      → AreTermsFrom terms first ts → AllByRecursion (IsDemanded plan terms end) (arrivals now (ended_by ts first now))
      × AllByRecursion (IsWithinLife life) (arrivals now (ended_by ts first now))
  left_planned end now first [] early before fits are = (tt, tt)
  left_planned end now first (t ∷ ts) early before fits are =
      let rest = left_planned end now (first + 1) ts early before (omega (arith, fits)) (terms_next terms first t ts are) in
      elim (cases_Bool (comes_at t.collect_period now)) [
        | inl due ↦ rw due (
            let lt : first < length plan.caps = omega (arith, fits) in
            let h = due_here first now t ts are lt before due in (
              (
                record {
                  task = lt;
                  comes = refl;
                  slot = record { multiple = h.0; before_end = early; due_limit = omega (arith, h.1, h.2, is_life.within) };
                  due = h.2;
                },
                rest.0,
              ),
              (record { comes = refl; due = h.1 }, rest.1),
            ))
        | inr not_due ↦ rw not_due rest
      ]

-- of each task that has a collection in the slot one is left

away : (task slot : ℕ) (a : TaskArrival) → (a.task == task) ≡ false → is_collection_at task slot a ≡ false
away task slot a other = grind (arith, nat_tests, other)

elsewhere : (task slot : ℕ) (a : TaskArrival) → (a.at ≡ slot → ⊥) → is_collection_at task slot a ≡ false
elsewhere task slot a other = by_test (a.at == slot) refl
  where
    by_test : (b : Bool) → (a.at == slot) ≡ b → is_collection_at task slot a ≡ false
    by_test true e = absurd (other (eqb-true a.at slot e))
    by_test false e = grind (arith, nat_tests, e)

abbrev count_at : ℕ → ℕ → List TaskArrival → ℕ
count_at task slot came = count_by (is_collection_at task slot) came

count_cons : (task slot : ℕ) (a : TaskArrival) (came : List TaskArrival) → count_at task slot (a ∷ came)
    ≡ cond (is_collection_at task slot a) 1 0 + count_at task slot came
count_cons task slot a came = sum_by-cons (λ b. cond (is_collection_at task slot b) 1 0) a came

-- none that comes in another slot
pub none_elsewhere : (task slot : ℕ) (came : List TaskArrival) → AllByRecursion (λ a. a.at ≡ slot → ⊥) came → count_at task slot came ≡ 0
none_elsewhere task slot [] h = refl
none_elsewhere task slot (a ∷ came) h = omega (
  arith,
  count_cons task slot a came,
  ap {B = ℕ} (λ b. cond b 1 0) (elsewhere task slot a h.0),
  none_elsewhere task slot came h.1,
)

-- all of it comes in one slot
pub left_here : (at first now : ℕ) (ts : List TaskTerms) → AllByRecursion (λ a. a.at ≡ at) (arrivals at (ended_by ts first now))
left_here at first now [] = tt
left_here at first now (t ∷ ts) = elim (cases_Bool (comes_at t.collect_period now)) [
  | inl due ↦ rw due (refl, left_here at (first + 1) now ts)
  | inr not_due ↦ rw not_due (left_here at (first + 1) now ts)
]

module _ (task now : ℕ) where
  left_count_cons : (first : ℕ) (t : TaskTerms) (ts : List TaskTerms) → comes_at t.collect_period now ≡ true → (b : Bool) → (first == task) ≡ b
      → count_at task now (arrivals now (ended_by (t ∷ ts) first now)) ≡ cond b 1 0 + count_at task now (arrivals now (ended_by ts (first + 1) now))
  left_count_cons first t ts due b is = rw due (omega (
    arith,
    count_cons task now (collection now first (now + t.collect_deadline)) (arrivals now (ended_by ts (first + 1) now)),
    ap {B = ℕ} (λ c. cond c 1 0) (here b is),
  ))
    where
      here : (b : Bool) → (first == task) ≡ b → is_collection_at task now (collection now first (now + t.collect_deadline)) ≡ b
      here true e = grind (arith, nat_tests, e)
      here false e = grind (arith, nat_tests, e)

  -- none is left of a task before these
  left_without : (first : ℕ) (ts : List TaskTerms) → task < first → count_at task now (arrivals now (ended_by ts first now)) ≡ 0
  left_without first [] after = refl
  left_without first (t ∷ ts) after = elim (cases_Bool (comes_at t.collect_period now)) [
    | inl due ↦ omega (
      arith,
      left_count_cons first t ts due false (ne_eqb first task (λ e. absurd (omega (arith, after, e)))),
      left_without (first + 1) ts (omega (arith, after)),
    )
    | inr not_due ↦ rw not_due (left_without (first + 1) ts (omega (arith, after)))
  ]

  pub left_once : (first k : ℕ) (ts : List TaskTerms) (d : TaskTerms) → task ≡ first + k → k < length ts
      → comes_at (get_or ts k d).collect_period now ≡ true → count_at task now (arrivals now (ended_by ts first now)) ≡ 1
  left_once first k [] d at lt due = absurd (omega (arith, lt))
  left_once first zero (t ∷ ts) d at lt due = omega (
    arith,
    left_count_cons first t ts due true (eq-eqb first task (omega (arith, at))),
    left_without (first + 1) ts (omega (arith, at)),
  )
  left_once first (suc k) (t ∷ ts) d at lt due =
      let rest = left_once (first + 1) k ts d (omega (arith, at)) (omega (arith, lt)) due in
      elim (cases_Bool (comes_at t.collect_period now)) [
        | inl here ↦ omega (arith, left_count_cons first t ts here false (ne_eqb first task (λ e. absurd (omega (arith, at, e)))), rest)
        | inr not_here ↦ rw not_here rest
      ]
