-- The jobs and the collections of a task come a period apart where events keep to the plan.
use Rattle.std.proofs.Common.{◌≡◌, ℕ, suc, ◌+◌, ◌*◌, ◌/◌, ◌%◌, ◌<◌, ◌≤◌, ◌==◌, ◌&&◌, not, Bool, true, false, cond, List, [], ◌∷◌, length}
use Rattle.std.proofs.Common.{count_by, AllPairs, refl, sym, ap, subst, ◌∙◌, inl, inr, arith}
use Rattle.std.specs.Prelude.{MatchBool}
use Rattle.std.specs.List.{AllByRecursion}
use Rattle.std.proofs.Math.Nat.{mul-le-mul_right}
use Rattle.std.proofs.lemmas.Nat.{div-add-mod'}
use Rattle.std.proofs.lemmas.Bool.{true≢false, cases_Bool, cases_lt, and_parts, and_from, not-true, eqb-true, eq-eqb}
use Rattle.std.proofs.lemmas.List.Elements.{recursion_from_All}
use Rattle.std.proofs.lemmas.List.Sums.{sum_by-cons}
use Rattle.slot_types.specs.declared.plans.DiePlan.{DiePlan}
use Rattle.slot_types.specs.declared.limits.TheConstants.{MAX_SLOT}
use Rattle.slot_types.specs.declared.events.Event.{Event}
use Rattle.slot_types.specs.declared.events.Event.TheVariants as events
use Rattle.slot_types.specs.declared.plans.Times.{Times}
use Rattle.plan_rules.specs.Times.{times_of}
use Rattle.plan_rules.specs.Keeping.{TaskArrival, arrivals, slots, IsPlannedJob, IsPlannedCollection, IsPlanned, is_collection_at}
use Rattle.plan_rules.specs.Keeping.{IsCollectSlot, KeepsPlan}
use Rattle.plan_rules.specs.Keeping as keeping
use Rattle.plan_rules.proofs.Windows as windows

-- below, jobs or collections of one task

abbrev pub is_job_of : ℕ → TaskArrival → Bool
is_job_of task a = not a.collects && (a.task == task)

abbrev pub is_collection_of : ℕ → TaskArrival → Bool
is_collection_of task a = a.collects && (a.task == task)

abbrev pub release_of : TaskArrival → ℕ
release_of a = a.release

abbrev pub due_of : TaskArrival → ℕ
due_of a = a.due

-- What the tests and the plan say

as_job : (plan : DiePlan) (times : Times) (end task : ℕ) (a : TaskArrival) → IsPlanned plan times end a → is_job_of task a ≡ true
    → (a.collects ≡ false) × (a.task ≡ task) × IsPlannedJob plan times a
as_job plan times end task a h is =
    let p = and_parts (not a.collects) (a.task == task) is in
    let kind : a.collects ≡ false = not-true a.collects p.0 in
    (kind, eqb-true a.task task p.1, subst (λ b. MatchBool b (IsPlannedCollection plan times end a) (IsPlannedJob plan times a)) kind h)

as_collection : (plan : DiePlan) (times : Times) (end task : ℕ) (a : TaskArrival) → IsPlanned plan times end a → is_collection_of task a ≡ true
    → (a.collects ≡ true) × (a.task ≡ task) × IsPlannedCollection plan times end a
as_collection plan times end task a h is =
    let p = and_parts a.collects (a.task == task) is in
    (p.0, eqb-true a.task task p.1, subst (λ b. MatchBool b (IsPlannedCollection plan times end a) (IsPlannedJob plan times a)) p.0 h)

-- Jobs

module _ (plan : DiePlan) (times : Times) (end task : ℕ) where
  jobs_after : (a : TaskArrival) → (a.collects ≡ false) → a.task ≡ task → (rest : List TaskArrival)
      → AllByRecursion (IsPlanned plan times end) rest → AllByRecursion (keeping.AreApart times a) rest
      → AllByRecursion (λ b. is_job_of task b ≡ true → a.release + (times_of times task).period ≤ b.release) rest
  jobs_after a kind of [] planned apart = tt
  jobs_after a kind of (b ∷ rest) planned apart = (
    (λ is.
        let k = as_job plan times end task b planned.0 is in
        subst (λ i. a.release + (times_of times i).period ≤ b.release) of (apart.0 kind k.0 (of ∙ sym k.1))),
    jobs_after a kind of rest planned.1 apart.1,
  )

  pub jobs_apart_in : (all : List TaskArrival) → AllByRecursion (IsPlanned plan times end) all → AllPairs (keeping.AreApart times) all
      → windows.AreApart release_of due_of (is_job_of task) (times_of times task).period all
  jobs_apart_in [] planned apart = tt
  jobs_apart_in (a ∷ rest) planned apart = (
    (λ is.
        let k = as_job plan times end task a planned.0 is in (
          subst (λ i. a.due ≡ a.release + (times_of times i).period) k.1 k.2.due,
          jobs_after a k.0 k.1 rest planned.1 (recursion_from_All (keeping.AreApart times a) rest
              (λ i d lt. apart 0 (suc i) d (omega arith) (omega (arith, lt)))),
        )),
    jobs_apart_in rest planned.1 (λ i j d lt below. apart (suc i) (suc j) d (omega (arith, lt)) (omega (arith, below))),
  )

-- Collections

-- arrivals come one after the other
abbrev ComesLater : List TaskArrival → Type 0
ComesLater [] = Unit {0}
ComesLater (a ∷ rest) = AllByRecursion (λ b. a.at ≤ b.at) rest × ComesLater rest

sooner : (n m : ℕ) → n ≤ m → (all : List TaskArrival) → AllByRecursion (λ b. m ≤ b.at) all → AllByRecursion (λ b. n ≤ b.at) all
sooner n m le [] h = tt
sooner n m le (b ∷ rest) h = (omega (arith, le, h.0), sooner n m le rest h.1)

pub come_from : (now : ℕ) (all : List Event) → AllByRecursion (λ b. now ≤ b.at) (arrivals now all)
come_from now [] = tt
come_from now (events.Submit task release due ops ∷ rest) = (omega arith, come_from now rest)
come_from now (events.Collect task release due ∷ rest) = (omega arith, come_from now rest)
come_from now (events.Slot ∷ rest) = sooner now (now + 1) (omega arith) (arrivals (now + 1) rest) (come_from (now + 1) rest)

come_later : (now : ℕ) (all : List Event) → ComesLater (arrivals now all)
come_later now [] = tt
come_later now (events.Submit task release due ops ∷ rest) = (come_from now rest, come_later now rest)
come_later now (events.Collect task release due ∷ rest) = (come_from now rest, come_later now rest)
come_later now (events.Slot ∷ rest) = come_later (now + 1) rest

-- two multiples of a number are a whole one apart
next_multiple : (n m q : ℕ) → n % q ≡ 0 → m % q ≡ 0 → n < m → n + q ≤ m
next_multiple n m q a b lt =
    let first : n ≡ n / q * q = omega (arith, div-add-mod' n q, a) in
    let second : m ≡ m / q * q = omega (arith, div-add-mod' m q, b) in
    elim (cases_lt (n / q) (m / q)) [
      | inl less ↦ (
          let up : (n / q + 1) * q ≤ m / q * q = mul-le-mul_right q (omega (arith, less)) in
          omega (arith, up, first, second, one_more (n / q) q))
      | inr more ↦ (
          let down : m / q * q ≤ n / q * q = mul-le-mul_right q (omega (arith, more)) in
          absurd (omega (arith, down, first, second, lt)))
    ]
  where
    one_more : (k p : ℕ) → (k + 1) * p ≡ k * p + p
    one_more k p = grind arith

-- what isn't counted doesn't pass
none_counted : {X : Type 0} (test : X → Bool) (xs : List X) → count_by test xs ≡ 0 → AllByRecursion (λ x. test x ≡ false) xs
none_counted test [] h = tt
none_counted test (x ∷ xs) h =
    let sum : count_by test (x ∷ xs) ≡ cond (test x) 1 0 + count_by test xs = sum_by-cons (λ y. cond (test y) 1 0) x xs in
    elim (cases_Bool (test x)) [
      | inl passes ↦ (let one : ◌≡◌ {A = ℕ} (cond (test x) 1 0) 1 = ap (λ b. cond b 1 0) passes in absurd (omega (arith, sum, h, one)))
      | inr fails ↦ (fails, none_counted test xs (omega (arith, sum, h)))
    ]

module _ (plan : DiePlan) (times : Times) (end task : ℕ) where
  -- in each slot at which the plan has one, at most one collection of the task comes
  abbrev AtMostOne : List TaskArrival → Type 0
  AtMostOne all =
      (slot : ℕ) → IsCollectSlot times end task slot → count_by (is_collection_at task slot) all ≤ 1

  fewer : (a : TaskArrival) (rest : List TaskArrival) → AtMostOne (a ∷ rest) → AtMostOne rest
  fewer a rest h slot at =
      omega (arith, sum_by-cons (λ b. cond (is_collection_at task slot b) 1 0) a rest, h slot at)

  collections_after : (a : TaskArrival) → a.release ≡ a.at → a.release % (times_of times task).collect_period ≡ 0 → (rest : List TaskArrival)
      → AllByRecursion (IsPlanned plan times end) rest
      → AllByRecursion (λ b. a.at ≤ b.at) rest → AllByRecursion (λ b. is_collection_at task a.at b ≡ false) rest
      → AllByRecursion (λ b. is_collection_of task b ≡ true → a.release + (times_of times task).collect_period ≤ b.release) rest
  collections_after a comes multiple [] planned later others = tt
  collections_after a comes multiple (b ∷ rest) planned later others =
      (here, collections_after a comes multiple rest planned.1 later.1 others.1)
    where
      here : is_collection_of task b ≡ true → a.release + (times_of times task).collect_period ≤ b.release
      here is =
          let k = as_collection plan times end task b planned.0 is in
          let own : b.release % (times_of times task).collect_period
          ≡ 0 = subst (λ i. b.release % (times_of times i).collect_period ≡ 0) k.1 k.2.slot.multiple in
          let apart : b.at ≡ a.at → ⊥ = λ same. true≢false
          (sym (and_from (is_collection_of task b) (b.at == a.at) is (eq-eqb b.at a.at same)) ∙ others.0) in
          let beyond : a.at < b.at = elim (cases_lt a.at b.at)
          [ inl less ↦ less | inr more ↦ absurd (apart (omega (arith, more, later.0))) ] in
          next_multiple a.release b.release (times_of times task).collect_period multiple own (omega (arith, beyond, comes, k.2.comes))

  pub collections_apart_in : (all : List TaskArrival) → AllByRecursion (IsPlanned plan times end) all → ComesLater all → AtMostOne all
      → windows.AreApart release_of due_of (is_collection_of task) (times_of times task).collect_period all
  collections_apart_in [] planned later once = tt
  collections_apart_in (a ∷ rest) planned later once = (here, collections_apart_in rest planned.1 later.1 (fewer a rest once))
    where
      here : is_collection_of task a ≡ true
          → (a.due ≡ a.release + (times_of times task).collect_period)
          × AllByRecursion (λ b. is_collection_of task b ≡ true → a.release + (times_of times task).collect_period ≤ b.release) rest
      here is =
          let k = as_collection plan times end task a planned.0 is in
          let due : a.due ≡ a.release + (times_of times task).collect_period = subst (λ i. a.due
          ≡ a.release + (times_of times i).collect_period) k.1 k.2.due in
          let multiple : a.release % (times_of times task).collect_period
          ≡ 0 = subst (λ i. a.release % (times_of times i).collect_period ≡ 0) k.1 k.2.slot.multiple in
          let within : a.release + (times_of times task).collect_period
          ≤ MAX_SLOT = subst (λ i. a.release + (times_of times i).collect_period ≤ MAX_SLOT) k.1 k.2.slot.due_limit in
          let at_release : a.at % (times_of times task).collect_period
          ≡ 0 = subst (λ n. n % (times_of times task).collect_period ≡ 0) k.2.comes multiple in
          let counted = sum_by-cons (λ b. cond (is_collection_at task a.at b) 1 0) a rest in
          let one : ◌≡◌ {A = ℕ} (cond (is_collection_at task a.at a) 1 0) 1 = ap (λ b. cond b 1 0)
          (and_from (is_collection_of task a) (a.at == a.at) is (eq-eqb a.at a.at refl)) in
          let all = once a.at (record {
            multiple = at_release;
            before_end = omega (arith, k.2.comes, k.2.slot.before_end);
            due_limit = omega
                (arith, k.2.comes, within);
          }) in (
            due,
            collections_after a k.2.comes multiple rest planned.1 later.0
                (none_counted (is_collection_at task a.at) rest (omega (arith, counted, one, all))),
          )

-- Events that keep to the plan

pub jobs_apart : (plan : DiePlan) (times : Times) (all : List Event) → KeepsPlan plan times all → (task : ℕ)
    → windows.AreApart release_of due_of (is_job_of task) (times_of times task).period (arrivals 0 all)
jobs_apart plan times all keeps task =
    jobs_apart_in plan times (slots all) task (arrivals 0 all)
    (recursion_from_All (IsPlanned plan times (slots all)) (arrivals 0 all) keeps.planned) keeps.apart

pub collections_apart : (plan : DiePlan) (times : Times) (all : List Event) → KeepsPlan plan times all → (task : ℕ) → task
    < length plan.caps
    → windows.AreApart release_of due_of (is_collection_of task) (times_of times task).collect_period (arrivals 0 all)
collections_apart plan times all keeps task lt =
    collections_apart_in plan times (slots all) task (arrivals 0 all)
    (recursion_from_All (IsPlanned plan times (slots all)) (arrivals 0 all) keeps.planned) (come_later 0 all)
    (λ slot at. omega (arith, keeps.collected task slot lt at))
