-- Events that keep the plan do so with one job more, and with the next slot and its collections.
use Rattle.std.proofs.Common.{◌≡◌, ℕ, ◌+◌, ◌<◌, ◌≤◌, ◌%◌, Bool, true, false, cond, List, [], ◌∷◌, ◌++◌, length, count_by, sum_by}
use Rattle.std.proofs.Common.{get_or, refl, ap, sym, subst, ◌∙◌, inl, inr, arith}
use Rattle.std.specs.Prelude.{MatchBool}
use Rattle.std.specs.List.{AllByRecursion}
use Rattle.std.proofs.lemmas.Bool.{cases_lt, eq-eqb}
use Rattle.std.proofs.lemmas.List.Elements.{recursion_from_All, All-from_recursion}
use Rattle.std.proofs.lemmas.List.Sums.{sum_by-append}
use Rattle.slot_types.specs.declared.plans.DiePlan.{DiePlan}
use Rattle.slot_types.specs.declared.events.Op.{Op}
use Rattle.slot_types.specs.declared.events.Event.{Event}
use Rattle.slot_types.specs.declared.events.Event.TheVariants as events
use Rattle.slot_types.specs.Operations.{writes}
use Rattle.plan_rules.specs.Keeping.{TaskArrival, arrivals, slots, is_collection_at}
use Rattle.plan_rules.proofs.Moments.{slots_append, arrivals_append}
use Rattle.demand_rules.specs.declared.terms.TaskTerms.{TaskTerms}
use Rattle.demand_rules.specs.declared.terms.Terms.{Terms}
use Rattle.demand_rules.specs.Demand.{terms_of, HasTerms}
use Rattle.demand_rules.specs.Keeping.{IsDemanded, IsDemandedJob, IsDemandedCollection, IsCollectSlot}
use Rattle.demand_rules.specs.Keeping.{KeepsDemandPlan, is_released_in, comes_in}
use Rattle.planned_log.specs.KeptLogs.{comes_at}
use Rattle.planned_log.specs.Lives.{IsLife, IsWithinLife}
use Rattle.planned_log.proofs.Counts.{few_come}
use Rattle.planned_log.proofs.Lefts.{ended_by, slots_cons, one_slot, no_jobs, AreTermsFrom, left_planned}
use Rattle.planned_log.proofs.Lefts.{none_elsewhere, left_here, left_once}
use Rattle.planned_log.proofs.Asking.{all_parts, all_joined, all_as}

-- what a task's jobs weigh that are released, or that come, in a period
abbrev pub operations_at : Terms → ℕ → ℕ → TaskArrival → ℕ
operations_at terms task slot a = cond (is_released_in task slot (slot + (terms_of terms task).period) a) (length a.ops) 0

abbrev pub writes_at : Terms → ℕ → ℕ → TaskArrival → ℕ
writes_at terms task slot a = cond (comes_in task slot (slot + (terms_of terms task).period) a) (writes a.ops) 0

no_operations : (terms : Terms) (task slot : ℕ) (a : TaskArrival) → a.collects ≡ true → operations_at terms task slot a ≡ 0
no_operations terms task slot a is = rw is refl

no_writes : (terms : Terms) (task slot : ℕ) (a : TaskArrival) → a.collects ≡ true → writes_at terms task slot a ≡ 0
no_writes terms task slot a is = rw is refl

-- a longer list has all that was planned
longer : (plan : DiePlan) (terms : Terms) (end more : ℕ) → end ≤ more → (a : TaskArrival) → IsDemanded plan terms end a → IsDemanded plan terms more a
longer plan terms end more le a h = by_kind a.collects h
  where
    by_kind : (b : Bool) → MatchBool b (IsDemandedCollection plan terms end a) (IsDemandedJob plan terms a)
        → MatchBool b (IsDemandedCollection plan terms more a) (IsDemandedJob plan terms a)
    by_kind true k = record {
      task = k.task;
      comes = k.comes;
      slot = record { multiple = k.slot.multiple; before_end = omega (arith, k.slot.before_end, le); due_limit = k.slot.due_limit };
      due = k.due;
    }
    by_kind false k = k

module _ (plan : DiePlan) (terms : Terms) (life : ℕ) (has : HasTerms plan terms) (is_life : IsLife plan terms life) where
  -- all about events
  build : (all : List Event) → slots all ≤ life → AllByRecursion (IsDemanded plan terms (slots all)) (arrivals 0 all)
      → AllByRecursion (IsWithinLife life) (arrivals 0 all)
      → ((task slot : ℕ) → task < length plan.caps → sum_by (operations_at terms task slot) (arrivals 0 all) ≤ (terms_of terms task).work)
      → ((task slot : ℕ) → task < length plan.caps → sum_by (writes_at terms task slot) (arrivals 0 all) ≤ (terms_of terms task).writes)
      → ((task slot : ℕ) → task < length plan.caps → IsCollectSlot terms (slots all) task slot → count_by (is_collection_at task slot) (arrivals 0 all) ≡ 1)
      → KeepsDemandPlan plan terms all
  build all within planned each ops written once = record {
    has = has;
    few_slots = omega (arith, within, is_life.within);
    few_arrivals = omega (
      arith,
      few_come plan terms (slots all) life (arrivals 0 all) has planned
          (all_as (IsWithinLife life) (λ a. a.due ≤ life) (λ a h. h.due) (arrivals 0 all) each) ops once,
      is_life.few,
    );
    planned = All-from_recursion (IsDemanded plan terms (slots all)) (arrivals 0 all) planned;
    few_operations = ops;
    few_writes = written;
    collected = once;
  }

  module _ (xs : List Event) (now first : ℕ) (ts : List TaskTerms) (clock : now ≡ slots xs) (before : now < life) where
    abbrev ys : List Event
    ys = ended_by ts first now

    abbrev left : List TaskArrival
    left = arrivals now ys

    length_is : slots (xs ++ ys) ≡ now + 1
    length_is = omega (arith, slots_append xs ys, one_slot first now ts, clock)

    parts : arrivals 0 (xs ++ ys) ≡ arrivals 0 xs ++ left
    parts = arrivals_append 0 now xs ys (omega (arith, clock))

    -- one job more
    module _ (task : ℕ) (ops : List Op) (due : ℕ) where
      abbrev job : Event
      job = events.Submit task now due ops

      abbrev arrival : TaskArrival
      arrival = record { at = now; collects = false; task = task; release = now; due = due; ops = ops }

      abbrev with_it : List Event
      with_it = xs ++ job ∷ []

      pub arrives : arrivals 0 with_it ≡ arrivals 0 xs ++ arrival ∷ []
      arrives = arrivals_append 0 now xs (job ∷ []) (omega (arith, clock))

      clock_with : now ≡ slots with_it
      clock_with = omega (arith, clock, slots_append xs (job ∷ []), slots_cons job [])

      parts_with : arrivals 0 (with_it ++ ys) ≡ arrivals 0 with_it ++ left
      parts_with = arrivals_append 0 now with_it ys (omega (arith, clock_with))

      same_length : slots (with_it ++ ys) ≡ slots (xs ++ ys)
      same_length = omega (arith, slots_append with_it ys, slots_append xs ys, clock_with, clock)

      pub with_job : KeepsDemandPlan plan terms (xs ++ ys) → AllByRecursion (IsWithinLife life) (arrivals 0 xs)
          → AllByRecursion (IsWithinLife life) left → IsDemandedJob plan terms arrival → due ≤ life
          → ((t s : ℕ) → t < length plan.caps → sum_by (operations_at terms t s) (arrivals 0 with_it) ≤ (terms_of terms t).work)
          → ((t s : ℕ) → t < length plan.caps → sum_by (writes_at terms t s) (arrivals 0 with_it) ≤ (terms_of terms t).writes)
          → KeepsDemandPlan plan terms (with_it ++ ys)
      with_job keeps each each_left fits ends few few_written =
          build (with_it ++ ys) (omega (arith, same_length, length_is, before)) planned_now each_now ops_now writes_now once
        where
          end_is : slots (xs ++ ys) ≡ slots (with_it ++ ys)
          end_is = sym same_length

          planned_old : AllByRecursion (IsDemanded plan terms (slots (xs ++ ys))) (arrivals 0 xs ++ left)
          planned_old = subst (AllByRecursion (IsDemanded plan terms (slots (xs ++ ys)))) parts
              (recursion_from_All (IsDemanded plan terms (slots (xs ++ ys))) (arrivals 0 (xs ++ ys)) keeps.planned)

          planned_now : AllByRecursion (IsDemanded plan terms (slots (with_it ++ ys))) (arrivals 0 (with_it ++ ys))
          planned_now =
              let k = all_parts (IsDemanded plan terms (slots (xs ++ ys))) (arrivals 0 xs) left planned_old in
              subst (λ n. AllByRecursion (IsDemanded plan terms n) (arrivals 0 (with_it ++ ys))) end_is
              (subst (AllByRecursion (IsDemanded plan terms (slots (xs ++ ys)))) (sym parts_with)
              (all_joined (IsDemanded plan terms (slots (xs ++ ys))) (arrivals 0 with_it) left
              (subst (AllByRecursion (IsDemanded plan terms (slots (xs ++ ys)))) (sym arrives)
              (all_joined (IsDemanded plan terms (slots (xs ++ ys))) (arrivals 0 xs) (arrival ∷ []) k.0 (fits, tt))) k.1))

          each_now : AllByRecursion (IsWithinLife life) (arrivals 0 (with_it ++ ys))
          each_now =
              subst (AllByRecursion (IsWithinLife life)) (sym parts_with)
              (all_joined (IsWithinLife life) (arrivals 0 with_it) left
              (subst (AllByRecursion (IsWithinLife life)) (sym arrives)
              (all_joined (IsWithinLife life) (arrivals 0 xs) (arrival ∷ []) each (record { comes = refl; due = ends }, tt))) each_left)

          ops_now : (t s : ℕ) → t < length plan.caps → sum_by (operations_at terms t s) (arrivals 0 (with_it ++ ys)) ≤ (terms_of terms t).work
          ops_now t s lt = omega (
            arith,
            ap (λ (l : List TaskArrival). sum_by (operations_at terms t s) l) parts_with,
            sum_by-append (operations_at terms t s) (arrivals 0 with_it) left,
            no_jobs (operations_at terms t s) (no_operations terms t s) now first now ts,
            few t s lt,
          )

          writes_now : (t s : ℕ) → t < length plan.caps → sum_by (writes_at terms t s) (arrivals 0 (with_it ++ ys)) ≤ (terms_of terms t).writes
          writes_now t s lt = omega (
            arith,
            ap (λ (l : List TaskArrival). sum_by (writes_at terms t s) l) parts_with,
            sum_by-append (writes_at terms t s) (arrivals 0 with_it) left,
            no_jobs (writes_at terms t s) (no_writes terms t s) now first now ts,
            few_written t s lt,
          )

          once : (t s : ℕ) → t < length plan.caps → IsCollectSlot terms (slots (with_it ++ ys)) t s
              → count_by (is_collection_at t s) (arrivals 0 (with_it ++ ys)) ≡ 1
          once t s lt is =
              let weigh : TaskArrival → ℕ = λ a. cond (is_collection_at t s a) 1 0 in
              omega (
                arith,
                ap (λ (l : List TaskArrival). sum_by weigh l) parts_with,
                sum_by-append weigh (arrivals 0 with_it) left,
                ap (λ (l : List TaskArrival). sum_by weigh l) arrives,
                sum_by-append weigh (arrivals 0 xs) (arrival ∷ []),
                ap (λ (l : List TaskArrival). sum_by weigh l) parts,
                sum_by-append weigh (arrivals 0 xs) left,
                keeps.collected t s lt (subst (λ n. IsCollectSlot terms n t s) same_length is),
              )

    -- the next slot, with its collections
    pub with_slot : first ≡ 0 → AreTermsFrom terms 0 ts → length ts ≡ length plan.caps → KeepsDemandPlan plan terms xs
        → AllByRecursion (IsWithinLife life) (arrivals 0 xs) → AllByRecursion (λ a. a.at < now) (arrivals 0 xs)
        → KeepsDemandPlan plan terms (xs ++ ys)
    with_slot from are each_one keeps each past =
        build (xs ++ ys) (omega (arith, length_is, before)) planned_now each_now ops_now writes_now once
      where
        left_is : AllByRecursion (IsDemanded plan terms (slots (xs ++ ys))) left × AllByRecursion (IsWithinLife life) left
        left_is = left_planned plan terms life is_life (slots (xs ++ ys)) now first ts (omega (arith, length_is)) before
            (omega (arith, from, each_one)) (subst (λ n. AreTermsFrom terms n ts) (sym from) are)

        planned_now : AllByRecursion (IsDemanded plan terms (slots (xs ++ ys))) (arrivals 0 (xs ++ ys))
        planned_now = subst (AllByRecursion (IsDemanded plan terms (slots (xs ++ ys)))) (sym parts)
            (all_joined (IsDemanded plan terms (slots (xs ++ ys))) (arrivals 0 xs) left
            (all_as (IsDemanded plan terms (slots xs)) (IsDemanded plan terms (slots (xs ++ ys)))
            (longer plan terms (slots xs) (slots (xs ++ ys)) (omega (arith, length_is, clock))) (arrivals 0 xs)
            (recursion_from_All (IsDemanded plan terms (slots xs)) (arrivals 0 xs) keeps.planned)) left_is.0)

        each_now : AllByRecursion (IsWithinLife life) (arrivals 0 (xs ++ ys))
        each_now = subst (AllByRecursion (IsWithinLife life)) (sym parts) (all_joined (IsWithinLife life) (arrivals 0 xs) left each left_is.1)

        ops_now : (t s : ℕ) → t < length plan.caps → sum_by (operations_at terms t s) (arrivals 0 (xs ++ ys)) ≤ (terms_of terms t).work
        ops_now t s lt = omega (
          arith,
          ap (λ (l : List TaskArrival). sum_by (operations_at terms t s) l) parts,
          sum_by-append (operations_at terms t s) (arrivals 0 xs) left,
          no_jobs (operations_at terms t s) (no_operations terms t s) now first now ts,
          keeps.few_operations t s lt,
        )

        writes_now : (t s : ℕ) → t < length plan.caps → sum_by (writes_at terms t s) (arrivals 0 (xs ++ ys)) ≤ (terms_of terms t).writes
        writes_now t s lt = omega (
          arith,
          ap (λ (l : List TaskArrival). sum_by (writes_at terms t s) l) parts,
          sum_by-append (writes_at terms t s) (arrivals 0 xs) left,
          no_jobs (writes_at terms t s) (no_writes terms t s) now first now ts,
          keeps.few_writes t s lt,
        )

        nothing : TaskTerms
        nothing = record { period = 0; deadline = 0; held = 0; work = 0; writes = 0; collect_period = 0; collect_deadline = 0 }

        both : (t s : ℕ) → count_by (is_collection_at t s) (arrivals 0 (xs ++ ys))
            ≡ count_by (is_collection_at t s) (arrivals 0 xs) + count_by (is_collection_at t s) left
        both t s =
            let weigh : TaskArrival → ℕ = λ a. cond (is_collection_at t s a) 1 0 in
            ap (λ (l : List TaskArrival). sum_by weigh l) parts ∙ sum_by-append weigh (arrivals 0 xs) left

        earlier_slot : (t s : ℕ) → t < length plan.caps → IsCollectSlot terms (slots (xs ++ ys)) t s → s < now
            → count_by (is_collection_at t s) (arrivals 0 (xs ++ ys)) ≡ 1
        earlier_slot t s lt is less = omega (
          arith,
          both t s,
          keeps.collected t s lt (record { multiple = is.multiple; before_end = omega (arith, less, clock); due_limit = is.due_limit }),
          none_elsewhere t s left (all_as (λ a. a.at ≡ now) (λ a. a.at ≡ s → ⊥) (λ a h e. absurd (omega (arith, h, e, less))) left
              (left_here now first now ts)),
        )

        this_slot : (t s : ℕ) → t < length plan.caps → IsCollectSlot terms (slots (xs ++ ys)) t s → s ≡ now
            → count_by (is_collection_at t s) (arrivals 0 (xs ++ ys)) ≡ 1
        this_slot t s lt is here =
            let within : t < length ts = omega (arith, lt, each_one) in
            let due : now % (terms_of terms t).collect_period ≡ 0 = subst (λ n. n % (terms_of terms t).collect_period ≡ 0) here is.multiple in
            let term : terms_of terms (0 + t) ≡ get_or ts t nothing = are t nothing within in
            let again : terms_of terms t ≡ get_or ts t nothing = ap (terms_of terms) (omega arith) ∙ term in
            let comes : comes_at (get_or ts t nothing).collect_period now ≡ true =
            subst (λ (x : TaskTerms). comes_at x.collect_period now ≡ true) again (eq-eqb (now % (terms_of terms t).collect_period) 0 due) in
            subst (λ n. count_by (is_collection_at t n) (arrivals 0 (xs ++ ys)) ≡ 1) (sym here) (omega (
              arith,
              both t now,
              left_once t now first t ts nothing (omega (arith, from)) within comes,
              none_elsewhere t now (arrivals 0 xs) (all_as (λ a. a.at < now) (λ a. a.at ≡ now → ⊥) (λ a h e. absurd (omega (arith, h, e)))
                  (arrivals 0 xs) past),
            ))

        once : (t s : ℕ) → t < length plan.caps → IsCollectSlot terms (slots (xs ++ ys)) t s
            → count_by (is_collection_at t s) (arrivals 0 (xs ++ ys)) ≡ 1
        once t s lt is = elim (cases_lt s now) [
          | inl less ↦ earlier_slot t s lt is less
          | inr more ↦ this_slot t s lt is (omega (arith, more, is.before_end, length_is))
        ]
