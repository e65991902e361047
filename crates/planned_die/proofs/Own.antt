-- The calls by which a die enters its own collections, task by task.
use Rattle.std.proofs.Common.{◌≡◌, ℕ, zero, suc, ◌+◌, ◌<◌, ◌≤◌, true, false, cond, List, [], ◌∷◌, ◌++◌, length, get_or, take}
use Rattle.std.proofs.Common.{drop, map, refl, ap, sym, ◌∙◌, inl, inr, arith, add-one}
use Rattle.std.proofs.lemmas.Bool.{cases_Bool}
use Rattle.std.proofs.lemmas.List.{map-append}
use Rattle.demand_rules.specs.declared.terms.TaskTerms.{TaskTerms}
use Rattle.slot_types.specs.declared.events.Event.{Event}
use Rattle.slot_types.specs.declared.events.Event.TheVariants as events
use Rattle.demand_rules.specs.declared.terms.Terms.{Terms}
use Rattle.demand_rules.specs.Demand.{terms_of}
use Rattle.planned_log.specs.KeptLogs.{comes_at}
use Rattle.die_log.specs.Model.Log.{Log}
use Rattle.die_log.specs.Model.Start.{Start}
use Rattle.die_log.specs.Model.Answers.{after_call, run}
use Rattle.planned_log.specs.KeptLogs.{collections_at}
use Rattle.planned_die.specs.PlannedCalls.{own_calls}

-- the terms of the tasks from one on, up to another
abbrev part : List TaskTerms → ℕ → ℕ → List TaskTerms
part ts from to = drop from (take to ts)

part_none : (ts : List TaskTerms) (n : ℕ) → part ts n n ≡ []
part_none [] zero = refl
part_none [] (suc n) = refl
part_none (t ∷ ts) zero = refl
part_none (t ∷ ts) (suc n) = part_none ts n

part_more : (ts : List TaskTerms) (from to : ℕ) (d : TaskTerms) → from ≤ to → to < length ts → part ts from (suc to) ≡ part ts from to
    ++ get_or ts to d ∷ []
part_more [] from to d le lt = absurd (omega (arith, lt))
part_more (t ∷ ts) zero zero d le lt = refl
part_more (t ∷ ts) zero (suc to) d le lt = ap (λ l. t ∷ l) (part_more ts zero to d (omega arith) (omega (arith, lt)))
part_more (t ∷ ts) (suc from) zero d le lt = absurd (omega (arith, le))
part_more (t ∷ ts) (suc from) (suc to) d le lt = part_more ts from to d (omega (arith, le)) (omega (arith, lt))

part_length : (ts : List TaskTerms) (from to : ℕ) → from ≤ to → to ≤ length ts → from + length (part ts from to) ≡ to
part_length ts zero zero le within = refl
part_length [] zero (suc to) le within = absurd (omega (arith, within))
part_length (t ∷ ts) zero (suc to) le within = omega (arith, part_length ts zero to (omega arith) (omega (arith, within)))
part_length ts (suc from) zero le within = absurd (omega (arith, le))
part_length [] (suc from) (suc to) le within = absurd (omega (arith, within))
part_length (t ∷ ts) (suc from) (suc to) le within = omega (arith, part_length ts from to (omega (arith, le)) (omega (arith, within)))

collections_parts : (xs : List TaskTerms) (t : TaskTerms) (first n slot : ℕ) → n ≡ first + length xs
    → collections_at (xs ++ t ∷ []) first slot ≡ collections_at xs first slot ++ collections_at (t ∷ []) n slot
collections_parts [] t first n slot e = ap (λ m. collections_at (t ∷ []) m slot) (omega (arith, e))
collections_parts (x ∷ xs) t first n slot e =
    let rest = collections_parts xs t (first + 1) n slot (omega (arith, e)) in
    elim (cases_Bool (comes_at x.collect_period slot)) [
      | inl due ↦ rw due (ap (λ l. events.Collect first slot (slot + x.collect_deadline) ∷ l) rest)
      | inr not_due ↦ rw not_due rest
    ]

run_parts : (start : Start) (past : Log) (xs ys : List (ℕ × Event)) → run start past (xs ++ ys) ≡ run start (run start past xs) ys
run_parts start past [] ys = refl
run_parts start past (call ∷ xs) ys = run_parts start (after_call start past call) xs ys

module _ (caller : ℕ) (terms : Terms) (slot : ℕ) where
  -- no task
  pub none_own : (task : ℕ) → own_calls caller terms task task slot ≡ []
  none_own task = ap (λ ts. map (λ event. (caller, event)) (collections_at ts task slot)) (part_none terms.tasks task)

  one_is : (task : ℕ) → task < length terms.tasks → part terms.tasks task (task + 1) ≡ terms_of terms task ∷ []
  one_is task lt =
      ap (λ n. part terms.tasks task n) (add-one task)
      ∙ (part_more terms.tasks task task _ (omega arith) lt ∙ ap (λ l. l ++ terms_of terms task ∷ []) (part_none terms.tasks task))

  -- one that has a collection in the slot
  pub one_own : (task : ℕ) → task < length terms.tasks → comes_at (terms_of terms task).collect_period slot ≡ true
      → own_calls caller terms task (task + 1) slot ≡ (caller, events.Collect task slot (slot + (terms_of terms task).collect_deadline)) ∷ []
  one_own task lt due =
      ap (λ ts. map (λ event. (caller, event)) (collections_at ts task slot)) (one_is task lt)
      ∙ ap (λ b. map (λ (event : Event). (caller, event))
      (cond b (events.Collect task slot (slot + (terms_of terms task).collect_deadline) ∷ []) [])) due

  -- one that has none
  pub not_own : (task : ℕ) → task < length terms.tasks → comes_at (terms_of terms task).collect_period slot ≡ false
      → own_calls caller terms task (task + 1) slot ≡ []
  not_own task lt not_due =
      ap (λ ts. map (λ event. (caller, event)) (collections_at ts task slot)) (one_is task lt)
      ∙ ap (λ b. map (λ (event : Event). (caller, event))
      (cond b (events.Collect task slot (slot + (terms_of terms task).collect_deadline) ∷ []) [])) not_due

  -- one more
  pub own_more : (from to : ℕ) → from ≤ to → to < length terms.tasks
      → own_calls caller terms from (to + 1) slot ≡ own_calls caller terms from to slot ++ own_calls caller terms to (to + 1) slot
  own_more from to le lt =
      let f : List TaskTerms → List (ℕ × Event) = λ ts. map (λ event. (caller, event)) (collections_at ts from slot) in
      ap (λ n. f (part terms.tasks from n)) (add-one to)
      ∙ (ap f (part_more terms.tasks from to _ le lt)
      ∙ (ap (λ es. map (λ (event : Event). (caller, event)) es)
      (collections_parts (part terms.tasks from to) (terms_of terms to) from to slot
      (sym (part_length terms.tasks from to le (omega (arith, lt)))))
      ∙ (map-append (λ (event : Event). (caller, event)) (collections_at (part terms.tasks from to) from slot)
      (collections_at (terms_of terms to ∷ []) to slot)
      ∙ ap (λ ts. own_calls caller terms from to slot ++ map (λ event. (caller, event)) (collections_at ts to slot)) (sym (one_is to lt)))))

  -- the log after them
  pub run_more : (start : Start) (past : Log) (from to : ℕ) → from ≤ to → to < length terms.tasks
      → run start past (own_calls caller terms from (to + 1) slot)
      ≡ run start (run start past (own_calls caller terms from to slot)) (own_calls caller terms to (to + 1) slot)
  run_more start past from to le lt =
      ap (run start past) (own_more from to le lt)
      ∙ run_parts start past (own_calls caller terms from to slot) (own_calls caller terms to (to + 1) slot)
