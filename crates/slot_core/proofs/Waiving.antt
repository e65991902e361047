-- A slot's waivers: at most one a task, and each leaves what holds within the slot.
use Rattle.std.proofs.Common.{◌≡◌, ℕ, zero, suc, ◌+◌, ◌<◌, ◌≤◌, ◌==◌, ◌||◌, ◌&&◌, not, nat_le, Bool, true, false, cond, List, [], ◌∷◌, ◌++◌}
use Rattle.std.proofs.Common.{Option, Some, None, refl, ap, sym, ◌∙◌, subst, length, map, filter, count_by, eqb, slice_get, length-append}
use Rattle.std.proofs.Common.{arith}
use Rattle.std.specs.List.{list_any, AllByRecursion, IsDistinct}
use Rattle.std.proofs.lemmas.Bool.{true≢false, and_parts, and_from, eq-eqb, eqb-true}
use Rattle.std.proofs.lemmas.List.Sums.{sum_by-cons}
use Rattle.std.proofs.lemmas.Map.Steps.{length-le_from_distinct_below}
use Rattle.std.proofs.lemmas.Option.{same_Some, none-some}
use Rattle.slot_types.specs.declared.plans.DiePlan.{DiePlan}
use Rattle.slot_types.specs.declared.replies.Waived.{Waived}
use Rattle.plan_rules.specs.Bound.{MeetsBound}
use Rattle.plan_rules.specs.Accounts.{Accounts}
use Rattle.plan_rules.specs.Accounts as moves
use Rattle.die_log.specs.Model.Log.{Log, Job, jobs, acts, is_waived}
use Rattle.die_log.specs.Model.Work.{is_ready, ready, least}
use Rattle.die_log.specs.Model.Accounts.{accounts}
use Rattle.die_log.specs.Model.Answers.{IsExact, Choice, choice, choice_among, choice_by_head, head_or_waiver, without, is_waivable}
use Rattle.die_log.specs.Invariants.TrueAccounts.{is_pending, HasTaskAndOps, AreTrueAccounts}
use Rattle.die_log.proofs.Choices.{OfSome, least_all}
use Rattle.die_log.proofs.Legal.Exact.{stands_well}
use Rattle.die_log.proofs.Tokens.Begins.{is_pending_if}
use Rattle.slot_core.specs.WithinSlot.{without_waived, ChoiceGoesOn}
use Rattle.slot_core.proofs.Choosing.{waiver_of, waives}
use Rattle.die_log.specs.Model.Start.{Start}
use Rattle.die_log.specs.Model.Opening.{IsOpening}

-- As many waivers as collections

abbrev collects : Job → Bool
collects j = j.collects

abbrev one_if : Bool → ℕ
one_if b = cond b 1 0

without_less : (j : Job) (xs : List Job) → count_by collects (without j xs) ≤ count_by collects xs
without_less j [] = omega arith
without_less j (x ∷ xs) = by_test (not (x.number == j.number)) (without_less j xs)
  where
    by_test : (b : Bool) → count_by collects (without j xs) ≤ count_by collects xs
        → count_by collects (cond b (x ∷ without j xs) (without j xs)) ≤ count_by collects (x ∷ xs)
    by_test true h = omega (arith, h, sum_by-cons (λ i. one_if (collects i)) x (without j xs), sum_by-cons (λ i. one_if (collects i)) x xs)
    by_test false h = omega (arith, h, sum_by-cons (λ i. one_if (collects i)) x xs)

-- one that is there, and collects, is left out
without_one : (j : Job) (xs : List Job) (k : ℕ) → slice_get xs k ≡ Some j → j.collects ≡ true → count_by collects (without j xs) + 1
    ≤ count_by collects xs
without_one j [] k e is = absurd (none-some j e)
without_one j (x ∷ xs) zero e is =
    let it : x ≡ j = same_Some x j e in
    let dropped : not (x.number == j.number) ≡ false = ap not (eq-eqb x.number j.number (ap (λ (i : Job). i.number) it)) in
    let one : one_if (collects x) ≡ 1 = ap {B = ℕ} one_if (ap (λ (i : Job). i.collects) it ∙ is) in
    rw dropped (omega (arith, without_less j xs, one, sum_by-cons (λ i. one_if (collects i)) x xs))
without_one j (x ∷ xs) (suc k) e is = by_test (not (x.number == j.number)) (without_one j xs k e is)
  where
    by_test : (b : Bool) → count_by collects (without j xs) + 1 ≤ count_by collects xs
        → count_by collects (cond b (x ∷ without j xs) (without j xs)) + 1 ≤ count_by collects (x ∷ xs)
    by_test true h = omega (arith, h, sum_by-cons (λ i. one_if (collects i)) x (without j xs), sum_by-cons (λ i. one_if (collects i)) x xs)
    by_test false h = omega (arith, h, sum_by-cons (λ i. one_if (collects i)) x xs)

-- the least of a list is one of it
abbrev IsThere : List Job → Job → Type 0
IsThere xs j = (k : ℕ) × (slice_get xs k ≡ Some j)

all_there : (xs ys : List Job) → ((k : ℕ) (j : Job) → slice_get ys k ≡ Some j → IsThere xs j) → AllByRecursion (IsThere xs) ys
all_there xs [] h = tt
all_there xs (y ∷ ys) h = (h 0 y refl, all_there xs ys (λ k j e. h (suc k) j e))

least_there : (xs : List Job) (j : Job) → least xs ≡ Some j → IsThere xs j
least_there xs j e = subst (OfSome (IsThere xs)) e (least_all (IsThere xs) xs (all_there xs xs (λ k i at. (k, at))))

waivable_collects : (plan : DiePlan) (past : Log) (a : Accounts) (j : Job) → is_waivable plan past a j ≡ true → j.collects ≡ true
waivable_collects plan past a j e = (and_parts j.collects _ (and_parts _ (nat_le plan.alpha a.spare) e).0).0

few_among : (plan : DiePlan) (past : Log) (rounds : ℕ) (a : Accounts) (xs : List Job) → length (choice_among plan past rounds a xs).waived
    ≤ count_by collects xs
few_among plan past zero a xs = omega arith
few_among plan past (suc rounds) a xs = by_least (λ b ys. few_among plan past rounds b ys) (least xs) refl
  where
    by_weight : ((b : Accounts) (ys : List Job) → length (choice_among plan past rounds b ys).waived ≤ count_by collects ys) → (j : Job)
        → least xs ≡ Some j → (t : Bool) → is_waivable plan past a j ≡ t
        → length (head_or_waiver a xs (choice_among plan past rounds) j t).waived ≤ count_by collects xs
    by_weight again j e true is =
        let at = least_there xs j e in
        omega (arith, again (moves.accounts_after_waiver a j.task) (without j xs), without_one j xs at.0 at.1 (waivable_collects plan past a j is))
    by_weight again j e false is = omega arith

    by_least : ((b : Accounts) (ys : List Job) → length (choice_among plan past rounds b ys).waived ≤ count_by collects ys)
        → (o : Option Job) → least xs ≡ o
        → length (choice_by_head plan past a xs (choice_among plan past rounds) o).waived ≤ count_by collects xs
    by_least again None e = omega arith
    by_least again (Some j) e = by_weight again j e (is_waivable plan past a j) refl

-- At most one a task

-- the tasks of those that pass
abbrev pub tasks_of : (Job → Bool) → List Job → List ℕ
tasks_of p js = map (λ (j : Job). j.task) (filter p js)

abbrev of_task : (Job → Bool) → ℕ → Job → Bool
of_task p task j = (j.task == task) && p j

-- a task none of whose jobs pass isn't among the tasks
task_apart : (p : Job → Bool) (task : ℕ) (js : List Job) → count_by (of_task p task) js ≤ 0
    → AllByRecursion (λ t. eqb task t ≡ false) (tasks_of p js)
task_apart p task [] h = tt
task_apart p task (x ∷ xs) h = by_test (p x) refl (task_apart p task xs
    (omega (arith, h, sum_by-cons (λ j. one_if (of_task p task j)) x xs)))
  where
    other : p x ≡ true → (b : Bool) → eqb task x.task ≡ b → b ≡ false
    other passes false e = refl
    other passes true e =
        let one : one_if (of_task p task x) ≡ 1 = ap {B = ℕ} one_if
        (and_from (x.task == task) (p x) (eq-eqb x.task task (sym (eqb-true task x.task e))) passes) in
        absurd (omega (arith, one, h, sum_by-cons (λ j. one_if (of_task p task j)) x xs))

    by_test : (b : Bool) → p x ≡ b → AllByRecursion (λ t. eqb task t ≡ false) (tasks_of p xs)
        → AllByRecursion (λ t. eqb task t ≡ false) (map (λ (j : Job). j.task) (cond b (x ∷ filter p xs) (filter p xs)))
    by_test true passes rest = (other passes (eqb task x.task) refl, rest)
    by_test false passes rest = rest

distinct_tasks : (p : Job → Bool) (js : List Job) → ((task : ℕ) → count_by (of_task p task) js ≤ 1) → IsDistinct eqb (tasks_of p js)
unfolding IsDistinct
distinct_tasks p [] h = tt
distinct_tasks p (x ∷ xs) h = by_test (p x) refl (distinct_tasks p xs
    (λ task. omega (arith, h task, sum_by-cons (λ j. one_if (of_task p task j)) x xs)))
  where
    none_left : p x ≡ true → count_by (of_task p x.task) xs ≤ 0
    none_left passes =
        let one : one_if (of_task p x.task x) ≡ 1 = ap {B = ℕ} one_if (and_from (x.task == x.task) (p x) (eq-eqb x.task x.task refl) passes)
        in
        omega (arith, one, h x.task, sum_by-cons (λ j. one_if (of_task p x.task j)) x xs)

    by_test : (b : Bool) → p x ≡ b → IsDistinct eqb (tasks_of p xs)
        → IsDistinct eqb (map (λ (j : Job). j.task) (cond b (x ∷ filter p xs) (filter p xs)))
    by_test true passes rest = (task_apart p x.task xs (none_left passes), rest)
    by_test false passes rest = rest

tasks_below : (k : ℕ) (p : Job → Bool) (js : List Job) → AllByRecursion (λ (j : Job). j.task < k) js → (q : ℕ)
    → list_any (eqb q) (tasks_of p js) ≡ true → q < k
tasks_below k p [] all q e = absurd cc
tasks_below k p (x ∷ xs) all q e = by_test (p x) (λ h. tasks_below k p xs all.1 q h) e
  where
    here : (b : Bool) → eqb q x.task ≡ b → (list_any (eqb q) (tasks_of p xs) ≡ true → q < k) → (b || list_any (eqb q) (tasks_of p xs))
        ≡ true → q < k
    here true is again h = let same : q ≡ x.task = eqb-true q x.task is in omega (arith, same, all.0)
    here false is again h = again h

    by_test : (b : Bool) → (list_any (eqb q) (tasks_of p xs) ≡ true → q < k)
        → list_any (eqb q) (map (λ (j : Job). j.task) (cond b (x ∷ filter p xs) (filter p xs))) ≡ true → q < k
    by_test true again h = here (eqb q x.task) refl again h
    by_test false again h = again h

-- of the ready ones, those that collect pass
count_pending : (p t : Job → Bool) (js : List Job) → ((k : ℕ) (j : Job) → slice_get js k ≡ Some j → t j ≡ true → j.collects ≡ true → p j
    ≡ true) → count_by collects (filter t js) ≤ length (tasks_of p js)
count_pending p t [] h = omega arith
count_pending p t (x ∷ xs) h = by_tests (t x) (p x) refl refl (count_pending p t xs (λ k j e. h (suc k) j e))
  where
    by_kind : (b : Bool) → x.collects ≡ b → t x ≡ true → p x ≡ false → b ≡ false
    by_kind false is ready fails = refl
    by_kind true is ready fails = absurd (true≢false (sym (h 0 x refl ready is) ∙ fails))

    by_tests : (a b : Bool) → t x ≡ a → p x ≡ b → count_by collects (filter t xs) ≤ length (tasks_of p xs)
        → count_by collects (cond a (x ∷ filter t xs) (filter t xs))
        ≤ length (map (λ (j : Job). j.task) (cond b (x ∷ filter p xs) (filter p xs)))
    by_tests true true ready passes rest = omega (
      arith,
      rest,
      sum_by-cons (λ i. one_if (collects i)) x (filter t xs),
      one_most
          (collects x),
    )
      where
        one_most : (b : Bool) → one_if b ≤ 1
        one_most true = omega arith
        one_most false = omega arith
    by_tests true false ready fails rest =
        let none : one_if (collects x) ≡ 0 = ap {B = ℕ} one_if (by_kind x.collects refl ready fails) in
        omega (arith, rest, sum_by-cons (λ i. one_if (collects i)) x (filter t xs), none)
    by_tests false true waits passes rest = omega (arith, rest)
    by_tests false false waits fails rest = rest

all_tasks : (plan : DiePlan) (js : List Job) → AllByRecursion (HasTaskAndOps plan) js → AllByRecursion (λ (j : Job). j.task < length plan.caps) js
all_tasks plan [] h = tt
all_tasks plan (x ∷ xs) h = (h.0.task, all_tasks plan xs h.1)

-- at most one collection a task is neither done nor waived
pub few_pending : (start : Start) (log : Log) → IsOpening start → IsExact start log
    → length (tasks_of (is_pending start.plan (λ n. acts n log) (is_waived log)) (jobs log)) ≤ length start.plan.caps
few_pending start log bound exact =
    length-le_from_distinct_below (tasks_of (is_pending start.plan (λ n. acts n log) (is_waived log)) (jobs log)) (length start.plan.caps)
    (distinct_tasks (is_pending start.plan (λ n. acts n log) (is_waived log)) (jobs log) true_accounts.one_each)
    (tasks_below (length start.plan.caps) (is_pending start.plan (λ n. acts n log) (is_waived log)) (jobs log)
    (all_tasks start.plan (jobs log) true_accounts.taken))
  where
    true_accounts : AreTrueAccounts start log
    true_accounts = (stands_well start bound log exact).1.true_accounts

-- a slot waives at most one collection a task
pub few_waivers : (start : Start) (log : Log) → IsOpening start → IsExact start log → length (choice start log).waived ≤ length start.plan.caps
few_waivers start log bound exact =
    omega (
      arith,
      few_among start.plan log (length (ready start.plan log)) (accounts start log) (ready start.plan log),
      count_pending (is_pending start.plan (λ n. acts n log) (is_waived log)) (is_ready start.plan log) (jobs log)
          (λ k j e is_ready_now is. is_pending_if start.plan log j is_ready_now is),
      few_pending start log bound exact,
    )

-- so there is room for one more where one more is waived
pub waiver_fits : (start : Start) (log : Log) (ws : List Waived) (a : Accounts) (j : Job) → IsOpening start → IsExact start log
    → ChoiceGoesOn start log ws a → least (without_waived ws (ready start.plan log)) ≡ Some j → is_waivable start.plan log a j ≡ true
    → length ws < length start.plan.caps
waiver_fits start log ws a j bound exact g e yes_is =
    let more = waives start log ws a j g e yes_is in
    let whole : length (choice start log).waived ≡ length ((ws ++ waiver_of a j ∷ [])
    ++ (choice_among start.plan log more.rounds (moves.accounts_after_waiver a j.task) (without_waived (ws ++ waiver_of a j ∷ []) (ready start.plan log))).waived) = ap
    (λ (c : Choice). length c.waived) more.rest in
    omega (
      arith,
      few_waivers start log bound exact,
      whole,
      length-append (ws ++ waiver_of a j ∷ []) (choice_among start.plan log more.rounds (moves.accounts_after_waiver a j.task)
          (without_waived (ws ++ waiver_of a j ∷ []) (ready start.plan log))).waived,
      length-append ws (waiver_of a j ∷ []),
    )
