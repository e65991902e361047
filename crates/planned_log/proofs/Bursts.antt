-- Each job of a burst that the plan doesn't refuse is an ask that it doesn't refuse, either, one after the other.
use Rattle.std.proofs.Common.{◌≡◌, ℕ, zero, suc, ◌+◌, ◌-◌, ◌<◌, ◌≤◌, ◌==◌, nat_le, Bool, true, false, cond, List, [], ◌∷◌, ◌++◌, length, take, drop, sum_by}
use Rattle.std.proofs.Common.{Option, None, nat_lt, take_all, refl, ap, sym, subst, ◌∙◌, arith, inl, inr, length-take, length-drop, take-append-drop}
use Rattle.std.specs.Prelude.{flat_map, All}
use Rattle.std.specs.List.{AllByRecursion}
use Rattle.std.proofs.lemmas.Bool.{cases_lt}
use Rattle.std.proofs.lemmas.Bool.Decides.{nat_tests}
use Rattle.std.proofs.lemmas.List.Sums.{sum_by-cons, sum_by-take-drop}
use Rattle.std.proofs.lemmas.List.Elements.{All-take, All-drop, All-from_recursion, recursion_from_All}
use Rattle.slot_types.specs.declared.limits.TheConstants.{MAX_OPS}
use Rattle.slot_types.specs.declared.plans.DiePlan.{DiePlan}
use Rattle.slot_types.specs.declared.events.Op.{Op}
use Rattle.slot_types.specs.Operations.{page_of, is_write, writes}
use Rattle.demand_rules.specs.declared.terms.Terms.{Terms}
use Rattle.demand_rules.specs.Demand.{terms_of}
use Rattle.die_log.specs.Model.Log.{Log, now}
use Rattle.die_log.specs.Model.Start.{Start}
use Rattle.die_log.specs.Model.Lives.{Lives, all_slots}
use Rattle.die_log.specs.Model.Answers.{after_call, with_answer, reply_if_accepted}
use Rattle.planned_log.specs.declared.refusals.AskRefusal.{AskRefusal}
use Rattle.planned_log.specs.Asks.{Asked, asked_by, asked_job, counts_in, most_operations}
use Rattle.planned_log.specs.Asks.{ask_refusal, burst_refusal, burst_refusals, refusals_above, first_refusal}
use Rattle.planned_log.specs.Bursts.{first_jobs, job_count, jobs_of, AreUnrefused}
use Rattle.planned_log.specs.Laws.{IsKept}
use Rattle.planned_log.proofs.Asking.{IsTimely, timely, unrefused}
use Rattle.planned_log.proofs.Kept.{after_accepted, ask_accepted, ask_goes_on}

-- The jobs of a burst

more_jobs : (n : ℕ) → 1 ≤ n → job_count n ≡ suc (job_count (n - MAX_OPS))
more_jobs n some = omega arith

no_jobs : (n : ℕ) → n ≡ 0 → job_count n ≡ 0
no_jobs n e = omega (arith, e)

-- nothing is no job
pub jobs_none : (ops : List Op) → length ops ≡ 0 → jobs_of ops ≡ []
unfolding jobs_of
jobs_none ops e = ap (λ n. first_jobs n ops) (no_jobs (length ops) e)

-- the first job, and those of what is left
pub jobs_more : (ops : List Op) → 1 ≤ length ops → jobs_of ops ≡ take MAX_OPS ops ∷ jobs_of (drop MAX_OPS ops)
unfolding jobs_of
jobs_more ops some = ap (λ n. first_jobs n ops)
    (more_jobs (length ops) some ∙ ap (λ n. suc (job_count n)) (sym (length-drop MAX_OPS ops)))

pub jobs_count : (ops : List Op) → length (jobs_of ops) ≡ job_count (length ops)
unfolding jobs_of
jobs_count ops = counted (job_count (length ops)) ops
  where
    counted : (n : ℕ) (xs : List Op) → length (first_jobs n xs) ≡ n
    counted zero xs = refl
    counted (suc n) xs = ap suc (counted n (drop MAX_OPS xs))

-- what holds of nothing, and of a burst where it holds of what its first job leaves, holds of each burst
pub by_jobs : (P : List Op → List (List Op) → Type 0) → ((ops : List Op) → length ops ≡ 0 → P ops [])
    → ((ops : List Op) → 1 ≤ length ops → P (drop MAX_OPS ops) (jobs_of (drop MAX_OPS ops)) → P ops (take MAX_OPS ops ∷ jobs_of (drop MAX_OPS ops)))
    → (ops : List Op) → P ops (jobs_of ops)
by_jobs P none more ops = go (length ops) ops (omega arith)
  where
    less : (n : ℕ) (xs : List Op) → length xs ≤ suc n → 1 ≤ length xs → length (drop MAX_OPS xs) ≤ n
    less n xs le some = omega (arith, le, some, length-drop MAX_OPS xs)

    go : (n : ℕ) (xs : List Op) → length xs ≤ n → P xs (jobs_of xs)
    go zero xs le = subst (P xs) (sym (jobs_none xs (omega (arith, le)))) (none xs (omega (arith, le)))
    go (suc n) xs le = elim (cases_lt 0 (length xs)) [
      | inl lt ↦ subst (P xs) (sym (jobs_more xs (omega (arith, lt)))) (more xs (omega (arith, lt)) (go n (drop MAX_OPS xs) (less n xs le (omega (arith, lt)))))
      | inr ge ↦ subst (P xs) (sym (jobs_none xs (omega (arith, ge)))) (none xs (omega (arith, ge)))
    ]

-- put together they are the burst
pub jobs_whole : (ops : List Op) → flat_map (λ job. job) (jobs_of ops) ≡ ops
jobs_whole = by_jobs (λ ops jobs. flat_map (λ job. job) jobs ≡ ops) (λ ops e. nothing ops e)
    (λ ops some rest. ap (λ l. take MAX_OPS ops ++ l) rest ∙ take-append-drop MAX_OPS ops)
  where
    nothing : (ops : List Op) → length ops ≡ 0 → [] ≡ ops
    nothing [] e = refl
    nothing (op ∷ ops) e = absurd (omega (arith, e))

-- each has some operations, and no more than a job may have
pub jobs_sizes : (ops : List Op) → All (λ job. (1 ≤ length job) × (length job ≤ MAX_OPS)) (jobs_of ops)
jobs_sizes ops = All-from_recursion (λ job. (1 ≤ length job) × (length job ≤ MAX_OPS)) (jobs_of ops)
    (by_jobs (λ xs jobs. AllByRecursion (λ job. (1 ≤ length job) × (length job ≤ MAX_OPS)) jobs) (λ xs e. tt)
    (λ xs some rest. ((omega (arith, some, length-take MAX_OPS xs), omega (arith, length-take MAX_OPS xs)), rest)) ops)

-- so few operations are one job
pub one_job : (ops : List Op) → 1 ≤ length ops → length ops ≤ MAX_OPS → jobs_of ops ≡ ops ∷ []
one_job ops some few =
    jobs_more ops some
    ∙ (ap (λ (l : List (List Op)). take MAX_OPS ops ∷ l) (jobs_none (drop MAX_OPS ops) (omega (arith, few, length-drop MAX_OPS ops)))
    ∙ ap (λ (l : List Op). l ∷ []) (take_all MAX_OPS ops few))

-- and a burst of them is refused as an ask is
module _ (plan : DiePlan) (terms : Terms) (life : ℕ) (earlier : Lives) (log : Log) (task : ℕ) (ops : List Op) where
  abbrev refused_above : ℕ → Option AskRefusal
  refused_above most = first_refusal (refusals_above most plan terms life (all_slots earlier) (now log) (asked_by task (log ∷ earlier)) task ops)

  within_both : (one other : ℕ) → nat_lt one (length ops) ≡ false → nat_lt other (length ops) ≡ false → refused_above one ≡ refused_above other
  within_both one other e f = rw e (rw f refl)

  by_limit : length ops ≤ MAX_OPS → (work : ℕ) (b : Bool) → nat_le work MAX_OPS ≡ b → refused_above work ≡ refused_above (cond b work MAX_OPS)
  by_limit few work true e = refl
  by_limit few work false e = within_both work MAX_OPS (not_above work (length ops) (omega (arith, few, over work e))) (not_above MAX_OPS (length ops) few)
    where
      over : (m : ℕ) → nat_le m MAX_OPS ≡ false → MAX_OPS < m
      over m h = grind (arith, nat_tests, h)

      not_above : (m n : ℕ) → n ≤ m → nat_lt m n ≡ false
      not_above m n h = grind (arith, nat_tests, h)

  pub short_burst : length ops ≤ MAX_OPS → burst_refusal plan terms life earlier log task ops ≡ ask_refusal plan terms life earlier log task ops
  short_burst few = by_limit few (terms_of terms task).work (nat_le (terms_of terms task).work MAX_OPS) refl

-- One job and the rest

-- one more counts for what it has at most
with_one : (amount : Asked → ℕ) (period slot : ℕ) (x : Asked) (asked : List Asked)
    → sum_by (λ a. cond (counts_in period slot a) (amount a) 0) (x ∷ asked)
    ≤ amount x + sum_by (λ a. cond (counts_in period slot a) (amount a) 0) asked
with_one amount period slot x asked =
    omega (arith, sum_by-cons (λ a. cond (counts_in period slot a) (amount a) 0) x asked, at_most (counts_in period slot x))
  where
    at_most : (b : Bool) → cond b (amount x) 0 ≤ amount x
    at_most true = omega arith
    at_most false = omega arith

module _ (plan : DiePlan) (terms : Terms) (life first slot : ℕ) (asked : List Asked) (task : ℕ) (ops : List Op)
    (t : IsTimely (terms_of terms task).work plan terms life first slot asked task ops) where
  abbrev job : List Op
  job = take MAX_OPS ops

  abbrev left : List Op
  left = drop MAX_OPS ops

  abbrev asked_for : Asked
  asked_for = record { at = first + slot; operations = length job; writes = writes job }

  counts : length job + length left ≡ length ops
  counts = omega (arith, length-take MAX_OPS ops, length-drop MAX_OPS ops)

  written : writes job + writes left ≡ writes ops
  written = sum_by-take-drop (λ op. cond (is_write op) 1 0) ops MAX_OPS

  job_timely : IsTimely (most_operations (terms_of terms task)) plan terms life first slot asked task job
  job_timely = record {
    task_is = t.task_is;
    some = omega (arith, t.some, length-take MAX_OPS ops);
    few = within (nat_le (terms_of terms task).work MAX_OPS);
    pages = recursion_from_All (λ op. page_of op < plan.logical) job
        (All-take (λ op. page_of op < plan.logical) MAX_OPS ops (All-from_recursion (λ op. page_of op < plan.logical) ops t.pages));
    operations = omega (arith, t.operations, counts);
    writes_fit = omega (arith, t.writes_fit, written);
    due = t.due;
  }
    where
      within : (b : Bool) → length job ≤ cond b (terms_of terms task).work MAX_OPS
      within true = omega (arith, t.few, counts)
      within false = omega (arith, length-take MAX_OPS ops)

  left_timely : 1 ≤ length left → IsTimely (terms_of terms task).work plan terms life first slot (asked_for ∷ asked) task left
  left_timely some = record {
    task_is = t.task_is;
    some = some;
    few = omega (arith, t.few, counts);
    pages = recursion_from_All (λ op. page_of op < plan.logical) left
        (All-drop (λ op. page_of op < plan.logical) MAX_OPS ops (All-from_recursion (λ op. page_of op < plan.logical) ops t.pages));
    operations = omega (arith, t.operations, counts, with_one (λ a. a.operations) (terms_of terms task).period (first + slot) asked_for asked);
    writes_fit = omega (arith, t.writes_fit, written, with_one (λ a. a.writes) (terms_of terms task).period (first + slot) asked_for asked);
    due = t.due;
  }

-- Of logs

module _ (start : Start) (terms : Terms) (earlier : Lives) (life entered : ℕ) (caller task : ℕ) where
  abbrev refused : Log → List Op → Option AskRefusal
  refused log ops = burst_refusal start.plan terms life earlier log task ops

  abbrev entering : Log → List Op → Log
  entering log ops = after_call start log (caller, asked_job terms log task ops)

  module _ (log : Log) (k : IsKept start terms earlier life entered log) (ops : List Op) (none : refused log ops ≡ None) where
    says : IsTimely (terms_of terms task).work start.plan terms life (all_slots earlier) (now log) (asked_by task (log ∷ earlier)) task ops
    says = timely (terms_of terms task).work start.plan terms life (all_slots earlier) (now log) (asked_by task (log ∷ earlier)) task ops none

    pub some_ops : 1 ≤ length ops
    some_ops = says.some

    -- the first job is an ask that isn't refused
    pub job_unrefused : ask_refusal start.plan terms life earlier log task (take MAX_OPS ops) ≡ None
    job_unrefused = unrefused (most_operations (terms_of terms task)) start.plan terms life (all_slots earlier) (now log)
        (asked_by task (log ∷ earlier)) task (take MAX_OPS ops)
        (job_timely start.plan terms life (all_slots earlier) (now log) (asked_by task (log ∷ earlier)) task ops says)

    abbrev next : Log
    next = entering log (take MAX_OPS ops)

    next_is : next ≡ with_answer caller (asked_job terms log task (take MAX_OPS ops)) (reply_if_accepted start log (asked_job terms log task (take MAX_OPS ops))) log
    next_is = after_accepted start terms earlier life entered log k caller (asked_job terms log task (take MAX_OPS ops))
        (ask_accepted start terms earlier life entered log k task (take MAX_OPS ops) job_unrefused)

    now_is : now next ≡ now log
    now_is = ap now next_is

    asked_is : asked_by task (next ∷ earlier)
        ≡ asked_for start.plan terms life (all_slots earlier) (now log) (asked_by task (log ∷ earlier)) task ops says ∷ asked_by task (log ∷ earlier)
    asked_is = ap (λ (l : Log). asked_by task (l ∷ earlier)) next_is ∙ own (task == task) same
      where
        same : (task == task) ≡ true
        same = grind (arith, nat_tests)

        one : Asked
        one = record { at = all_slots earlier + now log; operations = length (take MAX_OPS ops); writes = writes (take MAX_OPS ops) }

        own : (b : Bool) → b ≡ true → cond b (one ∷ asked_by task (log ∷ earlier)) (asked_by task (log ∷ earlier)) ≡ one ∷ asked_by task (log ∷ earlier)
        own b e = ap (λ c. cond c (one ∷ asked_by task (log ∷ earlier)) (asked_by task (log ∷ earlier))) e

    -- and then what is left is a burst that isn't
    pub left_unrefused : 1 ≤ length (drop MAX_OPS ops) → refused next (drop MAX_OPS ops) ≡ None
    left_unrefused some =
        ap (λ n. first_refusal (burst_refusals start.plan terms life (all_slots earlier) n (asked_by task (next ∷ earlier)) task (drop MAX_OPS ops))) now_is
        ∙ (ap (λ (l : List Asked). first_refusal (burst_refusals start.plan terms life (all_slots earlier) (now log) l task (drop MAX_OPS ops))) asked_is
        ∙ unrefused (terms_of terms task).work start.plan terms life (all_slots earlier) (now log)
        (asked_for start.plan terms life (all_slots earlier) (now log) (asked_by task (log ∷ earlier)) task ops says ∷ asked_by task (log ∷ earlier)) task
        (drop MAX_OPS ops)
        (left_timely start.plan terms life (all_slots earlier) (now log) (asked_by task (log ∷ earlier)) task ops says some))

    pub next_kept : IsKept start terms earlier life entered next
    next_kept = ask_goes_on start terms earlier life entered log k caller task (take MAX_OPS ops) job_unrefused

  pub in_turn : (ops : List Op) (log : Log) → IsKept start terms earlier life entered log → (1 ≤ length ops → refused log ops ≡ None)
      → AreUnrefused start terms earlier life log caller task (jobs_of ops)
  in_turn = by_jobs (λ ops jobs. (log : Log) → IsKept start terms earlier life entered log → (1 ≤ length ops → refused log ops ≡ None)
      → AreUnrefused start terms earlier life log caller task jobs)
      (λ ops e log k none. tt)
      (λ ops some rest log k none. (
        job_unrefused log k ops (none some),
        rest (next log k ops (none some)) (next_kept log k ops (none some)) (λ more. left_unrefused log k ops (none some) more),
      ))

pub burst_alike : (plan : DiePlan) (terms : Terms) (life : ℕ) (earlier before : Lives) (one two : Log) (task : ℕ) (ops : List Op)
    → all_slots earlier ≡ all_slots before → now one ≡ now two → asked_by task (one ∷ earlier) ≡ asked_by task (two ∷ before)
    → burst_refusal plan terms life earlier one task ops ≡ burst_refusal plan terms life before two task ops
burst_alike plan terms life earlier before one two task ops clock slot asked =
    ap (λ n. first_refusal (burst_refusals plan terms life n (now one) (asked_by task (one ∷ earlier)) task ops)) clock
    ∙ (ap (λ n. first_refusal (burst_refusals plan terms life (all_slots before) n (asked_by task (one ∷ earlier)) task ops)) slot
    ∙ ap (λ (l : List Asked). first_refusal (burst_refusals plan terms life (all_slots before) (now two) l task ops)) asked)
