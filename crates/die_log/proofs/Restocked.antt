-- Planned work goes on: where the periods of a plan with times end, a log that starts there is stocked as the one before
-- it was. The share of its collections that counts is what its jobs write: `writes` pages in a period.
use Rattle.std.proofs.Common.{◌≡◌, ℕ, ◌+◌, ◌-◌, ◌*◌, ◌/◌, ◌%◌, ◌<◌, ◌≤◌, List, [], ◌∷◌, ◌++◌, length, slice_index, refl, ap, sym, subst}
use Rattle.std.proofs.Common.{◌∙◌, ◌⊎◌, true, suc, inl, inr, arith}
use Rattle.std.specs.Prelude.{Contains}
use Rattle.std.specs.List.{AllByRecursion}
use Rattle.std.proofs.Math.Nat.{mul-le-mul_left, mod-lt}
use Rattle.std.proofs.lemmas.Nat.{div-add-mod'}
use Rattle.slot_types.specs.declared.limits.TheConstants.{MAX_SLOT}
use Rattle.slot_types.specs.declared.plans.DiePlan.{DiePlan}
use Rattle.slot_types.specs.declared.plans.Times.{Times}
use Rattle.slot_types.specs.declared.events.Event.{Event}
use Rattle.plan_rules.specs.Times.{times_of, Passes}
use Rattle.plan_rules.specs.Keeping.{TaskArrival, arrivals, KeepsPlan}
use Rattle.demand_rules.specs.declared.terms.TaskTerms.{TaskTerms}
use Rattle.demand_rules.specs.declared.terms.Terms.{Terms}
use Rattle.demand_rules.specs.Demand.{terms_of, IsTaskTerms, PassesDemand}
use Rattle.demand_rules.specs.Supply.{PassesSupply}
use Rattle.demand_rules.specs.Keeping.{KeepsDemandPlan}
use Rattle.demand_rules.specs.Earlier.{as_terms}
use Rattle.demand_rules.proofs.Earlier.{terms_are, passes_demand, passes_supply, keeps_demand}
use Rattle.demand_rules.proofs.Fitting.{task_terms}
use Rattle.demand_rules.proofs.Moments.{task_sustained}
use Rattle.die_log.specs.Model.Start.{Start}
use Rattle.die_log.specs.Model.Opening.{IsOpening, IsQuiet, renewed_start}
use Rattle.die_log.specs.Model.Log.{Log, Job, jobs, now}
use Rattle.die_log.specs.Model.Answers.{IsExact}
use Rattle.die_log.specs.Results.InTime.{events_of_log, IsInTime}
use Rattle.die_log.specs.Results.InTime as earlier
use Rattle.die_log.specs.Results.Supply.{balance_of, collections_of, pending_at, AreStocked}
use Rattle.die_log.specs.Results.Covered.{owed_after, IsCovered}
use Rattle.die_log.specs.Results.DemandedLives.{LeavesOutNone, IsAtPeriodEnd}
use Rattle.die_log.proofs.Limits.{keeps_limits}
use Rattle.die_log.proofs.Supply.Held.{pending_none}
use Rattle.die_log.proofs.Supply.Amounts.{again}
use Rattle.die_log.proofs.Supply.Following.{AreOf, Follows, follows}
use Rattle.die_log.proofs.Supply.Owing.{is_owed, Came, owed_came, owed_within, periods_for, reach_beyond, by_a_period}
use Rattle.die_log.proofs.Supply.Covering.{never_late, covered}
use Rattle.die_log.proofs.Restocking.{collections_fill, multiples_leave_none}

-- Where the periods end

-- a multiple of each collect period leaves out no collection
pub none_left_out : (plan : DiePlan) (times : Times) (end : ℕ) → Passes plan times → end ≤ MAX_SLOT
    → ((task : ℕ) → task < length plan.caps → end % (times_of times task).collect_period ≡ 0) → LeavesOutNone plan (as_terms times) end
none_left_out plan times end passes within multiple =
    multiples_leave_none plan (as_terms times) end (passes_demand plan times passes).has within
    (λ task lt. ap (λ (u : TaskTerms). end % u.collect_period) (terms_are times task) ∙ multiple task lt)

period_ends : (start : Start) (times : Times) (log : Log) → Passes start.plan times → IsExact start log → earlier.IsAtPeriodEnd start.plan times log
    → IsAtPeriodEnd start.plan (as_terms times) log
period_ends start times log passes exact ends = record {
  due_by_now = ends.due_by_now;
  none_left_out = none_left_out start.plan times (now log) passes (keeps_limits start log exact).slots ends.multiple;
}

-- What is owed there

-- what holds of the deadlines of all jobs holds of those of what came
due_of_all : (P : ℕ → Type 0) (came : List TaskArrival) (js : List Job) → AreOf came js → ((j : Job) → Contains js j → P j.due)
    → AllByRecursion (λ a. P a.due) came
due_of_all P [] js h all = tt
due_of_all P (a ∷ came) [] h all = absurd h
due_of_all P (a ∷ came) (j ∷ js) h all = (
  subst P h.0.due (all j (0, omega arith, refl)),
  due_of_all P came js h.1 (λ i k. all i (suc k.0, omega (arith, k.1), k.2)),
)

both : (P Q R : TaskArrival → Type 0) (task since : ℕ) → ((a : TaskArrival) → P a → Q a → R a) → (came : List TaskArrival)
    → AllByRecursion (λ a. is_owed task since a ≡ true → P a) came → AllByRecursion Q came
    → AllByRecursion (λ a. is_owed task since a ≡ true → R a) came
both P Q R task since f [] h k = tt
both P Q R task since f (a ∷ came) h k = ((λ is. f a (h.0 is) k.0), both P Q R task since f came h.1 k.1)

-- the writes of jobs that each have a period, over the slots in which they were due
in_share : (p w owed n slots : ℕ) → owed ≤ w * n → p * n ≤ slots → p * owed ≤ w * slots
in_share p w owed n slots few within =
    let turned : p * (w * n) ≡ w * (p * n) = grind arith in
    omega (arith, mul-le-mul_left p few, mul-le-mul_left w within, turned)

-- A task whose jobs each have a period, from their coming to their deadline, and that lacked at the start the writes of
-- one job and its share for one collect period at most, lacks no more where all that came is due.
module _ (start : Start) (terms : Terms) (task : ℕ) (lt : task < length start.plan.caps) (bound : IsOpening start)
    (passes : PassesDemand start.plan terms) (supply : PassesSupply start.plan terms)
    (deadline : (terms_of terms task).deadline ≡ (terms_of terms task).period) (held : (terms_of terms task).held ≡ (terms_of terms task).period)
    (log : Log) (rest : List Event) (exact : IsExact start log) (keeps : KeepsDemandPlan start.plan terms (events_of_log log ++ rest))
    (ends : IsAtPeriodEnd start.plan terms log) where
  abbrev t : TaskTerms
  t = terms_of terms task

  f : Follows start.plan terms log
  f = follows start terms log exact rest keeps

  limits : IsTaskTerms (terms_of terms task)
  limits = task_terms start.plan terms task passes.has lt

  -- an owed job came after `since` less a period, and a period before now
  came_in : (since first n : ℕ) → first ≤ since + 1 - t.period → now log < first + n * t.period + t.period
      → AllByRecursion (λ a. is_owed task since a ≡ true → (first ≤ a.at) × (a.at < first + n * t.period)) (arrivals 0 (events_of_log log))
  came_in since first n from beyond =
      both (Came start.plan terms (now log) task since) (λ a. a.due ≤ now log) (λ a. (first ≤ a.at) × (a.at < first + n * t.period)) task since
      (λ a k due. (
        omega (arith, k.soon, k.after, held, from),
        omega (arith, k.comes, k.due, deadline, due, beyond),
      )) (arrivals 0 (events_of_log log)) (owed_came start.plan terms log rest f keeps task lt since)
      (due_of_all (λ d. d ≤ now log) (arrivals 0 (events_of_log log)) (jobs log) f.came ends.due_by_now)

  -- since the first slot
  owed_at_all : t.period * owed_after task 0 (jobs log) ≤ t.writes * now log
  owed_at_all =
      let n : ℕ = now log / t.period in
      let whole : n * t.period ≡ t.period * n = grind arith in
      let over : now log < 0 + n * t.period + t.period = omega (arith, div-add-mod' (now log) t.period, mod-lt (now log) {m = t.period} (omega (arith, limits.some_period))) in
      in_share t.period t.writes (owed_after task 0 (jobs log)) n (now log)
      (owed_within start.plan terms log rest f keeps task lt 0 0 n (came_in 0 0 n (omega arith) over))
      (omega (arith, whole, div-add-mod' (now log) t.period))

  -- since a later one
  owed_since : (since : ℕ) → since ≤ now log → t.period * owed_after task since (jobs log) ≤ t.writes * (now log - since + t.period)
  owed_since since by_now =
      let n : ℕ = periods_for t.period (now log - since) in
      in_share t.period t.writes (owed_after task since (jobs log)) n (now log - since + t.period)
      (owed_within start.plan terms log rest f keeps task lt since (since + 1 - t.period) n
      (came_in since (since + 1 - t.period) n (omega arith)
      (omega (arith, reach_beyond t.period (now log - since) limits.some_period, by_now))))
      (by_a_period t.period (now log - since))

  by_case : (h : IsCovered start t t.writes t.period 0 t.writes log task)
      → ((h.ago ≡ 0) × (h.lacked ≡ 0)) ⊎ ((h.since ≡ 0) × (h.ago ≡ 0) × (h.lacked ≡ t.writes))
      → t.period * (owed_after task h.since (jobs log) + h.lacked) ≤ t.writes * ((now log - h.since) + h.ago) + t.period * t.writes
  by_case h (inl none) =
      omega (
        arith,
        ap (λ (n : ℕ). t.period * (owed_after task h.since (jobs log) + n)) none.1,
        ap (λ (n : ℕ). t.writes * ((now log - h.since) + n)) none.0,
        owed_since h.since h.by_now,
        spread t.writes (now log - h.since) t.period,
        without t.period (owed_after task h.since (jobs log)),
        without_one t.writes (now log - h.since),
      )
    where
      spread : (w n p : ℕ) → w * (n + p) ≡ w * n + p * w
      spread w n p = grind arith

      without : (p n : ℕ) → p * (n + 0) ≡ p * n
      without p n = grind arith

      without_one : (w n : ℕ) → w * (n + 0) ≡ w * n
      without_one w n = grind arith
  by_case h (inr start_on) =
      omega (
        arith,
        ap (λ (n : ℕ). t.period * (owed_after task n (jobs log) + t.writes)) start_on.0,
        ap (λ (n : ℕ). t.period * (owed_after task h.since (jobs log) + n)) start_on.2,
        ap (λ (n : ℕ). t.writes * n) (all_slots h.since h.ago start_on.0 start_on.1),
        owed_at_all,
        spread t.period (owed_after task 0 (jobs log)) t.writes,
      )
    where
      spread : (p n w : ℕ) → p * (n + w) ≡ p * n + p * w
      spread p n w = grind arith

      all_slots : (since ago : ℕ) → since ≡ 0 → ago ≡ 0 → (now log - since) + ago ≡ now log
      all_slots since ago first none = omega (arith, first, none)

  pub restocked : t.period * slice_index start.plan.caps task
      ≤ t.period * slice_index start.accounts.balances task + t.period * t.writes + t.writes * t.collect_period
      → t.period * slice_index start.plan.caps task
      ≤ t.period * balance_of start log task + t.period * t.writes + t.writes * t.collect_period
  restocked stocked =
      let in_time : IsInTime start.plan log = never_late start terms bound passes log exact rest keeps in
      let none : pending_at start.plan log task ≡ 0 = pending_none start.plan log task in_time (λ j stands kind is. ends.due_by_now j stands) in
      let share : t.writes * t.collect_period ≤ t.period * start.plan.alpha =
      omega (arith, (task_sustained start.plan terms task supply lt).regained, turned start.plan.alpha t.period) in
      let h = covered start terms task lt t.writes t.period share 0 t.writes
      (omega (arith, stocked, times_sum t.period (slice_index start.accounts.balances task) t.writes, no_times t.writes))
      bound passes log exact rest keeps in
      let left = again t.period t.writes t.collect_period h.ago (slice_index start.plan.caps task) (balance_of start log task)
      (owed_after task h.since (jobs log) + h.lacked) (collections_of (jobs log) task) h.since (now log - h.since)
      (omega (arith, h.covered, ap (λ (n : ℕ). t.writes * t.collect_period * n) none, no_times (t.writes * t.collect_period)))
      (omega (arith, collections_fill start.plan terms log task f ends lt, h.by_now)) in
      omega (
        arith,
        left,
        by_case h h.from_start,
        times_sum t.period (balance_of start log task) (owed_after task h.since (jobs log) + h.lacked),
      )
    where
      turned : (a b : ℕ) → a * b ≡ b * a
      turned a b = grind arith

      times_sum : (k a b : ℕ) → k * (a + b) ≡ k * a + k * b
      times_sum k a b = grind arith

      no_times : (k : ℕ) → k * 0 ≡ 0
      no_times k = grind arith

-- Plans with times

pub goes_on_where : (start : Start) (times : Times) → IsOpening start → Passes start.plan times → AreStocked start times
    → (log : Log) (rest : List Event) → IsExact start log → KeepsPlan start.plan times (events_of_log log ++ rest)
    → IsAtPeriodEnd start.plan (as_terms times) log → IsQuiet start log × AreStocked (renewed_start start log) times
goes_on_where start times bound passes stocked log rest exact keeps ends =
    let terms : Terms = as_terms times in
    let demanded = passes_demand start.plan times passes in
    let kept = keeps_demand start.plan times (events_of_log log ++ rest) keeps in
    let in_time : IsInTime start.plan log = never_late start terms bound demanded log exact rest kept in (
      λ j stands. in_time.due_by_now j stands (ends.due_by_now j stands),
      λ task lt.
          let is = terms_are times task in
          let deadline = ap (λ (u : TaskTerms). u.deadline) is ∙ sym (ap (λ (u : TaskTerms). u.period) is) in
          let held = ap (λ (u : TaskTerms). u.held) is ∙ sym (ap (λ (u : TaskTerms). u.period) is) in
          subst (λ (u : TaskTerms). u.period * slice_index start.plan.caps task
          ≤ u.period * balance_of start log task + u.period * u.writes + u.writes * u.collect_period) is
          (restocked start terms task lt bound demanded (passes_supply start.plan times passes) deadline held log rest exact kept ends
          (subst (λ (u : TaskTerms). u.period * slice_index start.plan.caps task
          ≤ u.period * slice_index start.accounts.balances task + u.period * u.writes + u.writes * u.collect_period) (sym is) (stocked task lt))),
    )

pub goes_on : (start : Start) (times : Times) → IsOpening start → Passes start.plan times → AreStocked start times
    → (log : Log) (rest : List Event) → IsExact start log → KeepsPlan start.plan times (events_of_log log ++ rest)
    → earlier.IsAtPeriodEnd start.plan times log → IsQuiet start log × AreStocked (renewed_start start log) times
goes_on start times bound passes stocked log rest exact keeps ends =
    goes_on_where start times bound passes stocked log rest exact keeps (period_ends start times log passes exact ends)
