-- Work with bursts goes on: where the periods end, the moment is quiet, and what a task lacks there was written by jobs
-- that came not long before.
use Rattle.std.proofs.Common.{◌≡◌, ℕ, ◌+◌, ◌-◌, ◌*◌, ◌/◌, ◌%◌, ◌<◌, ◌≤◌, ◌==◌, ◌&&◌, not, nat_le, nat_lt, Bool, true, false, cond, List}
use Rattle.std.proofs.Common.{[], ◌∷◌, ◌++◌, length, map, sum_by, slice_index, refl, ap, sym, ◌⊎◌, inl, inr, arith}
use Rattle.std.specs.List.{AllByRecursion}
use Rattle.std.proofs.Math.Nat.{mul-le-mul_left, mul-mod_right, div-add-mod}
use Rattle.std.proofs.lemmas.Bool.{true≢false, cases_lt, and_parts, and_from, le-leb, lt-ltb, ltb-true}
use Rattle.std.proofs.lemmas.List.Sums.{sum_by-cons, sum_by-append}
use Rattle.slot_types.specs.declared.plans.DiePlan.{DiePlan}
use Rattle.slot_types.specs.declared.limits.TheConstants.{MAX_SLOT}
use Rattle.slot_types.specs.declared.events.Event.{Event}
use Rattle.slot_types.specs.Operations.{writes}
use Rattle.plan_rules.specs.Keeping.{TaskArrival, arrivals, slots}
use Rattle.plan_rules.proofs.Arriving.{is_job_of, due_of}
use Rattle.plan_rules.proofs.Pacing.{collections_in}
use Rattle.demand_rules.specs.declared.terms.TaskTerms.{TaskTerms}
use Rattle.demand_rules.specs.declared.terms.Terms.{Terms}
use Rattle.demand_rules.specs.Demand.{terms_of, HasTerms, PassesDemand}
use Rattle.demand_rules.specs.Keeping.{comes_in, KeepsDemandPlan}
use Rattle.demand_rules.proofs.Bursts as bursts
use Rattle.demand_rules.proofs.Fitting.{task_terms}
use Rattle.die_log.specs.Model.Start.{Start}
use Rattle.die_log.specs.Model.Opening.{IsOpening, IsQuiet, renewed_start}
use Rattle.die_log.specs.Model.Log.{Log, jobs, now}
use Rattle.die_log.specs.Model.Answers.{IsExact}
use Rattle.die_log.specs.Results.InTime.{IsInTime, events_of_log}
use Rattle.die_log.specs.Results.Supply.{balance_of, collections_of, pending_at}
use Rattle.die_log.proofs.Supply.Held.{pending_none}
use Rattle.die_log.specs.Results.Covered.{owed_after, written_before, IsCovered, AreStockedFor}
use Rattle.die_log.specs.Results.DemandedLives.{LeavesOutNone, IsAtPeriodEnd, at_later, AreStockedAfter}
use Rattle.die_log.proofs.Supply.Amounts.{again}
use Rattle.die_log.proofs.Supply.Following.{Follows, follows, collections_are, sum_of}
use Rattle.die_log.proofs.Supply.Owing.{is_owed, same_owed, Came, owed_came, at_of, writes_of, periods_for, reach_beyond, by_a_period}
use Rattle.die_log.proofs.Supply.Covering.{never_late, own_share, covered}

-- Where no collection is left out

-- two multiples lie a period apart
a_period_apart : (q a b : ℕ) → a % q ≡ 0 → b % q ≡ 0 → a < b → a + q ≤ b
a_period_apart q a b first second less =
    let of_first : a ≡ q * (a / q) = omega (arith, div-add-mod a q, first) in
    let of_second : b ≡ q * (b / q) = omega (arith, div-add-mod b q, second) in
    elim (cases_lt (a / q) (b / q)) [
      | inl fewer ↦ omega (arith, of_first, of_second, times_suc q (a / q), mul-le-mul_left q (next (a / q) (b / q) fewer))
      | inr more ↦ absurd (omega (arith, of_first, of_second, less, mul-le-mul_left q more))
    ]
  where
    times_suc : (k n : ℕ) → k * (n + 1) ≡ k * n + k
    times_suc k n = grind arith

    next : (n m : ℕ) → n < m → n + 1 ≤ m
    next n m h = omega (arith, h)

-- in a life that leaves the last collection its slots
pub short_lives_leave_none : (plan : DiePlan) (terms : Terms) (end : ℕ)
    → ((task : ℕ) → task < length plan.caps → end + (terms_of terms task).collect_deadline ≤ MAX_SLOT + 1) → LeavesOutNone plan terms end
short_lives_leave_none plan terms end room task slot lt before multiple = omega (arith, room task lt, before)

-- and before a multiple of each collect period
pub multiples_leave_none : (plan : DiePlan) (terms : Terms) (end : ℕ) → HasTerms plan terms → end ≤ MAX_SLOT
    → ((task : ℕ) → task < length plan.caps → end % (terms_of terms task).collect_period ≡ 0) → LeavesOutNone plan terms end
multiples_leave_none plan terms end has within multiple task slot lt before own =
    omega (
      arith,
      within,
      (task_terms plan terms task has lt).few_collect_deadline,
      a_period_apart (terms_of terms task).collect_period slot end own (multiple task lt) before,
    )

-- What is lacked at a period's end

-- the collections of a task reach the slot: the next one would have come at a multiple before it
pub collections_fill : (plan : DiePlan) (terms : Terms) (log : Log) (task : ℕ) → Follows plan terms log → IsAtPeriodEnd plan terms log
    → task < length plan.caps → now log ≤ (terms_of terms task).collect_period * collections_of (jobs log) task
collections_fill plan terms log task f ends lt =
    omega (
      arith,
      by_reach (f.paced task lt).many,
      ap (λ n. (terms_of terms task).collect_period * n) (collections_are plan terms log task f),
    )
  where
    next : ℕ
    next = (terms_of terms task).collect_period * collections_in task (arrivals 0 (events_of_log log))

    by_reach : (slots (events_of_log log) ≤ next) ⊎ (MAX_SLOT < next + (terms_of terms task).collect_deadline) → now log ≤ next
    by_reach (inl le) = omega (arith, le, f.clock)
    by_reach (inr beyond) = elim (cases_lt next (now log)) [
      | inl before ↦ absurd (omega (
        arith,
        beyond,
        ends.none_left_out task next lt before
            (mul-mod_right (terms_of terms task).collect_period (collections_in task (arrivals 0 (events_of_log log)))),
      ))
      | inr reached ↦ reached
    ]

-- Sums on the clock of all lives

sum_mapped : (f : TaskArrival → ℕ) (g : TaskArrival → TaskArrival) (xs : List TaskArrival) → sum_by f (map g xs) ≡ sum_by (λ a. f (g a)) xs
sum_mapped f g [] = refl
sum_mapped f g (a ∷ xs) = omega (arith, sum_by-cons f (g a) (map g xs), sum_by-cons (λ b. f (g b)) a xs, sum_mapped f g xs)

-- what passes a test weighs no more than what passes a wider one
sum_more : (p q : TaskArrival → Bool) (xs : List TaskArrival) → AllByRecursion (λ a. p a ≡ true → q a ≡ true) xs
    → sum_by (λ a. cond (p a) (writes a.ops) 0) xs ≤ sum_by (λ a. cond (q a) (writes a.ops) 0) xs
sum_more p q [] h = omega arith
sum_more p q (a ∷ xs) h = omega (
  arith,
  sum_by-cons (λ b. cond (p b) (writes b.ops) 0) a xs,
  sum_by-cons (λ b. cond (q b) (writes b.ops) 0) a xs,
  if_more (p a) (q a) (writes a.ops) h.0,
  sum_more p q xs h.1,
)
  where
    if_more : (b c : Bool) (n : ℕ) → (b ≡ true → c ≡ true) → cond b n 0 ≤ cond c n 0
    if_more true true n k = omega arith
    if_more true false n k = absurd (true≢false (sym (k refl)))
    if_more false c n k = omega arith

-- a job of the task that comes from this slot on
abbrev comes_since : ℕ → ℕ → TaskArrival → Bool
comes_since task from a = is_job_of task a && nat_le from a.at

-- the writes owed at a moment came since some slot
owed_known : (plan : DiePlan) (terms : Terms) (log : Log) (rest : List Event) (f : Follows plan terms log)
    (keeps : KeepsDemandPlan plan terms (events_of_log log ++ rest)) (task : ℕ) (lt : task < length plan.caps) (since first from : ℕ)
    → ((at due : ℕ) → due ≤ at + (terms_of terms task).held → since < due → from ≤ first + at)
    → owed_after task since (jobs log)
    ≤ sum_by (λ a. cond (comes_since task from a) (writes a.ops) 0) (map (at_later first) (arrivals 0 (events_of_log log)))
owed_known plan terms log rest f keeps task lt since first from early =
    let came : List TaskArrival = arrivals 0 (events_of_log log) in
    omega (
      arith,
      sum_of (λ b. cond (is_owed task since b) (writes b.ops) 0)
          (λ j. cond ((not j.collects && (j.task == task)) && nat_lt since j.due) (writes j.ops) 0) (same_owed task since) came (jobs log) f.came,
      sum_more (is_owed task since) (λ a. comes_since task from (at_later first a)) came
          (each came (owed_came plan terms log rest f keeps task lt since)),
      sum_mapped (λ a. cond (comes_since task from a) (writes a.ops) 0) (at_later first) came,
    )
  where
    each : (came : List TaskArrival) → AllByRecursion (λ a. is_owed task since a ≡ true → Came plan terms (now log) task since a) came
        → AllByRecursion (λ a. is_owed task since a ≡ true → comes_since task from (at_later first a) ≡ true) came
    each [] h = tt
    each (a ∷ came) h = (
      (λ is.
          let p = and_parts (is_job_of task a) (nat_lt since a.due) is in
          let k = h.0 is in
          and_from (is_job_of task a) (nat_le from (first + a.at)) p.0 (le-leb from (first + a.at) (early a.at a.due k.soon k.after))),
      each came h.1,
    )

pub goes_on : (start : Start) (terms : Terms) (before : List TaskArrival) (first : ℕ) → IsOpening start → PassesDemand start.plan terms
    → AreStockedAfter start terms before first → (log : Log) (rest : List Event) → IsExact start log
    → KeepsDemandPlan start.plan terms (events_of_log log ++ rest) → IsAtPeriodEnd start.plan terms log
    → IsQuiet start log
    × AreStockedAfter (renewed_start start log) terms (before ++ map (at_later first) (arrivals 0 (events_of_log log))) (first + now log)
goes_on start terms before first bound passes stocked log rest exact keeps ends = (
  (λ j stands. in_time.due_by_now j stands (ends.due_by_now j stands)),
  (λ task lt.
      let k = stocked task lt in
      let t : TaskTerms = terms_of terms task in
      let h = covered start terms task lt start.plan.alpha t.collect_period (own_share start.plan.alpha t.collect_period) k.gap k.owed
      k.stocked bound passes log exact rest keeps in
      let limits = task_terms start.plan terms task passes.has lt in
      let none : pending_at start.plan log task ≡ 0 = pending_none start.plan log task in_time (λ j stands kind is. ends.due_by_now j stands) in
      let no_pending = ap (λ (n : ℕ). start.plan.alpha * t.collect_period * n) none in
      let zeros : start.plan.alpha * t.collect_period * 0 ≡ 0 = grind arith in
      record {
        gap = (now log - h.since) + h.ago;
        owed = owed_after task h.since (jobs log) + h.lacked;
        stocked = again t.collect_period start.plan.alpha t.collect_period h.ago (slice_index start.plan.caps task) (balance_of start log task)
            (owed_after task h.since (jobs log) + h.lacked) (collections_of (jobs log) task) h.since (now log - h.since)
            (omega (arith, h.covered, no_pending, zeros))
            (omega (arith, collections_fill start.plan terms log task f ends lt, h.by_now));
        known = by_case t k.gap k.owed task h k.known
            (λ from early. owed_known start.plan terms log rest f keeps task lt h.since first from early)
            (omega (arith, limits.some_deadline, limits.few_deadline)) h.from_start;
      }),
)
  where
    in_time : IsInTime start.plan log
    in_time = never_late start terms bound passes log exact rest keeps

    f : Follows start.plan terms log
    f = follows start terms log exact rest keeps

    by_case : (t : TaskTerms) (gap owed task : ℕ) (h : IsCovered start t start.plan.alpha t.collect_period gap owed log task)
        → owed ≤ sum_by (λ a. cond (comes_since task (first + 1 - (gap + t.held)) a) (writes a.ops) 0) before
        → ((from : ℕ) → ((at due : ℕ) → due ≤ at + t.held → h.since < due → from ≤ first + at) → owed_after task h.since (jobs log)
        ≤ sum_by (λ a. cond (comes_since task from a) (writes a.ops) 0) (map (at_later first) (arrivals 0 (events_of_log log))))
        → 1 ≤ t.held → ((h.ago ≡ 0) × (h.lacked ≡ 0)) ⊎ ((h.since ≡ 0) × (h.ago ≡ gap) × (h.lacked ≡ owed))
        → owed_after task h.since (jobs log) + h.lacked
        ≤ sum_by (λ a. cond (comes_since task (first + now log + 1 - (((now log - h.since) + h.ago) + t.held)) a) (writes a.ops) 0)
        (before ++ map (at_later first) (arrivals 0 (events_of_log log)))
    by_case t gap owed task h known own some either =
        let from : ℕ = first + now log + 1 - (((now log - h.since) + h.ago) + t.held) in
        omega (
          arith,
          sum_by-append (λ a. cond (comes_since task from a) (writes a.ops) 0) before (map (at_later first) (arrivals 0 (events_of_log log))),
          own from (λ at due soon after. omega (arith, soon, after, some, h.by_now)),
          lacked either,
        )
      where
        lacked : ((h.ago ≡ 0) × (h.lacked ≡ 0)) ⊎ ((h.since ≡ 0) × (h.ago ≡ gap) × (h.lacked ≡ owed)) → h.lacked
            ≤ sum_by (λ a. cond (comes_since task (first + now log + 1 - (((now log - h.since) + h.ago) + t.held)) a) (writes a.ops) 0) before
        lacked (inl none) = omega (arith, none.1)
        lacked (inr start_on) =
            let same : first + now log + 1 - (((now log - h.since) + h.ago) + t.held)
            ≡ first + 1 - (gap + t.held) = omega (arith, start_on.0, start_on.1, h.by_now) in
            omega (
              arith,
              known,
              start_on.2,
              ap (λ (n : ℕ). sum_by (λ a. cond (comes_since task n a) (writes a.ops) 0) before) same,
            )

-- Where the next life's jobs write few pages with those before it, it is stocked for them
pub stocked_for_next : (start : Start) (terms : Terms) (before : List TaskArrival) (first : ℕ) (all : List Event) → KeepsDemandPlan start.plan terms all
    → AllByRecursion (λ a. a.at ≤ first) before
    → ((task slot : ℕ) → task < length start.plan.caps → sum_by (λ a. cond (comes_in task slot (slot + (terms_of terms task).period) a)
    (writes a.ops) 0) (before ++ map (at_later first) (arrivals 0 all)) ≤ (terms_of terms task).writes)
    → AreStockedAfter start terms before first → AreStockedFor start terms all
stocked_for_next start terms before first all keeps early few stocked task lt =
    let t : TaskTerms = terms_of terms task in
    let limits = task_terms start.plan terms task keeps.has lt in
    let k = stocked task lt in
    record {
      gap = k.gap;
      owed = k.owed;
      stocked = k.stocked;
      coming = λ slot.
          let reach : ℕ = k.gap + t.held + slot in
          let n : ℕ = periods_for t.period reach in
          let beyond = reach_beyond t.period reach limits.some_period in
          let from : ℕ = first + 1 - (k.gap + t.held) in
          let joined : List TaskArrival = before ++ map (at_later first) (arrivals 0 all) in
          let test : TaskArrival → Bool = bursts.is_released_in at_of due_of (is_job_of task) writes_of from (from + n * t.period) in
          let limit : sum_by (λ a. cond (test a) (writes a.ops) 0) joined ≤ t.writes * n = bursts.released_in_periods at_of due_of (is_job_of task)
          writes_of t.period t.writes joined (λ s. few task s lt) n from in
          let old = sum_more (comes_since task from) test before
          (old_ones task from (from + n * t.period) (omega (arith, beyond)) before early) in
          let new = sum_more (λ a. is_job_of task a && nat_lt a.at (slot + 1)) (λ a. test (at_later first a)) (arrivals 0 all)
          (new_ones task from (from + n * t.period) slot (omega (arith, limits.some_deadline, limits.few_deadline)) (omega (arith, beyond))
          (arrivals 0 all)) in
          let all_of : k.owed + written_before task (slot + 1) (arrivals 0 all) ≤ t.writes * n = omega (
            arith,
            k.known,
            old,
            new,
            sum_mapped (λ a. cond (test a) (writes a.ops) 0) (at_later first) (arrivals 0 all),
            sum_by-append (λ a. cond (test a) (writes a.ops) 0) before (map (at_later first) (arrivals 0 all)),
            limit,
          ) in
          omega (
            arith,
            mul-le-mul_left t.period all_of,
            mul-le-mul_left t.writes (by_a_period t.period reach),
            turned t.period t.writes n,
          );
    }
  where
    turned : (a b c : ℕ) → a * (b * c) ≡ b * (a * c)
    turned a b c = grind arith

    old_ones : (task from last : ℕ) → first < last → (xs : List TaskArrival) → AllByRecursion (λ a. a.at ≤ first) xs
        → AllByRecursion (λ a. comes_since task from a ≡ true → (is_job_of task a && (nat_le from a.at && nat_lt a.at last)) ≡ true) xs
    old_ones task from last above [] h = tt
    old_ones task from last above (a ∷ xs) h = (
      (λ is.
          let p = and_parts (is_job_of task a) (nat_le from a.at) is in
          and_from (is_job_of task a) (nat_le from a.at && nat_lt a.at last) p.0
          (and_from (nat_le from a.at) (nat_lt a.at last) p.1 (lt-ltb a.at last (omega (arith, h.0, above))))),
      old_ones task from last above xs h.1,
    )

    new_ones : (task from last slot : ℕ) → from ≤ first → first + slot < last → (xs : List TaskArrival)
        → AllByRecursion (λ a. (is_job_of task a && nat_lt a.at (slot + 1)) ≡ true
        → (is_job_of task a && (nat_le from (first + a.at) && nat_lt (first + a.at) last)) ≡ true) xs
    new_ones task from last slot below above [] = tt
    new_ones task from last slot below above (a ∷ xs) = (
      (λ is.
          let p = and_parts (is_job_of task a) (nat_lt a.at (slot + 1)) is in
          and_from (is_job_of task a) (nat_le from (first + a.at) && nat_lt (first + a.at) last) p.0
          (and_from (nat_le from (first + a.at)) (nat_lt (first + a.at) last) (le-leb from (first + a.at) (omega (arith, below)))
          (lt-ltb (first + a.at) last (omega (arith, above, ltb-true a.at (slot + 1) p.1))))),
      new_ones task from last slot below above xs,
    )
