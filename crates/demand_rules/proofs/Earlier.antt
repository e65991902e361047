-- A plan that passes the test by its hyperperiod passes the tests of demand and supply, and events that keep it keep it.
use Rattle.std.proofs.Common.{◌≡◌, ℕ, zero, suc, ◌+◌, ◌-◌, ◌*◌, ◌/◌, ◌%◌, ◌≤◌, ◌==◌, ◌&&◌, nat_le, nat_lt, not, Bool, true, false, cond}
use Rattle.std.proofs.Common.{List, [], ◌∷◌, length, map, take, get_or, sum_by, refl, sym, ap, subst, ◌∙◌, inl, inr, arith}
use Rattle.std.specs.Prelude.{MatchBool}
use Rattle.std.specs.List.{AllByRecursion, AllZip}
use Rattle.std.proofs.Math.Nat.{mul-le-mul_left, mul-le-mul_right, le_of_mul-le-mul_right, div-mul-le_self}
use Rattle.std.proofs.lemmas.Nat.{div-add-mod'}
use Rattle.std.proofs.lemmas.Bool.{cases_Bool, and_parts, leb-true, ltb-true, eqb-true, not-true}
use Rattle.std.proofs.lemmas.List.{length-map, take_all}
use Rattle.std.proofs.lemmas.List.Elements.{recursion_from_All, All-from_recursion}
use Rattle.std.proofs.lemmas.List.Sums.{sum_by-cons, sum_by_more}
use Rattle.slot_types.specs.declared.plans.DiePlan.{DiePlan}
use Rattle.slot_types.specs.declared.limits.TheConstants.{MAX_SLOT}
use Rattle.slot_types.specs.declared.plans.TaskTimes.{TaskTimes}
use Rattle.slot_types.specs.declared.plans.Times.{Times}
use Rattle.slot_types.specs.declared.events.Event.{Event}
use Rattle.slot_types.specs.Operations.{writes}
use Rattle.plan_rules.specs.Times.{times_of, collection_work, IsTaskTimes, Passes}
use Rattle.plan_rules.specs.Times as earlier
use Rattle.plan_rules.specs.Keeping.{TaskArrival, arrivals, slots, IsPlanned, IsPlannedJob, IsPlannedCollection, KeepsPlan}
use Rattle.plan_rules.proofs.Arriving.{is_job_of, release_of, due_of, jobs_apart}
use Rattle.plan_rules.proofs.Windows as windows
use Rattle.plan_rules.proofs.Demands.{taken_by, load_fits}
use Rattle.demand_rules.specs.declared.terms.TaskTerms.{TaskTerms}
use Rattle.demand_rules.specs.Demand.{terms_of, periods_within, task_demand_in, demand_in, task_load, load, IsTaskTerms, HasTerms, PassesDemand}
use Rattle.demand_rules.specs.Supply.{IsSustained, PassesSupply}
use Rattle.demand_rules.specs.Keeping.{IsDemanded, IsDemandedJob, IsDemandedCollection, KeepsDemandPlan}
use Rattle.demand_rules.specs.Earlier.{as_task_terms, as_terms}

-- Terms

get_mapped : (ts : List TaskTimes) (task : ℕ) (d : TaskTimes) → get_or (map as_task_terms ts) task (as_task_terms d) ≡ as_task_terms (get_or ts task d)
get_mapped [] task d = refl
get_mapped (t ∷ ts) zero d = refl
get_mapped (t ∷ ts) (suc task) d = get_mapped ts task d

pub terms_are : (times : Times) (task : ℕ) → terms_of (as_terms times) task ≡ as_task_terms (times_of times task)
terms_are times task = get_mapped times.tasks task (record { period = 0; collect_period = 0; work = 0; writes = 0 })

limits : (t : TaskTimes) → IsTaskTimes t → IsTaskTerms (as_task_terms t)
limits t h = record {
  some_period = h.some_period;
  some_deadline = h.some_period;
  few_deadline = omega arith;
  few_held = h.few_period;
  some_work = h.some_work;
  few_work = omega (arith, h.few_work);
  few_writes = h.few_writes;
  some_collect_period = h.some_collect_period;
  few_collect_period = h.few_collect_period;
  some_collect_deadline = h.some_collect_period;
  few_collect_deadline = omega arith;
}

all_limits : (ts : List TaskTimes) → AllByRecursion IsTaskTimes ts → AllByRecursion IsTaskTerms (map as_task_terms ts)
all_limits [] h = tt
all_limits (t ∷ ts) h = (limits t h.0, all_limits ts h.1)

has_terms : (plan : DiePlan) (times : Times) → earlier.HasTimes plan times → HasTerms plan (as_terms times)
has_terms plan times h = record {
  one_each = length-map times.tasks as_task_terms ∙ h.one_each;
  each = All-from_recursion IsTaskTerms (map as_task_terms times.tasks)
      (all_limits times.tasks (recursion_from_All IsTaskTimes times.tasks h.each));
}

-- Demand

whole_periods : (period slots : ℕ) → periods_within period period slots * period ≤ slots
whole_periods period slots = by_test (nat_le period slots) refl
  where
    by_test : (b : Bool) → nat_le period slots ≡ b → cond b ((slots - period) / period + 1) 0 * period ≤ slots
    by_test true is =
        let over : ((slots - period) / period + 1) * period ≡ (slots - period) / period * period + period = grind arith in
        omega (arith, over, div-add-mod' (slots - period) period, leb-true period slots is)
    by_test false is =
        let none : 0 * period ≡ 0 = grind arith in
        omega (arith, none)

module _ (plan : DiePlan) (times : Times) (window : ℕ) where
  abbrev jobs_within : ℕ → ℕ
  jobs_within task = periods_within (times_of times task).period (times_of times task).period window

  abbrev collections_within : ℕ → ℕ
  collections_within task = periods_within (times_of times task).collect_period (times_of times task).collect_period window

  abbrev of_times : TaskTimes → ℕ
  of_times t = task_demand_in plan window (as_task_terms t)

  mapped : (ts : List TaskTimes) → sum_by (task_demand_in plan window) (map as_task_terms ts) ≡ sum_by of_times ts
  mapped [] = refl
  mapped (t ∷ ts) = omega (
    arith,
    sum_by-cons (task_demand_in plan window) (as_task_terms t) (map as_task_terms ts),
    sum_by-cons of_times t ts,
    mapped ts,
  )

  first_tasks : (n : ℕ) → n ≤ length times.tasks → sum_by of_times (take n times.tasks) ≡ taken_by plan times jobs_within collections_within n
  first_tasks zero le = refl
  first_tasks (suc n) le =
      let next : suc n ≡ n + 1 = omega arith in
      omega (
        arith,
        first_tasks n (omega (arith, le)),
        sum_by_more of_times times.tasks n (record { period = 0; collect_period = 0; work = 0; writes = 0 }) (omega (arith, le)),
        ap (λ (k : ℕ). sum_by of_times (take k times.tasks)) next,
      )

  fits : Passes plan times → demand_in plan (as_terms times) window ≤ window
  fits passes =
      omega (
        arith,
        mapped times.tasks,
        first_tasks (length plan.caps) (omega (arith, passes.timed.one_each)),
        ap (λ (ts : List TaskTimes). sum_by of_times ts) (take_all (length plan.caps) times.tasks (omega (arith, passes.timed.one_each))),
        load_fits plan times window jobs_within collections_within passes
            (λ task lt. whole_periods (times_of times task).period window)
            (λ task lt. whole_periods (times_of times task).collect_period window),
      )

-- The long run: of a hyperperiod's slots, times a million, each share takes no more than its task does in these

share : (work period common million : ℕ) → common % period ≡ 0
    → (work * million) / period * common ≤ million * (work * (common / period))
share work period common million divides =
    let n : ℕ = common / period in
    let f : ℕ = (work * million) / period in
    let fill : common ≡ n * period = omega (arith, divides, div-add-mod' common period) in
    let fit : n * (f * period) ≤ n * (work * million) = mul-le-mul_left n (div-mul-le_self (work * million) period) in
    omega (arith, fit, ap (λ (c : ℕ). f * c) fill, regroup f n period, turned n work million)
  where
    regroup : (a b c : ℕ) → a * (b * c) ≡ b * (a * c)
    regroup a b c = grind arith

    turned : (a b c : ℕ) → a * (b * c) ≡ c * (b * a)
    turned a b c = grind arith

module _ (plan : DiePlan) (common : ℕ) where
  abbrev load_of : TaskTimes → ℕ
  load_of t = task_load plan (as_task_terms t)

  one_share : (cap : ℕ) (t : TaskTimes) → earlier.IsSustained plan common cap t → load_of t * common ≤ 1000000 * earlier.task_demand plan common t
  one_share cap t h = omega (
    arith,
    share t.work t.period common 1000000 h.period_divides,
    share (collection_work plan) t.collect_period common 1000000 h.collect_period_divides,
    spread ((t.work * 1000000) / t.period) ((collection_work plan * 1000000) / t.collect_period) common,
  )
    where
      spread : (a b c : ℕ) → (a + b) * c ≡ a * c + b * c
      spread a b c = grind arith

  all_shares : (caps : List ℕ) (ts : List TaskTimes) → AllZip (earlier.IsSustained plan common) caps ts
      → sum_by (task_load plan) (map as_task_terms ts) * common ≤ 1000000 * sum_by (earlier.task_demand plan common) ts
  all_shares caps [] h = omega arith
  all_shares [] (t ∷ ts) h = absurd h
  all_shares (cap ∷ caps) (t ∷ ts) h = omega (
    arith,
    ap (λ (n : ℕ). n * common) (sum_by-cons (task_load plan) (as_task_terms t) (map as_task_terms ts)),
    spread (load_of t) (sum_by (task_load plan) (map as_task_terms ts)) common,
    sum_by-cons (earlier.task_demand plan common) t ts,
    one_share cap t h.0,
    all_shares caps ts h.1,
  )
    where
      spread : (a b c : ℕ) → (a + b) * c ≡ a * c + b * c
      spread a b c = grind arith

lasts : (plan : DiePlan) (times : Times) → Passes plan times → load plan (as_terms times) ≤ 1000000
lasts plan times passes = le_of_mul-le-mul_right {k = times.common}
    (omega (arith, all_shares plan times.common plan.caps times.tasks passes.sustained, passes.fits))
    (omega (arith, passes.timed.some_common))

pub passes_demand : (plan : DiePlan) (times : Times) → Passes plan times → PassesDemand plan (as_terms times)
passes_demand plan times passes = record {
  has = has_terms plan times passes.timed;
  lasts = lasts plan times passes;
  fits = λ slots within. fits plan times slots passes;
}

-- Supply

sustained : (plan : DiePlan) (common cap : ℕ) (t : TaskTimes) → earlier.IsSustained plan common cap t → IsSustained plan cap (as_task_terms t)
sustained plan common cap t h = record {
  regained = h.regained;
  stocked =
      let more : (2 * t.writes + 2 * plan.alpha) * t.period ≤ cap * t.period = mul-le-mul_right t.period h.stocked in
      let over : (2 * t.writes + 2 * plan.alpha) * t.period ≡ t.writes * (t.period + t.period) + 2 * plan.alpha * t.period = grind arith in
      omega (arith, more, over);
}

all_sustained : (plan : DiePlan) (common : ℕ) (caps : List ℕ) (ts : List TaskTimes) → AllZip (earlier.IsSustained plan common) caps ts
    → AllZip (IsSustained plan) caps (map as_task_terms ts)
all_sustained plan common [] [] h = h
all_sustained plan common [] (t ∷ ts) h = absurd h
all_sustained plan common (cap ∷ caps) [] h = absurd h
all_sustained plan common (cap ∷ caps) (t ∷ ts) h = (sustained plan common cap t h.0, all_sustained plan common caps ts h.1)

pub passes_supply : (plan : DiePlan) (times : Times) → Passes plan times → PassesSupply plan (as_terms times)
passes_supply plan times passes = record {
  has = has_terms plan times passes.timed;
  sustained = all_sustained plan times.common plan.caps times.tasks passes.sustained;
}

-- Events

by_kind : (plan : DiePlan) (times : Times) (end : ℕ) (a : TaskArrival) (b : Bool) → earlier.HasTimes plan times
    → MatchBool b (IsPlannedCollection plan times end a) (IsPlannedJob plan times a)
    → MatchBool b (IsDemandedCollection plan (as_terms times) end a) (IsDemandedJob plan (as_terms times) a)
by_kind plan times end a true has h = record {
  task = h.task;
  comes = h.comes;
  slot = record {
    multiple = subst (λ (t : TaskTerms). a.release % t.collect_period ≡ 0) (sym (terms_are times a.task)) h.slot.multiple;
    before_end = h.slot.before_end;
    due_limit = subst (λ (t : TaskTerms). a.release + t.collect_deadline ≤ MAX_SLOT) (sym (terms_are times a.task)) h.slot.due_limit;
  };
  due = subst (λ (t : TaskTerms). a.due ≡ a.release + t.collect_deadline) (sym (terms_are times a.task)) h.due;
}
by_kind plan times end a false has h = record {
  task = h.task;
  comes = omega (arith, h.comes);
  due = subst (λ (t : TaskTerms). a.release + t.deadline ≤ a.due) (sym (terms_are times a.task)) (omega (arith, h.due));
  soon = subst (λ (t : TaskTerms). a.due ≤ a.at + t.held) (sym (terms_are times a.task)) (omega (arith, h.due, h.comes));
  due_limit = h.due_limit;
  some = h.some;
  few = omega (
    arith,
    h.few,
    (has.each a.task (record { period = 0; collect_period = 0; work = 0; writes = 0 })
        (omega (arith, h.task, has.one_each))).few_work,
  );
  pages = h.pages;
}

all_demanded : (plan : DiePlan) (times : Times) (end : ℕ) → earlier.HasTimes plan times → (came : List TaskArrival)
    → AllByRecursion (IsPlanned plan times end) came → AllByRecursion (IsDemanded plan (as_terms times) end) came
all_demanded plan times end has [] h = tt
all_demanded plan times end has (a ∷ came) h = (by_kind plan times end a a.collects has h.0, all_demanded plan times end has came h.1)

-- in a period one job is released at most, so no more than the one asks for
module _ (task period limit : ℕ) (place weight : TaskArrival → ℕ) where
  abbrev is_in : ℕ → TaskArrival → Bool
  is_in start a = is_job_of task a && (nat_le start (place a) && nat_lt (place a) (start + period))

  -- a job is counted where it is released, and weighs no more than the limit
  abbrev Weighs : TaskArrival → Type 0
  Weighs a = is_job_of task a ≡ true → (place a ≡ a.release) × (weight a ≤ limit)

  none_after : (start from : ℕ) → start + period ≤ from → (came : List TaskArrival) → AllByRecursion Weighs came
      → AllByRecursion (λ a. is_job_of task a ≡ true → from ≤ a.release) came → sum_by (λ a. cond (is_in start a) (weight a) 0) came ≡ 0
  none_after start from beyond [] w h = refl
  none_after start from beyond (a ∷ came) w h = omega (
    arith,
    sum_by-cons (λ b. cond (is_in start b) (weight b) 0) a came,
    by_test (is_in start a) refl,
    none_after start from beyond came w.1 h.1,
  )
    where
      by_test : (b : Bool) → is_in start a ≡ b → cond (is_in start a) (weight a) 0 ≡ 0
      by_test true is =
          let p = and_parts (is_job_of task a) (nat_le start (place a) && nat_lt (place a) (start + period)) is in
          let q = and_parts (nat_le start (place a)) (nat_lt (place a) (start + period)) p.1 in
          absurd (omega (arith, beyond, h.0 p.0, (w.0 p.0).0, ltb-true (place a) (start + period) q.1))
      by_test false is = ap (λ b. cond b (weight a) 0) is

  one_in_period : (start : ℕ) (came : List TaskArrival) → AllByRecursion Weighs came
      → windows.AreApart release_of due_of (is_job_of task) period came → sum_by (λ a. cond (is_in start a) (weight a) 0) came ≤ limit
  one_in_period start [] w apart = omega arith
  one_in_period start (a ∷ came) w apart = elim (cases_Bool (is_in start a)) [
    | inl is ↦
        let p = and_parts (is_job_of task a) (nat_le start (place a) && nat_lt (place a) (start + period)) is in
        let q = and_parts (nat_le start (place a)) (nat_lt (place a) (start + period)) p.1 in
        let own = w.0 p.0 in
        omega (
          arith,
          sum_by-cons (λ b. cond (is_in start b) (weight b) 0) a came,
          ap (λ b. cond b (weight a) 0) is,
          own.1,
          none_after start (a.release + period) (omega (arith, own.0, leb-true start (place a) q.0)) came w.1 (apart.0 p.0).1,
        )
    | inr not_it ↦ omega (
      arith,
      sum_by-cons (λ b. cond (is_in start b) (weight b) 0) a came,
      ap (λ b. cond b (weight a) 0) not_it,
      one_in_period start came w.1 apart.1,
    )
  ]

as_planned_job : (plan : DiePlan) (times : Times) (end task : ℕ) (a : TaskArrival) → IsPlanned plan times end a → is_job_of task a ≡ true
    → (a.task ≡ task) × IsPlannedJob plan times a
as_planned_job plan times end task a h is =
    let p = and_parts (not a.collects) (a.task == task) is in (
      eqb-true a.task task p.1,
      subst (λ b. MatchBool b (IsPlannedCollection plan times end a) (IsPlannedJob plan times a))
          (not-true a.collects p.0) h,
    )

pub keeps_demand : (plan : DiePlan) (times : Times) (all : List Event) → KeepsPlan plan times all → KeepsDemandPlan plan (as_terms times) all
keeps_demand plan times all keeps =
    let came : List TaskArrival = arrivals 0 all in
    let planned = recursion_from_All (IsPlanned plan times (slots all)) came keeps.planned in
    record {
      has = has_terms plan times keeps.timed;
      few_slots = keeps.few_slots;
      few_arrivals = keeps.few_arrivals;
      planned = All-from_recursion (IsDemanded plan (as_terms times) (slots all)) came
          (all_demanded plan times (slots all) keeps.timed came planned);
      few_operations = λ task slot lt. subst (λ (t : TaskTerms). sum_by (λ a. cond
          (is_job_of task a && (nat_le slot a.release && nat_lt a.release (slot + t.period))) (length a.ops) 0) came ≤ t.work)
          (sym (terms_are times task))
          (one_in_period task (times_of times task).period (times_of times task).work (λ a. a.release) (λ a. length a.ops) slot came
          (operations_weigh task came planned) (jobs_apart plan times all keeps task));
      few_writes = λ task slot lt. subst (λ (t : TaskTerms). sum_by (λ a. cond
          (is_job_of task a && (nat_le slot a.at && nat_lt a.at (slot + t.period))) (writes a.ops) 0) came ≤ t.writes)
          (sym (terms_are times task))
          (one_in_period task (times_of times task).period (times_of times task).writes (λ a. a.at) (λ a. writes a.ops) slot came
          (writes_weigh task came planned) (jobs_apart plan times all keeps task));
      collected = λ task slot lt at. keeps.collected task slot lt (record {
        multiple = subst (λ (t : TaskTerms). slot % t.collect_period ≡ 0) (terms_are times task) at.multiple;
        before_end = at.before_end;
        due_limit = subst (λ (t : TaskTerms). slot + t.collect_deadline ≤ MAX_SLOT) (terms_are times task) at.due_limit;
      });
    }
  where
    operations_weigh : (task : ℕ) (came : List TaskArrival) → AllByRecursion (IsPlanned plan times (slots all)) came
        → AllByRecursion (Weighs task (times_of times task).period (times_of times task).work (λ a. a.release) (λ a. length a.ops)) came
    operations_weigh task [] h = tt
    operations_weigh task (a ∷ came) h = (
      (λ is.
          let k = as_planned_job plan times (slots all) task a h.0 is in
          (refl, subst (λ i. length a.ops ≤ (times_of times i).work) k.0 k.1.few)),
      operations_weigh task came h.1,
    )

    writes_weigh : (task : ℕ) (came : List TaskArrival) → AllByRecursion (IsPlanned plan times (slots all)) came
        → AllByRecursion (Weighs task (times_of times task).period (times_of times task).writes (λ a. a.at) (λ a. writes a.ops)) came
    writes_weigh task [] h = tt
    writes_weigh task (a ∷ came) h = (
      (λ is.
          let k = as_planned_job plan times (slots all) task a h.0 is in
          (sym k.1.comes, subst (λ i. writes a.ops ≤ (times_of times i).writes) k.0 k.1.few_writes)),
      writes_weigh task came h.1,
    )
