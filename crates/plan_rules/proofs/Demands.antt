-- What a passing plan asks for fits into any number of slots.
use Rattle.std.proofs.Common.{◌≡◌, ℕ, zero, suc, ◌+◌, ◌*◌, ◌/◌, ◌%◌, ◌<◌, ◌≤◌, List, [], ◌∷◌, length, get_or, take, sum_by, ap, arith}
use Rattle.std.specs.List.{AllZip}
use Rattle.std.proofs.Math.Nat.{mul-le-mul_left, le_of_mul-le-mul_right}
use Rattle.std.proofs.lemmas.Nat.{div-add-mod'}
use Rattle.std.proofs.lemmas.List.{take_all}
use Rattle.std.proofs.lemmas.List.Sums.{sum_by_more}
use Rattle.slot_types.specs.declared.plans.DiePlan.{DiePlan}
use Rattle.slot_types.specs.declared.plans.TaskTimes.{TaskTimes}
use Rattle.slot_types.specs.declared.plans.Times.{Times}
use Rattle.plan_rules.specs.Times.{times_of, collection_work, task_demand, demand, IsSustained, Passes}

-- the whole periods in `common` slots fill them
whole : (common period : ℕ) → common % period ≡ 0 → common ≡ period * (common / period)
whole common period h = omega (arith, h, div-add-mod' common period, turned (common / period) period)
  where
    turned : (a b : ℕ) → a * b ≡ b * a
    turned a b = grind arith

-- `jobs` jobs, of which each takes `work` slots at most and each has a period of its own in the window
one_kind : (work jobs period window common : ℕ) → common % period ≡ 0 → jobs * period ≤ window
    → (work * jobs) * common ≤ window * (work * (common / period))
one_kind work jobs period window common divides few =
    let n : ℕ = common / period in
    let fill : common ≡ period * n = whole common period divides in
    let fit : (work * n) * (jobs * period) ≤ (work * n) * window = mul-le-mul_left (work * n) few in
    omega (arith, fit, ap (λ (c : ℕ). (work * jobs) * c) fill, regroup work jobs period n, turned (work * n) window)
  where
    regroup : (a b c d : ℕ) → (a * b) * (c * d) ≡ (a * d) * (b * c)
    regroup a b c d = grind arith

    turned : (a b : ℕ) → a * b ≡ b * a
    turned a b = grind arith

-- the slots that the first `n` tasks take at most, where task `i` has `jobs i` jobs and `collections i` collections
abbrev pub taken_by : DiePlan → Times → (ℕ → ℕ) → (ℕ → ℕ) → ℕ → ℕ
taken_by plan times jobs collections zero = 0
taken_by plan times jobs collections (suc n) =
    taken_by plan times jobs collections n + ((times_of times n).work * jobs n + collection_work plan * collections n)

-- what is known of how many jobs and collections of each task have their periods in the window
record AreFew (plan : DiePlan) (times : Times) (window : ℕ) (jobs collections : ℕ → ℕ) : Type 0 where
  pub jobs_fit : (task : ℕ) → task < length plan.caps → jobs task * (times_of times task).period ≤ window
  pub collections_fit : (task : ℕ) → task < length plan.caps → collections task * (times_of times task).collect_period ≤ window

sustained_at : (plan : DiePlan) (common : ℕ) (caps : List ℕ) (tasks : List TaskTimes) (i : ℕ) (d : TaskTimes)
    → AllZip (IsSustained plan common) caps tasks → i < length caps
    → (cap : ℕ) × IsSustained plan common cap (get_or tasks i d)
sustained_at plan common [] tasks i d h lt = absurd (omega (arith, lt))
sustained_at plan common (cap ∷ caps) [] i d h lt = absurd h
sustained_at plan common (cap ∷ caps) (t ∷ tasks) zero d h lt = (cap, h.0)
sustained_at plan common (cap ∷ caps) (t ∷ tasks) (suc i) d h lt = sustained_at plan common caps tasks i d h.1 (omega (arith, lt))

-- the slots of one task, counted as often as there are common slots
one_task : (plan : DiePlan) (times : Times) (window : ℕ) (jobs collections : ℕ → ℕ) (task : ℕ) → Passes plan times
    → AreFew plan times window jobs collections → task < length plan.caps
    → ((times_of times task).work * jobs task + collection_work plan * collections task) * times.common
    ≤ window * task_demand plan times.common (times_of times task)
one_task plan times window jobs collections task passes few lt =
    let t : TaskTimes = times_of times task in
    let s = (sustained_at plan times.common plan.caps times.tasks task (record { period = 0; collect_period = 0; work = 0; writes = 0 })
    passes.sustained lt).1 in
    omega (
      arith,
      one_kind t.work (jobs task) t.period window times.common s.period_divides (few.jobs_fit task lt),
      one_kind (collection_work plan) (collections task) t.collect_period window times.common s.collect_period_divides
          (few.collections_fit task lt),
      spread (t.work * jobs task) (collection_work plan * collections task) times.common,
      over window (t.work * (times.common / t.period)) (collection_work plan * (times.common / t.collect_period)),
    )
  where
    spread : (a b c : ℕ) → (a + b) * c ≡ a * c + b * c
    spread a b c = grind arith

    over : (a b c : ℕ) → a * (b + c) ≡ a * b + a * c
    over a b c = grind arith

first_tasks : (plan : DiePlan) (times : Times) (window : ℕ) (jobs collections : ℕ → ℕ) (n : ℕ) → Passes plan times
    → AreFew plan times window jobs collections → n ≤ length plan.caps
    → taken_by plan times jobs collections n * times.common ≤ window * sum_by (task_demand plan times.common) (take n times.tasks)
first_tasks plan times window jobs collections zero passes few le = omega arith
first_tasks plan times window jobs collections (suc n) passes few le =
    let f : TaskTimes → ℕ = task_demand plan times.common in
    let here = one_task plan times window jobs collections n passes few (omega (arith, le)) in
    let more = sum_by_more f times.tasks n (record { period = 0; collect_period = 0; work = 0; writes = 0 })
    (omega (arith, le, passes.timed.one_each)) in
    let next : suc n ≡ n + 1 = omega arith in
    omega (
      arith,
      here,
      first_tasks plan times window jobs collections n passes few (omega (arith, le)),
      ap (λ (s : ℕ). window * s) more,
      ap (λ (k : ℕ). window * sum_by f (take k times.tasks)) next,
      spread (taken_by plan times jobs collections n) ((times_of times n).work * jobs n + collection_work plan * collections n)
          times.common,
      over window (sum_by f (take n times.tasks)) (f (times_of times n)),
    )
  where
    spread : (a b c : ℕ) → (a + b) * c ≡ a * c + b * c
    spread a b c = grind arith

    over : (a b c : ℕ) → a * (b + c) ≡ a * b + a * c
    over a b c = grind arith

-- under a passing plan the jobs and collections that have their periods in a window take no more slots than it has
pub load_fits : (plan : DiePlan) (times : Times) (window : ℕ) (jobs collections : ℕ → ℕ) → Passes plan times
    → ((task : ℕ) → task < length plan.caps → jobs task * (times_of times task).period ≤ window)
    → ((task : ℕ) → task < length plan.caps → collections task * (times_of times task).collect_period ≤ window)
    → taken_by plan times jobs collections (length plan.caps) ≤ window
load_fits plan times window jobs collections passes jobs_fit collections_fit =
    let few : AreFew plan times window jobs collections = record { jobs_fit = jobs_fit; collections_fit = collections_fit } in
    let f : TaskTimes → ℕ = task_demand plan times.common in
    let counted = first_tasks plan times window jobs collections (length plan.caps) passes few (omega arith) in
    let all = take_all (length plan.caps) times.tasks (omega (arith, passes.timed.one_each)) in
    let within : window * demand plan times ≤ window * times.common = mul-le-mul_left window passes.fits in
    le_of_mul-le-mul_right {k = times.common} (omega (arith, counted, within, ap (λ (ts : List TaskTimes). window * sum_by f ts) all))
    (omega (arith, passes.timed.some_common))
