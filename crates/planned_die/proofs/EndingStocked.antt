-- At the end of a life each task has enough for a die to go on from there, where nobody knows what was asked for before.
use Rattle.std.proofs.Common.{◌≡◌, ℕ, zero, suc, ◌+◌, ◌-◌, ◌*◌, ◌/◌, ◌%◌, ◌<◌, ◌≤◌, ◌==◌, ◌&&◌, not, nat_le, nat_lt, Bool, true, false, cond}
use Rattle.std.proofs.Common.{List, [], ◌∷◌, ◌++◌, map, sum_by, slice_index, refl, ap, sym, subst, ◌∙◌, arith, inl, inr, ◌⊎◌}
use Rattle.std.specs.Prelude.{MatchBool, length}
use Rattle.std.specs.List.{AllByRecursion}
use Rattle.std.proofs.Math.Nat.{mul-le-mul_left, le_of_mul-le-mul_left, div-add-mod, mod-lt}
use Rattle.std.proofs.lemmas.Bool.{cases_lt, and_parts, and_from, leb-true, le-leb, lt-ltb, eqb-true, true≢false}
use Rattle.std.proofs.lemmas.Bool.Decides.{nat_tests}
use Rattle.std.proofs.lemmas.List.Sums.{sum_by-cons}
use Rattle.std.proofs.lemmas.List.Elements.{recursion_from_All}
use Rattle.slot_types.specs.declared.plans.DiePlan.{DiePlan}
use Rattle.slot_types.specs.declared.events.Event.{Event}
use Rattle.slot_types.specs.Operations.{writes}
use Rattle.plan_rules.specs.Keeping.{TaskArrival, arrivals, slots}
use Rattle.plan_rules.proofs.Moments.{arrivals_after}
use Rattle.demand_rules.specs.declared.terms.TaskTerms.{TaskTerms}
use Rattle.demand_rules.specs.declared.terms.Terms.{Terms}
use Rattle.demand_rules.specs.Demand.{terms_of, IsTaskTerms}
use Rattle.demand_rules.specs.Keeping.{IsDemanded, IsDemandedCollection, IsDemandedJob, comes_in}
use Rattle.demand_rules.proofs.Fitting.{task_terms}
use Rattle.demand_rules.proofs.Moments.{task_sustained}
use Rattle.die_log.specs.Model.Log.{Log, now}
use Rattle.die_log.specs.Model.Lives.{Lives, all_slots}
use Rattle.die_log.specs.Model.Start.{Start}
use Rattle.die_log.specs.Model.Opening.{renewed_start}
use Rattle.die_log.specs.Results.InTime.{events_of_log}
use Rattle.die_log.specs.Results.DemandedLives.{at_later}
use Rattle.planned_log.specs.Asks.{Asked, asked_by}
use Rattle.planned_log.specs.Lives.{all_came, IsWithinLife}
use Rattle.planned_log.specs.KeptLogs.{left_of, is_asked_in, amount_in}
use Rattle.planned_log.specs.Laws.{IsKept}
use Rattle.planned_log.proofs.Asking.{came_is, came_by, all_parts, all_joined, all_as}
use Rattle.planned_log.proofs.Kept.{next_begins}
use Rattle.planned_die.specs.Resuming.{HaveEnough, AreDueAsHeld}

-- Sums

sum_less : (f g : TaskArrival → ℕ) (xs : List TaskArrival) → AllByRecursion (λ a. f a ≤ g a) xs → sum_by f xs ≤ sum_by g xs
sum_less f g [] h = omega arith
sum_less f g (a ∷ xs) h = omega (arith, sum_by-cons f a xs, sum_by-cons g a xs, h.0, sum_less f g xs h.1)

-- what was asked for in some slots was in the first of them, or in the others
module _ (amount : Asked → ℕ) where
  in_parts : (start middle end : ℕ) (xs : List Asked) → amount_in amount start end xs ≤ amount_in amount start middle xs + amount_in amount middle end xs
  in_parts start middle end [] = omega arith
  in_parts start middle end (a ∷ xs) = omega (
    arith,
    sum_by-cons (λ b. cond (is_asked_in start end b) (amount b) 0) a xs,
    sum_by-cons (λ b. cond (is_asked_in start middle b) (amount b) 0) a xs,
    sum_by-cons (λ b. cond (is_asked_in middle end b) (amount b) 0) a xs,
    one (is_asked_in start end a) refl (nat_lt a.at middle) refl,
    in_parts start middle end xs,
  )
    where
      one : (b : Bool) → is_asked_in start end a ≡ b → (c : Bool) → nat_lt a.at middle ≡ c
          → cond b (amount a) 0 ≤ cond (is_asked_in start middle a) (amount a) 0 + cond (is_asked_in middle end a) (amount a) 0
      one false e c f = omega arith
      one true e true f =
          let p = and_parts (nat_le start a.at) (nat_lt a.at end) e in
          let first : is_asked_in start middle a ≡ true = and_from (nat_le start a.at) (nat_lt a.at middle) p.0 f in
          rw first (omega arith)
      one true e false f =
          let p = and_parts (nat_le start a.at) (nat_lt a.at end) e in
          let later : nat_le middle a.at ≡ true = grind (arith, nat_tests, f) in
          let second : is_asked_in middle end a ≡ true = and_from (nat_le middle a.at) (nat_lt a.at end) later p.1 in
          rw second (omega arith)

  -- in `n` periods no more than `n` times the limit of one
  in_periods : (period limit : ℕ) (xs : List Asked) → ((s : ℕ) → amount_in amount s (s + period) xs ≤ limit) → (n start : ℕ)
      → amount_in amount start (start + n * period) xs ≤ n * limit
  in_periods period limit xs few zero start = none xs
    where
      none : (ys : List Asked) → amount_in amount start (start + 0 * period) ys ≤ 0 * limit
      none [] = omega arith
      none (a ∷ ys) = omega (
        arith,
        sum_by-cons (λ b. cond (is_asked_in start (start + 0 * period) b) (amount b) 0) a ys,
        ap {B = ℕ} (λ b. cond b (amount a) 0) outside,
        none ys,
      )
        where
          outside : is_asked_in start (start + 0 * period) a ≡ false
          outside = by (nat_le start a.at) refl
            where
              by : (b : Bool) → nat_le start a.at ≡ b → b && nat_lt a.at (start + 0 * period) ≡ false
              by false e = refl
              by true e = grind (arith, nat_tests, e)
  in_periods period limit xs few (suc n) start =
      let ends : start + suc n * period ≡ (start + period) + n * period = grind arith in
      let limits : suc n * limit ≡ limit + n * limit = grind arith in
      omega (
        arith,
        ap (λ e. amount_in amount start e xs) ends,
        in_parts start (start + period) ((start + period) + n * period) xs,
        few start,
        in_periods period limit xs few n (start + period),
        limits,
      )

-- by a factor
by_q : (p q w alpha cap bal : ℕ) → 1 ≤ q → q * cap ≤ q * (bal + w + alpha) → cap ≤ bal + w + alpha
by_q p q w alpha cap bal some le = le_of_mul-le-mul_left le (omega (arith, some))

-- What collections gave back: where no more is owed than the writes of `n` periods, and these had the gap's slots, no
-- more is lacked than alpha and what one period writes.
covers : (p q w alpha cap bal gap owed n : ℕ) → 1 ≤ p → 1 ≤ q → w * q ≤ alpha * p → q * cap + alpha * gap ≤ q * (bal + owed) + alpha * q
    → owed ≤ n * w → (n ≡ 0) ⊎ ((k : ℕ) × (n ≡ k + 1) × (k * p ≤ gap)) → cap ≤ bal + w + alpha
covers p q w alpha cap bal gap owed n has_p has_q regained stocked few (inl none) = by_q p q w alpha cap bal has_q (omega (
  arith,
  stocked,
  nothing,
  apart,
  turned,
))
  where
    nothing : q * (bal + owed) ≡ q * bal
    nothing = ap (λ m. q * (bal + m)) is_none ∙ flat
      where
        is_none : owed ≡ 0
        is_none = omega (arith, few, ap (λ m. m * w) none)

        flat : q * (bal + 0) ≡ q * bal
        flat = grind arith

    apart : q * (bal + w + alpha) ≡ q * bal + q * w + alpha * q
    apart = grind arith

    turned : q * bal + alpha * q ≤ q * bal + q * w + alpha * q
    turned = omega arith
covers p q w alpha cap bal gap owed n has_p has_q regained stocked few (inr h) = by_q p q w alpha cap bal has_q (omega (
  arith,
  stocked,
  owes,
  spread,
  apart,
  gives,
))
  where
    k : ℕ
    k = h.0

    owes : q * (bal + owed) ≤ q * (bal + (k * w + w))
    owes = mul-le-mul_left q (omega (arith, few, ap (λ m. m * w) h.1, one_more))
      where
        one_more : (k + 1) * w ≡ k * w + w
        one_more = grind arith

    spread : q * (bal + (k * w + w)) ≡ q * bal + q * w + k * (w * q)
    spread = grind arith

    apart : q * (bal + w + alpha) ≡ q * bal + q * w + alpha * q
    apart = grind arith

    gives : k * (w * q) ≤ alpha * gap
    gives = omega (
      arith,
      mul-le-mul_left k regained,
      mul-le-mul_left alpha h.2,
      turned,
    )
      where
        turned : k * (alpha * p) ≡ alpha * (k * p)
        turned = grind arith

-- how many periods hold the slots of a gap
periods_in : (p gap : ℕ) → 1 ≤ p → (n : ℕ) × (gap ≤ n * p) × ((n ≡ 0) ⊎ ((k : ℕ) × (n ≡ k + 1) × (k * p ≤ gap)))
periods_in p zero some = (0, omega arith, inl refl)
periods_in p (suc g) some =
    let parts : p * (g / p) + g % p ≡ g = div-add-mod g p in
    let small : g % p < p = mod-lt g (omega (arith, some)) in
    let more : (g / p + 1) * p ≡ p * (g / p) + p = grind arith in
    let fewer : (g / p) * p ≡ p * (g / p) = grind arith in
    (g / p + 1, omega (arith, parts, small, more), inr (g / p, refl, omega (arith, parts, fewer)))

-- The end of a life

module _ (start : Start) (terms : Terms) (earlier : Lives) (life entered : ℕ) (log : Log) (k : IsKept start terms earlier life entered log)
    (ended : now log ≡ life) (prompt : AreDueAsHeld terms life) where
  abbrev lives : Lives
  lives = log ∷ earlier

  next : IsKept (renewed_start start log) terms lives life 0 []
  next = next_begins start terms earlier life entered log k ended

  clock : all_slots lives ≡ now log + all_slots earlier
  clock = sum_by-cons now log earlier

  module _ (task : ℕ) (lt : task < length start.plan.caps) where
    abbrev t : TaskTerms
    t = terms_of terms task

    limits : IsTaskTerms t
    limits = task_terms start.plan terms task k.demand.has lt

    held : t.held ≡ t.deadline
    held = (prompt task (omega (arith, lt, k.demand.has.one_each))).0

    short : t.deadline ≤ life
    short = (prompt task (omega (arith, lt, k.demand.has.one_each))).1

    -- a job of the task that came is due by now
    abbrev IsDueBy : ℕ → TaskArrival → Type 0
    IsDueBy slot a = a.collects ≡ false → a.task ≡ task → a.at + t.deadline ≤ slot

    own_arrivals : AllByRecursion (IsDueBy life) (arrivals 0 (events_of_log log))
    own_arrivals = both (arrivals 0 xs) planned (recursion_from_All (IsWithinLife life) (arrivals 0 xs) k.kept.each)
      where
        xs : List Event
        xs = events_of_log log

        rest : List Event
        rest = left_of terms life entered (now log)

        planned : AllByRecursion (IsDemanded start.plan terms (slots (xs ++ rest))) (arrivals 0 xs)
        planned = (all_parts (IsDemanded start.plan terms (slots (xs ++ rest))) (arrivals 0 xs) (arrivals (slots xs) rest)
            (subst (AllByRecursion (IsDemanded start.plan terms (slots (xs ++ rest)))) (arrivals_after xs rest)
            (recursion_from_All (IsDemanded start.plan terms (slots (xs ++ rest))) (arrivals 0 (xs ++ rest)) k.kept.keeps.planned))).0

        one : (a : TaskArrival) → IsDemanded start.plan terms (slots (xs ++ rest)) a → IsWithinLife life a → IsDueBy life a
        one a h w job own =
            let j = subst (λ b. MatchBool b (IsDemandedCollection start.plan terms (slots (xs ++ rest)) a) (IsDemandedJob start.plan terms a)) job h in
            omega (arith, j.due, ap (λ i. (terms_of terms i).deadline) own, w.comes, w.due)

        both : (ys : List TaskArrival) → AllByRecursion (IsDemanded start.plan terms (slots (xs ++ rest))) ys → AllByRecursion (IsWithinLife life) ys
            → AllByRecursion (IsDueBy life) ys
        both [] h w = tt
        both (a ∷ ys) h w = (one a h.0 w.0, both ys h.1 w.1)

    due_by_now : AllByRecursion (IsDueBy (all_slots lives)) (all_came lives)
    due_by_now = all_joined (IsDueBy (all_slots lives)) (all_came earlier) (map (at_later (all_slots earlier)) (arrivals 0 (events_of_log log)))
        (all_as (λ a. a.at ≤ all_slots earlier) (IsDueBy (all_slots lives))
        (λ a le job own. omega (arith, le, clock, ended, short)) (all_came earlier) (came_by life earlier k.lived))
        (later (arrivals 0 (events_of_log log)) own_arrivals)
      where
        later : (ys : List TaskArrival) → AllByRecursion (IsDueBy life) ys → AllByRecursion (IsDueBy (all_slots lives)) (map (at_later (all_slots earlier)) ys)
        later [] h = tt
        later (a ∷ ys) h = ((λ job own. omega (arith, h.0 job own, clock, ended)), later ys h.1)

    -- the jobs of `gap` slots came in `n` periods
    module _ (gap n : ℕ) (holds : gap ≤ n * t.period) where
      abbrev from : ℕ
      from = all_slots lives + 1 - (gap + t.held)

      abbrev to : ℕ
      to = from + n * t.period

      abbrev late : TaskArrival → ℕ
      late a = cond ((not a.collects && (a.task == task)) && nat_le from a.at) (writes a.ops) 0

      abbrev inside : TaskArrival → ℕ
      inside a = cond (comes_in task from to a) (writes a.ops) 0

      each : (a : TaskArrival) → IsDueBy (all_slots lives) a → late a ≤ inside a
      each a due = by ((not a.collects && (a.task == task)) && nat_le from a.at) refl
        where
          by : (b : Bool) → ((not a.collects && (a.task == task)) && nat_le from a.at) ≡ b → cond b (writes a.ops) 0 ≤ inside a
          by false e = omega arith
          by true e =
              let p = and_parts (not a.collects && (a.task == task)) (nat_le from a.at) e in
              let q = and_parts (not a.collects) (a.task == task) p.0 in
              let in_time : a.at + t.deadline ≤ all_slots lives = due (not_true a.collects q.0) (eqb-true a.task task q.1) in
              let after : from ≤ a.at = leb-true from a.at p.1 in
              let before : a.at < to = omega (arith, in_time, after, held, holds) in
              let is : comes_in task from to a ≡ true = and_from (not a.collects && (a.task == task)) (nat_le from a.at && nat_lt a.at to) p.0
              (and_from (nat_le from a.at) (nat_lt a.at to) p.1 (lt-ltb a.at to before)) in
              rw is (omega arith)
            where
              not_true : (b : Bool) → not b ≡ true → b ≡ false
              not_true false h = refl
              not_true true h = absurd (true≢false (sym h))

      few_late : sum_by late (all_came lives) ≤ n * t.writes
      few_late = omega (
        arith,
        sum_less late inside (all_came lives) (all_as (IsDueBy (all_slots lives)) (λ a. late a ≤ inside a) each (all_came lives) due_by_now),
        came_is life task from to lives next.lived,
        in_periods (λ a. a.writes) t.period t.writes (asked_by task lives) (λ s. next.few.writes task s lt) n from,
      )

    pub has_enough : slice_index start.plan.caps task ≤ slice_index (renewed_start start log).accounts.balances task + t.writes + start.plan.alpha
    has_enough =
        let s = next.stocked task lt in
        let n = periods_in t.period s.gap limits.some_period in
        covers t.period t.collect_period t.writes start.plan.alpha (slice_index start.plan.caps task)
        (slice_index (renewed_start start log).accounts.balances task) s.gap s.owed n.0 limits.some_period limits.some_collect_period
        (task_sustained start.plan terms task k.supply lt).regained s.stocked
        (omega (arith, s.known, few_late s.gap n.0 n.1)) n.2

  pub ends_stocked : HaveEnough start.plan terms (renewed_start start log).accounts.balances
  ends_stocked task lt = omega (arith, has_enough task lt)
