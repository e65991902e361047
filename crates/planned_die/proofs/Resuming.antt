-- A die that goes on from a checkpoint keeps its plan, after a life in which its tasks asked to write what they lack.
use Rattle.std.proofs.Common.{◌≡◌, ℕ, zero, suc, ◌+◌, ◌-◌, ◌*◌, ◌<◌, ◌≤◌, ◌==◌, ◌&&◌, not, nat_le, nat_lt, Bool, true, false, cond}
use Rattle.std.proofs.Common.{List, [], ◌∷◌, ◌++◌, length, map, replicate, get_or, slice_index, sum_by, refl, ap, sym, subst, ◌∙◌, arith, inl, inr}
use Rattle.std.specs.Prelude.{All}
use Rattle.std.specs.List.{AllByRecursion}
use Rattle.std.proofs.Math.Nat.{mul-le-mul_left}
use Rattle.std.proofs.lemmas.Bool.{cases_Bool, cases_lt, eqb-true, and_parts, and_from, le-leb}
use Rattle.std.proofs.lemmas.Bool.Decides.{nat_tests}
use Rattle.std.proofs.lemmas.List.{get_or_append_left, get_or_push, length_push, length-replicate}
use Rattle.std.proofs.lemmas.List.Sums.{sum_by-cons, sum_by-append, sum_by-le-sum_by}
use Rattle.std.proofs.lemmas.List.Elements.{All-push, All-from_recursion}
use Rattle.slot_types.specs.declared.events.Op.{Op}
use Rattle.slot_types.specs.declared.events.Op.TheVariants as asks
use Rattle.slot_types.specs.declared.events.Event.{Event}
use Rattle.slot_types.specs.declared.events.Event.TheVariants as events
use Rattle.slot_types.specs.declared.plans.DiePlan.{DiePlan}
use Rattle.slot_types.specs.Operations.{is_write, writes}
use Rattle.plan_rules.specs.Bound.{MeetsBound}
use Rattle.plan_rules.specs.Keeping.{TaskArrival, arrivals, slots}
use Rattle.plan_rules.proofs.Moments.{slots_append, arrivals_after}
use Rattle.demand_rules.specs.declared.terms.TaskTerms.{TaskTerms}
use Rattle.demand_rules.specs.declared.terms.Terms.{Terms}
use Rattle.demand_rules.specs.Demand.{terms_of, IsTaskTerms, PassesDemand}
use Rattle.demand_rules.specs.Supply.{PassesSupply}
use Rattle.demand_rules.specs.Keeping.{comes_in}
use Rattle.die_log.specs.Model.Log.{Log, Carried, now, carried_slots}
use Rattle.die_log.specs.Model.Lives.{Lives, all_slots}
use Rattle.die_log.specs.Model.Start.{Start, fresh, blank_page}
use Rattle.die_log.specs.Model.Opening.{IsOpening}
use Rattle.die_log.specs.Results.InTime.{events_of_log}
use Rattle.die_log.specs.Results.DemandedLives.{at_later, AreFull, AreStockedAfter}
use Rattle.die_log.proofs.Openings.{fresh_opens}
use Rattle.slot_core.specs.Core.{Core}
use Rattle.planned_log.specs.Asks.{Asked, asked_in, asked_by, counting}
use Rattle.planned_log.specs.Lives.{IsLife, all_came, IsWithinLife, ArePlannedLives}
use Rattle.planned_log.specs.KeptLogs.{KeepsSoFar, is_asked_in, amount_in, AskForFew}
use Rattle.planned_log.specs.Laws.{IsKept}
use Rattle.planned_log.proofs.Asking.{came_is, all_joined}
use Rattle.planned_log.proofs.Kept.{begun}
use Rattle.planned_die.specs.declared.memory.AskedJob.{AskedJob}
use Rattle.planned_die.specs.declared.task_asks.TaskAsks.{TaskAsks}
use Rattle.planned_die.specs.Remembered.{newest_first, own_asks, CountAs, IsKeptFor}
use Rattle.planned_die.specs.Planned.{Planned, HasLived}
use Rattle.planned_die.specs.Resuming.{needs, HaveEnough, lack, with_lack, lacked_by, lacked, lack_jobs, lacks_of}

-- What each task lacks, as a job

abbrev to_write : ℕ → List Op
to_write n = replicate n (asks.Write 0 blank_page)

all_write : (n : ℕ) → writes (to_write n) ≡ n
all_write zero = refl
all_write (suc n) = omega (arith, sum_by-cons (λ op. cond (is_write op) 1 0) (asks.Write 0 blank_page) (to_write n), all_write n)

as_many : (n : ℕ) → length (to_write n) ≡ n
as_many n = length-replicate n (asks.Write 0 blank_page)

-- what a task asked for that lacks as many pages
abbrev for_lack : ℕ → List Asked
for_lack zero = []
for_lack (suc n) = record { at = 0; operations = length (to_write (suc n)); writes = writes (to_write (suc n)) } ∷ []

-- it has as many operations and writes in slot 0, and none in any other
abbrev in_slots : ℕ → ℕ → Bool
in_slots s e = nat_le s 0 && nat_lt 0 e

for_lack_in : (amount : Asked → ℕ) → ((n : ℕ) → amount (record { at = 0; operations = length (to_write n); writes = writes (to_write n) }) ≡ n)
    → (n s e : ℕ) → amount_in amount s e (for_lack n) ≡ cond (in_slots s e) n 0
for_lack_in amount is zero s e = by (in_slots s e)
  where
    by : (b : Bool) → ◌≡◌ {A = ℕ} 0 (cond b 0 0)
    by true = refl
    by false = refl
for_lack_in amount is (suc n) s e = by (in_slots s e) refl
  where
    by : (b : Bool) → in_slots s e ≡ b → amount_in amount s e (for_lack (suc n)) ≡ cond b (suc n) 0
    by true h = omega (
      arith,
      sum_by-cons (λ a. cond (is_asked_in s e a) (amount a) 0)
          (record { at = 0; operations = length (to_write (suc n)); writes = writes (to_write (suc n)) }) [],
      ap {B = ℕ} (λ c. cond c (amount (record { at = 0; operations = length (to_write (suc n)); writes = writes (to_write (suc n)) })) 0) h,
      is (suc n),
    )
    by false h = omega (
      arith,
      sum_by-cons (λ a. cond (is_asked_in s e a) (amount a) 0)
          (record { at = 0; operations = length (to_write (suc n)); writes = writes (to_write (suc n)) }) [],
      ap {B = ℕ} (λ c. cond c (amount (record { at = 0; operations = length (to_write (suc n)); writes = writes (to_write (suc n)) })) 0) h,
    )

few_for_lack : (amount : Asked → ℕ) → ((n : ℕ) → amount (record { at = 0; operations = length (to_write n); writes = writes (to_write n) }) ≡ n)
    → (n s e limit : ℕ) → n ≤ limit → amount_in amount s e (for_lack n) ≤ limit
few_for_lack amount is n s e limit le = omega (arith, for_lack_in amount is n s e, by (in_slots s e))
  where
    by : (b : Bool) → cond b n 0 ≤ limit
    by true = le
    by false = omega arith

-- The log of that life

module _ (plan : DiePlan) (balances : List ℕ) where
  abbrev log : ℕ → Log
  log n = lacked_by plan balances n

  abbrev lacks : ℕ → ℕ
  lacks task = lack plan balances task

  no_slots : (n : ℕ) → carried_slots (log n) ≡ []
  no_slots zero = refl
  no_slots (suc n) = by (lacks n) (no_slots n)
    where
      by : (k : ℕ) → carried_slots (log n) ≡ [] → carried_slots (with_lack n k (log n)) ≡ []
      by zero none = none
      by (suc k) none = none

  pub none_carried : (n : ℕ) → now (log n) ≡ 0
  none_carried n = ap length (no_slots n)

  no_slot_events : (n : ℕ) → slots (events_of_log (log n)) ≡ 0
  no_slot_events zero = refl
  no_slot_events (suc n) = by (lacks n) (no_slot_events n)
    where
      by : (k : ℕ) → slots (events_of_log (log n)) ≡ 0 → slots (events_of_log (with_lack n k (log n))) ≡ 0
      by zero none = none
      by (suc k) none = omega (arith, slots_append (events_of_log (log n)) (events.Submit n 0 0 (to_write (suc k)) ∷ []), none)

  -- each job comes and is released in slot 0
  within : (life n : ℕ) → AllByRecursion (IsWithinLife life) (arrivals 0 (events_of_log (log n)))
  within life zero = tt
  within life (suc n) = by (lacks n) (within life n)
    where
      by : (k : ℕ) → AllByRecursion (IsWithinLife life) (arrivals 0 (events_of_log (log n)))
          → AllByRecursion (IsWithinLife life) (arrivals 0 (events_of_log (with_lack n k (log n))))
      by zero before = before
      by (suc k) before =
          let xs : List Event = events_of_log (log n) in
          subst (AllByRecursion (IsWithinLife life)) (sym (arrivals_after xs (events.Submit n 0 0 (to_write (suc k)) ∷ [])))
          (all_joined (IsWithinLife life) (arrivals 0 xs) (arrivals (slots xs) (events.Submit n 0 0 (to_write (suc k)) ∷ []))
          before (record { comes = sym (no_slot_events n); due = omega arith }, tt))

  -- what a task asked for in it
  asked_lack : (task n : ℕ) → asked_in task 0 [] (log n) ≡ cond (nat_lt task n) (for_lack (lacks task)) []
  asked_lack task zero = ap (λ b. cond b (for_lack (lacks task)) []) (sym none)
    where
      none : nat_lt task 0 ≡ false
      none = grind (arith, nat_tests)
  asked_lack task (suc n) = by (asked_lack task n) (lacks n) refl (n == task) refl
    where
      earlier : (n == task) ≡ false → nat_lt task (suc n) ≡ nat_lt task n
      earlier e = elim (cases_Bool (nat_lt task n)) [
        | inl lt ↦ still lt ∙ sym lt
        | inr ge ↦ not_yet_either ge e ∙ sym ge
      ]
        where
          still : nat_lt task n ≡ true → nat_lt task (suc n) ≡ true
          still h = grind (arith, nat_tests, h)

          not_yet_either : nat_lt task n ≡ false → (n == task) ≡ false → nat_lt task (suc n) ≡ false
          not_yet_either h k = grind (arith, nat_tests, h, k)

      own : (n == task) ≡ true → nat_lt task (suc n) ≡ true
      own e = grind (arith, nat_tests, e)

      not_yet : (n == task) ≡ true → nat_lt task n ≡ false
      not_yet e = grind (arith, nat_tests, e)

      none : asked_in task 0 [] (log n) ≡ cond (nat_lt task n) (for_lack (lacks task)) [] → (n == task) ≡ true → asked_in task 0 [] (log n) ≡ []
      none before e = before ∙ ap (λ b. cond b (for_lack (lacks task)) []) (not_yet e)

      by : asked_in task 0 [] (log n) ≡ cond (nat_lt task n) (for_lack (lacks task)) [] → (k : ℕ) → lacks n ≡ k → (b : Bool) → (n == task) ≡ b
          → asked_in task 0 [] (with_lack n k (log n)) ≡ cond (nat_lt task (suc n)) (for_lack (lacks task)) []
      by before zero is false e = before ∙ ap (λ b. cond b (for_lack (lacks task)) []) (sym (earlier e))
      by before zero is true e =
          none before e ∙ (ap for_lack (sym is ∙ ap lacks (eqb-true n task e))
          ∙ ap (λ b. cond b (for_lack (lacks task)) []) (sym (own e)))
      by before (suc k) is false e = rw e (before ∙ ap (λ b. cond b (for_lack (lacks task)) []) (sym (earlier e)))
      by before (suc k) is true e =
          rw e (ap (λ l. record { at = 0; operations = length (to_write (suc k)); writes = writes (to_write (suc k)) } ∷ l) (none before e)
          ∙ (ap for_lack (sym is ∙ ap lacks (eqb-true n task e))
          ∙ ap (λ b. cond b (for_lack (lacks task)) []) (sym (own e))))

  abbrev lives : Lives
  lives = lacked plan balances

  pub lived : (life : ℕ) → ArePlannedLives life lives
  lived life = (
    tt,
    All-from_recursion (IsWithinLife life) (arrivals 0 (events_of_log (log (length plan.caps)))) (within life (length plan.caps)),
    no_slot_events (length plan.caps) ∙ sym (none_carried (length plan.caps)),
  )

  pub at_first : all_slots lives ≡ 0
  at_first = omega (arith, sum_by-cons now (log (length plan.caps)) [], none_carried (length plan.caps))

  pub asked_of : (task : ℕ) → task < length plan.caps → asked_by task lives ≡ for_lack (lacks task)
  asked_of task lt =
      let known : nat_lt task (length plan.caps) ≡ true = grind (arith, nat_tests, lt) in
      asked_lack task (length plan.caps) ∙ ap (λ b. cond b (for_lack (lacks task)) []) known

-- What the die remembers

pub one_each : (plan : DiePlan) (balances : List ℕ) (n : ℕ) → length (lacks_of plan balances n) ≡ n
one_each plan balances zero = refl
one_each plan balances (suc n) =
    omega (arith, length_push (lacks_of plan balances n) (lack_jobs (lack plan balances n)), one_each plan balances n)

remembered_at : (plan : DiePlan) (balances : List ℕ) (n task : ℕ) → task < n
    → get_or {A = List AskedJob} (lacks_of plan balances n) task [] ≡ lack_jobs (lack plan balances task)
remembered_at plan balances zero task lt = absurd (omega (arith, lt))
remembered_at plan balances (suc n) task lt = elim (cases_lt task n) [
  | inl less ↦ get_or_append_left (lacks_of plan balances n) (lack_jobs (lack plan balances n) ∷ []) [] task (omega (arith, less, one_each plan balances n))
      ∙ remembered_at plan balances n task less
  | inr more ↦ let last : task ≡ n = omega (arith, more, lt) in
      get_or_push (lacks_of plan balances n) (lack_jobs (lack plan balances n)) [] task (omega (arith, last, one_each plan balances n))
      ∙ ap (λ k. lack_jobs (lack plan balances k)) (sym last)
]

newest_lack : (n : ℕ) → newest_first (lack_jobs n) ≡ for_lack n
newest_lack zero = refl
newest_lack (suc n) =
    ap {B = List Asked} (λ k. record { at = 0; operations = k; writes = suc n } ∷ []) (sym (as_many (suc n)))
    ∙ ap {B = List Asked} (λ k. record { at = 0; operations = length (to_write (suc n)); writes = k } ∷ []) (sym (all_write (suc n)))

-- The plan is kept

module _ (start : Start) (terms : Terms) (life : ℕ) (opens : IsOpening start) (demand : PassesDemand start.plan terms)
    (supply : PassesSupply start.plan terms) (is_life : IsLife start.plan terms life) (enough : HaveEnough start.plan terms start.accounts.balances) where
  abbrev before : Lives
  before = lacked start.plan start.accounts.balances

  few : (task : ℕ) → task < length start.plan.caps → lack start.plan start.accounts.balances task ≤ (terms_of terms task).writes
  few task lt = omega (arith, enough task lt)

  own : (task : ℕ) → task < length start.plan.caps → IsTaskTerms (terms_of terms task)
  own task lt = demand.has.each task _ (omega (arith, lt, demand.has.one_each))

  asked_few : AskForFew start.plan terms ([] ∷ before)
  asked_few = record {
    operations = λ task slot lt.
        let t : TaskTerms = terms_of terms task in
        omega (
          arith,
          ap (λ l. amount_in (λ a. a.operations) slot (slot + t.period) l) (asked_of start.plan start.accounts.balances task lt),
          few_for_lack (λ a. a.operations) as_many (lack start.plan start.accounts.balances task) slot (slot + t.period) t.work
              (omega (arith, few task lt, (own task lt).few_writes)),
        );
    writes = λ task slot lt.
        let t : TaskTerms = terms_of terms task in
        omega (
          arith,
          ap (λ l. amount_in (λ a. a.writes) slot (slot + t.period) l) (asked_of start.plan start.accounts.balances task lt),
          few_for_lack (λ a. a.writes) all_write (lack start.plan start.accounts.balances task) slot (slot + t.period) t.writes (few task lt),
        );
  }

  -- what each task lacks came not long before
  stocked : AreStockedAfter start terms (all_came before) (all_slots before)
  stocked = subst (AreStockedAfter start terms (all_came before)) (sym (at_first start.plan start.accounts.balances)) at_zero
    where
      at_zero : AreStockedAfter start terms (all_came before) 0
      at_zero task lt = record {
        gap = 0;
        owed = n;
        stocked = omega (arith, mul-le-mul_left t.collect_period covers, none, turned);
        known = omega (
          arith,
          came_is life task 0 1 before (lived start.plan start.accounts.balances life),
          ap (λ l. amount_in (λ a. a.writes) 0 1 l) (asked_of start.plan start.accounts.balances task lt),
          for_lack_in (λ a. a.writes) all_write n 0 1,
          sum_by-le-sum_by (λ a. cond (comes_in task 0 1 a) (writes a.ops) 0) counted (all_came before) (λ a. one a (comes_in task 0 1 a) refl),
        );
      }
        where
          t : TaskTerms
          t = terms_of terms task

          n : ℕ
          n = lack start.plan start.accounts.balances task

          cap : ℕ
          cap = slice_index start.plan.caps task

          bal : ℕ
          bal = slice_index start.accounts.balances task

          covers : cap ≤ bal + n + start.plan.alpha
          covers = omega arith

          none : start.plan.alpha * 0 ≡ 0
          none = grind arith

          turned : t.collect_period * (bal + n + start.plan.alpha) ≡ t.collect_period * (bal + n) + start.plan.alpha * t.collect_period
          turned = grind arith

          counted : TaskArrival → ℕ
          counted a = cond ((not a.collects && (a.task == task)) && nat_le (0 + 1 - (0 + t.held)) a.at) (writes a.ops) 0

          held : 1 ≤ t.held
          held = omega (arith, (own task lt).some_deadline, (own task lt).few_deadline)

          after : (a : TaskArrival) → comes_in task 0 1 a ≡ true → ((not a.collects && (a.task == task)) && nat_le (0 + 1 - (0 + t.held)) a.at) ≡ true
          after a e = and_from (not a.collects && (a.task == task)) (nat_le (0 + 1 - (0 + t.held)) a.at)
              (and_parts (not a.collects && (a.task == task)) (nat_le 0 a.at && nat_lt a.at 1) e).0
              (le-leb (0 + 1 - (0 + t.held)) a.at (omega (arith, held)))

          one : (a : TaskArrival) (b : Bool) → comes_in task 0 1 a ≡ b → cond b (writes a.ops) 0 ≤ counted a
          one a false e = omega arith
          one a true e = rw (after a e) (omega arith)

  keeps : KeepsSoFar start.plan terms life 0 []
  keeps = (begun (fresh start.plan) terms life (record {
    opens = fresh_opens start.plan opens.bound;
    demand = demand;
    supply = supply;
    is_life = is_life;
    full = λ task lt. omega arith;
  })).kept

  pub resumed_kept : IsKept start terms before life 0 []
  resumed_kept = record {
    opens = opens;
    demand = demand;
    supply = supply;
    is_life = is_life;
    lived = lived start.plan start.accounts.balances life;
    stocked = stocked;
    exact = tt;
    kept = keeps;
    few = asked_few;
  }

  pub full_kept : AreFull start → IsKept start terms [] life 0 []
  full_kept full = begun start terms life (record { opens = opens; demand = demand; supply = supply; is_life = is_life; full = full })

  -- the die
  abbrev asked : List (List AskedJob)
  asked = lacks_of start.plan start.accounts.balances (length start.plan.caps)

  asked_is : (task : ℕ) → task < length start.plan.caps → own_asks task asked ≡ for_lack (lack start.plan start.accounts.balances task)
  asked_is task lt = ap newest_first (remembered_at start.plan start.accounts.balances (length start.plan.caps) task lt)
      ∙ newest_lack (lack start.plan start.accounts.balances task)

  module _ {N : Type 0} (core : Core N) (starts : core.start ≡ start) (empty : core.log ≡ []) where
    abbrev die : Planned N
    die = record { core = core; terms = terms; life = life; entered = 0; first = 0; asked = asked }

    begins : (earlier : Lives) → IsKept start terms earlier life 0 [] → 0 ≡ all_slots earlier
        → CountAs start.plan terms 0 asked ([] ∷ earlier) → HasLived die earlier
    begins earlier kept at counts = record {
      kept = subst (λ (l : Log). IsKept core.start terms earlier life 0 l) (sym empty)
          (subst (λ (s : Start). IsKept s terms earlier life 0 []) (sym starts) kept);
      began = at;
      counts = subst (λ (l : Log). CountAs core.start.plan terms (0 + now l) asked (l ∷ earlier)) (sym empty)
          (subst (λ (s : Start). CountAs s.plan terms 0 asked ([] ∷ earlier)) (sym starts) counts);
    }

    pub resumed_lived : HasLived die before
    resumed_lived = begins before resumed_kept (sym (at_first start.plan start.accounts.balances))
        (λ task slot lt le. ap (counting (terms_of terms task).period slot)
        (asked_is task lt ∙ sym (asked_of start.plan start.accounts.balances task lt)))

    -- where no task lacks anything it asked for nothing
    pub full_lived : AreFull start → HasLived die []
    full_lived full = begins [] (full_kept full) refl
        (λ task slot lt le. ap (counting (terms_of terms task).period slot)
        (asked_is task lt ∙ ap for_lack (none_lacks task lt)))
      where
        none_lacks : (task : ℕ) → task < length start.plan.caps → lack start.plan start.accounts.balances task ≡ 0
        none_lacks task lt = omega (arith, full task lt)

pub early_lacks : (plan : DiePlan) (balances : List ℕ) (n : ℕ) → All (All (λ (j : AskedJob). j.at ≤ 4611686018427387904)) (lacks_of plan balances n)
early_lacks plan balances zero = λ k d lt. absurd (omega (arith, lt))
early_lacks plan balances (suc n) = All-push (All (λ (j : AskedJob). j.at ≤ 4611686018427387904)) (lacks_of plan balances n)
    (lack_jobs (lack plan balances n)) (early_lacks plan balances n) (one (lack plan balances n))
  where
    one : (k : ℕ) → All (λ (j : AskedJob). j.at ≤ 4611686018427387904) (lack_jobs k)
    one zero = λ i d lt. absurd (omega (arith, lt))
    one (suc k) = λ i d lt. at_zero i d lt
      where
        at_zero : (i : ℕ) (d : AskedJob) → i < 1 → (get_or {A = AskedJob} (lack_jobs (suc k)) i d).at ≤ 4611686018427387904
        at_zero zero d lt = omega arith
        at_zero (suc i) d lt = absurd (omega (arith, lt))

pub lacks_more : (plan : DiePlan) (balances : List ℕ) (n : ℕ) → lacks_of plan balances n ++ lack_jobs (lack plan balances n) ∷ [] ≡ lacks_of plan balances (n + 1)
lacks_more plan balances n = ap (lacks_of plan balances) one_more
  where
    one_more : suc n ≡ n + 1
    one_more = omega arith

-- what is kept in a slot of the clock is in each later one
pub one_later : (period clock after : ℕ) (t : TaskAsks) → clock ≤ after → IsKeptFor period clock t → IsKeptFor period after t
one_later period clock after t le k = record {
  fits = k.fits;
  gone = λ i e less. let gone = k.gone i e less in omega (arith, gone, le);
  came = λ i e less. let came = k.came i e less in omega (arith, came, le);
  in_order = k.in_order;
  operations = k.operations;
  writes = k.writes;
}
