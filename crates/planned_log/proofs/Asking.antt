-- An ask that isn't refused is for a job that the plan has; and what came of a task's jobs is what it asked for.
use Rattle.std.proofs.Common.{◌≡◌, ℕ, ◌+◌, ◌<◌, ◌≤◌, ◌==◌, ◌&&◌, not, nat_le, nat_lt, Bool, true, false, cond, List}
use Rattle.std.proofs.Common.{[], ◌∷◌, ◌++◌, length, map}
use Rattle.std.proofs.Common.{Some, None, is_some, find, option_map, sum_by, refl, ap, subst, ◌∙◌, arith}
use Rattle.std.specs.List.{AllByRecursion}
use Rattle.std.proofs.lemmas.Bool.{true≢false, and_parts, and_from, leb-true, le-leb, eqb-true, ltb-true}
use Rattle.std.proofs.lemmas.Bool.Decides.{nat_tests}
use Rattle.std.proofs.lemmas.List.Sums.{sum_by-cons, sum_by-append}
use Rattle.slot_types.specs.declared.limits.TheConstants.{MAX_OPS}
use Rattle.slot_types.specs.declared.plans.DiePlan.{DiePlan}
use Rattle.slot_types.specs.declared.events.Op.{Op}
use Rattle.slot_types.specs.declared.events.Event.{Event}
use Rattle.slot_types.specs.declared.events.Event.TheVariants as events
use Rattle.slot_types.specs.Operations.{page_of, writes}
use Rattle.plan_rules.specs.Keeping.{TaskArrival, arrivals, slots}
use Rattle.plan_rules.proofs.Moments.{arrivals_after}
use Rattle.demand_rules.specs.declared.terms.Terms.{Terms}
use Rattle.demand_rules.specs.Demand.{terms_of}
use Rattle.demand_rules.specs.Keeping.{is_released_in, comes_in}
use Rattle.die_log.specs.Results.DemandedLives.{at_later}
use Rattle.die_log.proofs.Supply.Owing.{come_by}
use Rattle.die_log.specs.Model.Log.{Log, now}
use Rattle.die_log.specs.Model.Lives.{Lives, all_slots}
use Rattle.die_log.specs.Model.Answers.{bad_page}
use Rattle.die_log.specs.Results.InTime.{events_of_log}
use Rattle.planned_log.specs.declared.refusals.AskRefusal.{AskRefusal}
use Rattle.planned_log.specs.Asks.{Asked, with_ask, asked_in, asked_by, counts_in, operations_in, writes_in, has_room}
use Rattle.planned_log.specs.Asks.{most_operations, refusals_above, ask_refusals, first_refusal}
use Rattle.planned_log.specs.KeptLogs.{is_asked_in, amount_in, AskForFew}
use Rattle.planned_log.specs.Lives.{all_came, IsWithinLife, ArePlannedLives}
use Rattle.std.proofs.lemmas.List.Elements.{recursion_from_All}

-- where none stands, each condition is false
none_stands : (cs : List (Bool × AskRefusal)) → first_refusal cs ≡ None → AllByRecursion (λ c. c.0 ≡ false) cs
none_stands [] e = tt
none_stands ((true, r) ∷ cs) e = absurd cc
none_stands ((false, r) ∷ cs) e = (refl, none_stands cs e)

-- no page that the die doesn't have
all_pages : (plan : DiePlan) (ops : List Op) → is_some (bad_page plan ops) ≡ false → AllByRecursion (λ op. page_of op < plan.logical) ops
all_pages plan [] h = tt
all_pages plan (op ∷ ops) h = by_test (nat_le plan.logical (page_of op)) refl (λ k. all_pages plan ops k) h
  where
    below : nat_le plan.logical (page_of op) ≡ false → page_of op < plan.logical
    below e = grind (arith, nat_tests, e)

    by_test : (b : Bool) → nat_le plan.logical (page_of op) ≡ b
        → (is_some (bad_page plan ops) ≡ false → AllByRecursion (λ o. page_of o < plan.logical) ops)
        → is_some (option_map page_of (cond b (Some op) (find (λ o. nat_le plan.logical (page_of o)) ops))) ≡ false
        → (page_of op < plan.logical) × AllByRecursion (λ o. page_of o < plan.logical) ops
    by_test true e rest k = absurd (true≢false k)
    by_test false e rest k = (below e, rest k)

-- where each condition is false, none stands
none_refuses : (cs : List (Bool × AskRefusal)) → AllByRecursion (λ c. c.0 ≡ false) cs → first_refusal cs ≡ None
none_refuses [] h = refl
none_refuses ((true, r) ∷ cs) h = absurd (true≢false h.0)
none_refuses ((false, r) ∷ cs) h = none_refuses cs h.1

no_bad_page : (plan : DiePlan) (ops : List Op) → AllByRecursion (λ op. page_of op < plan.logical) ops → is_some (bad_page plan ops) ≡ false
no_bad_page plan [] h = refl
no_bad_page plan (op ∷ ops) h = by_test (nat_le plan.logical (page_of op)) refl (no_bad_page plan ops h.1)
  where
    by_test : (b : Bool) → nat_le plan.logical (page_of op) ≡ b → is_some (bad_page plan ops) ≡ false
        → is_some (option_map page_of (cond b (Some op) (find (λ o. nat_le plan.logical (page_of o)) ops))) ≡ false
    by_test true e k = absurd (omega (arith, leb-true plan.logical (page_of op) e, h.0))
    by_test false e k = k

-- what is known of an ask for at most `most` operations that isn't refused
pub record IsTimely (most : ℕ) (plan : DiePlan) (terms : Terms) (life first slot : ℕ) (asked : List Asked) (task : ℕ) (ops : List Op) : Type 0 where
  pub task_is : task < length plan.caps
  pub some : 1 ≤ length ops
  pub few : length ops ≤ most
  pub pages : AllByRecursion (λ op. page_of op < plan.logical) ops
  pub operations : operations_in (terms_of terms task).period (first + slot) asked + length ops ≤ (terms_of terms task).work
  pub writes_fit : writes_in (terms_of terms task).period (first + slot) asked + writes ops ≤ (terms_of terms task).writes
  pub due : slot + (terms_of terms task).deadline ≤ life

-- what an ask that isn't refused says
pub record IsTimelyAsk (plan : DiePlan) (terms : Terms) (life first slot : ℕ) (asked : List Asked) (task : ℕ) (ops : List Op) : Type 0 where
  pub task_is : task < length plan.caps
  pub some : 1 ≤ length ops
  pub few : length ops ≤ MAX_OPS
  pub pages : AllByRecursion (λ op. page_of op < plan.logical) ops
  pub operations : operations_in (terms_of terms task).period (first + slot) asked + length ops ≤ (terms_of terms task).work
  pub writes_fit : writes_in (terms_of terms task).period (first + slot) asked + writes ops ≤ (terms_of terms task).writes
  pub due : slot + (terms_of terms task).deadline ≤ life

not_not : (b : Bool) → not b ≡ false → b ≡ true
not_not true e = refl
not_not false e = absurd (true≢false e)

module _ (most : ℕ) (plan : DiePlan) (terms : Terms) (life first slot : ℕ) (asked : List Asked) (task : ℕ) (ops : List Op) where
  pub timely : first_refusal (refusals_above most plan terms life first slot asked task ops) ≡ None → IsTimely most plan terms life first slot asked task ops
  timely e =
      let n = none_stands (refusals_above most plan terms life first slot asked task ops) e in
      let room = and_parts (nat_le (operations_in (terms_of terms task).period (first + slot) asked + length ops) (terms_of terms task).work)
      (nat_le (writes_in (terms_of terms task).period (first + slot) asked + writes ops) (terms_of terms task).writes)
      (not_not (has_room (terms_of terms task) (first + slot) asked (length ops) (writes ops)) n.1.1.1.1.1.0) in
      record {
        task_is = below (length plan.caps) task n.0;
        some = some_if (length ops) n.1.0;
        few = not_above most (length ops) n.1.1.0;
        pages = all_pages plan ops n.1.1.1.0;
        operations = leb-true _ _ room.0;
        writes_fit = leb-true _ _ room.1;
        due = not_above life (slot + (terms_of terms task).deadline) n.1.1.1.1.1.1.0;
      }
    where
      not_above : (m k : ℕ) → nat_lt m k ≡ false → k ≤ m
      not_above m k h = grind (arith, nat_tests, h)

      below : (m k : ℕ) → nat_le m k ≡ false → k < m
      below m k h = grind (arith, nat_tests, h)

      some_if : (n : ℕ) → (n == 0) ≡ false → 1 ≤ n
      some_if n h = grind (arith, nat_tests, h)

  -- and where it says so it isn't refused
  pub unrefused : IsTimely most plan terms life first slot asked task ops → first_refusal (refusals_above most plan terms life first slot asked task ops) ≡ None
  unrefused t = none_refuses (refusals_above most plan terms life first slot asked task ops) (
    not_below (length plan.caps) task t.task_is,
    (
      not_none (length ops) t.some,
      (
        above most (length ops) t.few,
        (
          no_bad_page plan ops t.pages,
          (
            above (terms_of terms task).writes (writes ops) (omega (arith, t.writes_fit)),
            (
              ap not room,
              (above life (slot + (terms_of terms task).deadline) t.due, tt),
            ),
          ),
        ),
      ),
    ),
  )
    where
      not_below : (m k : ℕ) → k < m → nat_le m k ≡ false
      not_below m k h = grind (arith, nat_tests, h)

      not_none : (n : ℕ) → 1 ≤ n → (n == 0) ≡ false
      not_none n h = grind (arith, nat_tests, h)

      above : (m k : ℕ) → k ≤ m → nat_lt m k ≡ false
      above m k h = grind (arith, nat_tests, h)

      room : has_room (terms_of terms task) (first + slot) asked (length ops) (writes ops) ≡ true
      room = and_from (nat_le (operations_in (terms_of terms task).period (first + slot) asked + length ops) (terms_of terms task).work)
          (nat_le (writes_in (terms_of terms task).period (first + slot) asked + writes ops) (terms_of terms task).writes)
          (le-leb _ _ t.operations) (le-leb _ _ t.writes_fit)

pub timely_ask : (plan : DiePlan) (terms : Terms) (life first slot : ℕ) (asked : List Asked) (task : ℕ) (ops : List Op)
    → first_refusal (ask_refusals plan terms life first slot asked task ops) ≡ None → IsTimelyAsk plan terms life first slot asked task ops
timely_ask plan terms life first slot asked task ops e =
    let t = timely (most_operations (terms_of terms task)) plan terms life first slot asked task ops e in
    record {
      task_is = t.task_is;
      some = t.some;
      few = under (terms_of terms task).work (length ops) (nat_le (terms_of terms task).work MAX_OPS) refl t.few;
      pages = t.pages;
      operations = t.operations;
      writes_fit = t.writes_fit;
      due = t.due;
    }
  where
    under : (work n : ℕ) (b : Bool) → nat_le work MAX_OPS ≡ b → n ≤ cond b work MAX_OPS → n ≤ MAX_OPS
    under work n true e le = omega (arith, le, leb-true work MAX_OPS e)
    under work n false e le = le

-- What came of a task's jobs

abbrev comes_as_released : TaskArrival → Type 0
comes_as_released a = a.release ≡ a.at

pub all_parts : {X : Type 0} (P : X → Type 0) (xs ys : List X) → AllByRecursion P (xs ++ ys) → AllByRecursion P xs × AllByRecursion P ys
all_parts P [] ys h = (tt, h)
all_parts P (x ∷ xs) ys h = let k = all_parts P xs ys h.1 in ((h.0, k.0), k.1)

pub all_joined : {X : Type 0} (P : X → Type 0) (xs ys : List X) → AllByRecursion P xs → AllByRecursion P ys → AllByRecursion P (xs ++ ys)
all_joined P [] ys h k = k
all_joined P (x ∷ xs) ys h k = (h.0, all_joined P xs ys h.1 k)

pub all_as : {X : Type 0} (P Q : X → Type 0) → ((x : X) → P x → Q x) → (xs : List X) → AllByRecursion P xs → AllByRecursion Q xs
all_as P Q f [] h = tt
all_as P Q f (x ∷ xs) h = (f x h.0, all_as P Q f xs h.1)

pub sum_mapped : (f : TaskArrival → ℕ) (g : TaskArrival → TaskArrival) (xs : List TaskArrival) → sum_by f (map g xs) ≡ sum_by (λ a. f (g a)) xs
sum_mapped f g [] = refl
sum_mapped f g (a ∷ xs) = omega (arith, sum_by-cons f (g a) (map g xs), sum_by-cons (λ b. f (g b)) a xs, sum_mapped f g xs)

shifted : (first s e n : ℕ) → (nat_le (first + s) (first + n) && nat_lt (first + n) (first + e)) ≡ (nat_le s n && nat_lt n e)
shifted first s e n = by_tests (nat_le s n) refl (nat_lt n e) refl
  where
    by_tests : (b : Bool) → nat_le s n ≡ b → (c : Bool) → nat_lt n e ≡ c → (nat_le (first + s) (first + n) && nat_lt (first + n) (first + e)) ≡ (b && c)
    by_tests true p true q = grind (arith, nat_tests, p, q)
    by_tests true p false q = grind (arith, nat_tests, p, q)
    by_tests false p true q = grind (arith, nat_tests, p, q)
    by_tests false p false q = grind (arith, nat_tests, p, q)

abbrev asked_for : ℕ → List Op → Asked
asked_for at ops = record { at = at; operations = length ops; writes = writes ops }

module _ (task first : ℕ) (weight : List Op → ℕ) (amount : Asked → ℕ) (same : (n : ℕ) (ops : List Op) → amount (asked_for n ops) ≡ weight ops) where
  one_job : (other release : ℕ) (ops : List Op) (asked : List Asked) (s e : ℕ) (inside : Bool)
      → is_asked_in s e (asked_for (first + release) ops) ≡ inside → (b : Bool)
      → cond (b && inside) (weight ops) 0 + amount_in amount s e asked
      ≡ amount_in amount s e (cond b (asked_for (first + release) ops ∷ asked) asked)
  one_job other release ops asked s e inside is true = omega (
    arith,
    sum_by-cons (λ a. cond (is_asked_in s e a) (amount a) 0) (asked_for (first + release) ops) asked,
    ap {B = ℕ} (λ b. cond b (amount (asked_for (first + release) ops)) 0) is,
    ap {B = ℕ} (λ n. cond inside n 0) (same (first + release) ops),
  )
  one_job other release ops asked s e inside is false = omega arith

  module _ (s e : ℕ) (h : TaskArrival → ℕ) (one : (event : Event) (n : ℕ) (asked : List Asked)
      → AllByRecursion comes_as_released (arrivals n (event ∷ []))
      → sum_by h (arrivals n (event ∷ [])) + amount_in amount s e asked ≡ amount_in amount s e (with_ask task first event asked)) where
    over_log : (before : List Asked) (log : Log) → AllByRecursion comes_as_released (arrivals 0 (events_of_log log))
        → sum_by h (arrivals 0 (events_of_log log)) + amount_in amount s e before ≡ amount_in amount s e (asked_in task first before log)
    over_log before [] p = omega arith
    over_log before (entry ∷ past) p =
        let xs : List Event = events_of_log past in
        let parts = arrivals_after xs (entry.event ∷ []) in
        let q = all_parts comes_as_released (arrivals 0 xs) (arrivals (slots xs) (entry.event ∷ []))
        (subst (AllByRecursion comes_as_released) parts p) in
        omega (
          arith,
          ap (λ (l : List TaskArrival). sum_by h l) parts,
          sum_by-append h (arrivals 0 xs) (arrivals (slots xs) (entry.event ∷ [])),
          one entry.event (slots xs) (asked_in task first before past) q.1,
          over_log before past q.0,
        )

  abbrev arrived : ℕ → ℕ → ℕ → ℕ → List Op → TaskArrival
  arrived n other release due ops = record { at = n; collects = false; task = other; release = release; due = due; ops = ops }

  -- by their coming on the clock of all lives
  abbrev joined : ℕ → ℕ → TaskArrival → ℕ
  joined s e a = cond (comes_in task s e (at_later first a)) (weight a.ops) 0

  one_joined : (s e : ℕ) (event : Event) (n : ℕ) (asked : List Asked) → AllByRecursion comes_as_released (arrivals n (event ∷ []))
      → sum_by (joined s e) (arrivals n (event ∷ [])) + amount_in amount s e asked ≡ amount_in amount s e (with_ask task first event asked)
  one_joined s e (events.Submit other release due ops) n asked p = omega (
    arith,
    sum_by-cons (joined s e) (arrived n other release due ops) [],
    one_job other release ops asked s e (nat_le s (first + n) && nat_lt (first + n) e)
        (ap (λ k. nat_le s (first + k) && nat_lt (first + k) e) p.0) (other == task),
  )
  one_joined s e (events.Collect other release due) n asked p = omega arith
  one_joined s e events.Slot n asked p = omega arith

  pub joined_is : (s e : ℕ) (before : List Asked) (log : Log) → AllByRecursion comes_as_released (arrivals 0 (events_of_log log))
      → sum_by (joined s e) (arrivals 0 (events_of_log log)) + amount_in amount s e before ≡ amount_in amount s e (asked_in task first before log)
  joined_is s e = over_log s e (joined s e) (one_joined s e)

  -- by their release, and by their coming, in the life's own slots
  abbrev released : ℕ → ℕ → TaskArrival → ℕ
  released s e a = cond (is_released_in task s e a) (weight a.ops) 0

  one_released : (s e : ℕ) (event : Event) (n : ℕ) (asked : List Asked) → AllByRecursion comes_as_released (arrivals n (event ∷ []))
      → sum_by (released s e) (arrivals n (event ∷ [])) + amount_in amount (first + s) (first + e) asked
      ≡ amount_in amount (first + s) (first + e) (with_ask task first event asked)
  one_released s e (events.Submit other release due ops) n asked p = omega (
    arith,
    sum_by-cons (released s e) (arrived n other release due ops) [],
    one_job other release ops asked (first + s) (first + e) (nat_le s release && nat_lt release e) (shifted first s e release) (other == task),
  )
  one_released s e (events.Collect other release due) n asked p = omega arith
  one_released s e events.Slot n asked p = omega arith

  pub released_within : (s e : ℕ) (before : List Asked) (log : Log) → AllByRecursion comes_as_released (arrivals 0 (events_of_log log))
      → sum_by (released s e) (arrivals 0 (events_of_log log)) ≤ amount_in amount (first + s) (first + e) (asked_in task first before log)
  released_within s e before log p = omega (arith, over_log (first + s) (first + e) (released s e) (one_released s e) before log p)

  abbrev coming : ℕ → ℕ → TaskArrival → ℕ
  coming s e a = cond (comes_in task s e a) (weight a.ops) 0

  one_coming : (s e : ℕ) (event : Event) (n : ℕ) (asked : List Asked) → AllByRecursion comes_as_released (arrivals n (event ∷ []))
      → sum_by (coming s e) (arrivals n (event ∷ [])) + amount_in amount (first + s) (first + e) asked
      ≡ amount_in amount (first + s) (first + e) (with_ask task first event asked)
  one_coming s e (events.Submit other release due ops) n asked p = omega (
    arith,
    sum_by-cons (coming s e) (arrived n other release due ops) [],
    one_job other release ops asked (first + s) (first + e) (nat_le s n && nat_lt n e)
        (shifted first s e release ∙ ap (λ k. nat_le s k && nat_lt k e) p.0) (other == task),
  )
  one_coming s e (events.Collect other release due) n asked p = omega arith
  one_coming s e events.Slot n asked p = omega arith

  pub coming_within : (s e : ℕ) (before : List Asked) (log : Log) → AllByRecursion comes_as_released (arrivals 0 (events_of_log log))
      → sum_by (coming s e) (arrivals 0 (events_of_log log)) ≤ amount_in amount (first + s) (first + e) (asked_in task first before log)
  coming_within s e before log p = omega (arith, over_log (first + s) (first + e) (coming s e) (one_coming s e) before log p)

pub prompt : (life : ℕ) (xs : List TaskArrival) → AllByRecursion (IsWithinLife life) xs → AllByRecursion (λ a. a.release ≡ a.at) xs
prompt life = all_as (IsWithinLife life) (λ a. a.release ≡ a.at) (λ a h. h.comes)

-- what came in all lives
pub came_is : (life task : ℕ) (s e : ℕ) (lives : Lives) → ArePlannedLives life lives
    → sum_by (λ a. cond (comes_in task s e a) (writes a.ops) 0) (all_came lives) ≡ amount_in (λ a. a.writes) s e (asked_by task lives)
came_is life task s e [] h = refl
came_is life task s e (log ∷ earlier) h =
    let first : ℕ = all_slots earlier in
    let own : List TaskArrival = arrivals 0 (events_of_log log) in
    let weigh : TaskArrival → ℕ = λ a. cond (comes_in task s e a) (writes a.ops) 0 in
    omega (
      arith,
      sum_by-append weigh (all_came earlier) (map (at_later first) own),
      sum_mapped weigh (at_later first) own,
      joined_is task first writes (λ a. a.writes) (λ n ops. refl) s e (asked_by task earlier) log
          (prompt life own (recursion_from_All (IsWithinLife life) own h.1)),
      came_is life task s e earlier h.0,
    )

sooner_all : (n m : ℕ) → n ≤ m → (xs : List TaskArrival) → AllByRecursion (λ a. a.at ≤ n) xs → AllByRecursion (λ a. a.at ≤ m) xs
sooner_all n m le = all_as (λ a. a.at ≤ n) (λ a. a.at ≤ m) (λ a h. omega (arith, le, h))

later_all : (first n : ℕ) (xs : List TaskArrival) → AllByRecursion (λ a. a.at ≤ n) xs → AllByRecursion (λ a. a.at ≤ first + n) (map (at_later first) xs)
later_all first n [] h = tt
later_all first n (a ∷ xs) h = (omega (arith, h.0), later_all first n xs h.1)

pub came_by : (life : ℕ) (lives : Lives) → ArePlannedLives life lives → AllByRecursion (λ a. a.at ≤ all_slots lives) (all_came lives)
came_by life [] h = tt
came_by life (log ∷ earlier) h =
    let first : ℕ = all_slots earlier in
    let xs : List Event = events_of_log log in
    let clock : all_slots (log ∷ earlier) ≡ now log + first = sum_by-cons now log earlier in
    all_joined (λ a. a.at ≤ all_slots (log ∷ earlier)) (all_came earlier) (map (at_later first) (arrivals 0 xs))
    (sooner_all first (all_slots (log ∷ earlier)) (omega (arith, clock)) (all_came earlier) (came_by life earlier h.0))
    (sooner_all (first + (0 + slots xs)) (all_slots (log ∷ earlier)) (omega (arith, clock, h.2)) (map (at_later first) (arrivals 0 xs))
    (later_all first (0 + slots xs) (arrivals 0 xs) (come_by 0 xs)))

-- One ask more

-- what is in a period's slots counts in each of them
within_counts : (amount : Asked → ℕ) (period slot s : ℕ) → slot < s + period → (asked : List Asked)
    → amount_in amount s (s + period) asked ≤ sum_by (λ a. cond (counts_in period slot a) (amount a) 0) asked
within_counts amount period slot s lt [] = omega arith
within_counts amount period slot s lt (a ∷ asked) = omega (
  arith,
  sum_by-cons (λ b. cond (is_asked_in s (s + period) b) (amount b) 0) a asked,
  sum_by-cons (λ b. cond (counts_in period slot b) (amount b) 0) a asked,
  here (nat_le s a.at) refl,
  within_counts amount period slot s lt asked,
)
  where
    here : (b : Bool) → nat_le s a.at ≡ b → cond (b && nat_lt a.at (s + period)) (amount a) 0 ≤ cond (counts_in period slot a) (amount a) 0
    here false e = omega arith
    here true e =
        let le : s ≤ a.at = leb-true s a.at e in
        let still : counts_in period slot a ≡ true = grind (arith, nat_tests, le, lt) in
        rw still (one (nat_lt a.at (s + period)))
      where
        one : (b : Bool) → cond b (amount a) 0 ≤ amount a
        one true = omega arith
        one false = omega arith

with_one : (amount : Asked → ℕ) (period limit : ℕ) (asked : List Asked) (x : Asked)
    → ((s : ℕ) → amount_in amount s (s + period) asked ≤ limit)
    → sum_by (λ a. cond (counts_in period x.at a) (amount a) 0) asked + amount x ≤ limit
    → (s : ℕ) → amount_in amount s (s + period) (x ∷ asked) ≤ limit
with_one amount period limit asked x few room s = by_test (is_asked_in s (s + period) x) refl
  where
    by_test : (b : Bool) → is_asked_in s (s + period) x ≡ b → amount_in amount s (s + period) (x ∷ asked) ≤ limit
    by_test true e =
        let p = and_parts (nat_le s x.at) (nat_lt x.at (s + period)) e in
        omega (
          arith,
          sum_by-cons (λ a. cond (is_asked_in s (s + period) a) (amount a) 0) x asked,
          ap {B = ℕ} (λ b. cond b (amount x) 0) e,
          within_counts amount period x.at s (ltb-true x.at (s + period) p.1) asked,
          room,
        )
    by_test false e = omega (
      arith,
      sum_by-cons (λ a. cond (is_asked_in s (s + period) a) (amount a) 0) x asked,
      ap {B = ℕ} (λ b. cond b (amount x) 0) e,
      few s,
    )

pub few_more : (plan : DiePlan) (terms : Terms) (life : ℕ) (earlier : Lives) (log : Log) (task : ℕ) (ops : List Op)
    → AskForFew plan terms (log ∷ earlier)
    → IsTimelyAsk plan terms life (all_slots earlier) (now log) (asked_by task (log ∷ earlier)) task ops → (t s : ℕ) → t < length plan.caps
    → let asked = with_ask t (all_slots earlier) (events.Submit task (now log) (now log + (terms_of terms task).deadline) ops) (asked_by t (log ∷ earlier)) in
    (amount_in (λ a. a.operations) s (s + (terms_of terms t).period) asked ≤ (terms_of terms t).work)
    × (amount_in (λ a. a.writes) s (s + (terms_of terms t).period) asked ≤ (terms_of terms t).writes)
few_more plan terms life earlier log task ops few ask t s lt = by_test (task == t) refl
  where
    x : Asked
    x = asked_for (all_slots earlier + now log) ops

    by_test : (b : Bool) → (task == t) ≡ b
        → (amount_in (λ a. a.operations) s (s + (terms_of terms t).period) (cond b (x ∷ asked_by t (log ∷ earlier)) (asked_by t (log ∷ earlier)))
        ≤ (terms_of terms t).work)
        × (amount_in (λ a. a.writes) s (s + (terms_of terms t).period) (cond b (x ∷ asked_by t (log ∷ earlier)) (asked_by t (log ∷ earlier)))
        ≤ (terms_of terms t).writes)
    by_test true e =
        let is : task ≡ t = eqb-true task t e in (
          with_one (λ a. a.operations) (terms_of terms t).period (terms_of terms t).work (asked_by t (log ∷ earlier)) x (λ n. few.operations t n lt)
              (subst (λ i. operations_in (terms_of terms i).period (all_slots earlier + now log) (asked_by i (log ∷ earlier)) + length ops
              ≤ (terms_of terms i).work) is ask.operations) s,
          with_one (λ a. a.writes) (terms_of terms t).period (terms_of terms t).writes (asked_by t (log ∷ earlier)) x (λ n. few.writes t n lt)
              (subst (λ i. writes_in (terms_of terms i).period (all_slots earlier + now log) (asked_by i (log ∷ earlier)) + writes ops
              ≤ (terms_of terms i).writes) is ask.writes_fit) s,
        )
    by_test false e = (few.operations t s lt, few.writes t s lt)
