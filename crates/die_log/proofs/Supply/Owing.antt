-- What the jobs of a task write that are due after a slot: at least what is held for them then, and at most what may come
-- in the slots for which such a job may be held.
use Rattle.std.proofs.Common.{◌≡◌, ℕ, zero, suc, ◌+◌, ◌-◌, ◌*◌, ◌/◌, ◌<◌, ◌≤◌, ◌==◌, ◌&&◌, not, nat_le, nat_lt, Bool, true, false, cond}
use Rattle.std.proofs.Common.{List, [], ◌∷◌, ◌++◌, length, drop, sum_by, Some, refl, ap, sym, subst, ◌∙◌, inl, inr, arith, slice_get}
use Rattle.std.specs.List.{AllByRecursion}
use Rattle.std.proofs.Math.Nat.{mod-lt}
use Rattle.std.proofs.lemmas.Nat.{div-add-mod'}
use Rattle.std.proofs.lemmas.Bool.{true≢false, cases_eq, cases_lt, and_parts, and_from, eq-eqb, le-leb, lt-ltb, ltb-true}
use Rattle.std.proofs.lemmas.Option.{same_Some}
use Rattle.std.proofs.lemmas.List.Sums.{sum_by-cons, sum_by-append}
use Rattle.slot_types.specs.declared.plans.DiePlan.{DiePlan}
use Rattle.slot_types.specs.declared.events.Op.{Op}
use Rattle.slot_types.specs.declared.events.Event.{Event}
use Rattle.slot_types.specs.declared.events.Event.TheVariants as events
use Rattle.slot_types.specs.Operations.{is_write, writes}
use Rattle.plan_rules.specs.Keeping.{TaskArrival, arrivals, slots}
use Rattle.plan_rules.proofs.Arriving.{is_job_of, due_of}
use Rattle.plan_rules.proofs.Moments.{slots_append, arrivals_after, job_arrival}
use Rattle.demand_rules.specs.declared.terms.TaskTerms.{TaskTerms}
use Rattle.demand_rules.specs.declared.terms.Terms.{Terms}
use Rattle.demand_rules.specs.Demand.{terms_of, IsTaskTerms}
use Rattle.demand_rules.specs.Keeping.{IsDemanded, KeepsDemandPlan}
use Rattle.demand_rules.proofs.Bursts as bursts
use Rattle.demand_rules.proofs.Fitting.{as_job}
use Rattle.demand_rules.proofs.Moments.{before_planned}
use Rattle.die_log.specs.Model.Log.{Log, Job, jobs, job_at, now, acts, is_waived}
use Rattle.die_log.specs.Invariants.TrueAccounts.{at_task, left_of, HasTaskAndOps, AreTrueAccounts}
use Rattle.die_log.specs.Results.InTime.{IsInTime, events_of_log}
use Rattle.die_log.specs.Results.Supply.{hold_of}
use Rattle.die_log.proofs.Tokens.Sums.{all_at}
use Rattle.die_log.proofs.Tokens.Amounts.{at_itself, at_other}
use Rattle.die_log.proofs.Supply.Held.{none_left, all_done}
use Rattle.die_log.proofs.LogInvariants.OneMoreEntry.{contained}
use Rattle.die_log.specs.Model.Start.{Start}
use Rattle.die_log.specs.Results.Covered.{owed_after, written_before}
use Rattle.die_log.proofs.Planned.Entered.{IsOf}
use Rattle.die_log.proofs.Supply.Following.{sum_of, Follows}

-- What is held

sum_le : {X : Type 0} (f g : X → ℕ) (xs : List X) → ((k : ℕ) (x : X) → slice_get xs k ≡ Some x → f x ≤ g x) → sum_by f xs ≤ sum_by g xs
sum_le f g [] h = omega arith
sum_le f g (x ∷ xs) h = omega
    (arith, sum_by-cons f x xs, sum_by-cons g x xs, h zero x refl, sum_le f g xs (λ k y e. h (suc k) y e))

fewer_writes : (n : ℕ) (ops : List Op) → writes (drop n ops) ≤ writes ops
fewer_writes zero ops = omega arith
fewer_writes (suc n) [] = omega arith
fewer_writes (suc n) (op ∷ ops) = omega (arith, sum_by-cons (λ o. cond (is_write o) 1 0) op ops, fewer_writes n ops)

-- what is held for a task is for jobs that are due after now
pub held_within : (start : Start) (log : Log) (t : ℕ) → AreTrueAccounts start log → t < length start.plan.caps
    → ((k : ℕ) (j : Job) → job_at log k ≡ Some j → j.number ≡ k)
    → ((number : ℕ) → is_waived log number ≡ true → (j : Job) × (job_at log number ≡ Some j) × (j.collects ≡ true))
    → IsInTime start.plan log → hold_of start log t ≤ owed_after t (now log) (jobs log)
held_within start log t h lt numbered collections in_time =
    omega (
      arith,
      h.agree.holds_are t lt,
      sum_le (λ j. at_task j.task (left_of (λ n. acts n log) j) t)
          (λ j. cond ((not j.collects && (j.task == t)) && nat_lt (now log) j.due) (writes j.ops) 0) (jobs log) each,
    )
  where
    none_of_due : (k : ℕ) (j : Job) → slice_get (jobs log) k ≡ Some j → j.collects ≡ false → j.due ≤ now log → left_of (λ n. acts n log) j ≡ 0
    none_of_due k j e kind due = elim (in_time.due_by_now j (contained (jobs log) k j e) due) [
      | inl done ↦ none_left (length (acts j.number log)) j.ops (omega (arith, all_done start.plan j (acts j.number log) kind done))
      | inr gone ↦
          let c = collections j.number gone in
          let at : job_at log j.number ≡ Some j = ap (job_at log) (numbered k j e) ∙ e in
          absurd (true≢false (sym c.2 ∙ (ap (λ (i : Job). i.collects) (same_Some c.0 j (sym c.1 ∙ at)) ∙ kind)))
    ]

    of_kind : (k : ℕ) (j : Job) → slice_get (jobs log) k ≡ Some j → j.task ≡ t → (b : Bool) → j.collects ≡ b
        → left_of (λ n. acts n log) j ≤ cond ((not j.collects && (j.task == t)) && nat_lt (now log) j.due) (writes j.ops) 0
    of_kind k j e task true kind =
        let ops : j.ops ≡ [] = (all_at (HasTaskAndOps start.plan) (jobs log) k j h.taken e).none kind in
        let none : left_of (λ n. acts n log) j ≡ 0 = ap (λ (l : List Op). writes (drop (length (acts j.number log)) l)) ops
        ∙ none_left (length (acts j.number log)) [] (omega arith) in
        omega (arith, none)
    of_kind k j e task false kind = elim (cases_lt (now log) j.due) [
      | inl later ↦
          let is : ((not j.collects && (j.task == t)) && nat_lt (now log) j.due) ≡ true =
          and_from (not j.collects && (j.task == t)) (nat_lt (now log) j.due)
          (and_from (not j.collects) (j.task == t) (ap not kind) (eq-eqb j.task t task)) (lt-ltb (now log) j.due later) in
          omega (arith, ap (λ b. cond b (writes j.ops) 0) is, fewer_writes (length (acts j.number log)) j.ops)
      | inr due ↦ omega (arith, none_of_due k j e kind (omega (arith, due)))
    ]

    each : (k : ℕ) (j : Job) → slice_get (jobs log) k ≡ Some j
        → at_task j.task (left_of (λ n. acts n log) j) t
        ≤ cond ((not j.collects && (j.task == t)) && nat_lt (now log) j.due) (writes j.ops) 0
    each k j e = elim (cases_eq t j.task) [
      | inl same ↦ omega (
        arith,
        ap (at_task j.task (left_of (λ n. acts n log) j)) same,
        at_itself j.task (left_of (λ n. acts n log) j),
        of_kind k j e (sym same) j.collects refl,
      )
      | inr apart ↦ omega (arith, at_other j.task (left_of (λ n. acts n log) j) t apart)
    ]

-- What may come

abbrev pub at_of : TaskArrival → ℕ
at_of a = a.at

abbrev pub writes_of : TaskArrival → ℕ
writes_of a = writes a.ops

-- what comes comes in slots that are carried out, or in the one after them
sooner : (n m : ℕ) → n ≤ m → (all : List TaskArrival) → AllByRecursion (λ b. b.at ≤ n) all → AllByRecursion (λ b. b.at ≤ m) all
sooner n m le [] h = tt
sooner n m le (b ∷ rest) h = (omega (arith, le, h.0), sooner n m le rest h.1)

pub come_by : (first : ℕ) (all : List Event) → AllByRecursion (λ b. b.at ≤ first + slots all) (arrivals first all)
come_by first [] = tt
come_by first (events.Submit task release due ops ∷ rest) = (
  omega arith,
  sooner (first + slots rest) (first + slots (events.Submit task release due ops ∷ rest)) (omega arith) (arrivals first rest)
      (come_by first rest),
)
come_by first (events.Collect task release due ∷ rest) = (
  omega arith,
  sooner (first + slots rest) (first + slots (events.Collect task release due ∷ rest)) (omega arith) (arrivals first rest) (come_by first rest),
)
come_by first (events.Slot ∷ rest) =
    sooner (first + 1 + slots rest) (first + slots (events.Slot ∷ rest)) (omega (arith, slots_append (events.Slot ∷ []) rest))
    (arrivals (first + 1) rest) (come_by (first + 1) rest)

-- a job of the task that is due after `since`
abbrev pub is_owed : ℕ → ℕ → TaskArrival → Bool
is_owed task since a = is_job_of task a && nat_lt since a.due

module _ (plan : DiePlan) (terms : Terms) (end task since first last : ℕ) where
  -- that comes in these slots
  abbrev comes : TaskArrival → Bool
  comes a = bursts.is_released_in at_of due_of (is_job_of task) writes_of first last a

  comes_if : (a : TaskArrival) → is_job_of task a ≡ true → first ≤ a.at → a.at < last → comes a ≡ true
  comes_if a is from before =
      and_from (is_job_of task a) (nat_le first a.at && nat_lt a.at last) is
      (and_from (nat_le first a.at) (nat_lt a.at last) (le-leb first a.at from) (lt-ltb a.at last before))

  -- where those that are due after `since` come then, they are counted
  owed_come : (came : List TaskArrival)
      → AllByRecursion (λ a. is_owed task since a ≡ true → (first ≤ a.at) × (a.at < last)) came
      → AllByRecursion (λ a. is_owed task since a ≡ true → comes a ≡ true) came
  owed_come [] h = tt
  owed_come (a ∷ came) h = (
    (λ is.
        let p = and_parts (is_job_of task a) (nat_lt since a.due) is in
        comes_if a p.0 (h.0 is).0 (h.0 is).1),
    owed_come came h.1,
  )

pub same_owed : (t n : ℕ) (b : TaskArrival) (j : Job) → IsOf b j
    → cond ((not j.collects && (j.task == t)) && nat_lt n j.due) (writes j.ops) 0 ≡ cond (is_owed t n b) (writes b.ops) 0
same_owed t n b j of =
    ap (λ (c : Bool). cond ((not c && (j.task == t)) && nat_lt n j.due) (writes j.ops) 0) of.collects
    ∙ (ap (λ (i : ℕ). cond ((not b.collects && (i == t)) && nat_lt n j.due) (writes j.ops) 0) of.task
    ∙ (ap (λ (d : ℕ). cond ((not b.collects && (b.task == t)) && nat_lt n d) (writes j.ops) 0) of.due
    ∙ ap (λ (ops : List Op). cond ((not b.collects && (b.task == t)) && nat_lt n b.due) (writes ops) 0) of.ops))

-- when such a job came: at or before now
pub record Came (plan : DiePlan) (terms : Terms) (now_slot task since : ℕ) (a : TaskArrival) : Type 0 where
  pub kind : a.collects ≡ false
  pub own : a.task ≡ task
  pub comes : a.at ≤ a.release
  pub due : a.release + (terms_of terms task).deadline ≤ a.due
  pub soon : a.due ≤ a.at + (terms_of terms task).held
  pub after : since < a.due
  pub by_now : a.at ≤ now_slot

all_came : (plan : DiePlan) (terms : Terms) (end now_slot task since : ℕ) (came : List TaskArrival)
    → AllByRecursion (IsDemanded plan terms end) came → AllByRecursion (λ a. a.at ≤ now_slot) came
    → AllByRecursion (λ a. is_owed task since a ≡ true → Came plan terms now_slot task since a) came
all_came plan terms end now_slot task since [] planned by_now = tt
all_came plan terms end now_slot task since (a ∷ came) planned by_now = (
  (λ is.
      let p = and_parts (is_job_of task a) (nat_lt since a.due) is in
      let k = as_job plan terms end task a planned.0 p.0 in
      record {
        kind = k.0;
        own = k.1;
        comes = k.2.comes;
        due = subst (λ i. a.release + (terms_of terms i).deadline ≤ a.due) k.1 k.2.due;
        soon = subst (λ i. a.due ≤ a.at + (terms_of terms i).held) k.1 k.2.soon;
        after = ltb-true since a.due p.1;
        by_now = by_now.0;
      }),
  all_came plan terms end now_slot task since came planned.1 by_now.1,
)

pub weaker : {P Q : TaskArrival → Type 0} (task since : ℕ) → ((a : TaskArrival) → P a → Q a) → (came : List TaskArrival)
    → AllByRecursion (λ a. is_owed task since a ≡ true → P a) came → AllByRecursion (λ a. is_owed task since a ≡ true → Q a) came
weaker task since f [] h = tt
weaker task since f (a ∷ came) h = ((λ is. f a (h.0 is)), weaker task since f came h.1)

module _ (plan : DiePlan) (terms : Terms) (log : Log) (rest : List Event) (f : Follows plan terms log)
    (keeps : KeepsDemandPlan plan terms (events_of_log log ++ rest)) (task : ℕ) (lt : task < length plan.caps) (since : ℕ) where
  abbrev came : List TaskArrival
  came = arrivals 0 (events_of_log log)

  pub owed_came : AllByRecursion (λ a. is_owed task since a ≡ true → Came plan terms (now log) task since a) came
  owed_came = all_came plan terms (slots (events_of_log log ++ rest)) (now log) task since came
      (before_planned plan terms (events_of_log log) rest keeps)
      (sooner (0 + slots (events_of_log log)) (now log) (omega (arith, f.clock)) came (come_by 0 (events_of_log log)))

  -- in `n` periods
  limit : (first n : ℕ)
      → sum_by (λ b. cond (comes plan terms 0 task since first (first + n * (terms_of terms task).period) b) (writes b.ops) 0)
      (arrivals 0 (events_of_log log ++ rest))
      ≤ (terms_of terms task).writes * n
  limit first n = bursts.released_in_periods at_of due_of (is_job_of task) writes_of (terms_of terms task).period
      (terms_of terms task).writes (arrivals 0 (events_of_log log ++ rest)) (λ slot. keeps.few_writes task slot lt) n first

  owed_counted : (first last : ℕ) → AllByRecursion (λ a. is_owed task since a ≡ true → (first ≤ a.at) × (a.at < last)) came
      → owed_after task since (jobs log) ≤ sum_by (λ b. cond (comes plan terms 0 task since first last b) (writes b.ops) 0) came
  owed_counted first last within =
      omega (
        arith,
        sum_of (λ b. cond (is_owed task since b) (writes b.ops) 0)
            (λ j. cond ((not j.collects && (j.task == task)) && nat_lt since j.due) (writes j.ops) 0) (same_owed task since) came (jobs log)
            f.came,
        bursts.weight_more at_of due_of (is_job_of task) writes_of (is_owed task since) (comes plan terms 0 task since first last) came
            (owed_come plan terms 0 task since first last came within),
      )

  -- what is owed is at most what may come in the periods in which the jobs came
  pub owed_within : (first n : ℕ)
      → AllByRecursion (λ a. is_owed task since a ≡ true → (first ≤ a.at) × (a.at < first + n * (terms_of terms task).period)) came
      → owed_after task since (jobs log) ≤ (terms_of terms task).writes * n
  owed_within first n within =
      let test : TaskArrival → Bool = comes plan terms 0 task since first (first + n * (terms_of terms task).period) in
      omega (
        arith,
        owed_counted first (first + n * (terms_of terms task).period) within,
        ap (λ (xs : List TaskArrival). sum_by (λ b. cond (test b) (writes b.ops) 0) xs) (arrivals_after (events_of_log log) rest),
        sum_by-append (λ b. cond (test b) (writes b.ops) 0) came (arrivals (slots (events_of_log log)) rest),
        limit first n,
      )

-- and so it is with the writes of the job that comes next
pub owed_next_counted : (plan : DiePlan) (terms : Terms) (past : Log) (rest : List Event) (task release due : ℕ) (ops : List Op)
    (f : Follows plan terms past) (keeps : KeepsDemandPlan plan terms (events_of_log past ++ events.Submit task release due ops ∷ rest))
    (lt : task < length plan.caps) (since first last : ℕ)
    → AllByRecursion (λ a. is_owed task since a ≡ true → (first ≤ a.at) × (a.at < last)) (arrivals 0 (events_of_log past))
    → first ≤ now past → now past < last
    → owed_after task since (jobs past) + writes ops
    ≤ sum_by (λ b. cond (comes plan terms 0 task since first last b) (writes b.ops) 0)
    (arrivals 0 (events_of_log past ++ events.Submit task release due ops ∷ rest))
owed_next_counted plan terms past rest task release due ops f keeps lt since first last within from before =
    let more : List Event = events.Submit task release due ops ∷ rest in
    let a : TaskArrival = job_arrival (slots (events_of_log past)) task release due ops in
    let test : TaskArrival → Bool = comes plan terms 0 task since first last in
    let own : test a ≡ true = comes_if plan terms 0 task since first last a (eq-eqb task task refl)
    (omega (arith, f.clock, from)) (omega (arith, f.clock, before)) in
    omega (
      arith,
      owed_counted plan terms past more f keeps task lt since first last within,
      ap (λ (xs : List TaskArrival). sum_by (λ b. cond (test b) (writes b.ops) 0) xs) (arrivals_after (events_of_log past) more),
      sum_by-append (λ b. cond (test b) (writes b.ops) 0) (arrivals 0 (events_of_log past)) (a ∷ arrivals (slots (events_of_log past)) rest),
      sum_by-cons (λ b. cond (test b) (writes b.ops) 0) a (arrivals (slots (events_of_log past)) rest),
      ap (λ b. cond b (writes ops) 0) own,
    )

owed_with_next : (plan : DiePlan) (terms : Terms) (past : Log) (rest : List Event) (task release due : ℕ) (ops : List Op)
    (f : Follows plan terms past) (keeps : KeepsDemandPlan plan terms (events_of_log past ++ events.Submit task release due ops ∷ rest))
    (lt : task < length plan.caps) (since first n : ℕ)
    → AllByRecursion (λ a. is_owed task since a ≡ true → (first ≤ a.at) × (a.at < first + n * (terms_of terms task).period))
    (arrivals 0 (events_of_log past)) → first ≤ now past → now past < first + n * (terms_of terms task).period
    → owed_after task since (jobs past) + writes ops ≤ (terms_of terms task).writes * n
owed_with_next plan terms past rest task release due ops f keeps lt since first n within from before =
    omega (
      arith,
      owed_next_counted plan terms past rest task release due ops f keeps lt since first (first + n * (terms_of terms task).period) within
          from before,
      limit plan terms past (events.Submit task release due ops ∷ rest) f keeps task lt since first n,
    )

only_before : (task first last : ℕ) (came : List TaskArrival)
    → AllByRecursion (λ a. (is_job_of task a && (nat_le first a.at && nat_lt a.at last)) ≡ true → (is_job_of task a && nat_lt a.at last) ≡ true) came
only_before task first last [] = tt
only_before task first last (a ∷ came) = (
  (λ is.
      let p = and_parts (is_job_of task a) (nat_le first a.at && nat_lt a.at last) is in
      let q = and_parts (nat_le first a.at) (nat_lt a.at last) p.1 in
      and_from (is_job_of task a) (nat_lt a.at last) p.0 q.1),
  only_before task first last came,
)

-- Periods

-- how many periods reach beyond `slots` slots, by a period at most
pub periods_for : ℕ → ℕ → ℕ
periods_for period slots = slots / period + 1

pub reach_beyond : (period slots : ℕ) → 1 ≤ period → slots < periods_for period slots * period
unfolding periods_for
reach_beyond period slots some =
    let over : (slots / period + 1) * period ≡ slots / period * period + period = grind arith in
    omega (arith, over, div-add-mod' slots period, mod-lt slots {m = period} (omega (arith, some)))

pub by_a_period : (period slots : ℕ) → period * periods_for period slots ≤ slots + period
unfolding periods_for
by_a_period period slots =
    let over : period * (slots / period + 1) ≡ slots / period * period + period = grind arith in
    omega (arith, over, div-add-mod' slots period)

-- a job that is due after `since` came from this slot on
abbrev pub first_of : ℕ → ℕ → ℕ
first_of since held = since + 1 - held

module _ (plan : DiePlan) (terms : Terms) (past : Log) (rest : List Event) (task release due : ℕ) (ops : List Op)
    (f : Follows plan terms past) (keeps : KeepsDemandPlan plan terms (events_of_log past ++ events.Submit task release due ops ∷ rest))
    (lt : task < length plan.caps) (limits : IsTaskTerms (terms_of terms task)) (since : ℕ) (by_now : since ≤ now past) where
  -- since some slot
  pub owed_since : owed_after task since (jobs past) + writes ops
      ≤ (terms_of terms task).writes * periods_for (terms_of terms task).period (now past - since + (terms_of terms task).held)
  owed_since =
      let t : TaskTerms = terms_of terms task in
      let first : ℕ = first_of since t.held in
      let n : ℕ = periods_for t.period (now past - since + t.held) in
      let beyond = reach_beyond t.period (now past - since + t.held) limits.some_period in
      let reached : now past < first + n * t.period = omega (arith, beyond, by_now) in
      owed_with_next plan terms past rest task release due ops f keeps lt since first n
      (weaker task since (λ a k. (omega (arith, k.soon, k.after), omega (arith, k.by_now, reached))) (arrivals 0 (events_of_log past))
      (owed_came plan terms past (events.Submit task release due ops ∷ rest) f keeps task lt since))
      (omega (arith, by_now, limits.some_deadline, limits.few_deadline)) reached

  -- since the first one
  pub owed_at_all : owed_after task since (jobs past) + writes ops
      ≤ written_before task (now past + 1) (arrivals 0 (events_of_log past ++ events.Submit task release due ops ∷ rest))
  owed_at_all =
      let all : List TaskArrival = arrivals 0 (events_of_log past ++ events.Submit task release due ops ∷ rest) in
      omega (
        arith,
        owed_next_counted plan terms past rest task release due ops f keeps lt since 0 (now past + 1)
            (weaker task since (λ a k. (omega arith, omega (arith, k.by_now))) (arrivals 0 (events_of_log past))
            (owed_came plan terms past (events.Submit task release due ops ∷ rest) f keeps task lt since))
            (omega arith) (omega arith),
        bursts.weight_more at_of due_of (is_job_of task) writes_of (comes plan terms 0 task since 0 (now past + 1))
            (λ a. is_job_of task a && nat_lt a.at (now past + 1)) all (only_before task 0 (now past + 1) all),
      )

-- what comes in the first slots is at most what may come in the periods that cover them
pub written_in_periods : (plan : DiePlan) (terms : Terms) (task : ℕ) (came : List TaskArrival)
    → ((first : ℕ) → sum_by (λ a. cond (is_job_of task a && (nat_le first a.at && nat_lt a.at (first + (terms_of terms task).period))) (writes a.ops) 0) came
    ≤ (terms_of terms task).writes)
    → (slot n : ℕ) → slot < n * (terms_of terms task).period → written_before task (slot + 1) came ≤ (terms_of terms task).writes * n
written_in_periods plan terms task came few slot n reached =
    omega (
      arith,
      bursts.weight_more at_of due_of (is_job_of task) writes_of (λ a. is_job_of task a && nat_lt a.at (slot + 1))
          (bursts.is_released_in at_of due_of (is_job_of task) writes_of 0 (0 + n * (terms_of terms task).period)) came (within came),
      bursts.released_in_periods at_of due_of (is_job_of task) writes_of (terms_of terms task).period (terms_of terms task).writes came few n 0,
    )
  where
    within : (xs : List TaskArrival) → AllByRecursion (λ a. (is_job_of task a && nat_lt a.at (slot + 1)) ≡ true
        → (is_job_of task a && (nat_le 0 a.at && nat_lt a.at (0 + n * (terms_of terms task).period))) ≡ true) xs
    within [] = tt
    within (a ∷ xs) = (
      (λ is.
          let p = and_parts (is_job_of task a) (nat_lt a.at (slot + 1)) is in
          and_from (is_job_of task a) (nat_le 0 a.at && nat_lt a.at (0 + n * (terms_of terms task).period)) p.0
          (and_from (nat_le 0 a.at) (nat_lt a.at (0 + n * (terms_of terms task).period)) (le-leb 0 a.at (omega arith))
          (lt-ltb a.at (0 + n * (terms_of terms task).period) (omega (arith, reached, ltb-true a.at (slot + 1) p.1))))),
      within xs,
    )
