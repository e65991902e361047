-- An exact log whose events keep a plan with bursts: its jobs are what came, and what they say of each task's collections.
use Rattle.std.proofs.Common.{◌≡◌, ℕ, zero, suc, ◌+◌, ◌*◌, ◌<◌, ◌≤◌, ◌==◌, ◌&&◌, Bool, true, false, cond, List, [], ◌∷◌, ◌++◌, length}
use Rattle.std.proofs.Common.{sum_by, refl, ap, sym, subst, ◌∙◌, ◌⊎◌, inl, inr, arith, append_assoc}
use Rattle.std.specs.Prelude.{Contains}
use Rattle.std.specs.List.{AllByRecursion}
use Rattle.std.proofs.lemmas.Bool.{cases_lt, and_from, eq-eqb}
use Rattle.std.proofs.Math.Nat.{mul-le-mul_left}
use Rattle.std.proofs.lemmas.List.{length_push, append-nil}
use Rattle.std.proofs.lemmas.List.Sums.{sum_by-cons}
use Rattle.slot_types.specs.declared.plans.DiePlan.{DiePlan}
use Rattle.slot_types.specs.declared.limits.TheConstants.{MAX_SLOT}
use Rattle.slot_types.specs.declared.events.Event.{Event}
use Rattle.slot_types.specs.declared.events.Event.TheVariants as events
use Rattle.plan_rules.specs.Keeping.{TaskArrival, arrivals, slots}
use Rattle.plan_rules.proofs.Pacing.{IsBefore, is_collection_of, collections_in}
use Rattle.plan_rules.proofs.Moments.{slots_append, arrivals_after}
use Rattle.demand_rules.specs.declared.terms.Terms.{Terms}
use Rattle.demand_rules.specs.Demand.{terms_of, HasTerms}
use Rattle.demand_rules.specs.Keeping.{KeepsDemandPlan}
use Rattle.demand_rules.proofs.Fitting.{task_terms}
use Rattle.demand_rules.proofs.Pacing.{ArePaced, paced_start}
use Rattle.demand_rules.proofs.Moments.{paced_event}
use Rattle.die_log.specs.Model.Log.{Log, Job, jobs, now, carried_slots}
use Rattle.die_log.specs.Model.Answers.{IsExact, reply_if_accepted, refusals, choice, slot_reply}
use Rattle.die_log.specs.Results.InTime.{IsInTime, events_of_log}
use Rattle.die_log.specs.Results.Supply.{collections_of, pending_at}
use Rattle.die_log.proofs.Legality.{entry, exact_induction}
use Rattle.die_log.proofs.Supply.Held.{pending_none}
use Rattle.die_log.specs.Model.Start.{Start}
use Rattle.die_log.proofs.Planned.Entered.{IsOf}

-- the jobs are the arrivals, one for one
abbrev pub AreOf : List TaskArrival → List Job → Type 0
AreOf [] [] = Unit {0}
AreOf [] (j ∷ js) = ⊥
AreOf (a ∷ came) [] = ⊥
AreOf (a ∷ came) (j ∷ js) = IsOf a j × AreOf came js

of_push : (came : List TaskArrival) (js : List Job) (a : TaskArrival) (j : Job) → AreOf came js → IsOf a j → AreOf (came ++ a ∷ []) (js ++ j ∷ [])
of_push [] [] a j h is = (is, tt)
of_push [] (i ∷ js) a j h is = absurd h
of_push (b ∷ came) [] a j h is = absurd h
of_push (b ∷ came) (i ∷ js) a j h is = (h.0, of_push came js a j h.1 is)

pub sum_of : (f : TaskArrival → ℕ) (g : Job → ℕ) → ((a : TaskArrival) (j : Job) → IsOf a j → g j ≡ f a)
    → (came : List TaskArrival) (js : List Job) → AreOf came js → sum_by g js ≡ sum_by f came
sum_of f g same [] [] h = refl
sum_of f g same [] (j ∷ js) h = absurd h
sum_of f g same (a ∷ came) [] h = absurd h
sum_of f g same (a ∷ came) (j ∷ js) h = omega
    (arith, sum_by-cons g j js, sum_by-cons f a came, same a j h.0, sum_of f g same came js h.1)

length_of : (came : List TaskArrival) (js : List Job) → AreOf came js → length js ≡ length came
length_of [] [] h = refl
length_of [] (j ∷ js) h = absurd h
length_of (a ∷ came) [] h = absurd h
length_of (a ∷ came) (j ∷ js) h = omega (arith, length_of came js h.1)

-- what holds of all that came holds of where a job came from
pub of_job : (P : TaskArrival → Type 0) (came : List TaskArrival) (js : List Job) → AreOf came js → AllByRecursion P came → (j : Job)
    → Contains js j → (a : TaskArrival) × IsOf a j × P a
of_job P [] [] h all j k = absurd (omega (arith, k.1))
of_job P [] (i ∷ js) h all j k = absurd h
of_job P (a ∷ came) [] h all j k = absurd h
of_job P (a ∷ came) (i ∷ js) h all j (zero, inside, is) = (a, subst (IsOf a) is h.0, all.0)
of_job P (a ∷ came) (i ∷ js) h all j (suc k, inside, is) = of_job P came js h.1 all.1 j (k, omega (arith, inside), is)

-- a log of events that keep the plan so far
pub record Follows (plan : DiePlan) (terms : Terms) (log : Log) : Type 0 where
  pub clock : slots (events_of_log log) ≡ now log
  pub came : AreOf (arrivals 0 (events_of_log log)) (jobs log)
  pub paced : (task : ℕ) → task < length plan.caps
      → ArePaced (terms_of terms task).collect_period (terms_of terms task).collect_deadline task (arrivals 0 (events_of_log log))
      (slots (events_of_log log))

-- the events up to one of them, and those after it
pub one_further : (plan : DiePlan) (terms : Terms) (past : Log) (event : Event) (rest : List Event)
    → KeepsDemandPlan plan terms ((events_of_log past ++ event ∷ []) ++ rest) → KeepsDemandPlan plan terms (events_of_log past ++ event ∷ rest)
one_further plan terms past event rest keeps = subst (KeepsDemandPlan plan terms) (append_assoc (events_of_log past) (event ∷ []) rest) keeps

pub follows : (start : Start) (terms : Terms) (log : Log) → IsExact start log → (rest : List Event)
    → KeepsDemandPlan start.plan terms (events_of_log log ++ rest) → Follows start.plan terms log
follows start terms = exact_induction start Q (λ rest keeps. record {
  clock = refl;
  came = tt;
  paced = λ task lt. paced_start (terms_of terms task).collect_period (terms_of terms task).collect_deadline task;
}) step
  where
    Q : Log → Type 0
    Q log = (rest : List Event) → KeepsDemandPlan start.plan terms (events_of_log log ++ rest) → Follows start.plan terms log

    step : (past : Log) (caller : ℕ) (event : Event) → IsExact start past → Q past
        → AllByRecursion (λ c. c.0 ≡ false) (refusals start past event) → Q (entry caller event (reply_if_accepted start past event) ∷ past)
    step past caller (events.Submit task release due ops) exact ih none rest keeps =
        let event : Event = events.Submit task release due ops in
        let k = one_further start.plan terms past event rest keeps in
        let f = ih (event ∷ rest) k in
        record {
          clock = omega (arith, slots_append (events_of_log past) (event ∷ []), f.clock);
          came = subst (λ (came : List TaskArrival). AreOf came (jobs (entry caller event (reply_if_accepted start past event) ∷ past)))
              (sym (arrivals_after (events_of_log past) (event ∷ [])))
              (of_push (arrivals 0 (events_of_log past)) (jobs past) _ _ f.came
              (record { collects = refl; task = refl; release = refl; due = refl; ops = refl }));
          paced = λ t lt. paced_event start.plan terms (events_of_log past) rest event t lt k (f.paced t lt);
        }
    step past caller (events.Collect task release due) exact ih none rest keeps =
        let event : Event = events.Collect task release due in
        let k = one_further start.plan terms past event rest keeps in
        let f = ih (event ∷ rest) k in
        record {
          clock = omega (arith, slots_append (events_of_log past) (event ∷ []), f.clock);
          came = subst (λ (came : List TaskArrival). AreOf came (jobs (entry caller event (reply_if_accepted start past event) ∷ past)))
              (sym (arrivals_after (events_of_log past) (event ∷ [])))
              (of_push (arrivals 0 (events_of_log past)) (jobs past) _ _ f.came
              (record { collects = refl; task = refl; release = refl; due = refl; ops = refl }));
          paced = λ t lt. paced_event start.plan terms (events_of_log past) rest event t lt k (f.paced t lt);
        }
    step past caller events.Slot exact ih none rest keeps =
        let k = one_further start.plan terms past events.Slot rest keeps in
        let f = ih (events.Slot ∷ rest) k in
        record {
          clock = omega (
            arith,
            slots_append (events_of_log past) (events.Slot ∷ []),
            f.clock,
            length_push (carried_slots past)
                (slot_reply start past (choice start past).waived (choice start past).head).ran,
          );
          came = subst (λ (came : List TaskArrival). AreOf came (jobs past))
              (sym (arrivals_after (events_of_log past) (events.Slot ∷ []) ∙ append-nil (arrivals 0 (events_of_log past)))) f.came;
          paced = λ t lt. paced_event start.plan terms (events_of_log past) rest events.Slot t lt k (f.paced t lt);
        }

-- What jobs have of what came

pub collections_are : (plan : DiePlan) (terms : Terms) (log : Log) (task : ℕ) → Follows plan terms log
    → collections_in task (arrivals 0 (events_of_log log)) ≡ collections_of (jobs log) task
collections_are plan terms log task f =
    sym (sum_of (λ a. cond (is_collection_of task a) 1 0) (λ j. cond (j.collects && (j.task == task)) 1 0)
    (λ a j of. ap (λ (b : Bool). cond (b && (j.task == task)) 1 0) of.collects ∙ ap (λ (n : ℕ). cond (a.collects && (n == task)) 1 0) of.task)
    (arrivals 0 (events_of_log log)) (jobs log) f.came)

pub jobs_are : (plan : DiePlan) (terms : Terms) (log : Log) → Follows plan terms log → length (jobs log) ≡ length (arrivals 0 (events_of_log log))
jobs_are plan terms log f = length_of (arrivals 0 (events_of_log log)) (jobs log) f.came

-- not too many collections have come
pub few_collections : (plan : DiePlan) (terms : Terms) (log : Log) (task : ℕ) → Follows plan terms log → task < length plan.caps
    → (terms_of terms task).collect_period * collections_of (jobs log) task ≤ now log + (terms_of terms task).collect_period
few_collections plan terms log task f lt =
    let q : ℕ = (terms_of terms task).collect_period in
    omega (arith, (f.paced task lt).few, f.clock, ap (λ n. q * n) (collections_are plan terms log task f))

-- the collections of a task are due before the next one can come
pub collections_due : (plan : DiePlan) (terms : Terms) (log : Log) (task : ℕ) → Follows plan terms log → task < length plan.caps
    → (j : Job) → Contains (jobs log) j → j.collects ≡ true → j.task ≡ task → j.due
    ≤ (terms_of terms task).collect_period * collections_of (jobs log) task
collections_due plan terms log task f lt j k kind same =
    let q : ℕ = (terms_of terms task).collect_period in
    let r = of_job (IsBefore task q (q * collections_in task (arrivals 0 (events_of_log log)))) (arrivals 0 (events_of_log log)) (jobs log) f.came
    (f.paced task lt).each j k in
    let is : is_collection_of task r.0 ≡ true = and_from r.0.collects (r.0.task == task) (sym r.1.collects ∙ kind)
    (eq-eqb r.0.task task (sym r.1.task ∙ same)) in
    omega (arith, (r.2 is).1, r.1.due, ap (λ n. q * n) (collections_are plan terms log task f))

-- and where none is late, only the last one may be pending, and only before its deadline
pub closed_by : (plan : DiePlan) (terms : Terms) (log : Log) (task : ℕ) → HasTerms plan terms → Follows plan terms log → task < length plan.caps
    → now log ≤ MAX_SLOT → IsInTime plan log → pending_at plan log task ≤ 1
    → now log + (terms_of terms task).collect_period * pending_at plan log task
    ≤ (terms_of terms task).collect_period * collections_of (jobs log) task + (terms_of terms task).collect_period
closed_by plan terms log task has f lt within in_time one =
    let q : ℕ = (terms_of terms task).collect_period in
    let count = ap (λ n. q * n) (collections_are plan terms log task f) in
    elim (cases_lt (now log) (q * collections_of (jobs log) task)) [
      | inl before ↦ omega (arith, before, mul-le-mul_left q one, times_one q)
      | inr after ↦
          let none : pending_at plan log task ≡ 0 = pending_none plan log task in_time
          (λ j k kind same. omega (arith, after, collections_due plan terms log task f lt j k kind same)) in
          let nothing : q * pending_at plan log task ≡ 0 = ap (λ n. q * n) none ∙ times_none q in
          reached (f.paced task lt).many count nothing
    ]
  where
    times_one : (k : ℕ) → k * 1 ≡ k
    times_one k = grind arith

    times_none : (k : ℕ) → k * 0 ≡ 0
    times_none k = grind arith

    short : (terms_of terms task).collect_deadline ≤ (terms_of terms task).collect_period
    short = (task_terms plan terms task has lt).few_collect_deadline

    reached : (slots (events_of_log log) ≤ (terms_of terms task).collect_period * collections_in task (arrivals 0 (events_of_log log)))
        ⊎ (MAX_SLOT < (terms_of terms task).collect_period * collections_in task (arrivals 0 (events_of_log log)) +
        (terms_of terms task).collect_deadline)
        → (terms_of terms task).collect_period * collections_in task (arrivals 0 (events_of_log log))
        ≡ (terms_of terms task).collect_period * collections_of (jobs log) task
        → (terms_of terms task).collect_period * pending_at plan log task ≡ 0
        → now log + (terms_of terms task).collect_period * pending_at plan log task
        ≤ (terms_of terms task).collect_period * collections_of (jobs log) task + (terms_of terms task).collect_period
    reached (inl le) count nothing = omega (arith, le, count, nothing, f.clock)
    reached (inr beyond) count nothing = omega (arith, beyond, count, nothing, within, short)
