-- Along an exact log of events that keep a plan with bursts each task's balance is covered.
use Rattle.std.proofs.Common.{◌≡◌, ℕ, ◌+◌, ◌-◌, ◌*◌, ◌<◌, ◌≤◌, ◌==◌, ◌&&◌, not, nat_lt, Bool, true, false, cond, List, [], ◌∷◌, ◌++◌, length}
use Rattle.std.proofs.Common.{slice_index, refl, ap, sym, subst, ◌∙◌, ◌⊎◌, inl, inr, arith}
use Rattle.std.specs.List.{AllByRecursion}
use Rattle.std.proofs.lemmas.Bool.{cases_lt, cases_eq, ltb-false}
use Rattle.std.proofs.lemmas.Bool.Decides.{nat_tests}
use Rattle.std.proofs.Math.Nat.{mul-le-mul_left}
use Rattle.std.proofs.lemmas.List.{length_push}
use Rattle.std.proofs.lemmas.List.Sums.{sum_by_push}
use Rattle.slot_types.specs.declared.acts.Act.{Act}
use Rattle.slot_types.specs.declared.events.Op.{Op}
use Rattle.slot_types.specs.declared.events.Event.{Event}
use Rattle.slot_types.specs.declared.events.Event.TheVariants as events
use Rattle.slot_types.specs.Operations.{writes}
use Rattle.plan_rules.specs.Accounts.{Accounts}
use Rattle.plan_rules.specs.Keeping.{arrivals}
use Rattle.plan_rules.proofs.Moments.{slots_append}
use Rattle.demand_rules.specs.declared.terms.TaskTerms.{TaskTerms}
use Rattle.demand_rules.specs.declared.terms.Terms.{Terms}
use Rattle.demand_rules.specs.Demand.{terms_of, PassesDemand}
use Rattle.demand_rules.specs.Supply.{PassesSupply}
use Rattle.demand_rules.specs.Keeping.{KeepsDemandPlan}
use Rattle.demand_rules.proofs.Fitting.{task_terms}
use Rattle.demand_rules.proofs.Moments.{next_job, task_sustained}
use Rattle.die_log.specs.Model.Start.{Start}
use Rattle.die_log.specs.Model.Log.{Log, Job, jobs, now, carried_slots, acts, is_waived}
use Rattle.die_log.specs.Model.Work.{are_all}
use Rattle.die_log.specs.Model.Accounts.{accounts}
use Rattle.die_log.specs.Model.Opening.{IsOpening}
use Rattle.die_log.specs.Model.Answers.{IsExact, reply_if_accepted, refusals, balance, choice, slot_reply}
use Rattle.die_log.specs.Invariants.TrueAccounts.{is_pending, AreTrueAccounts}
use Rattle.die_log.specs.Results.InTime.{IsInTime, AreEntered, events_of_log}
use Rattle.die_log.specs.Results.Supply.{balance_of, hold_of, collections_of, pending_at}
use Rattle.die_log.proofs.Legality.{entry, exact_induction}
use Rattle.die_log.proofs.Limits.{keeps_limits}
use Rattle.die_log.proofs.Legal.Exact.{stands_well, well_served, has_slots}
use Rattle.die_log.proofs.Collecting.{no_acts, not_waived}
use Rattle.die_log.proofs.Tokens.Amounts.{at_itself, at_other, taken_at}
use Rattle.die_log.proofs.Tokens.Sums.{one_if}
use Rattle.die_log.proofs.Tokens.Given.{CellsServe}
use Rattle.die_log.proofs.Supply.Slots.{slot_leaves}
use Rattle.die_log.proofs.Supply.Waived.{waives_collections}
use Rattle.die_log.proofs.Supply.RunningOn.{runs_on}
use Rattle.die_log.specs.Results.Covered.{owed_after, written_before, IsCovered, AreStockedFor, AreStocked}
use Rattle.die_log.proofs.Planned.Entered.{entered_append, entered_reported}
use Rattle.die_log.proofs.Planned.Rooms.{demanded_in_time}
use Rattle.die_log.proofs.Supply.Amounts.{kept, given, filled, taken, opened, started, lacks_few, start_lacks, enough}
use Rattle.die_log.proofs.Supply.Following.{one_further, follows, few_collections, closed_by}
use Rattle.die_log.proofs.Supply.Owing.{held_within, owed_since, owed_at_all, written_in_periods, periods_for, reach_beyond, by_a_period}

-- nothing is late at a moment that events reach unrefused which keep a passing plan
pub never_late : (start : Start) (terms : Terms) → IsOpening start → PassesDemand start.plan terms → (moment : Log) → IsExact start moment
    → (rest : List Event) → KeepsDemandPlan start.plan terms (events_of_log moment ++ rest) → IsInTime start.plan moment
never_late start terms bound passes moment exact rest keeps =
    let f = follows start terms moment exact rest keeps in
    let r = runs_on start moment rest exact (omega (arith, keeps.few_slots, slots_append (events_of_log moment) rest, f.clock)) in
    demanded_in_time start terms bound passes (events_of_log moment ++ rest) keeps r.later moment (subst (IsExact start) r.is r.exact)
    (subst (AreEntered (events_of_log moment ++ rest) []) r.is
    (entered_append (events_of_log moment) rest [] moment r.log (entered_reported moment) r.entered))

-- A job

abbrev job_of : Log → ℕ → ℕ → ℕ → List Op → Job
job_of past task release due ops = record {
  number = length (jobs past);
  collects = false;
  task = task;
  release = release;
  due = due;
  ops = ops;
}

never : (b : Bool) → one_if (b && false) ≡ 0
never true = refl
never false = refl

same_collections : (past : Log) (task release due : ℕ) (ops : List Op) (t : ℕ)
    → collections_of (jobs past ++ job_of past task release due ops ∷ []) t ≡ collections_of (jobs past) t
same_collections past task release due ops t = omega (
  arith,
  sum_by_push (λ i. one_if (i.collects && (i.task == t))) (jobs past)
      (job_of past task release due ops),
)

same_pending : (start : Start) (past : Log) (caller task release due : ℕ) (ops : List Op) (t : ℕ)
    → pending_at start.plan (entry caller (events.Submit task release due ops) (reply_if_accepted start past (events.Submit task release due ops)) ∷ past) t
    ≡ pending_at start.plan past t
same_pending start past caller task release due ops t =
    omega (
      arith,
      sum_by_push (λ i. one_if ((i.task == t) && is_pending start.plan (λ n. acts n past) (is_waived past) i)) (jobs past)
          (job_of past task release due ops),
      never (task == t),
    )

-- what a job adds to what is owed
own_owed : (task since due n : ℕ) → since < due → cond ((true && (task == task)) && nat_lt since due) n 0 ≡ n
own_owed task since due n lt = grind (arith, nat_tests)

other_owed : (task t since due n : ℕ) → (t ≡ task → ⊥) → cond ((true && (task == t)) && nat_lt since due) n 0 ≡ 0
other_owed task t since due n apart = grind (arith, nat_tests)

owed_push : (task since : ℕ) (js : List Job) (j : Job)
    → owed_after task since (js ++ j ∷ [])
    ≡ owed_after task since js + cond ((not j.collects && (j.task == task)) && nat_lt since j.due) (writes j.ops) 0
owed_push task since js j = sum_by_push (λ i. cond ((not i.collects && (i.task == task)) && nat_lt since i.due) (writes i.ops) 0) js j

submit_covered : (start : Start) (terms : TaskTerms) (rate span gap owed : ℕ) (past : Log) (caller task release due : ℕ) (ops : List Op) (t : ℕ) → AreTrueAccounts start past
    → task < length start.plan.caps → writes ops ≤ balance_of start past task → now past < due → IsCovered start terms rate span gap owed past t
    → IsCovered start terms rate span gap owed (entry caller (events.Submit task release due ops) (reply_if_accepted start past (events.Submit task release due ops)) ∷ past) t
submit_covered start terms rate span gap owed past caller task release due ops t h within has later s =
    let q : ℕ = terms.collect_period in
    let log : Log = entry caller (events.Submit task release due ops) (reply_if_accepted start past (events.Submit task release due ops)) ∷ past in
    let a : Accounts = accounts start past in
    let b : task < length a.balances = omega (arith, h.agree.balances_len, within) in
    let j : Job = job_of past task release due ops in
    let same : collections_of (jobs past ++ j ∷ []) t ≡ collections_of (jobs past) t = same_collections past task release due ops t in
    let pend = same_pending start past caller task release due ops t in
    let more = owed_push t s.since (jobs past) j in
    record {
      since = s.since;
      ago = s.ago;
      lacked = s.lacked;
      by_now = s.by_now;
      from_start = s.from_start;
      covered = subst (λ (count : ℕ). span * slice_index start.plan.caps t + rate * q * count + rate * s.ago
          ≤ span * balance_of start log t + span * (owed_after t s.since (jobs past ++ j ∷ []) + s.lacked) + rate * (s.since + q)
          + rate * q * pending_at start.plan log t) (sym same)
          (subst (λ (p : ℕ). span * slice_index start.plan.caps t + rate * q * collections_of (jobs past) t + rate * s.ago
          ≤ span * balance_of start log t + span * (owed_after t s.since (jobs past ++ j ∷ []) + s.lacked) + rate * (s.since + q)
          + rate * q * p) (sym pend)
          (elim (cases_eq t task) [
            | inl e ↦
                let own = own_owed task s.since due (writes ops) (omega (arith, s.by_now, later)) in
                taken span rate q s.ago (slice_index start.plan.caps t) (balance_of start past t) (balance_of start log t) (writes ops)
                (owed_after t s.since (jobs past) + s.lacked) (owed_after t s.since (jobs past ++ j ∷ []) + s.lacked) (collections_of (jobs past) t) s.since
                (pending_at start.plan past t) s.covered
                (omega (arith, taken_at a.balances task (writes ops) t b has, ap (at_itself_of task (writes ops)) e, at_itself task (writes ops)))
                (omega (arith, more, own, ap (λ (i : ℕ). cond ((true && (task == i)) && nat_lt s.since due) (writes ops) 0) e))
            | inr apart ↦
                let none = other_owed task t s.since due (writes ops) apart in
                taken span rate q s.ago (slice_index start.plan.caps t) (balance_of start past t) (balance_of start log t) 0
                (owed_after t s.since (jobs past) + s.lacked) (owed_after t s.since (jobs past ++ j ∷ []) + s.lacked) (collections_of (jobs past) t) s.since
                (pending_at start.plan past t) s.covered
                (omega (arith, taken_at a.balances task (writes ops) t b has, at_other task (writes ops) t apart))
                (omega (arith, more, none))
          ]));
    }
  where
    at_itself_of : ℕ → ℕ → ℕ → ℕ
    at_itself_of task n t = cond (task == t) n 0

-- A collection

abbrev collection_of : Log → ℕ → ℕ → ℕ → Job
collection_of past task release due = record {
  number = length (jobs past);
  collects = true;
  task = task;
  release = release;
  due = due;
  ops = [];
}

zero_apart : (k : ℕ) → 0 < k → (0 == k) ≡ false
zero_apart k h = grind (arith, nat_tests)

-- a collection that was just taken is neither done nor waived
new_pending : (start : Start) (past : Log) (task release due : ℕ) → IsExact start past → 0 < start.plan.shape.erase_slots
    → is_pending start.plan (λ n. acts n past) (is_waived past) (collection_of past task release due) ≡ true
new_pending start past task release due exact some =
    ap (λ (l : List Act). not (are_all start.plan (collection_of past task release due) l) && not (is_waived past (length (jobs past))))
    (no_acts start past exact)
    ∙ (ap (λ (b : Bool). not b && not (is_waived past (length (jobs past)))) (zero_apart start.plan.shape.erase_slots some)
    ∙ ap (λ (b : Bool). not b) (not_waived start past exact))

with_true : (b : Bool) → one_if (b && true) ≡ one_if b
with_true true = refl
with_true false = refl

collect_covered : (start : Start) (terms : TaskTerms) (rate span gap owed : ℕ) (past : Log) (caller task release due : ℕ) (t : ℕ) → IsExact start past → 0
    < start.plan.shape.erase_slots → IsCovered start terms rate span gap owed past t
    → IsCovered start terms rate span gap owed (entry caller (events.Collect task release due) (reply_if_accepted start past (events.Collect task release due)) ∷ past) t
collect_covered start terms rate span gap owed past caller task release due t exact some s =
    let q : ℕ = terms.collect_period in
    let log : Log = entry caller (events.Collect task release due) (reply_if_accepted start past (events.Collect task release due)) ∷ past in
    let j : Job = collection_of past task release due in
    let count : collections_of (jobs past ++ j ∷ []) t ≡ collections_of (jobs past) t + one_if (task == t) = sum_by_push
    (λ i. one_if (i.collects && (i.task == t))) (jobs past) j in
    let pend : pending_at start.plan log t ≡ pending_at start.plan past t + one_if (task == t) =
    sum_by_push (λ i. one_if ((i.task == t) && is_pending start.plan (λ n. acts n past) (is_waived past) i)) (jobs past) j
    ∙ (ap (λ (b : Bool). pending_at start.plan past t + one_if ((task == t) && b)) (new_pending start past task release due exact some)
    ∙ ap (λ (n : ℕ). pending_at start.plan past t + n) (with_true (task == t))) in
    let owed : owed_after t s.since (jobs past ++ j ∷ []) ≡ owed_after t s.since (jobs past) = omega (arith, owed_push t s.since (jobs past) j) in
    record {
      since = s.since;
      ago = s.ago;
      lacked = s.lacked;
      by_now = s.by_now;
      from_start = s.from_start;
      covered = subst (λ (m : ℕ). span * slice_index start.plan.caps t + rate * q * collections_of (jobs past ++ j ∷ []) t + rate * s.ago
          ≤ span * balance_of start past t + span * (m + s.lacked) + rate * (s.since + q) + rate * q * pending_at start.plan log t) (sym owed)
          (by_task (task == t) count pend);
    }
  where
    by_task : (b : Bool)
        → collections_of (jobs past ++ collection_of past task release due ∷ []) t ≡ collections_of (jobs past) t + one_if b
        → pending_at start.plan (entry caller (events.Collect task release due) (reply_if_accepted start past (events.Collect task release due)) ∷ past) t
        ≡ pending_at start.plan past t + one_if b
        → span * slice_index start.plan.caps t
        + rate * terms.collect_period * collections_of (jobs past ++ collection_of past task release due ∷ []) t
        + rate * s.ago ≤ span * balance_of start past t + span * (owed_after t s.since (jobs past) + s.lacked)
        + rate * (s.since + terms.collect_period) + rate * terms.collect_period * pending_at start.plan
        (entry caller (events.Collect task release due) (reply_if_accepted start past (events.Collect task release due)) ∷ past) t
    by_task true count pend =
        rw count (opened span rate terms.collect_period s.ago (slice_index start.plan.caps t) (balance_of start past t)
        (owed_after t s.since (jobs past) + s.lacked)
        (collections_of (jobs past) t) s.since (pending_at start.plan past t) _ s.covered (omega (arith, pend)))
    by_task false count pend =
        let same : collections_of (jobs past ++ collection_of past task release due ∷ []) t
        ≡ collections_of (jobs past) t = omega (arith, count) in
        rw same (kept span rate terms.collect_period s.ago (slice_index start.plan.caps t) (balance_of start past t) (balance_of start past t)
        (owed_after t s.since (jobs past) + s.lacked) (collections_of (jobs past) t) s.since (pending_at start.plan past t) _ s.covered (omega arith)
        (omega (arith, pend)))

-- A slot

slot_covered : (start : Start) (terms : TaskTerms) (rate span gap owed : ℕ) (past : Log) (caller : ℕ) (t : ℕ) → AreTrueAccounts start past → CellsServe start past
    → rate * terms.collect_period ≤ span * start.plan.alpha → terms.collect_period * collections_of (jobs past) t ≤ now past + terms.collect_period → hold_of start past t ≤ owed_after t (now past) (jobs past)
    → IsCovered start terms rate span gap owed past t → IsCovered start terms rate span gap owed (entry caller events.Slot (reply_if_accepted start past events.Slot) ∷ past) t
slot_covered start terms rate span gap owed past caller t h c share few held s =
    let q : ℕ = terms.collect_period in
    let log : Log = entry caller events.Slot (reply_if_accepted start past events.Slot) ∷ past in
    let l = slot_leaves start past caller t h c in
    let later : now log ≡ now past + 1 = length_push (carried_slots past)
    (slot_reply start past (choice start past).waived (choice start past).head).ran in
    let one : pending_at start.plan past t ≤ 1 = h.one_each t in
    elim (cases_lt (pending_at start.plan log t) (pending_at start.plan past t)) [
      | inl closed ↦
          let g = l.gains (omega (arith, closed)) (omega (arith, closed, one)) in
          elim g.gain [
            | inl more ↦ record {
              since = s.since;
              ago = s.ago;
              lacked = s.lacked;
              by_now = omega (arith, s.by_now, later);
              from_start = s.from_start;
              covered = given span rate q start.plan.alpha s.ago (slice_index start.plan.caps t) (balance_of start past t) (balance_of start log t)
                  (owed_after t s.since (jobs past) + s.lacked) (collections_of (jobs past) t) s.since (pending_at start.plan past t)
                  (pending_at start.plan log t) s.covered more one share;
            }
            | inr full ↦ record {
              since = now past;
              ago = 0;
              lacked = 0;
              by_now = omega (arith, later);
              from_start = inl (refl, refl);
              covered = filled span rate q (slice_index start.plan.caps t) (balance_of start log t) (hold_of start past t)
                  (owed_after t (now past) (jobs past) + 0) (collections_of (jobs past) t) (now past) (pending_at start.plan log t) full
                  (omega (arith, held)) few;
            }
          ]
      | inr unclosed ↦ record {
        since = s.since;
        ago = s.ago;
        lacked = s.lacked;
        by_now = omega (arith, s.by_now, later);
        from_start = s.from_start;
        covered = kept span rate q s.ago (slice_index start.plan.caps t) (balance_of start past t) (balance_of start log t)
            (owed_after t s.since (jobs past) + s.lacked) (collections_of (jobs past) t) s.since (pending_at start.plan past t)
            (pending_at start.plan log t) s.covered l.rises.balance unclosed;
      }
    ]

-- Along the log

-- what a task lacks at the start
abbrev pub Lacks : Start → TaskTerms → ℕ → ℕ → ℕ → ℕ → ℕ → Type 0
Lacks start terms task rate span gap owed =
    span * slice_index start.plan.caps task + rate * gap
    ≤ span * (slice_index start.accounts.balances task + owed) + rate * terms.collect_period

at_start : (start : Start) (terms : TaskTerms) (task rate span gap owed : ℕ) → Lacks start terms task rate span gap owed
    → IsCovered start terms rate span gap owed [] task
at_start start terms task rate span gap owed lacks = record {
  since = 0;
  ago = gap;
  lacked = owed;
  by_now = omega arith;
  from_start = inr (refl, refl, refl);
  covered = started span rate terms.collect_period gap owed (slice_index start.plan.caps task)
      (slice_index start.accounts.balances task) lacks;
}

-- for any share that the collections of the task give at least
pub covered : (start : Start) (terms : Terms) (t : ℕ) → t < length start.plan.caps
    → (rate span : ℕ) → rate * (terms_of terms t).collect_period ≤ span * start.plan.alpha
    → (gap owed : ℕ) → Lacks start (terms_of terms t) t rate span gap owed
    → IsOpening start → PassesDemand start.plan terms → (log : Log) → IsExact start log → (rest : List Event)
    → KeepsDemandPlan start.plan terms (events_of_log log ++ rest) → IsCovered start (terms_of terms t) rate span gap owed log t
covered start terms t lt rate span share gap owed lacks bound passes =
    exact_induction start Q (λ rest keeps. at_start start (terms_of terms t) t rate span gap owed lacks) step
  where
    Q : Log → Type 0
    Q log = (rest : List Event) → KeepsDemandPlan start.plan terms (events_of_log log ++ rest)
        → IsCovered start (terms_of terms t) rate span gap owed log t

    step : (past : Log) (caller : ℕ) (event : Event) → IsExact start past → Q past
        → AllByRecursion (λ c. c.0 ≡ false) (refusals start past event) → Q (entry caller event (reply_if_accepted start past event) ∷ past)
    step past caller (events.Submit task release due ops) exact ih none rest keeps =
        let event : Event = events.Submit task release due ops in
        let k = one_further start.plan terms past event rest keeps in
        let f = follows start terms past exact (event ∷ rest) k in
        let n = next_job start.plan terms (events_of_log past) rest task release due ops k in
        let limits = task_terms start.plan terms task passes.has n.task in
        let has : writes ops ≤ balance start past task = ltb-false (balance start past task) (writes ops) none.1.1.1.1.1.1.1.0 in
        submit_covered start (terms_of terms t) rate span gap owed past caller task release due ops t
        (stands_well start bound past exact).1.true_accounts n.task has
        (omega (arith, n.comes, n.due, limits.some_deadline, f.clock)) (ih (event ∷ rest) k)
    step past caller (events.Collect task release due) exact ih none rest keeps =
        let event : Event = events.Collect task release due in
        collect_covered start (terms_of terms t) rate span gap owed past caller task release due t exact (has_slots start.plan bound.bound)
        (ih (event ∷ rest) (one_further start.plan terms past event rest keeps))
    step past caller events.Slot exact ih none rest keeps =
        let k = one_further start.plan terms past events.Slot rest keeps in
        let both = stands_well start bound past exact in
        let serve = well_served start past bound both in
        slot_covered start (terms_of terms t) rate span gap owed past caller t both.1.true_accounts serve share
        (few_collections start.plan terms past t (follows start terms past exact (events.Slot ∷ rest) k) lt)
        (held_within start past t both.1.true_accounts lt serve.numbered (waives_collections start bound past exact)
        (never_late start terms bound passes past exact (events.Slot ∷ rest) k))
        (ih (events.Slot ∷ rest) k)

turned : (a b c : ℕ) → a * (b * c) ≡ b * (a * c)
turned a b c = grind arith

-- what the collections of a task give is a share that they give
pub own_share : (alpha q : ℕ) → alpha * q ≤ q * alpha
own_share alpha q = omega (arith, same)
  where
    same : alpha * q ≡ q * alpha
    same = grind arith

-- so the balance of a task covers its next job
pub covers_next : (start : Start) (terms : Terms) → IsOpening start → PassesDemand start.plan terms → PassesSupply start.plan terms
    → (past : Log) (rest : List Event) (task release due : ℕ) (ops : List Op) → IsExact start past
    → KeepsDemandPlan start.plan terms (events_of_log past ++ events.Submit task release due ops ∷ rest)
    → AreStockedFor start terms (events_of_log past ++ events.Submit task release due ops ∷ rest) → writes ops ≤ balance_of start past task
covers_next start terms bound passes supply past rest task release due ops exact keeps stocked =
    let event : Event = events.Submit task release due ops in
    let t : TaskTerms = terms_of terms task in
    let n = next_job start.plan terms (events_of_log past) rest task release due ops keeps in
    let f = follows start terms past exact (event ∷ rest) keeps in
    let limits = task_terms start.plan terms task passes.has n.task in
    let s = task_sustained start.plan terms task supply n.task in
    let in_time : IsInTime start.plan past = never_late start terms bound passes past exact (event ∷ rest) keeps in
    let one : pending_at start.plan past task ≤ 1 = (stands_well start bound past exact).1.true_accounts.one_each task in
    let k = stocked task n.task in
    let h = covered start terms task n.task start.plan.alpha t.collect_period (own_share start.plan.alpha t.collect_period) k.gap k.owed
    k.stocked bound passes past exact (event ∷ rest) keeps in
    let closed = closed_by start.plan terms past task passes.has f n.task (keeps_limits start past exact).slots in_time one in
    enough t.period t.collect_period t.writes start.plan.alpha t.held h.ago (slice_index start.plan.caps task)
    (balance_of start past task) (owed_after task h.since (jobs past) + h.lacked) (writes ops) (collections_of (jobs past) task) h.since
    (now past - h.since) (pending_at start.plan past task) h.covered (omega (arith, closed, h.by_now))
    (by_case t k.gap k.owed past task ops h
    (written_before task (now past + 1) (arrivals 0 (events_of_log past ++ event ∷ rest)))
    (owed_since start.plan terms past rest task release due ops f keeps n.task limits h.since h.by_now)
    (owed_at_all start.plan terms past rest task release due ops f keeps n.task limits h.since h.by_now) (k.coming (now past)) h.from_start)
    s.regained s.stocked (omega (arith, limits.some_period)) (omega (arith, limits.some_collect_period))
  where
    -- what was lacked at the start counts only where all slots do
    by_case : (t : TaskTerms) (gap owed : ℕ) (past : Log) (task : ℕ) (ops : List Op) (h : IsCovered start t start.plan.alpha t.collect_period gap owed past task) (written : ℕ)
        → owed_after task h.since (jobs past) + writes ops ≤ t.writes * periods_for t.period (now past - h.since + t.held)
        → owed_after task h.since (jobs past) + writes ops ≤ written
        → t.period * (owed + written) ≤ t.writes * (gap + t.held + now past + t.period)
        → ((h.ago ≡ 0) × (h.lacked ≡ 0)) ⊎ ((h.since ≡ 0) × (h.ago ≡ gap) × (h.lacked ≡ owed))
        → t.period * ((owed_after task h.since (jobs past) + h.lacked) + writes ops)
        ≤ t.writes * ((now past - h.since) + h.ago + t.held + t.period)
    by_case t gap owed past task ops h written few most coming (inl none) =
        let all : (owed_after task h.since (jobs past) + h.lacked) + writes ops
        ≤ t.writes * periods_for t.period (now past - h.since + t.held) = omega (arith, few, none.1) in
        let scaled : t.period * ((owed_after task h.since (jobs past) + h.lacked) + writes ops)
        ≤ t.period * (t.writes * periods_for t.period (now past - h.since + t.held)) = mul-le-mul_left t.period all in
        let whole : t.writes * (t.period * periods_for t.period (now past - h.since + t.held))
        ≤ t.writes * ((now past - h.since + t.held) + t.period) = mul-le-mul_left t.writes (by_a_period t.period (now past - h.since + t.held)) in
        let same : (now past - h.since + t.held) + t.period ≡ (now past - h.since) + h.ago + t.held + t.period = omega (arith, none.0) in
        omega (
          arith,
          scaled,
          whole,
          turned t.period t.writes (periods_for t.period (now past - h.since + t.held)),
          ap (λ (n : ℕ). t.writes * n) same,
        )
    by_case t gap owed past task ops h written few most coming (inr start_on) =
        let all : (owed_after task h.since (jobs past) + h.lacked) + writes ops ≤ owed + written = omega (arith, most, start_on.2) in
        let same : gap + t.held + now past + t.period
        ≡ (now past - h.since) + h.ago + t.held + t.period = omega (arith, start_on.0, start_on.1) in
        omega (arith, mul-le-mul_left t.period all, coming, ap (λ (n : ℕ). t.writes * n) same)

-- A start that is stocked is so for any events that keep the plan
pub stocked_for : (start : Start) (terms : Terms) (all : List Event) → KeepsDemandPlan start.plan terms all → AreStocked start terms
    → AreStockedFor start terms all
stocked_for start terms all keeps stocked task lt =
    let t : TaskTerms = terms_of terms task in
    let limits = task_terms start.plan terms task keeps.has lt in
    let cap : ℕ = slice_index start.plan.caps task in
    let bal : ℕ = slice_index start.accounts.balances task in
    let lacked : ℕ = cap - (bal + start.plan.alpha) in
    let few = lacks_few t.period t.writes t.held start.plan.alpha cap bal (stocked task lt) in
    record {
      gap = 0;
      owed = lacked;
      stocked = start_lacks t.collect_period start.plan.alpha cap bal;
      coming = λ slot.
          let n : ℕ = periods_for t.period slot in
          let written : written_before task (slot + 1) (arrivals 0 all) ≤ t.writes * n =
          in_first terms all keeps task lt slot n (omega (arith, reach_beyond t.period slot limits.some_period)) in
          let scaled : t.period * written_before task (slot + 1) (arrivals 0 all) ≤ t.period * (t.writes * n) = mul-le-mul_left t.period written in
          let whole : t.writes * (t.period * n) ≤ t.writes * (slot + t.period) = mul-le-mul_left t.writes (by_a_period t.period slot) in
          omega (
            arith,
            few,
            scaled,
            whole,
            times_sum t.period lacked (written_before task (slot + 1) (arrivals 0 all)),
            turned t.period t.writes n,
            parts t.writes t.held slot t.period,
          );
    }
  where
    times_sum : (k a b : ℕ) → k * (a + b) ≡ k * a + k * b
    times_sum k a b = grind arith

    parts : (w held slot p : ℕ) → w * (0 + held + slot + p) ≡ w * held + w * (slot + p)
    parts w held slot p = grind arith

    in_first : (terms : Terms) (all : List Event) → KeepsDemandPlan start.plan terms all → (task : ℕ) → task < length start.plan.caps
        → (slot n : ℕ) → slot < n * (terms_of terms task).period
        → written_before task (slot + 1) (arrivals 0 all) ≤ (terms_of terms task).writes * n
    in_first terms all keeps task lt slot n reached = written_in_periods start.plan terms task (arrivals 0 all)
        (λ first. keeps.few_writes task first lt) slot n reached
