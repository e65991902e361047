-- The log of a die that keeps its plan itself: what it takes next isn't refused, and keeps the plan.
use Rattle.std.proofs.Common.{◌≡◌, ℕ, zero, suc, ◌+◌, ◌-◌, ◌*◌, ◌<◌, ◌≤◌, nat_lt, add-one, Bool, true, false}
use Rattle.std.proofs.Common.{cond, List, [], ◌∷◌, ◌++◌}
use Rattle.std.proofs.Common.{length, drop, map, sum_by, get_or, slice_index, None, refl, ap, sym, subst, ◌∙◌, inl}
use Rattle.std.proofs.Common.{inr, arith, append_assoc}
use Rattle.std.specs.List.{AllByRecursion}
use Rattle.std.proofs.Math.Nat.{mul-le-mul_left}
use Rattle.std.proofs.Math.Seq.{drop-cons}
use Rattle.std.proofs.Math.ListN.{drop_of_length-le}
use Rattle.std.proofs.lemmas.Bool.{cases_Bool, eqb-true, lt-ltb, ltb-true}
use Rattle.std.proofs.lemmas.List.{length_push, append-nil, get_or-drop, length-drop}
use Rattle.std.proofs.lemmas.List.Sums.{sum_by-cons, sum_by-append}
use Rattle.std.proofs.lemmas.List.Elements.{recursion_from_All, All-from_recursion}
use Rattle.slot_types.specs.declared.events.Op.{Op}
use Rattle.slot_types.specs.declared.events.Event.{Event}
use Rattle.slot_types.specs.declared.events.Event.TheVariants as events
use Rattle.slot_types.specs.declared.replies.Reply.TheVariants as replies
use Rattle.slot_types.specs.declared.replies.SlotReply.{SlotReply}
use Rattle.slot_types.specs.Operations.{page_of, writes}
use Rattle.plan_rules.specs.Keeping.{TaskArrival, arrivals, slots}
use Rattle.plan_rules.proofs.Moments.{slots_append, arrivals_append, arrivals_after}
use Rattle.demand_rules.specs.declared.terms.TaskTerms.{TaskTerms}
use Rattle.demand_rules.specs.declared.terms.Terms.{Terms}
use Rattle.demand_rules.specs.Demand.{terms_of, IsTaskTerms, PassesDemand}
use Rattle.demand_rules.specs.Keeping.{IsDemandedJob, KeepsDemandPlan, comes_in}
use Rattle.demand_rules.proofs.Fitting.{task_terms}
use Rattle.die_log.specs.Model.Log.{Log, jobs, now, carried_slots}
use Rattle.die_log.specs.Model.Start.{Start}
use Rattle.die_log.specs.Model.Lives.{Lives, all_slots}
use Rattle.die_log.specs.Model.Opening.{IsQuiet, renewed_start}
use Rattle.die_log.specs.Model.Answers.{refusal_of, reply_if_accepted, with_answer, after_call, choice, slot_reply, IsExact}
use Rattle.die_log.specs.Results.InTime.{IsInTime, events_of_log}
use Rattle.die_log.proofs.Renewal.{renewed_opens}
use Rattle.die_log.proofs.Legality.{entry, accepted_answer}
use Rattle.die_log.proofs.Runs.{call_exact}
use Rattle.die_log.specs.Results.Covered.{AreStockedFor}
use Rattle.die_log.specs.Results.DemandedLives.{at_later, AreStockedAfter, AreFull}
use Rattle.die_log.proofs.Supply.Following.{follows, of_job}
use Rattle.die_log.proofs.Supply.Accepted.{unrefused}
use Rattle.die_log.proofs.Supply.Covering.{never_late}
use Rattle.die_log.proofs.Restocking.{goes_on, stocked_for_next}
use Rattle.die_log.proofs.Supply.Owing.{come_by}
use Rattle.planned_log.specs.Asks.{asked_job, ask_refusal, asked_by}
use Rattle.planned_log.specs.Lives.{IsLife, all_came, IsWithinLife, most_arrivals, weight_of, came_in}
use Rattle.planned_log.specs.KeptLogs.{comes_at, left_of_slot, left_of, KeepsSoFar, own_collection, amount_in, AskForFew}
use Rattle.planned_log.specs.Laws.{IsKept, StartsFull}
use Rattle.planned_log.proofs.Counts.{weight, few_weights}
use Rattle.planned_log.proofs.Lefts.{AreTermsFrom, no_jobs, left_planned}
use Rattle.planned_log.proofs.Asking.{IsTimelyAsk, timely_ask, all_joined, all_as, sum_mapped, prompt, joined_is}
use Rattle.planned_log.proofs.Asking.{released_within, coming_within}
use Rattle.planned_log.proofs.Asking.{came_is, came_by, few_more}
use Rattle.planned_log.proofs.Steps.{operations_at, writes_at, with_job, with_slot}

-- The terms of the tasks, and what is left of a slot

terms_are : (terms : Terms) → AreTermsFrom terms 0 terms.tasks
terms_are terms k d lt = get_or-any terms.tasks (0 + k) k _ d (omega arith) lt
  where
    get_or-any : {X : Type 0} (xs : List X) (i k : ℕ) (d e : X) → i ≡ k → k < length xs → get_or xs i d ≡ get_or xs k e
    get_or-any xs i k d e same lt = ap (λ n. get_or xs n d) same ∙ within xs k d e lt
      where
        within : {X : Type 0} (xs : List X) (k : ℕ) (d e : X) → k < length xs → get_or xs k d ≡ get_or xs k e
        within [] k d e lt = absurd (omega (arith, lt))
        within (x ∷ xs) zero d e lt = refl
        within (x ∷ xs) (suc k) d e lt = within xs k d e (omega (arith, lt))

module _ (terms : Terms) (life : ℕ) where
  abbrev pub left_at : ℕ → ℕ → List Event
  left_at entered slot = left_of terms life entered slot

  terms_from : (entered : ℕ) → entered < length terms.tasks → drop entered terms.tasks ≡ terms_of terms entered ∷ drop (entered + 1) terms.tasks
  terms_from entered lt = rw add-one (drop-cons terms.tasks entered _ lt)

  left_within : (entered slot : ℕ) → slot < life → left_at entered slot ≡ left_of_slot terms entered slot
  left_within entered slot lt = rw (lt-ltb slot life lt) refl

  next_left : (entered slot : ℕ) → entered < length terms.tasks → slot < life → comes_at (terms_of terms entered).collect_period slot ≡ true
      → left_at entered slot ≡ events.Collect entered slot (slot + (terms_of terms entered).collect_deadline) ∷ left_at (entered + 1) slot
  next_left entered slot lt before due = rw (lt-ltb slot life before) (rw (terms_from entered lt) (rw due refl))

  none_left : (entered slot : ℕ) → entered < length terms.tasks → comes_at (terms_of terms entered).collect_period slot ≡ false
      → left_at entered slot ≡ left_at (entered + 1) slot
  none_left entered slot lt not_due = rw (terms_from entered lt) (rw not_due refl)

  no_jobs_left : (weight : TaskArrival → ℕ) → ((a : TaskArrival) → a.collects ≡ true → weight a ≡ 0) → (at entered slot : ℕ)
      → sum_by weight (arrivals at (left_at entered slot)) ≡ 0
  no_jobs_left weight none at entered slot = elim (cases_Bool (nat_lt slot life)) [
    | inl before ↦ rw before (no_jobs weight none at entered slot (drop entered terms.tasks))
    | inr ended ↦ rw ended refl
  ]

-- What a log needs to be stocked for what is left

-- a log whose tasks ask for few is stocked for its own events and those after it that aren't jobs
stocked : (start : Start) (terms : Terms) (earlier : Lives) (life entered : ℕ) (log : Log) → IsKept start terms earlier life entered log
    → (next : Log) (rest : List Event) → KeepsDemandPlan start.plan terms (events_of_log next ++ rest)
    → AskForFew start.plan terms (next ∷ earlier) → AllByRecursion (IsWithinLife life) (arrivals 0 (events_of_log next))
    → ((weight : TaskArrival → ℕ) → ((a : TaskArrival) → a.collects ≡ true → weight a ≡ 0)
    → sum_by weight (arrivals (slots (events_of_log next)) rest) ≡ 0)
    → AreStockedFor start terms (events_of_log next ++ rest)
stocked start terms earlier life entered log k next rest keeps few each none =
    stocked_for_next start terms (all_came earlier) (all_slots earlier) (events_of_log next ++ rest) keeps (came_by life earlier k.lived)
    (λ task slot lt.
    let first : ℕ = all_slots earlier in
    let end : ℕ = slot + (terms_of terms task).period in
    let weigh : TaskArrival → ℕ = λ a. cond (comes_in task slot end a) (writes a.ops) 0 in
    let own : List TaskArrival = arrivals 0 (events_of_log next) in
    let more : List TaskArrival = arrivals (slots (events_of_log next)) rest in
    omega (
      arith,
      sum_by-append weigh (all_came earlier) (map (at_later first) (arrivals 0 (events_of_log next ++ rest))),
      sum_mapped weigh (at_later first) (arrivals 0 (events_of_log next ++ rest)),
      ap (λ (l : List TaskArrival). sum_by (λ a. weigh (at_later first a)) l) (arrivals_after (events_of_log next) rest),
      sum_by-append (λ a. weigh (at_later first a)) own more,
      none (λ a. weigh (at_later first a)) (λ a is. weightless task slot end first a is),
      joined_is task first writes (λ a. a.writes) (λ n ops. refl) slot end (asked_by task earlier) next (prompt life own each),
      came_is life task slot end earlier k.lived,
      few.writes task slot lt,
    ))
    k.stocked
  where
    weightless : (task slot end first : ℕ) (a : TaskArrival) → a.collects ≡ true → cond (comes_in task slot end (at_later first a)) (writes a.ops) 0 ≡ 0
    weightless task slot end first a is = rw is refl

-- What is left of the next slot

module _ (start : Start) (terms : Terms) (life : ℕ) (demand : PassesDemand start.plan terms) (is_life : IsLife start.plan terms life) where
  keeps_next : (xs : List Event) (next : ℕ) → next ≡ slots xs → KeepsDemandPlan start.plan terms xs
      → AllByRecursion (IsWithinLife life) (arrivals 0 xs) → AllByRecursion (λ a. a.at < next) (arrivals 0 xs)
      → KeepsDemandPlan start.plan terms (xs ++ left_at terms life 0 next)
  keeps_next xs next clock keeps each past = by_end (nat_lt next life) refl
    where
      by_end : (b : Bool) → nat_lt next life ≡ b → KeepsDemandPlan start.plan terms (xs ++ cond b (left_of_slot terms 0 next) [])
      by_end true e = with_slot start.plan terms life demand.has is_life xs next 0 terms.tasks clock (ltb-true next life e) refl (terms_are terms)
          demand.has.one_each keeps each past
      by_end false e = subst (KeepsDemandPlan start.plan terms) (sym (append-nil xs)) keeps

  keeps_none : KeepsDemandPlan start.plan terms []
  keeps_none = record {
    has = demand.has;
    few_slots = omega arith;
    few_arrivals = omega arith;
    planned = All-from_recursion _ [] tt;
    few_operations = λ task slot lt. omega arith;
    few_writes = λ task slot lt. omega arith;
    collected = λ task slot lt is. absurd (omega (arith, is.before_end));
  }

  start_kept : KeepsSoFar start.plan terms life 0 []
  start_kept = record {
    keeps = keeps_next [] 0 refl keeps_none tt tt;
    within = omega arith;
    few_entered = omega arith;
    each = All-from_recursion (IsWithinLife life) [] tt;
  }

-- what came by a log weighs as its jobs and collections do
came_weighs : (log : Log) → came_in log ≡ sum_by weight (arrivals 0 (events_of_log log))
came_weighs [] = refl
came_weighs (e ∷ past) = omega (
  arith,
  ap (λ (l : List TaskArrival). sum_by weight l) (arrivals_after (events_of_log past) (e.event ∷ [])),
  sum_by-append weight (arrivals 0 (events_of_log past)) (arrivals (slots (events_of_log past)) (e.event ∷ [])),
  one (slots (events_of_log past)) e.event,
  came_weighs past,
)
  where
    one : (at : ℕ) (event : Event) → sum_by weight (arrivals at (event ∷ [])) ≡ weight_of event
    one at (events.Submit task release due ops) =
        omega (arith, sum_by-cons weight (record { at = at; collects = false; task = task; release = release; due = due; ops = ops }) [])
    one at (events.Collect task release due) =
        omega (arith, sum_by-cons weight (record { at = at; collects = true; task = task; release = release; due = due; ops = [] }) [])
    one at events.Slot = refl

module _ (start : Start) (terms : Terms) (earlier : Lives) (life entered : ℕ) (log : Log) (k : IsKept start terms earlier life entered log) where
  abbrev xs : List Event
  xs = events_of_log log

  clock : now log ≡ slots xs
  clock = sym (follows start terms log k.exact (left_at terms life entered (now log)) k.kept.keeps).clock

  pub clock_is : now log ≡ slots xs
  clock_is = clock

  each : AllByRecursion (IsWithinLife life) (arrivals 0 xs)
  each = recursion_from_All (IsWithinLife life) (arrivals 0 xs) k.kept.each

  own_terms : (task : ℕ) → task < length start.plan.caps → IsTaskTerms (terms_of terms task)
  own_terms task lt = task_terms start.plan terms task k.demand.has lt

  -- what is left of the slot is due by the end of the life
  each_left : now log < life → AllByRecursion (IsWithinLife life) (arrivals (now log) (left_of_slot terms entered (now log)))
  each_left before = (left_planned start.plan terms life k.is_life (now log + 1) (now log) entered (drop entered terms.tasks) (omega arith) before
      (omega (arith, rest_length, k.kept.few_entered, k.demand.has.one_each)) (λ i d lt.
      ap (terms_of terms) (no_more (entered + i)) ∙ (terms_are terms (entered + i) d (omega (arith, lt, rest_length))
      ∙ sym (get_or-drop entered terms.tasks i d)))).1
    where
      no_more : (n : ℕ) → n ≡ 0 + n
      no_more n = omega arith

      rest_length : length (drop entered terms.tasks) ≡ length terms.tasks - entered
      rest_length = length-drop entered terms.tasks

  -- What came

  -- with what is left of the slot, it is due by the end of the life
  due_all : AllByRecursion (λ a. a.due ≤ life) (arrivals 0 (xs ++ left_at terms life entered (now log)))
  due_all = all_as (IsWithinLife life) (λ a. a.due ≤ life) (λ a h. h.due) (arrivals 0 (xs ++ left_at terms life entered (now log)))
      (subst (AllByRecursion (IsWithinLife life)) (sym (arrivals_append 0 (now log) xs (left_at terms life entered (now log)) (omega (arith, clock))))
      (all_joined (IsWithinLife life) (arrivals 0 xs) (arrivals (now log) (left_at terms life entered (now log))) each left_due))
    where
      by_end : (b : Bool) → nat_lt (now log) life ≡ b
          → AllByRecursion (IsWithinLife life) (arrivals (now log) (cond b (left_of_slot terms entered (now log)) []))
      by_end true e = each_left (ltb-true (now log) life e)
      by_end false e = tt

      left_due : AllByRecursion (IsWithinLife life) (arrivals (now log) (left_at terms life entered (now log)))
      left_due = by_end (nat_lt (now log) life) refl

  -- no more than a life may have
  pub few_came : came_in log ≤ most_arrivals terms life
  few_came = omega (
    arith,
    came_weighs log,
    sum_by-append weight (arrivals 0 xs) (arrivals (now log) (left_at terms life entered (now log))),
    ap (λ (l : List TaskArrival). sum_by weight l)
        (arrivals_append 0 (now log) xs (left_at terms life entered (now log)) (omega (arith, clock))),
    few_weights start.plan terms (slots (xs ++ left_at terms life entered (now log))) life
        (arrivals 0 (xs ++ left_at terms life entered (now log))) k.demand.has
        (recursion_from_All _ (arrivals 0 (xs ++ left_at terms life entered (now log))) k.kept.keeps.planned) due_all
        k.kept.keeps.few_operations k.kept.keeps.collected,
  )

  -- the same start, and another log
  go_on : (more : ℕ) (next : Log) → IsExact start next → KeepsSoFar start.plan terms life more next → AskForFew start.plan terms (next ∷ earlier)
      → IsKept start terms earlier life more next
  go_on more next exact kept few = record {
    opens = k.opens;
    demand = k.demand;
    supply = k.supply;
    is_life = k.is_life;
    lived = k.lived;
    stocked = k.stocked;
    exact = exact;
    kept = kept;
    few = few;
  }

  none_after : (next : Log) → (at : ℕ) → (weight : TaskArrival → ℕ) → ((a : TaskArrival) → a.collects ≡ true → weight a ≡ 0)
      → sum_by weight (arrivals (slots (events_of_log next)) (left_at terms life entered at)) ≡ 0
  none_after next at weight none = no_jobs_left terms life weight none (slots (events_of_log next)) entered at

  -- the log as it is, for its own events and what is left
  stocked_now : AreStockedFor start terms (xs ++ left_at terms life entered (now log))
  stocked_now = stocked start terms earlier life entered log k log (left_at terms life entered (now log)) k.kept.keeps k.few each
      (none_after log (now log))

  -- Asks

  module _ (task : ℕ) (ops : List Op) (none : ask_refusal start.plan terms life earlier log task ops ≡ None) where
    ask : IsTimelyAsk start.plan terms life (all_slots earlier) (now log) (asked_by task (log ∷ earlier)) task ops
    ask = timely_ask start.plan terms life (all_slots earlier) (now log) (asked_by task (log ∷ earlier)) task ops none

    abbrev due_of_ask : ℕ
    due_of_ask = now log + (terms_of terms task).deadline

    abbrev job : Event
    job = asked_job terms log task ops

    early : now log < life
    early = omega (arith, ask.due, (own_terms task ask.task_is).some_deadline)

    fits : IsDemandedJob start.plan terms (record { at = now log; collects = false; task = task; release = now log; due = due_of_ask; ops = ops })
    fits = record {
      task = ask.task_is;
      comes = omega arith;
      due = omega arith;
      soon = omega (arith, (own_terms task ask.task_is).few_deadline);
      due_limit = omega (arith, ask.due, k.is_life.within);
      some = ask.some;
      few = ask.few;
      pages = All-from_recursion (λ op. page_of op < start.plan.logical) ops ask.pages;
    }

    module _ (caller number : ℕ) where
      abbrev asked_log : Log
      asked_log = entry caller job (replies.Taken number) ∷ log

      few_asked : AskForFew start.plan terms (asked_log ∷ earlier)
      few_asked = record {
        operations = λ t s lt. (few_more start.plan terms life earlier log task ops k.few ask t s lt).0;
        writes = λ t s lt. (few_more start.plan terms life earlier log task ops k.few ask t s lt).1;
      }

      each_asked : AllByRecursion (IsWithinLife life) (arrivals 0 (xs ++ job ∷ []))
      each_asked = subst (AllByRecursion (IsWithinLife life)) (sym (arrivals_append 0 (now log) xs (job ∷ []) (omega (arith, clock))))
          (all_joined (IsWithinLife life) (arrivals 0 xs) (arrivals (now log) (job ∷ [])) each (record { comes = refl; due = ask.due }, tt))

      keeps_asked : KeepsDemandPlan start.plan terms ((xs ++ job ∷ []) ++ left_at terms life entered (now log))
      keeps_asked =
          let left = left_within terms life entered (now log) early in
          subst (λ l. KeepsDemandPlan start.plan terms ((xs ++ job ∷ []) ++ l)) (sym left)
          (with_job start.plan terms life k.demand.has k.is_life xs (now log) entered (drop entered terms.tasks) clock early task ops due_of_ask
          (subst (λ l. KeepsDemandPlan start.plan terms (xs ++ l)) left k.kept.keeps) each
          (each_left early) fits ask.due
          (λ t s lt. within_ops t s lt) (λ t s lt. within_writes t s lt))
        where
          moved : (t s : ℕ) → all_slots earlier + (s + (terms_of terms t).period) ≡ (all_slots earlier + s) + (terms_of terms t).period
          moved t s = omega arith

          within_ops : (t s : ℕ) → t < length start.plan.caps → sum_by (operations_at terms t s) (arrivals 0 (xs ++ job ∷ [])) ≤ (terms_of terms t).work
          within_ops t s lt = omega (
            arith,
            released_within t (all_slots earlier) length (λ a. a.operations) (λ n o. refl) s (s + (terms_of terms t).period)
                (asked_by t earlier) asked_log (prompt life (arrivals 0 (xs ++ job ∷ [])) each_asked),
            ap (λ (e : ℕ). amount_in (λ a. a.operations) (all_slots earlier + s) e (asked_by t (asked_log ∷ earlier))) (moved t s),
            few_asked.operations t (all_slots earlier + s) lt,
          )

          within_writes : (t s : ℕ) → t < length start.plan.caps → sum_by (writes_at terms t s) (arrivals 0 (xs ++ job ∷ [])) ≤ (terms_of terms t).writes
          within_writes t s lt = omega (
            arith,
            coming_within t (all_slots earlier) writes (λ a. a.writes) (λ n o. refl) s (s + (terms_of terms t).period)
                (asked_by t earlier) asked_log (prompt life (arrivals 0 (xs ++ job ∷ [])) each_asked),
            ap (λ (e : ℕ). amount_in (λ a. a.writes) (all_slots earlier + s) e (asked_by t (asked_log ∷ earlier))) (moved t s),
            few_asked.writes t (all_slots earlier + s) lt,
          )

      ask_kept : KeepsSoFar start.plan terms life entered asked_log
      ask_kept = record {
        keeps = keeps_asked;
        within = k.kept.within;
        few_entered = k.kept.few_entered;
        each = All-from_recursion (IsWithinLife life) (arrivals 0 (xs ++ job ∷ [])) each_asked;
      }

    -- an ask that its own task's part of the plan doesn't refuse isn't refused at all
    pub ask_accepted : refusal_of start log (asked_job terms log task ops) ≡ None
    ask_accepted =
        let left : List Event = left_at terms life entered (now log) in
        let joined = append_assoc xs (job ∷ []) left in
        unrefused start terms k.opens k.demand k.supply log job left k.exact
        (subst (KeepsDemandPlan start.plan terms) joined (keeps_asked 0 0))
        (subst (AreStockedFor start terms) joined
        (stocked start terms earlier life entered log k (asked_log 0 0) left (keeps_asked 0 0) (few_asked 0 0) (each_asked 0 0)
        (none_after (asked_log 0 0) (now log))))

  -- Collections

  -- the collection that comes next
  abbrev pub next_collection : Event
  next_collection = own_collection terms log entered

  module _ (lt : entered < length start.plan.caps) (before : now log < life) (due : comes_at (terms_of terms entered).collect_period (now log) ≡ true) where
    in_terms : entered < length terms.tasks
    in_terms = omega (arith, lt, k.demand.has.one_each)

    keeps_collected : KeepsDemandPlan start.plan terms (xs ++ next_collection ∷ left_at terms life (entered + 1) (now log))
    keeps_collected = subst (λ l. KeepsDemandPlan start.plan terms (xs ++ l)) (next_left terms life entered (now log) in_terms before due) k.kept.keeps

    -- the die's own collections aren't refused
    pub collection_accepted : refusal_of start log next_collection ≡ None
    collection_accepted =
        unrefused start terms k.opens k.demand k.supply log next_collection (left_at terms life (entered + 1) (now log)) k.exact keeps_collected
        (subst (λ l. AreStockedFor start terms (xs ++ l)) (next_left terms life entered (now log) in_terms before due) stocked_now)

    collection_kept : (caller number : ℕ) → KeepsSoFar start.plan terms life (entered + 1) (entry caller next_collection (replies.Taken number) ∷ log)
    collection_kept caller number = record {
      keeps = subst (KeepsDemandPlan start.plan terms)
          (sym (append_assoc xs (next_collection ∷ []) (left_at terms life (entered + 1) (now log)))) keeps_collected;
      within = k.kept.within;
      few_entered = omega (arith, lt);
      each = All-from_recursion (IsWithinLife life) (arrivals 0 (xs ++ next_collection ∷ []))
          (subst (AllByRecursion (IsWithinLife life)) (sym (arrivals_append 0 (now log) xs (next_collection ∷ []) (omega (arith, clock))))
          (all_joined (IsWithinLife life) (arrivals 0 xs) (arrivals (now log) (next_collection ∷ [])) each
          (record { comes = refl; due = k.is_life.collected entered (now log) lt before (eqb-true _ 0 due) }, tt)));
    }

  -- a task that has none in the slot is passed over
  passed_kept : entered < length start.plan.caps → comes_at (terms_of terms entered).collect_period (now log) ≡ false
      → KeepsSoFar start.plan terms life (entered + 1) log
  passed_kept lt not_due = record {
    keeps = subst (λ l. KeepsDemandPlan start.plan terms (xs ++ l))
        (none_left terms life entered (now log) (omega (arith, lt, k.demand.has.one_each)) not_due) k.kept.keeps;
    within = k.kept.within;
    few_entered = omega (arith, lt);
    each = k.kept.each;
  }

  -- Slots

  module _ (all : entered ≡ length start.plan.caps) (before : now log < life) where
    slot_left : left_at terms life entered (now log) ≡ events.Slot ∷ []
    slot_left =
        let none : drop entered terms.tasks ≡ [] = drop_of_length-le terms.tasks {i = entered} (omega (arith, all, k.demand.has.one_each)) in
        rw (lt-ltb (now log) life before) (rw none refl)

    keeps_slot : KeepsDemandPlan start.plan terms (xs ++ events.Slot ∷ [])
    keeps_slot = subst (λ l. KeepsDemandPlan start.plan terms (xs ++ l)) slot_left k.kept.keeps

    -- where all collections of the slot have come, it is carried out
    pub slot_accepted : refusal_of start log events.Slot ≡ None
    slot_accepted = unrefused start terms k.opens k.demand k.supply log events.Slot [] k.exact keeps_slot
        (subst (λ l. AreStockedFor start terms (xs ++ l)) slot_left stocked_now)

    slot_kept : (caller : ℕ) (reply : SlotReply) → KeepsSoFar start.plan terms life 0 (entry caller events.Slot (replies.Slot reply) ∷ log)
    slot_kept caller reply = record {
      keeps = keeps_next start terms life k.demand k.is_life (xs ++ events.Slot ∷ []) next next_is keeps_slot each_now past_now;
      within = omega (arith, later, before);
      few_entered = omega arith;
      each = All-from_recursion (IsWithinLife life) (arrivals 0 (xs ++ events.Slot ∷ [])) each_now;
    }
      where
        next : ℕ
        next = now (entry caller events.Slot (replies.Slot reply) ∷ log)

        later : next ≡ now log + 1
        later = length_push (carried_slots log) reply.ran

        next_is : next ≡ slots (xs ++ events.Slot ∷ [])
        next_is = omega (arith, later, clock, slots_append xs (events.Slot ∷ []))

        came_is_same : arrivals 0 (xs ++ events.Slot ∷ []) ≡ arrivals 0 xs
        came_is_same = arrivals_after xs (events.Slot ∷ []) ∙ append-nil (arrivals 0 xs)

        each_now : AllByRecursion (IsWithinLife life) (arrivals 0 (xs ++ events.Slot ∷ []))
        each_now = subst (AllByRecursion (IsWithinLife life)) (sym came_is_same) each

        past_now : AllByRecursion (λ a. a.at < next) (arrivals 0 (xs ++ events.Slot ∷ []))
        past_now = subst (AllByRecursion (λ a. a.at < next)) (sym came_is_same)
            (all_as (λ a. a.at ≤ 0 + slots xs) (λ a. a.at < next) (λ a h. omega (arith, h, later, clock)) (arrivals 0 xs) (come_by 0 xs))

  -- Time

  pub is_in_time : IsInTime start.plan log
  is_in_time = never_late start terms k.opens k.demand log k.exact (left_at terms life entered (now log)) k.kept.keeps

  ends : now log ≡ life → IsQuiet start log
      × AreStockedAfter (renewed_start start log) terms (all_came (log ∷ earlier)) (all_slots earlier + now log)
  ends ended = goes_on start terms (all_came earlier) (all_slots earlier) k.opens k.demand k.stocked log (left_at terms life entered (now log)) k.exact
      k.kept.keeps (record {
        due_by_now = λ j stands.
            let r = of_job (IsWithinLife life) (arrivals 0 xs) (jobs log)
            (follows start terms log k.exact (left_at terms life entered (now log)) k.kept.keeps).came each j stands in
            omega (arith, r.2.due, r.1.due, ended);
        none_left_out = λ task slot lt before multiple. omega (
          arith,
          k.is_life.collected task slot lt (omega (arith, before, ended)) multiple,
          k.is_life.within,
        );
      })

  pub ends_quiet : now log ≡ life → IsQuiet start log
  ends_quiet ended = (ends ended).0

  -- As laws

  -- the log after a call that isn't refused
  pub after_accepted : (caller : ℕ) (event : Event) → refusal_of start log event ≡ None
      → after_call start log (caller, event) ≡ with_answer caller event (reply_if_accepted start log event) log
  after_accepted caller event none = ap (λ r. with_answer caller event r log) (accepted_answer start log event none)

  exact_after : (caller : ℕ) (event : Event) → IsExact start (after_call start log (caller, event))
  exact_after caller event = call_exact start log (caller, event) k.exact

  pub ask_goes_on : (caller task : ℕ) (ops : List Op) → ask_refusal start.plan terms life earlier log task ops ≡ None
      → IsKept start terms earlier life entered (after_call start log (caller, asked_job terms log task ops))
  ask_goes_on caller task ops none =
      let event : Event = asked_job terms log task ops in
      subst (IsKept start terms earlier life entered) (sym (after_accepted caller event (ask_accepted task ops none)))
      (go_on entered _ (subst (IsExact start) (after_accepted caller event (ask_accepted task ops none)) (exact_after caller event))
      (ask_kept task ops none caller (length (jobs log))) (few_asked task ops none caller (length (jobs log))))

  pub collection_goes_on : (caller : ℕ) → entered < length start.plan.caps → now log < life
      → comes_at (terms_of terms entered).collect_period (now log) ≡ true
      → IsKept start terms earlier life (entered + 1) (after_call start log (caller, own_collection terms log entered))
  collection_goes_on caller lt before due =
      subst (IsKept start terms earlier life (entered + 1)) (sym (after_accepted caller next_collection (collection_accepted lt before due)))
      (go_on (entered + 1) _ (subst (IsExact start) (after_accepted caller next_collection (collection_accepted lt before due))
      (exact_after caller next_collection))
      (collection_kept lt before due caller (length (jobs log))) (record { operations = k.few.operations; writes = k.few.writes }))

  pub passed_goes_on : entered < length start.plan.caps → comes_at (terms_of terms entered).collect_period (now log) ≡ false
      → IsKept start terms earlier life (entered + 1) log
  passed_goes_on lt not_due = go_on (entered + 1) log k.exact (passed_kept lt not_due) k.few

  pub slot_goes_on : (caller : ℕ) → entered ≡ length start.plan.caps → now log < life
      → IsKept start terms earlier life 0 (after_call start log (caller, events.Slot))
  slot_goes_on caller all before =
      subst (IsKept start terms earlier life 0) (sym (after_accepted caller events.Slot (slot_accepted all before)))
      (go_on 0 _ (subst (IsExact start) (after_accepted caller events.Slot (slot_accepted all before)) (exact_after caller events.Slot))
      (slot_kept all before caller (slot_reply start log (choice start log).waived (choice start log).head))
      (record { operations = k.few.operations; writes = k.few.writes }))

  pub next_begins : now log ≡ life → IsKept (renewed_start start log) terms (log ∷ earlier) life 0 []
  next_begins ended = record {
    opens = renewed_opens start log k.opens k.exact (ends ended).0;
    demand = k.demand;
    supply = k.supply;
    is_life = k.is_life;
    lived = (k.lived, k.kept.each, sym clock);
    stocked = subst (AreStockedAfter (renewed_start start log) terms (all_came (log ∷ earlier)))
        (omega (arith, sum_by-cons now log earlier)) (ends ended).1;
    exact = tt;
    kept = start_kept (renewed_start start log) terms life k.demand k.is_life;
    few = record { operations = k.few.operations; writes = k.few.writes };
  }

-- A die that starts full

full_stocked : (start : Start) (terms : Terms) → AreFull start → AreStockedAfter start terms [] 0
full_stocked start terms full task lt =
    let t : TaskTerms = terms_of terms task in
    let cap : ℕ = slice_index start.plan.caps task in
    let bal : ℕ = slice_index start.accounts.balances task in
    let none : start.plan.alpha * 0 ≡ 0 = grind arith in
    let turned : t.collect_period * (bal + start.plan.alpha) ≡ t.collect_period * (bal + 0) + start.plan.alpha * t.collect_period = grind arith in
    record {
      gap = 0;
      owed = 0;
      stocked = omega (arith, mul-le-mul_left t.collect_period (full task lt), none, turned);
      known = omega arith;
    }

pub begun : (start : Start) (terms : Terms) (life : ℕ) → StartsFull start terms life → IsKept start terms [] life 0 []
begun start terms life h = record {
  opens = h.opens;
  demand = h.demand;
  supply = h.supply;
  is_life = h.is_life;
  lived = tt;
  stocked = full_stocked start terms h.full;
  exact = tt;
  kept = start_kept start terms life h.demand h.is_life;
  few = record { operations = λ task slot lt. omega arith; writes = λ task slot lt. omega arith };
}
