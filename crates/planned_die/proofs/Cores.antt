-- A die that keeps its plan itself: what it takes isn't refused, and it keeps its plan with it.
use Rattle.std.proofs.Common.{◌≡◌, ℕ, ◌+◌, ◌-◌, ◌<◌, ◌≤◌, Bool, true, false, List, [], ◌∷◌, length, length-append, None, Ok, Err, ap, sym, subst}
use Rattle.std.proofs.Common.{◌∙◌, inl, inr, arith}
use Rattle.std.proofs.lemmas.Bool.{true≢false}
use Rattle.slot_types.specs.Arrivals.{IsArrival}
use Rattle.slot_types.specs.declared.events.Op.{Op}
use Rattle.slot_types.specs.declared.events.Event.{Event}
use Rattle.slot_types.specs.declared.events.Event.TheVariants as events
use Rattle.slot_types.specs.declared.refusals.Refusal.{Refusal}
use Rattle.slot_types.specs.declared.replies.Reply.{Reply}
use Rattle.slot_types.specs.declared.replies.Reply.TheVariants as replies
use Rattle.flash_die.specs.declared.nand.NandCall.{NandCall}
use Rattle.demand_rules.specs.declared.terms.Terms.{Terms}
use Rattle.demand_rules.specs.Demand.{terms_of}
use Rattle.die_log.specs.Model.Log.{Log, now}
use Rattle.die_log.specs.Model.Start.{Start}
use Rattle.die_log.specs.Model.Lives.{Lives}
use Rattle.die_log.specs.Model.Answers.{answer, refusal_of, IsAccepted, with_answer, after_call, run}
use Rattle.die_log.proofs.Legality.{accepted_answer}
use Rattle.die_log.proofs.Supply.Unrefused.{entered}
use Rattle.slot_core.specs.Core.{Core}
use Rattle.slot_core.specs.Calls.{IsCall, IsCovered, RefusesCall, HasEntered, reserved_after}
use Rattle.slot_core.proofs.Calling.{has_entered}
use Rattle.planned_log.specs.Asks.{asked_job, ask_refusal}
use Rattle.planned_log.specs.KeptLogs.{comes_at, own_collection}
use Rattle.planned_log.specs.Laws.{IsKept}
use Rattle.planned_log.specs.Lives.{most_arrivals, came_in}
use Rattle.planned_log.proofs.Kept.{few_came, after_accepted, ask_accepted, ask_goes_on, collection_accepted, collection_goes_on, passed_goes_on}
use Rattle.planned_die.specs.PlannedCalls.{own_calls, with_collections, with_own}
use Rattle.planned_die.specs.Planned.{IsReservedFor}
use Rattle.planned_die.proofs.Reserved.{job_covered, collection_covered, entered_reserved}
use Rattle.planned_die.proofs.Own.{none_own, one_own, not_own, own_more, run_more}

-- the die with another log
pub core_kept : {N : Type 0} (before after : Core N) (terms : Terms) (earlier : Lives) (life more : ℕ) (next : Log) → after.start ≡ before.start
    → after.log ≡ next → IsKept before.start terms earlier life more next
    → IsKept after.start terms earlier life more after.log
core_kept before after terms earlier life more next starts logs k =
    subst (λ (s : Start). IsKept s terms earlier life more after.log) (sym starts)
    (subst (λ (l : Log). IsKept before.start terms earlier life more l) (sym logs) k)

-- the log after what was entered
pub entered_log : {N : Type 0} (caller : ℕ) (event : Event) (number : ℕ) (before after : Core N) → HasEntered caller event number before after
    → after ≡ record before { reserved = reserved_after event before.reserved; log = after_call before.start before.log (caller, event) }
entered_log caller event number before after h =
    h.logged ∙ ap (λ (r : Reply). record before { reserved = reserved_after event before.reserved; log = with_answer caller event r before.log })
    (sym h.answered)

-- no collection uses up nothing
none_uses : (n : ℕ) → n ≡ n - 0
none_uses n = omega arith

without_any : {N : Type 0} (core : Core N) (calls : List (ℕ × Event)) → calls ≡ [] → core ≡ with_collections core calls
without_any {N} core calls none =
    ap (λ (n : ℕ). record core { reserved = record core.reserved { arrivals = n } }) (none_uses core.reserved.arrivals)
    ∙ ap (λ (l : List (ℕ × Event)). with_collections core l) (sym none)

module _ {N : Type 0} (ends : N → NandCall → Bool → N → Type 0) (failures : N → ℕ) (never : Bool) where
  -- what the log accepts and memory is reserved for isn't refused
  pub never_refused : (caller : ℕ) (event : Event) (before after : Core N) (r : Refusal) → IsArrival event → before.stopped ≡ false
      → refusal_of before.start before.log event ≡ None → IsCovered event before.reserved
      → IsCall ends failures never caller event (Err r) before after → ⊥
  never_refused caller event before after r arrives runs none covered call = by call.ended
    where
      taken : IsAccepted (answer before.start before.log event)
      taken = subst IsAccepted (sym (accepted_answer before.start before.log event none)) (entered before.start before.log caller event).0

      not_refused : (s : Reply) → IsAccepted s → s ≡ replies.Refused r → ⊥
      not_refused s is e = subst IsAccepted e is

      by : RefusesCall event r before after → ⊥
      by (inl h) = not_refused (answer before.start before.log event) taken h.answered
      by (inr (inl h)) = h.uncovered covered
      by (inr (inr (inl h))) = subst IsArrival h.slot arrives
      by (inr (inr (inr h))) = true≢false (sym h.was_stopped ∙ runs)

  -- Asks

  module _ (before after : Core N) (terms : Terms) (earlier : Lives) (life entered_by caller task now_is deadline : ℕ) (ops : List Op)
      (kept : IsKept before.start terms earlier life entered_by before.log) (runs : before.stopped ≡ false)
      (none : ask_refusal before.start.plan terms life earlier before.log task ops ≡ None) (slot_is : now_is ≡ now before.log)
      (deadline_is : deadline ≡ (terms_of terms task).deadline) where
    job_is : events.Submit task now_is (now_is + deadline) ops ≡ asked_job terms before.log task ops
    job_is = ap (λ n. events.Submit task n (n + deadline) ops) slot_is
        ∙ ap (λ n. events.Submit task (now before.log) (now before.log + n) ops) deadline_is

    -- an accepted one
    pub ask_entered : (number : ℕ) → IsCall ends failures never caller (events.Submit task now_is (now_is + deadline) ops)
        (Ok (replies.Taken number)) before after
        → HasEntered caller (asked_job terms before.log task ops) number before after
    ask_entered number call = has_entered ends failures never caller (asked_job terms before.log task ops) before after number tt
        (subst (λ (e : Event). IsCall ends failures never caller e (Ok (replies.Taken number)) before after) job_is call)

    pub ask_keeps : (number : ℕ) → IsCall ends failures never caller (events.Submit task now_is (now_is + deadline) ops)
        (Ok (replies.Taken number)) before after
        → IsKept after.start terms earlier life entered_by after.log
    ask_keeps number call =
        let e = entered_log caller (asked_job terms before.log task ops) number before after (ask_entered number call) in
        core_kept before after terms earlier life entered_by (after_call before.start before.log (caller, asked_job terms before.log task ops))
        call.start_stays (ap (λ (c : Core N). c.log) e)
        (ask_goes_on before.start terms earlier life entered_by before.log kept caller task ops none)

    -- no more comes with it than a life may have
    ask_fits : length ops + came_in before.log ≤ most_arrivals terms life
    ask_fits = omega (
      arith,
      few_came before.start terms earlier life entered_by _
          (ask_goes_on before.start terms earlier life entered_by before.log kept caller task ops none),
      ap came_in (after_accepted before.start terms earlier life entered_by before.log kept caller (asked_job terms before.log task ops)
          (ask_accepted before.start terms earlier life entered_by before.log kept task ops none)),
    )

    -- none is refused, where there is memory for a life
    pub ask_stands : (r : Refusal) → 1 ≤ length ops → IsReservedFor terms life before
        → IsCall ends failures never caller (events.Submit task now_is (now_is + deadline) ops) (Err r) before after → ⊥
    ask_stands r some reserved call = never_refused caller (asked_job terms before.log task ops) before after r tt runs
        (ask_accepted before.start terms earlier life entered_by before.log kept task ops none)
        (job_covered terms life before task (now before.log) (now before.log + (terms_of terms task).deadline) ops reserved some ask_fits)
        (subst (λ (e : Event). IsCall ends failures never caller e (Err r) before after) job_is call)

    pub ask_reserved : (number : ℕ) → 1 ≤ length ops → IsReservedFor terms life before
        → IsCall ends failures never caller (events.Submit task now_is (now_is + deadline) ops) (Ok (replies.Taken number)) before after
        → IsReservedFor terms life after
    ask_reserved number some reserved call = entered_reserved terms life caller (asked_job terms before.log task ops) number before after tt some
        (ask_entered number call) reserved

  -- Collections

  module _ (before : Core N) (terms : Terms) (earlier : Lives) (life caller task slot period deadline : ℕ)
      (kept : IsKept before.start terms earlier life task before.log) (runs : before.stopped ≡ false) (lt : task < length before.start.plan.caps)
      (early : now before.log < life) (slot_is : slot ≡ now before.log)
      (period_is : period ≡ (terms_of terms task).collect_period) (deadline_is : deadline ≡ (terms_of terms task).collect_deadline) where
    collection_is : events.Collect task slot (slot + deadline) ≡ own_collection terms before.log task
    collection_is = ap (λ n. events.Collect task n (n + deadline)) slot_is
        ∙ ap (λ n. events.Collect task (now before.log) (now before.log + n)) deadline_is

    known : task < length terms.tasks
    known = omega (arith, lt, kept.demand.has.one_each)

    due_is : (b : Bool) → comes_at period slot ≡ b → comes_at (terms_of terms task).collect_period (now before.log) ≡ b
    due_is b e = subst (λ n. comes_at (terms_of terms task).collect_period n ≡ b) slot_is
        (subst (λ n. comes_at n slot ≡ b) period_is e)

    module _ (due : comes_at period slot ≡ true) (after : Core N) where
      own_call : (r : _) → IsCall ends failures never caller (events.Collect task slot (slot + deadline)) r before after
          → IsCall ends failures never caller (own_collection terms before.log task) r before after
      own_call r call = subst (λ (e : Event). IsCall ends failures never caller e r before after) collection_is call

      own_log : (number : ℕ) → IsCall ends failures never caller (events.Collect task slot (slot + deadline)) (Ok (replies.Taken number)) before after
          → after ≡ with_collections before ((caller, own_collection terms before.log task) ∷ [])
      own_log number call = entered_log caller (own_collection terms before.log task) number before after
          (has_entered ends failures never caller (own_collection terms before.log task) before after number tt (own_call _ call))

      pub own_entered : (number : ℕ) → IsCall ends failures never caller (events.Collect task slot (slot + deadline))
          (Ok (replies.Taken number)) before after
          → after ≡ with_own caller terms before task (task + 1)
      own_entered number call =
          own_log number call
          ∙ ap (λ calls. with_collections before calls)
          (sym (one_own caller terms (now before.log) task known (due_is true due)))

      pub own_keeps : (number : ℕ) → IsCall ends failures never caller (events.Collect task slot (slot + deadline))
          (Ok (replies.Taken number)) before after
          → IsKept after.start terms earlier life (task + 1) after.log
      own_keeps number call =
          core_kept before after terms earlier life (task + 1) (after_call before.start before.log (caller, own_collection terms before.log task))
          call.start_stays (ap (λ (c : Core N). c.log) (own_log number call))
          (collection_goes_on before.start terms earlier life task before.log kept caller lt early (due_is true due))

      pub own_slot : (number : ℕ) → IsCall ends failures never caller (events.Collect task slot (slot + deadline))
          (Ok (replies.Taken number)) before after
          → now after.log ≡ now before.log
      own_slot number call = ap (λ (c : Core N). now c.log)
          (has_entered ends failures never caller (own_collection terms before.log task) before after number tt (own_call _ call)).logged

      own_fits : 1 + came_in before.log ≤ most_arrivals terms life
      own_fits = omega (
        arith,
        few_came before.start terms earlier life (task + 1) _
            (collection_goes_on before.start terms earlier life task before.log kept caller lt early (due_is true due)),
        ap came_in (after_accepted before.start terms earlier life task before.log kept caller (own_collection terms before.log task)
            (collection_accepted before.start terms earlier life task before.log kept lt early (due_is true due))),
      )

      pub own_stands : (r : Refusal) → IsReservedFor terms life before
          → IsCall ends failures never caller (events.Collect task slot (slot + deadline)) (Err r) before after → ⊥
      own_stands r reserved call = never_refused caller (own_collection terms before.log task) before after r tt runs
          (collection_accepted before.start terms earlier life task before.log kept lt early (due_is true due))
          (collection_covered terms life before task (now before.log) (now before.log + (terms_of terms task).collect_deadline) reserved own_fits) (own_call _ call)

      pub own_reserved : (number : ℕ) → IsReservedFor terms life before
          → IsCall ends failures never caller (events.Collect task slot (slot + deadline)) (Ok (replies.Taken number)) before after
          → IsReservedFor terms life after
      own_reserved number reserved call = entered_reserved terms life caller (own_collection terms before.log task) number before after tt (omega arith)
          (has_entered ends failures never caller (own_collection terms before.log task) before after number tt (own_call _ call)) reserved

    -- a task that has none
    module _ (not_due : comes_at period slot ≡ false) where
      pub passed_over : before ≡ with_own caller terms before task (task + 1)
      passed_over = without_any before _ (not_own caller terms (now before.log) task known (due_is false not_due))

      pub passed_keeps : IsKept before.start terms earlier life (task + 1) before.log
      passed_keeps = passed_goes_on before.start terms earlier life task before.log kept lt (due_is false not_due)

-- Task by task

pub own_begins : {N : Type 0} (caller : ℕ) (terms : Terms) (core : Core N) (task : ℕ) → core ≡ with_own caller terms core task task
own_begins caller terms core task = without_any core _ (none_own caller terms (now core.log) task)

-- the collections of one task more
pub own_further : {N : Type 0} (caller : ℕ) (terms : Terms) (core between after : Core N) (from to : ℕ) → from ≤ to → to < length terms.tasks
    → between ≡ with_own caller terms core from to → now between.log ≡ now core.log → after ≡ with_own caller terms between to (to + 1)
    → after ≡ with_own caller terms core from (to + 1)
own_further {N} caller terms core between after from to le lt first slot then =
    then ∙ (ap (λ (c : Core N). with_own caller terms c to (to + 1)) first
    ∙ (ap (λ (n : ℕ). with_collections (with_own caller terms core from to) (own_calls caller terms to (to + 1) n))
    (sym (ap (λ (c : Core N). now c.log) first) ∙ slot)
    ∙ (λ i. record core { reserved = record core.reserved { arrivals = used i }; log = logs i })))
  where
    earlier : List (ℕ × Event)
    earlier = own_calls caller terms from to (now core.log)

    later : List (ℕ × Event)
    later = own_calls caller terms to (to + 1) (now core.log)

    all : List (ℕ × Event)
    all = own_calls caller terms from (to + 1) (now core.log)

    counts : length all ≡ length earlier + length later
    counts = ap (λ (l : List (ℕ × Event)). length l) (own_more caller terms (now core.log) from to le lt) ∙ length-append earlier later

    used : core.reserved.arrivals - length earlier - length later ≡ core.reserved.arrivals - length all
    used = omega (arith, counts)

    logs : run core.start (run core.start core.log earlier) later ≡ run core.start core.log all
    logs = sym (run_more caller terms (now core.log) core.start core.log from to le lt)
