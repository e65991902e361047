-- A job or collection whose release is above the present slot changes nothing of what that slot is answered.
use Rattle.std.proofs.Common.{◌≡◌, ℕ, ◌+◌, ◌-◌, ◌<◌, ◌≤◌, ◌&&◌, ◌||◌, ◌==◌, not, min, Bool, true, false, List, [], ◌∷◌, ◌++◌, length, get_or}
use Rattle.std.proofs.Common.{slice_index, slice_get, Option, Some, None, refl, sym, ap, subst, cond, ◌∙◌, inl, inr, arith}
use Rattle.std.specs.Prelude.{suc, zero, nat_le, nat_lt, filter, slice_set}
use Rattle.std.specs.List.{list_any, last_or, range_with_len, reduce}
use Rattle.std.proofs.lemmas.Bool.{cases_eq, cases_lt}
use Rattle.std.proofs.lemmas.Bool.Decides.{nat_tests}
use Rattle.std.proofs.lemmas.List.{append-nil, length-set, get_or-set_same, get_or_past}
use Rattle.std.proofs.lemmas.List.Elements.{filter-append}
use Rattle.std.proofs.lemmas.List.Folds.{list_any-append}
use Rattle.slot_types.specs.declared.plans.DiePlan.{DiePlan}
use Rattle.slot_types.specs.declared.events.Op.{Op}
use Rattle.slot_types.specs.declared.events.Event.{Event}
use Rattle.slot_types.specs.declared.events.Event.TheVariants as events
use Rattle.slot_types.specs.declared.refusals.Refusal.{Refusal}
use Rattle.slot_types.specs.declared.replies.Reply.{Reply}
use Rattle.slot_types.specs.declared.replies.Reply.TheVariants as replies
use Rattle.slot_types.specs.declared.replies.Reply.TheVariants.{Taken}
use Rattle.slot_types.specs.declared.replies.Waived.{Waived}
use Rattle.slot_types.specs.Operations.{writes}
use Rattle.plan_rules.specs.Accounts.{Accounts, owned_of, given_of, accounts_after_admit, accounts_after_waiver}
use Rattle.plan_rules.proofs.Owned.{admitted_owned, waived_others}
use Rattle.die_log.specs.Model.Start.{Start}
use Rattle.die_log.specs.Model.Log.{Log, Job, jobs, now, acts, work}
use Rattle.die_log.specs.Model.Flash.{cells, block_at, is_closed, ran_by}
use Rattle.die_log.specs.Model.Work.{ready, is_ready, least, victim_of}
use Rattle.die_log.specs.Model.Accounts.{accounts}
use Rattle.die_log.specs.Model.Answers.{Choice, choice, choice_among, choice_by_head, head_or_waiver, with_waiver, without, is_waivable, answer, answer_by}
use Rattle.die_log.specs.Model.Answers.{reply_if_accepted, refusals, refusal_of, is_running, is_collected, is_block, goes_before, victim, block_for}
use Rattle.die_log.specs.Model.Answers.{act_for, act_of_op, collect_act, buffer_after, reply_with, slot_reply, IsExact, IsAccepted}
use Rattle.die_log.specs.Model.NeededCalls.{call_by, needed_call}
use Rattle.slot_core.specs.NextSlot.{next_by, next_slot}
use Rattle.die_log.specs.Model.Opening.{IsOpening}
use Rattle.die_log.proofs.Collecting.{no_acts}
use Rattle.die_log.proofs.Legal.Exact.{stands_well}
use Rattle.die_log.proofs.Legality.{none_stands, taken_answer}
use Rattle.die_log.proofs.LogInvariants.OneMoreEntry.{victim_stays}
use Rattle.slot_core.specs.Core.{with_entry}
use Rattle.stepped_die.specs.Arrivals.{WaitsAfter}

-- Accounts that give alike

record Alike (a b : Accounts) : Type 0 where
  plan : a.plan ≡ b.plan
  spare : a.spare ≡ b.spare
  len : length a.balances ≡ length b.balances
  owned : (task : ℕ) → owned_of a task ≡ owned_of b task

given_alike : (a b : Accounts) (task : ℕ) → Alike a b → given_of a task ≡ given_of b task
given_alike a b task h =
    ap (λ (p : DiePlan). min p.alpha (slice_index p.caps task - owned_of a task)) h.plan
    ∙ ap (λ (n : ℕ). min b.plan.alpha (slice_index b.plan.caps task - n)) (h.owned task)

past_all : (xs : List ℕ) (task value : ℕ) → length xs ≤ task → get_or (slice_set xs task value) task 0 ≡ get_or xs task 0
past_all xs task value past =
    get_or_past (slice_set xs task value) task 0 (omega (arith, past, length-set xs task value)) ∙ sym (get_or_past xs task 0 past)

-- what the task itself owns after a waiver
waived_own : (a b : Accounts) (task : ℕ) → Alike a b → owned_of (accounts_after_waiver a task) task ≡ owned_of (accounts_after_waiver b task) task
waived_own a b task h =
    elim (cases_lt task (length a.balances)) [
      | inl below ↦ omega (
        arith,
        h.owned task,
        given_alike a b task h,
        get_or-set_same a.balances task (get_or a.balances task 0 + given_of a task) 0 below,
        get_or-set_same b.balances task (get_or b.balances task 0 + given_of b task) 0 (omega (arith, below, h.len)),
      )
      | inr past ↦ omega (
        arith,
        h.owned task,
        past_all a.balances task (get_or a.balances task 0 + given_of a task) past,
        past_all b.balances task (get_or b.balances task 0 + given_of b task) (omega (arith, past, h.len)),
      )
    ]

waived_alike : (a b : Accounts) (task : ℕ) → Alike a b → Alike (accounts_after_waiver a task) (accounts_after_waiver b task)
waived_alike a b task h = record {
  plan = h.plan;
  spare = omega (arith, h.spare, given_alike a b task h);
  len = length-set a.balances task (get_or a.balances task 0 + given_of a task) ∙ h.len
      ∙ sym (length-set b.balances task (get_or b.balances task 0 + given_of b task));
  owned = λ other. elim (cases_eq other task) [
    | inl same ↦ ap (λ (t : ℕ). owned_of (accounts_after_waiver a task) t) same ∙ waived_own a b task h
        ∙ ap (λ (t : ℕ). owned_of (accounts_after_waiver b task) t) (sym same)
    | inr apart ↦ waived_others a task other apart ∙ h.owned other ∙ sym (waived_others b task other apart)
  ];
}

-- Choices

module _ (plan : DiePlan) (past later : Log) (works : (number : ℕ) → work number later ≡ work number past) where
  waivable_alike : (a b : Accounts) (j : Job) → Alike a b → is_waivable plan later a j ≡ is_waivable plan past b j
  waivable_alike a b j h =
      ap (λ (n : ℕ). j.collects && (n == 0) && nat_le plan.alpha a.spare) (works j.number)
      ∙ ap (λ (n : ℕ). j.collects && (work j.number past == 0) && nat_le plan.alpha n) h.spare

  weighed_alike : (a b : Accounts) (waiting : List Job) (f g : Accounts → List Job → Choice) (j : Job) (v : Bool)
      → ((x y : Accounts) (rest : List Job) → Alike x y → f x rest ≡ g y rest) → Alike a b → head_or_waiver a waiting f j v ≡ head_or_waiver b waiting g j v
  weighed_alike a b waiting f g j true same h =
      ap (λ (n : ℕ). with_waiver (record { number = j.number; given = n }) (f (accounts_after_waiver a j.task) (without j waiting))) (given_alike a b j.task h)
      ∙ ap (λ (c : Choice). with_waiver (record { number = j.number; given = given_of b j.task }) c)
      (same (accounts_after_waiver a j.task) (accounts_after_waiver b j.task) (without j waiting) (waived_alike a b j.task h))
  weighed_alike a b waiting f g j false same h = refl

  chosen_alike : (a b : Accounts) (waiting : List Job) (f g : Accounts → List Job → Choice) (o : Option Job)
      → ((x y : Accounts) (rest : List Job) → Alike x y → f x rest ≡ g y rest) → Alike a b
      → choice_by_head plan later a waiting f o ≡ choice_by_head plan past b waiting g o
  chosen_alike a b waiting f g None same h = refl
  chosen_alike a b waiting f g (Some j) same h =
      ap (head_or_waiver a waiting f j) (waivable_alike a b j h) ∙ weighed_alike a b waiting f g j (is_waivable plan past b j) same h

  choice_alike : (turns : ℕ) (a b : Accounts) (waiting : List Job) → Alike a b
      → choice_among plan later turns a waiting ≡ choice_among plan past turns b waiting
  choice_alike zero a b waiting h = refl
  choice_alike (suc turns) a b waiting h =
      chosen_alike a b waiting (choice_among plan later turns) (choice_among plan past turns) (least waiting)
      (λ x y rest k. choice_alike turns x y rest k) h

-- One more job or collection that waits for its release

and_false : (a c : Bool) → (a && false && c) ≡ false
and_false true c = refl
and_false false c = refl

or_false : (a : Bool) → (a || false) ≡ a
or_false true = refl
or_false false = refl

none_kept : (p : Job → Bool) (j : Job) → p j ≡ false → filter p (j ∷ []) ≡ []
none_kept p j e = rw e refl

module _ (start : Start) (past : Log) (caller : ℕ) (event : Event) (number : ℕ) (j : Job)
    (brings : jobs (with_entry caller event (Taken number) past) ≡ jobs past ++ j ∷ [])
    (waits : nat_le j.release (now past) ≡ false) (unbegun : acts j.number past ≡ [])
    (alike : Alike (accounts start (with_entry caller event (Taken number) past)) (accounts start past)) where
  abbrev later : Log
  later = with_entry caller event (Taken number) past

  unready : is_ready start.plan past j ≡ false
  unready = rw waits refl

  ready_same : ready start.plan later ≡ ready start.plan past
  ready_same =
      ap (filter (is_ready start.plan past)) brings
      ∙ filter-append (is_ready start.plan past) (jobs past) (j ∷ [])
      ∙ ap (λ (js : List Job). filter (is_ready start.plan past) (jobs past) ++ js) (none_kept (is_ready start.plan past) j unready)
      ∙ append-nil (ready start.plan past)

  choice_same : choice start later ≡ choice start past
  choice_same =
      choice_alike start.plan past later (λ n. refl) (length (ready start.plan later)) (accounts start later) (accounts start past)
      (ready start.plan later) alike
      ∙ ap (λ (js : List Job). choice_among start.plan past (length js) (accounts start past) js) ready_same

  -- who collects a block

  shows_same : (n : ℕ) → victim_of start n later ≡ victim_of start n past
  shows_same n = victim_stays start n (record { caller = caller; event = event; reply = Taken number }) past refl

  collects : ℕ → Job → Bool
  collects b i = is_running start.plan past i && is_block b (victim_of start i.number past)

  idle : is_running start.plan past j ≡ false
  idle = rw unbegun (and_false j.collects _)

  collected_same : (b : ℕ) → is_collected start later b ≡ is_collected start past b
  collected_same b =
      (λ i. list_any (λ (x : Job). is_running start.plan past x && is_block b (shows_same x.number i)) (brings i))
      ∙ list_any-append (λ (x : Job). is_running start.plan past x && is_block b (victim_of start x.number past)) (jobs past) (j ∷ [])
      ∙ ap (λ (t : Bool). is_collected start past b || ((t && is_block b (victim_of start j.number past)) || false)) idle
      ∙ or_false (is_collected start past b)

  victim_same : victim start later ≡ victim start past
  victim_same = λ i. reduce (λ (best b : ℕ). cond (goes_before (cells start past) b best) b best)
      (filter (λ (b : ℕ). is_closed start.plan (block_at (cells start past) b) && not (collected_same b i))
      (range_with_len 0 start.plan.shape.blocks))

  -- what the head does

  block_same : (h : Job) → block_for start later h ≡ block_for start past h
  block_same h = λ i. cond (work h.number past == 0) (victim_same i) (shows_same h.number i)

  act_same : (h : Job) → act_for start later h ≡ act_for start past h
  act_same h = λ i. cond h.collects
      (collect_act start.plan (cells start past) (buffer_after (last_or None (acts h.number past))) (block_same h i))
      (act_of_op start past (slice_get h.ops (work h.number past)))

  reply_same : (ws : List Waived) (o : Option Job) → slot_reply start later ws o ≡ slot_reply start past ws o
  reply_same ws None = refl
  reply_same ws (Some h) = ap (reply_with start.plan past ws h) (act_same h)

  accepted_same : reply_if_accepted start later events.Slot ≡ reply_if_accepted start past events.Slot
  accepted_same =
      ap (λ (c : Choice). replies.Slot (slot_reply start later c.waived c.head)) choice_same
      ∙ ap replies.Slot (reply_same (choice start past).waived (choice start past).head)

  by_same : (o : Option Refusal) → answer_by start later events.Slot o ≡ answer_by start past events.Slot o
  by_same None = accepted_same
  by_same (Some r) = refl

  answer_same : answer start later events.Slot ≡ answer start past events.Slot
  unfolding answer
  answer_same = by_same (refusal_of start past events.Slot)

  needed_same : needed_call start later ≡ needed_call start past
  needed_same = ap (λ (r : Reply). call_by start past (ran_by r)) answer_same

  next_same : next_slot start later ≡ next_slot start past
  next_same = ap (λ (r : Reply). next_by start past (ran_by r)) answer_same

-- Arrivals

abbrev number_of : Reply → ℕ
number_of (Taken n) = n
number_of _ = 0

late_release : (release present : ℕ) → present < release → nat_le release present ≡ false
late_release release present h = grind (arith, nat_tests)

within : (count task : ℕ) → nat_le count task ≡ false → task < count
within count task h = grind (arith, nat_tests)

enough : (have need : ℕ) → nat_lt have need ≡ false → need ≤ have
enough have need h = grind (arith, nat_tests)

-- an accepted job moves tokens of its task, which owns as many as before
admitted_alike : (start : Start) (past : Log) (task : ℕ) (ops : List Op) → IsOpening start → IsExact start past
    → task < length start.plan.caps → writes ops ≤ slice_index (accounts start past).balances task
    → Alike (accounts_after_admit (accounts start past) task (writes ops)) (accounts start past)
admitted_alike start past task ops opens exact task_is have =
    let a = accounts start past in
    let agree = (stands_well start opens past exact).1.true_accounts.agree in
    record {
      plan = refl;
      spare = refl;
      len = length-set a.balances task (slice_index a.balances task - writes ops);
      owned = λ other. admitted_owned a task (writes ops) other (omega (arith, task_is, agree.balances_len))
          (omega (arith, task_is, agree.holds_len)) have;
    }

taken_is : (start : Start) (past : Log) (event : Event) (number : ℕ) → answer start past event ≡ Taken number
    → (refusal_of start past event ≡ None) × (answer start past event ≡ reply_if_accepted start past event)
taken_is start past event number e = taken_answer start past event (subst IsAccepted (sym e) tt)

alike_self : (a : Accounts) → Alike a a
alike_self a = record { plan = refl; spare = refl; len = refl; owned = λ task. refl }

-- the next slot is answered as it was, needs the call that it needed, and does what it did
pub arrival_leaves : (start : Start) (past : Log) (caller : ℕ) (event : Event) (number : ℕ) → IsOpening start → IsExact start past
    → answer start past event ≡ Taken number → WaitsAfter (now past) event
    → (answer start (with_entry caller event (Taken number) past) events.Slot ≡ answer start past events.Slot)
    × (needed_call start (with_entry caller event (Taken number) past) ≡ needed_call start past)
    × (next_slot start (with_entry caller event (Taken number) past) ≡ next_slot start past)
arrival_leaves start past caller (events.Submit task release due ops) number opens exact taken beyond =
    let is = taken_is start past (events.Submit task release due ops) number taken in
    let stands = none_stands (refusals start past (events.Submit task release due ops)) is.0 in
    let same : number ≡ length (jobs past) = ap number_of (sym taken ∙ is.1) in
    let j : Job = record { number = number; collects = false; task = task; release = release; due = due; ops = ops } in
    let unbegun : acts number past ≡ [] = ap (λ (n : ℕ). acts n past) same ∙ no_acts start past exact in
    let waits = late_release release (now past) beyond in
    let alike = admitted_alike start past task ops opens exact (within (length start.plan.caps) task stands.0)
    (enough _ (writes ops) stands.1.1.1.1.1.1.1.0) in (
      answer_same start past caller (events.Submit task release due ops) number j refl waits unbegun alike,
      needed_same start past caller (events.Submit task release due ops) number j refl waits unbegun alike,
      next_same start past caller (events.Submit task release due ops) number j refl waits unbegun alike,
    )
arrival_leaves start past caller (events.Collect task release due) number opens exact taken beyond =
    let is = taken_is start past (events.Collect task release due) number taken in
    let same : number ≡ length (jobs past) = ap number_of (sym taken ∙ is.1) in
    let j : Job = record { number = number; collects = true; task = task; release = release; due = due; ops = [] } in
    let unbegun : acts number past ≡ [] = ap (λ (n : ℕ). acts n past) same ∙ no_acts start past exact in
    let waits = late_release release (now past) beyond in
    let alike = alike_self (accounts start past) in (
      answer_same start past caller (events.Collect task release due) number j refl waits unbegun alike,
      needed_same start past caller (events.Collect task release due) number j refl waits unbegun alike,
      next_same start past caller (events.Collect task release due) number j refl waits unbegun alike,
    )
arrival_leaves start past caller events.Slot number opens exact taken beyond = absurd beyond
