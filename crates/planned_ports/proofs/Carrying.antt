-- What the die answers to a request, and how it stands then.
use Rattle.std.proofs.Common.{◌≡◌, ℕ, ◌≤◌, Bool, List, length, map, ◌≢◌, [], ◌∷◌, drop, set, slice_get, Option, Some, None, IsSomeAnd, IfOk, OnOk, OnErr, Result, Ok, Err, refl, ap, sym, subst, ◌∙◌, arith}
use Rattle.std.proofs.lemmas.List.{take_all, set-get_or}
use Rattle.slot_types.specs.declared.events.Op.{Op}
use Rattle.slot_types.specs.declared.events.Event.{Event}
use Rattle.slot_types.specs.declared.events.Event.TheVariants as events
use Rattle.slot_types.specs.declared.replies.SlotReply.{SlotReply}
use Rattle.flash_die.specs.declared.nand.NandCall.{NandCall}
use Rattle.demand_rules.specs.declared.terms.TaskTerms.{TaskTerms}
use Rattle.demand_rules.specs.declared.terms.Terms.{Terms}
use Rattle.die_log.specs.Model.Log.{Log, now}
use Rattle.die_log.specs.Model.Start.{Start}
use Rattle.die_log.specs.Model.Answers.{answer, run}
use Rattle.planned_log.specs.declared.ask_kinds.AskKind.{AskKind}
use Rattle.planned_log.specs.KeptLogs.{collections_at}
use Rattle.planned_log.specs.Moves.{after_own}
use Rattle.ongoing_log.specs.PastLives.{PastLife}
use Rattle.ongoing_log.specs.Ongoing.{Ongoing, start_of}
use Rattle.planned_die.specs.Planned.{Planned}
use Rattle.planned_die.specs.PlannedCalls.{own_calls, with_all_own}
use Rattle.ongoing_die.specs.declared.answers.Taken.{Taken}
use Rattle.ongoing_die.specs.declared.answers.Taken.TheVariants as taken
use Rattle.ongoing_die.specs.declared.refusals.AskAtStop.{AskAtStop}
use Rattle.ongoing_die.specs.declared.refusals.AskAtStop.TheVariants as ahead
use Rattle.ongoing_die.specs.declared.refusals.AskStop.{AskStop}
use Rattle.ongoing_die.specs.declared.refusals.AskStop.TheVariants as asks
use Rattle.ongoing_die.specs.declared.refusals.SlotStop.{SlotStop}
use Rattle.ongoing_die.specs.declared.refusals.SlotStop.TheVariants as slots
use Rattle.ongoing_die.specs.Standing.{standing, StandsAs}
use Rattle.ongoing_die.specs.OngoingCalls.{IsOngoingAsk, IsOngoingAskAt, IsNumbered, IsOngoingSlot, HasCarried}
use Rattle.task_outcomes.specs.declared.task_outcome.TaskOutcome.{TaskOutcome}
use Rattle.task_outcomes.specs.Queues.{Queue, no_queue, queue_of, first_of, with_taken}
use Rattle.task_outcomes.specs.OutcomeDies.{OutcomeParts, HasTold}
use Rattle.task_outcomes.specs.OutcomeMoves.{Told}
use Rattle.planned_ports.specs.declared.calls.Request.TheVariants as requests
use Rattle.planned_ports.specs.declared.calls.Granted.{Granted}
use Rattle.planned_ports.specs.declared.calls.Granted.TheVariants as granted
use Rattle.planned_ports.specs.declared.calls.Refused.{Refused}
use Rattle.planned_ports.specs.declared.calls.Refused.TheVariants as refused
use Rattle.planned_ports.specs.Replies.{IsReply, IsSlotReply, TellsJobs, after_reply, opened_as}

-- a call of the die, as an answer to a request
abbrev pub of_ask : Result Taken AskStop → Result Granted Refused
of_ask (Ok answer) = Ok (granted.Job answer)
of_ask (Err stop) = Err (refused.Ask stop)

abbrev pub of_ask_at : Result Taken AskAtStop → Result Granted Refused
of_ask_at (Ok answer) = Ok (granted.Job answer)
of_ask_at (Err stop) = Err (refused.AskAt stop)

abbrev pub of_slot : Result SlotReply SlotStop → Result Granted Refused
of_slot (Ok reply) = Ok (granted.Slot reply)
of_slot (Err stop) = Err (refused.Slot stop)

abbrev pub of_take : {E : Type 0} → Result (Option TaskOutcome) E → Result Granted Refused
of_take (Ok (Some outcome)) = Ok (granted.Outcome outcome)
of_take (Ok None) = Err refused.NoOutcome
of_take (Err e) = Err refused.NoMemory

-- where a task has no outcome to take, nothing goes
none_first : (kept : List TaskOutcome) → slice_get kept 0 ≡ None → drop 1 kept ≡ kept
none_first [] is = refl
none_first (o ∷ kept) is = absurd cc

nothing_goes : (queues : List Queue) (task : ℕ) → first_of queues task ≡ None → with_taken queues task ≡ queues
nothing_goes queues task is =
    ap (λ (os : List TaskOutcome). set queues task (record (queue_of queues task) { kept = os })) (none_first (queue_of queues task).kept is)
    ∙ set-get_or queues task no_queue

-- this stands of the die then, and these outcomes its tasks have to take
abbrev pub IsLeft : {N : Type 0} → Start → Told → OutcomeParts N → Type 0
IsLeft first t after = StandsAs first t.ongoing after.die × (t.queues ≡ after.queues)

module _ {N : Type 0} (caller : ℕ) (first : Start) (d : Ongoing) (before after : OutcomeParts N) (s : StandsAs first d before.die) where
  abbrev terms : Terms
  terms = before.die.die.terms

  abbrev life : ℕ
  life = before.die.die.life

  abbrev t : Told
  t = opened_as before d

  module _ (kind : AskKind) (task : ℕ) (ops : List Op) (same : after.queues ≡ before.queues) where
    tells_jobs : (answer : Taken) → IsNumbered kind caller task ops d answer after.die → TellsJobs kind ops answer
    tells_jobs (taken.Enters release due number jobs) h = h.0
    tells_jobs (taken.Waits release due) h = tt

    pub ask_reply : (result : Result Taken AskStop) → IsOngoingAsk kind caller task ops first d result before.die after.die
        → IsReply N first terms life t caller (requests.Ask kind task ops) (of_ask result)
    ask_reply (Ok answer) h = (h.answered, tells_jobs answer h.numbered)
    ask_reply (Err (asks.Ended stop)) h = (before.die, s, h.0)
    ask_reply (Err (asks.Plan refusal)) h = h.0
    ask_reply (Err asks.WaitsAlready) h = h.0

    pub ask_leaves : (result : Result Taken AskStop) → IsOngoingAsk kind caller task ops first d result before.die after.die
        → IsLeft first (after_reply first terms life t caller (requests.Ask kind task ops) (of_ask result)) after
    ask_leaves (Ok answer) h = (h.stands, sym same)
    ask_leaves (Err (asks.Ended stop)) h = (subst (StandsAs first d) (sym h.1) s, sym same)
    ask_leaves (Err (asks.Plan refusal)) h = (h.1.stands, sym same)
    ask_leaves (Err asks.WaitsAlready) h = (h.1.stands, sym same)

  module _ (kind : AskKind) (task : ℕ) (ops : List Op) (at : ℕ) (same : after.queues ≡ before.queues) where
    tells_jobs_at : (answer : Taken) → IsNumbered kind caller task ops d answer after.die → TellsJobs kind ops answer
    tells_jobs_at (taken.Enters release due number jobs) h = h.0
    tells_jobs_at (taken.Waits release due) h = tt

    pub ask_at_reply : (result : Result Taken AskAtStop) → IsOngoingAskAt kind caller task ops at first d result before.die after.die
        → IsReply N first terms life t caller (requests.AskAt kind task ops at) (of_ask_at result)
    ask_at_reply (Ok answer) h = (h.answered, tells_jobs_at answer h.numbered)
    ask_at_reply (Err (ahead.Ended stop)) h = (before.die, s, h.0)
    ask_at_reply (Err ahead.Past) h = h.0
    ask_at_reply (Err (ahead.Plan refusal)) h = h.0
    ask_at_reply (Err (ahead.TooFarAhead last)) h = h.0
    ask_at_reply (Err ahead.WaitsAlready) h = h.0

    pub ask_at_leaves : (result : Result Taken AskAtStop) → IsOngoingAskAt kind caller task ops at first d result before.die after.die
        → IsLeft first (after_reply first terms life t caller (requests.AskAt kind task ops at) (of_ask_at result)) after
    ask_at_leaves (Ok answer) h = (h.stands, sym same)
    ask_at_leaves (Err (ahead.Ended stop)) h = (subst (StandsAs first d) (sym h.1) s, sym same)
    ask_at_leaves (Err ahead.Past) h = (h.1.stands, sym same)
    ask_at_leaves (Err (ahead.Plan refusal)) h = (h.1.stands, sym same)
    ask_at_leaves (Err (ahead.TooFarAhead last)) h = (h.1.stands, sym same)
    ask_at_leaves (Err ahead.WaitsAlready) h = (h.1.stands, sym same)

  -- an outcome is taken, or isn't
  module _ (task : ℕ) {E : Type 0} (same : after.die ≡ before.die) where
    pub take_reply : (result : Result (Option TaskOutcome) E) → IfOk result (λ outcome. first_of before.queues task ≡ outcome)
        → OnErr result (IsSomeAnd (first_of before.queues task) (λ o. o.reads ≢ []))
        → IsReply N first terms life t caller (requests.Outcome task) (of_take result)
    take_reply (Ok (Some outcome)) is gave = is
    take_reply (Ok None) is gave = is
    take_reply (Err e) is gave = gave

    pub take_leaves : (result : Result (Option TaskOutcome) E) → IfOk result (λ outcome. first_of before.queues task ≡ outcome)
        → OnOk result (after.queues ≡ with_taken before.queues task) → OnErr result (after.queues ≡ before.queues)
        → IsLeft first (after_reply first terms life t caller (requests.Outcome task) (of_take result)) after
    take_leaves (Ok (Some outcome)) is left kept = (subst (StandsAs first d) (sym same) s, sym left)
    take_leaves (Ok None) is left kept = (subst (StandsAs first d) (sym same) s, sym (left ∙ nothing_goes before.queues task is))
    take_leaves (Err e) is left kept = (subst (StandsAs first d) (sym same) s, sym kept)

  module _ (ends : N → NandCall → Bool → N → Type 0) (failures : N → ℕ) (never : Bool) where
    -- the reply of a slot is that of the log with all its collections
    module _ (reply : SlotReply) (h : HasCarried ends failures never caller first d reply before.die after.die) where
      abbrev die : Planned N
      die = h.between.die

      abbrev past : List PastLife
      past = h.begun.stands.past

      abbrev log : Log
      log = die.core.log

      here : d ≡ standing h.between past
      here = h.begun.settled

      one_each : length die.terms.tasks ≤ length die.core.start.plan.caps
      one_each = omega (arith, h.begun.stands.lived.kept.demand.has.one_each)

      own_log : (with_all_own caller die).log ≡ after_own die.core.start die.terms log caller
      own_log =
          ap (λ n. run die.core.start log (own_calls caller die.terms n (length die.core.start.plan.caps) (now log)))
          (h.begun.stands.runs h.begun.runs).whole
          ∙ ap (λ (ts : List TaskTerms). run die.core.start log (map (λ (e : Event). (caller, e)) (collections_at ts 0 (now log))))
          (take_all (length die.core.start.plan.caps) die.terms.tasks one_each)

      pub slot_granted : IsSlotReply first terms d caller reply
      slot_granted =
          ap (λ (x : Ongoing). answer (start_of first x) (after_own (start_of first x) terms x.log caller) events.Slot) here
          ∙ (ap (λ (t : Start). answer t (after_own t terms log caller) events.Slot) (sym h.begun.stands.starts)
          ∙ (ap (λ (t : Terms). answer die.core.start (after_own die.core.start t log caller) events.Slot) (sym h.begun.plan.terms)
          ∙ (ap (λ (l : Log). answer die.core.start l events.Slot) (sym own_log) ∙ h.carried.carried.ended.answered)))

    pub slot_reply : (result : Result SlotReply SlotStop) → IsOngoingSlot ends failures never caller first d result before.die after.die
        → IsReply N first terms life t caller requests.Slot (of_slot result)
    slot_reply (Ok reply) h = slot_granted reply h
    slot_reply (Err (slots.Ended stop)) h = (before.die, s, h.0)
    slot_reply (Err slots.DeviceFault) h = tt

    pub slot_leaves : (result : Result SlotReply SlotStop) → IsOngoingSlot ends failures never caller first d result before.die after.die
        → OnOk result (HasTold caller before after) → OnErr result (after.queues ≡ before.queues)
        → IsLeft first (after_reply first terms life t caller requests.Slot (of_slot result)) after
    slot_leaves (Ok reply) h told kept = (h.stands, sym (told first d s))
    slot_leaves (Err (slots.Ended stop)) h told kept = (subst (StandsAs first d) (sym h.1) s, sym kept)
    slot_leaves (Err slots.DeviceFault) h told kept = (h.stands, sym kept)
