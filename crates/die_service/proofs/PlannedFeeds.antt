-- A feed that keeps to its die's plan is not refused but out of memory, and nothing is late.
use Rattle.std.proofs.Common.{◌≡◌, ◌⊎◌, ℕ, zero, suc, ◌+◌, ◌<◌, ◌≤◌, Bool, cond, List, [], ◌∷◌, ◌++◌, map, Option, None}
use Rattle.std.proofs.Common.{Result, Ok, Err, refl, ap, sym, subst, ◌∙◌, append_assoc, inl, inr, arith}
use Rattle.std.specs.Prelude.{IfSome}
use Rattle.std.specs.List.{AllByRecursion}
use Rattle.std.proofs.lemmas.List.{append-nil, map-append}
use Rattle.std.proofs.lemmas.List.Elements.{All-head, All-tail}
use Rattle.std.proofs.lemmas.List.Sums.{sum_by-append, sum_by-cons}
use Rattle.slot_types.specs.Arrivals.{IsArrival}
use Rattle.slot_types.specs.Arriving.{arrivals_by, arrivals_after}
use Rattle.slot_types.proofs.Arriving.{arrived_hold, later_hold}
use Rattle.slot_types.specs.declared.limits.TheConstants.{MAX_SLOT}
use Rattle.slot_types.specs.declared.plans.Times.{Times}
use Rattle.slot_types.specs.declared.events.Event.{Event}
use Rattle.slot_types.specs.declared.events.Event.TheVariants as events
use Rattle.slot_types.specs.declared.refusals.Refusal.{Refusal}
use Rattle.slot_types.specs.declared.replies.Reply.{Reply}
use Rattle.slot_types.specs.declared.replies.Reply.TheVariants as replies
use Rattle.slot_types.specs.declared.replies.SlotReply.{SlotReply}
use Rattle.plan_rules.specs.Times.{Passes}
use Rattle.plan_rules.specs.Keeping.{is_slot, slots, KeepsPlan}
use Rattle.die_log.specs.Model.Log.{Log, now}
use Rattle.die_log.specs.Model.Answers.{answer, refusal_of, with_answer, after_call, run, IsAccepted, IsExact}
use Rattle.die_log.specs.Results.InTime.{events_of_log, Adds, AreEntered, IsInTime}
use Rattle.die_log.proofs.Known.{all_append}
use Rattle.die_log.proofs.Legality.{accepted_answer}
use Rattle.die_log.proofs.Runs.{run_exact}
use Rattle.die_log.proofs.Planned.InTime.{planned_in_time}
use Rattle.die_log.proofs.Planned.Running.{run_enters}
use Rattle.die_log.proofs.Planned.Running as running
use Rattle.die_log.proofs.Supply.Unrefused.{unrefused, entered}
use Rattle.slot_core.specs.Core.{with_entry}
use Rattle.die_service.specs.declared.ends.DieEnd.{DieEnd}
use Rattle.die_service.specs.declared.feeds.Arrival.{Arrival}
use Rattle.die_service.specs.declared.refused.RefusedAt.{RefusedAt}
use Rattle.die_service.specs.PlannedRuns.{events_in, events_from, events_of_feed, FeedKeepsPlan, RanAlone, IsForMemory, IsForMemoryOrFault}
use Rattle.die_service.specs.PlannedRuns.{AreTakenUntilMemory, FeedGoesAsPlanned}
use Rattle.slot_core.specs.Calls.{MayRefuse}
use Rattle.die_service.specs.Runs.{AskedEvent, asked_event, AllArrive, comes_at, AreAsked, InClockOrder, with_refused, place_beyond}
use Rattle.die_service.specs.Runs.{refused_from, stop_or, stop_of}
use Rattle.die_service.proofs.Passing.{slot_answered}
use Rattle.die_service.specs.Passes.{IsSlotReply}
use Rattle.die_service.proofs.RunAlone.{saids, start_is, said_is, said_exact, are_reported}
use Rattle.die_service.proofs.SlotCalls.{slot_counted, slot_refused, numbered, stays_at}
use Rattle.die_service.proofs.Transcripts.{AreReported, said_log, said_accepted, said_refused, front_exact}
use Rattle.die_log.specs.Model.Start.{Start}
use Rattle.die_log.specs.Results.Supply.{AreStocked}
use Rattle.die_log.specs.Model.Opening.{IsOpening}

abbrev asked : List AskedEvent → List Event
asked heard = map (λ (s : AskedEvent). s.event) heard

-- What was said, except for a slot that was refused

-- a call that was accepted, or one of the feed's events
abbrev IsHeard : Event → Result Reply RefusedAt → Type 0
IsHeard events.Slot (Err refused) = ⊥
IsHeard _ _ = Unit {0}

abbrev AreHeard : List AskedEvent → Type 0
AreHeard heard = AllByRecursion (λ (s : AskedEvent). IsHeard s.event s.reply) heard

abbrev AllFed : List AskedEvent → Type 0
AllFed fed = AllByRecursion (λ (s : AskedEvent). IsArrival s.event) fed

heard_one : (event : Event) (reply : Result Reply RefusedAt) → IsArrival event → IsHeard event reply
heard_one (events.Submit task release due ops) reply h = tt
heard_one (events.Collect task release due) reply h = tt
heard_one events.Slot reply h = absurd h

heard_fed : (fed : List AskedEvent) → AllFed fed → AreHeard fed
heard_fed [] h = tt
heard_fed (s ∷ fed) h = (heard_one s.event s.reply h.0, heard_fed fed h.1)

asked_none : (s : AskedEvent) (fed : List AskedEvent) → AreAsked [] (s ∷ fed) → ⊥
asked_none s fed are = absurd cc

asked_some : (arrival : Arrival) (feed : List Arrival) → AreAsked (arrival ∷ feed) [] → ⊥
asked_some arrival feed are = absurd cc

asked_first : (arrival : Arrival) (feed : List Arrival) (s : AskedEvent) (fed : List AskedEvent) → AreAsked (arrival ∷ feed) (s ∷ fed) → s.event
    ≡ arrival.event
asked_first arrival feed s fed are = cc

asked_rest : (arrival : Arrival) (feed : List Arrival) (s : AskedEvent) (fed : List AskedEvent) → AreAsked (arrival ∷ feed) (s ∷ fed)
    → AreAsked feed fed
asked_rest arrival feed s fed are = cc

all_fed : (feed : List Arrival) (fed : List AskedEvent) → AreAsked feed fed → AllArrive feed → AllFed fed
all_fed [] [] are arrive = tt
all_fed [] (s ∷ fed) are arrive = absurd (asked_none s fed are)
all_fed (arrival ∷ feed) [] are arrive = absurd (asked_some arrival feed are)
all_fed (arrival ∷ feed) (s ∷ fed) are arrive =
    let A : Arrival → Type 0 = λ a. IsArrival a.event in (
      subst IsArrival (sym (asked_first arrival feed s fed are)) (All-head A arrival feed arrive),
      all_fed feed fed
          (asked_rest arrival feed s fed are) (All-tail A arrival feed arrive),
    )

here_arrive : (clock : ℕ) (feed : List Arrival) → AllArrive feed → AllArrive (arrivals_by comes_at clock feed)
here_arrive clock = arrived_hold comes_at clock (λ a. IsArrival a.event)

later_arrive : (clock : ℕ) (feed : List Arrival) → AllArrive feed → AllArrive (arrivals_after comes_at clock feed)
later_arrive clock = later_hold comes_at clock (λ a. IsArrival a.event)

split_one : (before after : List AskedEvent) (s : AskedEvent) → before ++ s ∷ after ≡ (before ++ s ∷ []) ++ after
split_one before after s = sym (append_assoc before (s ∷ []) after)

after_first : (all before fed after : List AskedEvent) (s : AskedEvent) → all ≡ before ++ ((s ∷ fed) ++ after) → all ≡ (before ++ s ∷ [])
    ++ (fed ++ after)
after_first all before fed after s is = is ∙ split_one before (fed ++ after) s

-- all that was said is `front`, or a slot was refused after it, with which the events begin that are left over
abbrev Ends : List AskedEvent → List Event → List AskedEvent → Type 0
Ends front over rest = (rest ≡ front) ⊎ ((refused : RefusedAt) × (more : List Event) × (rest ≡ front ++ asked_event events.Slot (Err refused) ∷ [])
    × (over ≡ events.Slot ∷ more))

-- `front` was asked of what a run asks for, and this is left over
record Parts (all : List Event) (rest : List AskedEvent) : Type 0 where
  front : List AskedEvent
  over : List Event
  heard : AreHeard front
  events_are : all ≡ asked front ++ over
  ends : Ends front over rest

abbrev carried : SlotReply → AskedEvent
carried slot = asked_event events.Slot (Ok (replies.Slot slot))

more_ends : (fed : List AskedEvent) (s : AskedEvent) (front : List AskedEvent) (over : List Event) (rest more : List AskedEvent) → rest ≡ fed ++ s ∷ more
    → Ends front over more → Ends (fed ++ s ∷ front) over rest
more_ends fed s front over rest more is (inl same) = inl (is ∙ ap (λ (xs : List AskedEvent). fed ++ s ∷ xs) same)
more_ends fed s front over rest more is (inr (refused, later, last, left)) =
    inr (
      refused,
      later,
      is ∙ (ap (λ (xs : List AskedEvent). fed ++ s ∷ xs) last
          ∙ sym (append_assoc fed (s ∷ front) (asked_event events.Slot (Err refused) ∷ []))),
      left,
    )

more_events : (due later over : List Event) (fed front : List AskedEvent) (slot : SlotReply) → asked fed ≡ due → later ≡ asked front ++ over → due
    ++ events.Slot ∷ later ≡ asked (fed ++ carried slot ∷ front) ++ over
more_events due later over fed front slot are is =
    (λ i. sym are i ++ events.Slot ∷ is i)
    ∙ (sym (append_assoc (asked fed) (events.Slot ∷ asked front) over)
    ∙ ap (λ (es : List Event). es ++ over) (sym (map-append (λ (s : AskedEvent). s.event) fed (carried slot ∷ front))))

module _ (never : Bool) (start : Start) (all : List AskedEvent) (known : AreReported never start all) where
  -- the feed's events take no slot
  fed_stay : (fed before after : List AskedEvent) → all ≡ before ++ (fed ++ after) → AllFed fed → now (said_log (before ++ fed))
      ≡ now (said_log before)
  fed_stay [] before after is h = ap (λ (b : List AskedEvent). now (said_log b)) (append-nil before)
  fed_stay (s ∷ fed) before after is h =
      ap (λ (b : List AskedEvent). now (said_log b)) (split_one before fed s)
      ∙ (fed_stay fed (before ++ s ∷ []) after (after_first all before fed after s is) h.1
      ∙ stays_at never start all before (fed ++ after) s.event s.reply known is h.0)

  parts : (left clock : ℕ) (feed : List Arrival) (before rest : List AskedEvent) → all ≡ before ++ rest → InClockOrder left clock feed rest
      → now (said_log before) ≡ clock → AllArrive feed → Parts (events_from left clock feed) rest
  parts zero clock feed before rest is ordered at_now arrive = record {
    front = rest;
    over = [];
    heard = heard_fed rest (all_fed (arrivals_by comes_at clock feed) rest ordered (here_arrive clock feed arrive));
    events_are = sym ordered ∙ sym (append-nil (asked rest));
    ends = inl refl;
  }
  parts (suc left) clock feed before rest is (fed, beyond, split, are, inr (refused, last)) at_now arrive = record {
    front = fed;
    over = events.Slot ∷ events_from left (clock + 1) (arrivals_after comes_at clock feed);
    heard = heard_fed fed (all_fed (arrivals_by comes_at clock feed) fed are (here_arrive clock feed arrive));
    events_are = ap (λ (es : List Event). es ++ events.Slot ∷ events_from left (clock + 1) (arrivals_after comes_at clock feed)) (sym are);
    ends = inr (refused, events_from left (clock + 1) (arrivals_after comes_at clock feed), split ∙ ap (λ (xs : List AskedEvent). fed ++ xs) last, refl);
  }
  parts (suc left) clock feed before rest is (fed, beyond, split, are, inl (slot, more, first, ordered)) at_now arrive =
      let later = arrivals_after comes_at clock feed in
      let rest_is : rest ≡ fed ++ carried slot ∷ more = split ∙ ap (λ (xs : List AskedEvent). fed ++ xs) first in
      let here : all ≡ before ++ (fed ++ carried slot ∷ more) = is ∙ ap (λ (xs : List AskedEvent). before ++ xs) rest_is in
      let fed_all = all_fed (arrivals_by comes_at clock feed) fed are (here_arrive clock feed arrive) in
      let at_slot : all ≡ (before ++ fed) ++ carried slot ∷ more = here ∙ sym (append_assoc before fed (carried slot ∷ more)) in
      let answered = known.accepted (before ++ fed) more events.Slot (replies.Slot slot) at_slot in
      let still : now (said_log (before ++ fed)) ≡ clock = fed_stay fed before (carried slot ∷ more) here fed_all ∙ at_now in
      let number : slot.slot ≡ clock = numbered start (said_log (before ++ fed)) slot answered.0 ∙ still in
      let counted : now (said_log ((before ++ fed) ++ carried slot ∷ [])) ≡ clock + 1 =
      ap now (said_accepted (before ++ fed) events.Slot (replies.Slot slot))
      ∙ (slot_counted (said_log (before ++ fed)) _ slot refl ∙ ap (λ (n : ℕ). n + 1) still) in
      let m = parts left (clock + 1) later ((before ++ fed) ++ carried slot ∷ []) more (at_slot
      ∙ split_one (before ++ fed) more (carried slot))
      (subst (λ (n : ℕ). InClockOrder left (n + 1) later more) number ordered) counted (later_arrive clock feed arrive) in
      record {
        front = fed ++ carried slot ∷ m.front;
        over = m.over;
        heard = all_append (λ (s : AskedEvent). IsHeard s.event s.reply) fed (carried slot ∷ m.front) (heard_fed fed fed_all) (tt, m.heard);
        events_are = more_events (events_in (arrivals_by comes_at clock feed)) (events_from left (clock + 1) later) m.over fed m.front slot are
            m.events_are;
        ends = more_ends fed (carried slot) m.front m.over rest more rest_is m.ends;
      }

  -- The log of `front` is what its events leave

  enters_one : (before : List AskedEvent) (event : Event) (reply : Result Reply RefusedAt) → IsHeard event reply
      → Adds event (said_log before) (said_log (before ++ asked_event event reply ∷ []))
      ⊎ (IsArrival event × (said_log (before ++ asked_event event reply ∷ []) ≡ said_log before))
  enters_one before event (Ok reply) h = inl (0, reply, said_accepted before event reply)
  enters_one before (events.Submit task release due ops) (Err refused) h = inr
      (tt, said_refused before (events.Submit task release due ops) refused)
  enters_one before (events.Collect task release due) (Err refused) h = inr
      (tt, said_refused before (events.Collect task release due) refused)
  enters_one before events.Slot (Err refused) h = absurd h

  enters : (front before : List AskedEvent) → AreHeard front → AreEntered (asked front) (said_log before) (said_log (before ++ front))
  enters [] before h = ap said_log (append-nil before)
  enters (s ∷ front) before h = (
    said_log (before ++ s ∷ []),
    enters_one before s.event s.reply h.0,
    subst (λ (xs : List AskedEvent). AreEntered (asked front) (said_log (before ++ s ∷ [])) (said_log xs)) (append_assoc before (s ∷ []) front)
        (enters front (before ++ s ∷ []) h.1),
  )

  -- and has at most as many slots

  counts_slot : (before after : List AskedEvent) (reply : Reply) → all ≡ before ++ asked_event events.Slot (Ok reply) ∷ after
      → now (said_log (before ++ asked_event events.Slot (Ok reply) ∷ [])) ≡ now (said_log before) + 1
  counts_slot before after reply is =
      let t = known.accepted before after events.Slot reply is in
      by reply (slot_answered start (said_log before) reply t.0 t.1)
    where
      by : (r : Reply) → IsSlotReply r → now (said_log (before ++ asked_event events.Slot (Ok r) ∷ [])) ≡ now (said_log before) + 1
      by (replies.Slot slot) h = ap now (said_accepted before events.Slot (replies.Slot slot)) ∙ slot_counted (said_log before) _ slot refl
      by (replies.Taken number) h = absurd h
      by (replies.Refused refusal) h = absurd h

  counts_one : (before after : List AskedEvent) (event : Event) (reply : Result Reply RefusedAt) → IsHeard event reply → all ≡ before
      ++ asked_event event reply ∷ after
      → now (said_log (before ++ asked_event event reply ∷ [])) ≡ now (said_log before) + cond (is_slot event) 1 0
  counts_one before after events.Slot (Ok reply) h is = counts_slot before after reply is
  counts_one before after events.Slot (Err refused) h is = absurd h
  counts_one before after (events.Submit task release due ops) reply h is = omega
      (arith, stays_at never start all before after (events.Submit task release due ops) reply known is tt)
  counts_one before after (events.Collect task release due) reply h is = omega
      (arith, stays_at never start all before after (events.Collect task release due) reply known is tt)

  counts : (front before after : List AskedEvent) → AreHeard front → all ≡ before ++ (front ++ after) → now (said_log (before ++ front))
      ≡ now (said_log before) + slots (asked front)
  counts [] before after h is = omega (arith, ap (λ (b : List AskedEvent). now (said_log b)) (append-nil before))
  counts (s ∷ front) before after h is =
      let one = counts_one before (front ++ after) s.event s.reply h.0 is in
      let more = counts front (before ++ s ∷ []) after h.1 (after_first all before front after s is) in
      let same : now (said_log (before ++ s ∷ front)) ≡ now (said_log ((before ++ s ∷ []) ++ front)) = ap
      (λ (b : List AskedEvent). now (said_log b)) (split_one before front s) in
      let counted : slots (asked (s ∷ front)) ≡ cond (is_slot s.event) 1 0 + slots (asked front) = sum_by-cons (λ e. cond (is_slot e) 1 0)
      s.event (asked front) in
      omega (arith, one, more, same, counted)

-- What is left over could be entered

slots_more : (es over : List Event) → slots (es ++ over) ≡ slots es + slots over
slots_more es over = sum_by-append (λ e. cond (is_slot e) 1 0) es over

entered_on : (es over : List Event) (past mid log : Log) → AreEntered es past mid → AreEntered over mid log
    → AreEntered (es ++ over) past log
entered_on [] over past mid log is more = subst (λ (l : Log). AreEntered over l log) is more
entered_on (e ∷ es) over past mid log h more = (h.0, h.1, entered_on es over h.0 mid log h.2 more)

abbrev calls_for : List Event → List (ℕ × Event)
calls_for over = map (λ (e : Event). (0, e)) over

events_back : (over : List Event) → running.events_of (calls_for over) ≡ over
events_back [] = refl
events_back (e ∷ over) = ap (λ (es : List Event). e ∷ es) (events_back over)

answered_longer : (caller : ℕ) (event : Event) (reply : Reply) (past log : Log)
    → ((later : Log) × (log ≡ later ++ with_answer caller event reply past)) → (later : Log) × (log ≡ later ++ past)
answered_longer caller event (replies.Refused refusal) past log h = h
answered_longer caller event (replies.Taken number) past log h = (
  h.0 ++ with_entry caller event (replies.Taken number) [],
  h.1
      ∙ sym (append_assoc h.0 (with_entry caller event (replies.Taken number) []) past),
)
answered_longer caller event (replies.Slot slot) past log h = (
  h.0 ++ with_entry caller event (replies.Slot slot) [],
  h.1
      ∙ sym (append_assoc h.0 (with_entry caller event (replies.Slot slot) []) past),
)

run_longer : (start : Start) (calls : List (ℕ × Event)) (past : Log) → (later : Log) × (run start past calls ≡ later ++ past)
run_longer start [] past = ([], refl)
run_longer start (call ∷ calls) past = answered_longer call.0 call.1 (answer start past call.1) past (run start past (call ∷ calls))
    (run_longer start calls (after_call start past call))

-- What keeps the plan

-- the event of an entry comes after those before it
pub reported_more : (past log : Log) (event : Event) (reply : Reply) (rest : List Event) → log ≡ with_entry 0 event reply past → events_of_log past
    ++ event ∷ rest ≡ events_of_log log ++ rest
reported_more past log event reply rest is = sym (append_assoc (events_of_log past) (event ∷ []) rest) ∙ ap (λ (l : Log). events_of_log l ++ rest) (sym is)

pub not_refused : (start : Start) (past : Log) (event : Event) (refusal : Refusal) → refusal_of start past event ≡ None
    → answer start past event ≡ replies.Refused refusal → ⊥
not_refused start past event refusal none is = subst IsAccepted (sym (accepted_answer start past event none) ∙ is)
    (entered start past 0 event).0

no_slot : (event : Event) → IsArrival event → event ≡ events.Slot → ⊥
no_slot event h is = subst IsArrival is h

module _ (never : Bool) (start : Start) (times : Times) (bound : IsOpening start) (passes : Passes start.plan times)
    (stocked : AreStocked start times) (all : List AskedEvent) (known : AreReported never start all) (exact : IsExact start (said_log all)) where
  -- an event of the feed that keeps the plan is refused out of memory alone
  by_memory : (past : Log) (event : Event) (rest : List Event) (refusal : Refusal) → IsArrival event → IsExact start past
      → KeepsPlan start.plan times (events_of_log past ++ event ∷ rest) → MayRefuse never start past event refusal → IsForMemory never refusal
  by_memory past event rest refusal fed is keeps (inl (inl own)) = absurd
      (not_refused start past event refusal (unrefused start times bound passes stocked past event rest is keeps) own)
  by_memory past event rest refusal fed is keeps (inl (inr memory)) = inl memory.1
  by_memory past event rest refusal fed is keeps (inr (inl fault)) = absurd (no_slot event fed fault.1)
  by_memory past event rest refusal fed is keeps (inr (inr stopped)) = inr stopped

  taken_from : (front before after : List AskedEvent) (over : List Event) (place : ℕ) → all ≡ before ++ (front ++ after) → AreHeard front
      → KeepsPlan start.plan times (events_of_log (said_log before) ++ (asked front ++ over)) → AreTakenUntilMemory never (refused_from place front)
  taken_from [] before after over place is h keeps = tt
  taken_from (s ∷ front) before after over place is h keeps = by s.event s.reply is h.0 keeps
      (λ n. taken_from front (before ++ s ∷ []) after over n (after_first all before front after s is) h.1)
    where
      by : (event : Event) (reply : Result Reply RefusedAt) → all ≡ before ++ ((asked_event event reply ∷ front) ++ after) → IsHeard event reply
          → KeepsPlan start.plan times (events_of_log (said_log before) ++ (event ∷ asked front ++ over))
          → ((n : ℕ) → KeepsPlan start.plan times (events_of_log (said_log (before ++ asked_event event reply ∷ [])) ++ (asked front ++ over))
          → AreTakenUntilMemory never (refused_from n front))
          → AreTakenUntilMemory never (with_refused place event reply (refused_from (place_beyond event place) front))
      by events.Slot (Ok reply) at heard keep more = more place
          (subst (KeepsPlan start.plan times) (reported_more (said_log before) _ events.Slot reply (asked front ++ over)
          (said_accepted before events.Slot reply)) keep)
      by events.Slot (Err refused) at heard keep more = absurd heard
      by (events.Submit task release due ops) (Ok reply) at heard keep more =
          more (suc place) (subst (KeepsPlan start.plan times)
          (reported_more (said_log before) _ (events.Submit task release due ops) reply (asked front ++ over)
          (said_accepted before (events.Submit task release due ops) reply)) keep)
      by (events.Submit task release due ops) (Err refused) at heard keep more =
          by_memory (said_log before) (events.Submit task release due ops) (asked front ++ over) refused.refusal tt
          (front_exact start all before _ exact at) keep
          (known.refused before (front ++ after) (events.Submit task release due ops) refused at)
      by (events.Collect task release due) (Ok reply) at heard keep more =
          more (suc place) (subst (KeepsPlan start.plan times)
          (reported_more (said_log before) _ (events.Collect task release due) reply (asked front ++ over)
          (said_accepted before (events.Collect task release due) reply)) keep)
      by (events.Collect task release due) (Err refused) at heard keep more =
          by_memory (said_log before) (events.Collect task release due) (asked front ++ over) refused.refusal tt
          (front_exact start all before _ exact at) keep
          (known.refused before (front ++ after) (events.Collect task release due) refused at)

  -- what was heard is in time, since what is left over could be entered after it
  in_time : (front after : List AskedEvent) (over : List Event) → all ≡ front ++ after → AreHeard front
      → KeepsPlan start.plan times (asked front ++ over) → IsInTime start.plan (said_log front)
  in_time front after over is h keeps =
      let calls = calls_for over in
      let later = run_longer start calls (said_log front) in
      let none : now (said_log []) ≡ 0 = refl in
      let few : now (said_log front) + slots over ≤ MAX_SLOT = omega
      (arith, none, counts never start all known front [] after h is, slots_more (asked front) over, keeps.few_slots) in
      let on : AreEntered over (said_log front) (run start (said_log front) calls) = subst
      (λ (es : List Event). AreEntered es (said_log front) (run start (said_log front) calls)) (events_back over)
      (run_enters start calls (said_log front) (subst (λ (es : List Event). now (said_log front) + slots es ≤ MAX_SLOT)
      (sym (events_back over)) few)) in
      let whole = entered_on (asked front) over [] (said_log front) (run start (said_log front) calls)
      (enters never start all known front [] h) on in
      planned_in_time start times bound passes (asked front ++ over) keeps later.0 (said_log front)
      (subst (IsExact start) later.1 (run_exact start (said_log front) calls (front_exact start all front after exact is)))
      (subst (AreEntered (asked front ++ over) []) later.1 whole)

-- A slot that is refused

refused_last : (front : List AskedEvent) (refused : RefusedAt) (place : ℕ) → refused_from place (front ++ asked_event events.Slot (Err refused) ∷ [])
    ≡ refused_from place front
refused_last [] refused place = refl
refused_last (s ∷ front) refused place = ap (with_refused place s.event s.reply) (refused_last front refused (place_beyond s.event place))

heard_on : (event : Event) (reply : Result Reply RefusedAt) (later : Option RefusedAt) → IsHeard event reply → stop_or event reply later
    ≡ later
heard_on events.Slot (Ok reply) later h = refl
heard_on events.Slot (Err refused) later h = absurd h
heard_on (events.Submit task release due ops) reply later h = refl
heard_on (events.Collect task release due) reply later h = refl

stops_after : (front rest : List AskedEvent) → AreHeard front → stop_of (front ++ rest) ≡ stop_of rest
stops_after [] rest h = refl
stops_after (s ∷ front) rest h = heard_on s.event s.reply (stop_of (front ++ rest)) h.0 ∙ stops_after front rest h.1

stops_for_memory : (never : Bool) (start : Start) (past : Log) (refusal : Refusal) → now past < MAX_SLOT
    → MayRefuse never start past events.Slot refusal → IsForMemoryOrFault never refusal
stops_for_memory never start past refusal few (inl own) = inl (inl (slot_refused start past refusal few own))
stops_for_memory never start past refusal few (inr (inl fault)) = inr (fault.0, inr (ap Err fault.3))
stops_for_memory never start past refusal few (inr (inr stopped)) = inl (inr stopped)

-- All together

record Goes (never : Bool) (start : Start) (all : List AskedEvent) : Type 0 where
  in_time_is : IsInTime start.plan (said_log all)
  taken_is : AreTakenUntilMemory never (refused_from 0 all)
  carried_is : IfSome (stop_of all) (λ stop. IsForMemoryOrFault never stop.refusal)

module _ (never : Bool) (start : Start) (times : Times) (bound : IsOpening start) (passes : Passes start.plan times)
    (stocked : AreStocked start times) (all : List AskedEvent) (known : AreReported never start all) (exact : IsExact start (said_log all)) where
  goes : (es : List Event) (p : Parts es all) → KeepsPlan start.plan times es → Goes never start all
  goes es p keeps = by p.ends
    where
      kept : KeepsPlan start.plan times (asked p.front ++ p.over)
      kept = subst (KeepsPlan start.plan times) p.events_are keeps

      by : Ends p.front p.over all → Goes never start all
      by (inl same) =
          let here : all ≡ p.front ++ [] = same ∙ sym (append-nil p.front) in
          record {
            in_time_is = subst (λ (xs : List AskedEvent). IsInTime start.plan (said_log xs)) (sym same)
                (in_time never start times bound passes stocked all known exact p.front [] p.over here p.heard kept);
            taken_is = subst (λ (xs : List AskedEvent). AreTakenUntilMemory never (refused_from 0 xs)) (sym same)
                (taken_from never start times bound passes stocked all known exact p.front [] [] p.over 0 here p.heard kept);
            carried_is = subst (λ (o : Option RefusedAt). IfSome o (λ stop. IsForMemoryOrFault never stop.refusal))
                (sym (ap stop_of here ∙ stops_after p.front [] p.heard)) tt;
          }
      by (inr (refused, more, last, left)) =
          let s : AskedEvent = asked_event events.Slot (Err refused) in
          let at_slot : slots p.over ≡ 1 + slots more = ap slots left ∙ sum_by-cons (λ e. cond (is_slot e) 1 0) events.Slot more in
          let none : now (said_log []) ≡ 0 = refl in
          let few : now (said_log p.front) < MAX_SLOT = omega (
            arith,
            none,
            counts never start all known p.front [] (s ∷ []) p.heard last,
            slots_more (asked p.front) p.over,
            kept.few_slots,
            at_slot,
          ) in
          record {
            in_time_is = subst (IsInTime start.plan) (sym (ap said_log last ∙ said_refused p.front events.Slot refused))
                (in_time never start times bound passes stocked all known exact p.front (s ∷ []) p.over last p.heard kept);
            taken_is = subst (AreTakenUntilMemory never) (sym (ap (refused_from 0) last ∙ refused_last p.front refused 0))
                (taken_from never start times bound passes stocked all known exact p.front [] (s ∷ []) p.over 0 last p.heard kept);
            carried_is = subst (λ (o : Option RefusedAt). IfSome o (λ stop. IsForMemoryOrFault never stop.refusal))
                (sym (ap stop_of last ∙ stops_after p.front (s ∷ []) p.heard))
                (stops_for_memory never start (said_log p.front) refused.refusal few (known.refused p.front [] events.Slot refused last));
          }

pub go_as_planned : (never : Bool) (start : Start) (count : ℕ) (feed : List Arrival) (end : DieEnd) (log : Log) → AllArrive feed
    → FeedKeepsPlan start count feed → RanAlone never start count feed end log → FeedGoesAsPlanned never start.plan end log
go_as_planned never start count feed end log arrive k r =
    let all : List AskedEvent = saids never count start feed end log r in
    let known = are_reported never count start feed end log r in
    let bound : IsOpening start = subst IsOpening (start_is never count start feed end log r) r.ran.exact.opens in
    let g = goes never start k.times bound k.passes k.stocked all known (said_exact never count start feed end log r) (events_of_feed count feed)
    (parts never start all known count 0 feed [] all refl r.ran.ordered refl arrive) k.keeps in
    record {
      in_time = subst (IsInTime start.plan) (sym (said_is never count start feed end log r)) g.in_time_is;
      taken = subst (AreTakenUntilMemory never) (sym (ap (λ (e : DieEnd). e.refused) r.ran.end_is)) g.taken_is;
      carried = subst (λ (o : Option RefusedAt). IfSome o (λ stop. IsForMemoryOrFault never stop.refusal))
          (sym (ap (λ (e : DieEnd). e.stop) r.ran.end_is)) g.carried_is;
    }
