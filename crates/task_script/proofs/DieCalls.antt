-- A die that its run owns, asked for the events of its feed and for slots, ran its rows and slots.
use Rattle.std.specs.Prelude.{IfSome}
use Rattle.std.proofs.Common.{◌≡◌, ℕ, zero, suc, ◌+◌, ◌<◌, ◌≤◌, Bool, true, false, cond, List, [], ◌∷◌, ◌++◌, refl, ap, sym, ◌∙◌, subst, length, map}
use Rattle.std.proofs.Common.{append_assoc, arith, inl, inr, Option, None, Some, Result, Ok, Err, All}
use Rattle.std.proofs.lemmas.Bool.{eq-eqb, ne_eqb, false≢true}
use Rattle.std.proofs.lemmas.List.{append-nil}
use Rattle.std.proofs.lemmas.List.Elements.{All-nil, All-cons, All-head, All-tail}
use Rattle.std.specs.List.{FoldsTo}
use Rattle.slot_types.specs.declared.plans.DiePlan.{DiePlan}
use Rattle.slot_types.specs.declared.events.Event.{Event}
use Rattle.slot_types.specs.declared.events.Event.TheVariants as events
use Rattle.slot_types.specs.declared.limits.TheConstants.{MAX_SLOT}
use Rattle.slot_types.specs.declared.refusals.Refusal.{Refusal}
use Rattle.slot_types.specs.declared.refusals.Refusal.TheVariants.{NoMemory}
use Rattle.slot_types.specs.declared.replies.Reply.{Reply}
use Rattle.slot_types.specs.declared.replies.Reply.TheVariants as replies
use Rattle.flash_die.specs.declared.nand.NandCall.{NandCall}
use Rattle.die_log.specs.Model.Log.{now}
use Rattle.die_log.specs.Model.Start.{Start, fresh}
use Rattle.die_log.specs.Model.Answers.{answer, IsAccepted}
use Rattle.slot_core.specs.Calls.{RefusesCall}
use Rattle.slot_core.specs.Core.{Core, with_entry}
use Rattle.die_service.specs.declared.ends.RefusedEvent.{RefusedEvent}
use Rattle.die_service.specs.declared.feeds.Arrival.{Arrival}
use Rattle.die_service.specs.declared.refused.RefusedAt.{RefusedAt}
use Rattle.die_service.specs.OwnRuns.{IsAsked}
use Rattle.die_service.specs.Runs as feed
use Rattle.slot_types.specs.Arrivals.{IsArrival}
use Rattle.slot_types.specs.Arriving.{arrivals_by, arrivals_after}
use Rattle.slot_types.proofs.Arriving.{arrived_hold, later_hold, arrived_all, arrived_and_later, arrived_map, later_map}
use Rattle.die_service.specs.Runs.{AskedEvent, asked_event, comes_at, AreAsked, InClockOrder, with_refused, place_beyond, refused_from, stop_of}
use Rattle.script_texts.specs.declared.script_rows.ScriptItem.{ScriptItem}
use Rattle.task_script.specs.declared.run_counts.RowEnd.{RowEnd}
use Rattle.task_script.specs.DieRuns.{ScriptCall, Row, Slot, Ends, MakesCalls, run_at, end_of, row_slot, calls_from}
use Rattle.task_script.specs.RowEnds.{arrival_of, arrivals_of, lines_of, row_end, ends_from}
use Rattle.die_service.proofs.SlotCalls.{numbered, slot_counted, slot_refused, taken_stays}
use Rattle.task_script.proofs.Calling.{ran_more}

-- The rows that come by a slot are the events that do

same_arrived : (slot : ℕ) (items : List ScriptItem)
    → arrivals_by comes_at slot (arrivals_of items) ≡ arrivals_of (arrivals_by row_slot slot items)
same_arrived = arrived_map arrival_of comes_at

same_coming : (slot : ℕ) (items : List ScriptItem) → arrivals_after comes_at slot (arrivals_of items) ≡ arrivals_of (arrivals_after row_slot slot items)
same_coming = later_map arrival_of comes_at

-- What became of the rows

abbrev refusal_in : Result Reply RefusedAt → Option Refusal
refusal_in (Ok reply) = None
refusal_in (Err refused) = Some refused.refusal

abbrev ends_said : List ScriptItem → List AskedEvent → List RowEnd
ends_said (item ∷ items) (s ∷ fed) = end_of item (refusal_in s.reply) ∷ ends_said items fed
ends_said _ _ = []

asked_first : (item : ScriptItem) (items : List ScriptItem) (s : AskedEvent) (fed : List AskedEvent) → AreAsked (arrivals_of (item ∷ items)) (s ∷ fed)
    → s.event ≡ item.event
asked_first item items s fed asked = cc

asked_rest : (item : ScriptItem) (items : List ScriptItem) (s : AskedEvent) (fed : List AskedEvent) → AreAsked (arrivals_of (item ∷ items)) (s ∷ fed)
    → AreAsked (arrivals_of items) fed
asked_rest item items s fed asked = cc

asked_none : (s : AskedEvent) (fed : List AskedEvent) → AreAsked (arrivals_of []) (s ∷ fed) → ⊥
asked_none s fed asked = absurd cc

asked_some : (item : ScriptItem) (items : List ScriptItem) → AreAsked (arrivals_of (item ∷ items)) [] → ⊥
asked_some item items asked = absurd cc

abbrev noted_at : ℕ → Result Reply RefusedAt → List RefusedEvent → List RefusedEvent
noted_at place (Ok reply) more = more
noted_at place (Err refused) more = record { place = place; refused = refused } ∷ more

noted_arrival : (place : ℕ) (event : Event) (reply : Result Reply RefusedAt) (saids : List AskedEvent) → IsArrival event
    → with_refused place event reply (refused_from (place_beyond event place) saids) ≡ noted_at place reply (refused_from (place + 1) saids)
noted_arrival place (events.Submit task release due ops) (Ok reply) saids h = ap (λ (n : ℕ). refused_from n saids) (omega arith)
noted_arrival place (events.Submit task release due ops) (Err refused) saids h = ap (λ (n : ℕ). record { place = place; refused = refused }
    ∷ refused_from n saids) (omega arith)
noted_arrival place (events.Collect task release due) (Ok reply) saids h = ap (λ (n : ℕ). refused_from n saids) (omega arith)
noted_arrival place (events.Collect task release due) (Err refused) saids h = ap (λ (n : ℕ). record { place = place; refused = refused }
    ∷ refused_from n saids) (omega arith)
noted_arrival place events.Slot reply saids h = absurd h

-- the refused events from a place on have no place before it
module _ (first : ℕ) where
  abbrev AreAfter : List RefusedEvent → Type 0
  AreAfter refused = All (λ r. first ≤ r.place) refused

  after_one : (place : ℕ) (refused : RefusedAt) (more : List RefusedEvent) → first ≤ place → AreAfter more
      → AreAfter (record { place = place; refused = refused } ∷ more)
  after_one place refused more from rest = All-cons (λ r. first ≤ r.place) (record { place = place; refused = refused }) more from rest

  after_noted : (place : ℕ) (event : Event) (reply : Result Reply RefusedAt) (saids : List AskedEvent) → first ≤ place
      → ((n : ℕ) → first ≤ n → AreAfter (refused_from n saids))
      → AreAfter (with_refused place event reply (refused_from (place_beyond event place) saids))
  after_noted place events.Slot reply saids from more = more place from
  after_noted place (events.Submit task release due ops) (Ok reply) saids from more = more (suc place) (omega arith)
  after_noted place (events.Submit task release due ops) (Err refused) saids from more = after_one place refused
      (refused_from (suc place) saids) from (more (suc place) (omega arith))
  after_noted place (events.Collect task release due) (Ok reply) saids from more = more (suc place) (omega arith)
  after_noted place (events.Collect task release due) (Err refused) saids from more = after_one place refused
      (refused_from (suc place) saids) from (more (suc place) (omega arith))

  all_after : (saids : List AskedEvent) (place : ℕ) → first ≤ place → AreAfter (refused_from place saids)
  all_after [] place from = All-nil (λ r. first ≤ r.place)
  all_after (s ∷ saids) place from = after_noted place s.event s.reply saids from (all_after saids)

ends_skip : (place line : ℕ) (lines : List ℕ) (refused : List RefusedEvent) → All (λ r. place + 1 ≤ r.place) refused
    → ends_from place (line ∷ lines) refused ≡ row_end line None ∷ ends_from (place + 1) lines refused
ends_skip place line lines [] h = refl
ends_skip place line lines (r ∷ refused) h =
    let beyond = All-head (λ (e : RefusedEvent). place + 1 ≤ e.place) r refused h in
    ap (λ (b : Bool). cond b (row_end line (Some r.refused.refusal) ∷ ends_from (place + 1) lines refused) (row_end line None
    ∷ ends_from (place + 1) lines (r ∷ refused)))
    (ne_eqb r.place place (λ same. absurd (omega (arith, same, beyond))))

ends_noted : (place line : ℕ) (lines : List ℕ) (reply : Result Reply RefusedAt) (saids : List AskedEvent)
    → ends_from place (line ∷ lines) (noted_at place reply (refused_from (place + 1) saids)) ≡ row_end line (refusal_in reply)
    ∷ ends_from (place + 1) lines (refused_from (place + 1) saids)
ends_noted place line lines (Ok reply) saids = ends_skip place line lines (refused_from (place + 1) saids)
    (all_after (place + 1) saids (place + 1) (omega arith))
ends_noted place line lines (Err refused) saids =
    ap (λ (b : Bool). cond b (row_end line (Some refused.refusal) ∷ ends_from (place + 1) lines (refused_from (place + 1) saids))
    (row_end line None ∷ ends_from (place + 1) lines (record { place = place; refused = refused } ∷ refused_from (place + 1) saids)))
    (eq-eqb place place refl)

ends_split : (items later : List ScriptItem) (fed rest : List AskedEvent) (place : ℕ) → AreAsked (arrivals_of items) fed
    → All (λ item. IsArrival item.event) items
    → ends_from place (lines_of (items ++ later)) (refused_from place (fed ++ rest)) ≡ ends_said items fed
    ++ ends_from (place + length items) (lines_of later) (refused_from (place + length items) rest)
ends_split [] later [] rest place asked arrive = ap (λ (n : ℕ). ends_from n (lines_of later) (refused_from n rest)) (omega arith)
ends_split [] later (s ∷ fed) rest place asked arrive = absurd (asked_none s fed asked)
ends_split (item ∷ items) later [] rest place asked arrive = absurd (asked_some item items asked)
ends_split (item ∷ items) later (s ∷ fed) rest place asked arrive =
    let A : ScriptItem → Type 0 = λ i. IsArrival i.event in
    let here : IsArrival s.event = subst IsArrival (sym (asked_first item items s fed asked)) (All-head A item items arrive) in
    ap (ends_from place (lines_of (item ∷ items ++ later))) (noted_arrival place s.event s.reply (fed ++ rest) here)
    ∙ (ends_noted place item.line (lines_of (items ++ later)) s.reply (fed ++ rest)
    ∙ ap (λ (es : List RowEnd). end_of item (refusal_in s.reply) ∷ es)
    (ends_split items later fed rest (place + 1) (asked_rest item items s fed asked) (All-tail A item items arrive)
    ∙ ap (λ (n : ℕ). ends_said items fed ++ ends_from n (lines_of later) (refused_from n rest)) (omega arith)))

stop_after : (items : List ScriptItem) (fed rest : List AskedEvent) → AreAsked (arrivals_of items) fed → All (λ item. IsArrival item.event) items
    → stop_of (fed ++ rest) ≡ stop_of rest
stop_after [] [] rest asked arrive = refl
stop_after [] (s ∷ fed) rest asked arrive = absurd (asked_none s fed asked)
stop_after (item ∷ items) [] rest asked arrive = absurd (asked_some item items asked)
stop_after (item ∷ items) (s ∷ fed) rest asked arrive =
    let A : ScriptItem → Type 0 = λ i. IsArrival i.event in
    by s.event s.reply (subst IsArrival (sym (asked_first item items s fed asked)) (All-head A item items arrive))
    (stop_after items fed rest (asked_rest item items s fed asked) (All-tail A item items arrive))
  where
    by : (event : Event) (reply : Result Reply RefusedAt) → IsArrival event → stop_of (fed ++ rest) ≡ stop_of rest
        → feed.stop_or event reply (stop_of (fed ++ rest)) ≡ stop_of rest
    by (events.Submit task release due ops) reply h same = same
    by (events.Collect task release due) reply h same = same
    by events.Slot reply h same = absurd h

-- Calls one after the other

pub folds_split : {P A : Type 0} (R : P → A → P → Type 0) (xs ys : List A) (u w : P) → FoldsTo R u (xs ++ ys) w
    → (v : P) × FoldsTo R u xs v × FoldsTo R v ys w
folds_split R [] ys u w all = (u, refl, all)
folds_split R (x ∷ xs) ys u w all = let rest = folds_split R xs ys all.0 w all.2 in (rest.0, (all.0, all.1, rest.1), rest.2)

-- Of a die in memory

module _ {N : Type 0} (ends : N → NandCall → Bool → N → Type 0) (failures : N → ℕ) (plan : DiePlan) where
  abbrev Step : Core N → AskedEvent → Core N → Type 0
  Step = IsAsked ends failures true

  -- it runs, from a fresh start
  pub record IsRunning (die : Core N) : Type 0 where
    pub start_is : die.start ≡ fresh plan
    pub runs : die.stopped ≡ false

  -- what one call comes to
  pub record CallCameTo (before : Core N) (event : Event) (reply : Result Reply RefusedAt) (after : Core N) : Type 0 where
    pub ended : Ends plan before.log event (refusal_in reply) after.log
    pub running : IsRunning after
    pub stays : IsArrival event → now after.log ≡ now before.log

  stays_running : (before after : Core N) → after ≡ before → IsRunning before → IsRunning after
  stays_running before after same r = record {
    start_is = ap (λ (c : Core N). c.start) same ∙ r.start_is;
    runs = ap (λ (c : Core N). c.stopped) same ∙ r.runs;
  }

  pub one_call : (before after : Core N) (event : Event) (reply : Result Reply RefusedAt) → IsRunning before
      → Step before (asked_event event reply) after → CallCameTo before event reply after
  one_call before after event (Ok reply) r s =
      let a = s.called.ended in
      let answered : answer (fresh plan) before.log event ≡ reply = subst (λ (start : Start). answer start before.log event ≡ reply)
      r.start_is a.answered in record {
        ended = (
          subst IsAccepted (sym answered) a.accepted,
          a.logged ∙ ap (λ (x : Reply). with_entry 0 event x before.log) (sym answered),
        );
        running = record { start_is = s.called.start_stays ∙ r.start_is; runs = a.runs };
        stays = λ arrives. ap now a.logged ∙ taken_stays (fresh plan) before.log event reply arrives answered a.accepted;
      }
  one_call before after event (Err refused) r s = by s.called.ended
    where
      unchanged : after ≡ before → Ends plan before.log event (Some refused.refusal) after.log → CallCameTo before event (Err refused) after
      unchanged same ended = record {
        ended = ended;
        running = stays_running before after same r;
        stays = λ arrives. ap (λ (c : Core N). now c.log) same;
      }

      by : RefusesCall event refused.refusal before after → CallCameTo before event (Err refused) after
      by (inl log) = unchanged log.unchanged (
        inl (subst (λ (start : Start). answer start before.log event ≡ replies.Refused refused.refusal) r.start_is log.answered),
        ap (λ (c : Core N). c.log) log.unchanged,
      )
      by (inr (inl memory)) = unchanged memory.unchanged (
        inr (subst (λ (start : Start). IsAccepted (answer start before.log event)) r.start_is memory.accepted, memory.refusal_is),
        ap (λ (c : Core N). c.log) memory.unchanged,
      )
      by (inr (inr (inl fault))) = absurd (s.called.device.never refl (ap (λ (x : Refusal). Err x) fault.refusal_is))
      by (inr (inr (inr stopped))) = absurd (false≢true (sym r.runs ∙ stopped.was_stopped))

  -- Rows one after the other

  pub record RowsCameTo (before : Core N) (ended : List RowEnd) (items : List ScriptItem) (fed : List AskedEvent) (after : Core N) : Type 0 where
    pub ran : MakesCalls plan (run_at before.log ended) (map Row items) (run_at after.log (ended ++ ends_said items fed))
    pub running : IsRunning after
    pub stays : now after.log ≡ now before.log

  rows_run : (items : List ScriptItem) (fed : List AskedEvent) (before after : Core N) (ended : List RowEnd) → AreAsked (arrivals_of items) fed
      → All (λ item. IsArrival item.event) items → IsRunning before → FoldsTo Step before fed after → RowsCameTo before ended items fed after
  rows_run [] [] before after ended asked arrive r calls = record {
    ran = let back : after ≡ before = sym calls in λ i. run_at (back i).log (append-nil ended i);
    running = stays_running before after (sym calls) r;
    stays = ap (λ (c : Core N). now c.log) (sym calls);
  }
  rows_run [] (s ∷ fed) before after ended asked arrive r calls = absurd (asked_none s fed asked)
  rows_run (item ∷ items) [] before after ended asked arrive r calls = absurd (asked_some item items asked)
  rows_run (item ∷ items) (s ∷ fed) before after ended asked arrive r calls =
      let A : ScriptItem → Type 0 = λ i. IsArrival i.event in
      let same = asked_first item items s fed asked in
      let here : IsArrival s.event = subst IsArrival (sym same) (All-head A item items arrive) in
      let one = one_call before calls.0 s.event s.reply r calls.1 in
      let more : List RowEnd = ended ++ end_of item (refusal_in s.reply) ∷ [] in
      let rest = rows_run items fed calls.0 after more (asked_rest item items s fed asked) (All-tail A item items arrive) one.running calls.2 in
      record {
        ran = (
          run_at calls.0.log more,
          (refusal_in s.reply, subst (λ (e : Event). Ends plan before.log e (refusal_in s.reply) calls.0.log) same one.ended, refl),
          subst (λ (es : List RowEnd). MakesCalls plan (run_at calls.0.log more) (map Row items) (run_at after.log es))
              (append_assoc ended (end_of item (refusal_in s.reply) ∷ []) (ends_said items fed)) rest.ran,
        );
        running = rest.running;
        stays = rest.stays ∙ one.stays here;
      }

  -- Slots one after the other

  -- these calls were run up to this slot, and the rows with these lines ended so
  pub record ComesTo (before : Core N) (ended : List RowEnd) (calls : List ScriptCall) (place : ℕ) (lines : List ℕ) (rest : List AskedEvent)
      (time : ℕ) (after : Core N) : Type 0 where
    pub more : List RowEnd
    pub ran : MakesCalls plan (run_at before.log ended) calls (run_at after.log (ended ++ more))
    pub slots : now after.log ≡ time
    pub more_is : more ≡ ends_from place lines (refused_from place rest)
    pub running : IsRunning after

  stopped_not : (refused : RefusedAt) → ◌≡◌ {A = Option RefusedAt} (Some refused) None → ⊥
  stopped_not refused e = absurd cc

  pub slots_run : (left clock : ℕ) (items : List ScriptItem) (before after : Core N) (rest : List AskedEvent) (ended : List RowEnd) (place : ℕ)
      → InClockOrder left clock (arrivals_of items) rest → FoldsTo Step before rest after → IsRunning before → now before.log ≡ clock
      → stop_of rest ≡ None → All (λ item. item.at ≤ clock + left) items → All (λ item. IsArrival item.event) items
      → ComesTo before ended (calls_from clock left items) place (lines_of items) rest (clock + left) after
  slots_run zero clock items before after rest ended place ordered calls r at_now none_stopped due arrive =
      let in_time : All (λ item. item.at ≤ clock) items = subst (λ (n : ℕ). All (λ item. item.at ≤ n) items) (omega arith) due in
      let asked : AreAsked (arrivals_of items) rest = subst (λ (xs : List Arrival). AreAsked xs rest) (same_arrived clock items
      ∙ ap arrivals_of (arrived_all row_slot clock items in_time)) ordered in
      let rows = rows_run items rest before after ended asked arrive r calls in
      record {
        more = ends_said items rest;
        ran = rows.ran;
        slots = rows.stays ∙ (at_now ∙ omega arith);
        more_is = sym (append-nil (ends_said items rest)) ∙ (sym (ends_split items [] rest [] place asked arrive)
            ∙ λ i. ends_from place (lines_of (append-nil items i)) (refused_from place (append-nil rest i)));
        running = rows.running;
      }
  slots_run (suc left) clock items before after rest ended place (fed, beyond, split, asked, inr (refused, last)) calls r at_now none_stopped due
      arrive =
      let these = subst (λ (xs : List Arrival). AreAsked xs fed) (same_arrived clock items) asked in
      let arrive_now = arrived_hold row_slot clock (λ item. IsArrival item.event) items arrive in
      absurd (stopped_not refused (sym (ap stop_of split ∙ (stop_after (arrivals_by row_slot clock items) fed beyond these arrive_now
      ∙ ap stop_of last)) ∙ none_stopped))
  slots_run (suc left) clock items before after rest ended place (fed, beyond, split, asked, inl (slot, more, first, ordered)) calls r at_now
      none_stopped due arrive =
      let now_due = arrivals_by row_slot clock items in
      let later = arrivals_after row_slot clock items in
      let tail = asked_event events.Slot (Ok (replies.Slot slot)) ∷ more in
      let rest_is : rest ≡ fed ++ tail = split ∙ ap (λ (xs : List AskedEvent). fed ++ xs) first in
      let these = subst (λ (xs : List Arrival). AreAsked xs fed) (same_arrived clock items) asked in
      let arrive_now = arrived_hold row_slot clock (λ item. IsArrival item.event) items arrive in
      let cut = folds_split Step fed tail before after (subst (λ (xs : List AskedEvent). FoldsTo Step before xs after) rest_is calls) in
      let rows = rows_run now_due fed before cut.0 ended these arrive_now r cut.1 in
      let step = cut.2 in
      let one = one_call cut.0 step.0 events.Slot (Ok (replies.Slot slot)) rows.running step.1 in
      let a = step.1.called.ended in
      let here : now cut.0.log ≡ clock = rows.stays ∙ at_now in
      let number : slot.slot ≡ clock = numbered cut.0.start cut.0.log slot a.answered ∙ here in
      let on = slots_run left (clock + 1) later step.0 after more (ended ++ ends_said now_due fed) (place + length now_due)
      (subst (λ (x : ℕ × List Arrival). InClockOrder left x.0 x.1 more) (λ i. (number i + 1, same_coming clock items i)) ordered)
      step.2 one.running (slot_counted cut.0.log step.0.log slot a.logged ∙ ap (λ (n : ℕ). n + 1) here)
      (sym (ap stop_of rest_is ∙ stop_after now_due fed tail these arrive_now) ∙ none_stopped)
      (subst (λ (n : ℕ). All (λ item. item.at ≤ n) later) (omega arith) (later_hold row_slot clock (λ item. item.at ≤ clock + suc left) items due))
      (later_hold row_slot clock (λ item. IsArrival item.event) items arrive) in
      record {
        more = ends_said now_due fed ++ on.more;
        ran = ran_more plan (run_at before.log ended) (run_at cut.0.log (ended ++ ends_said now_due fed))
            (run_at after.log (ended ++ (ends_said now_due fed ++ on.more))) (map Row now_due) (Slot ∷ calls_from (clock + 1) left later)
            rows.ran (
              run_at step.0.log (ended ++ ends_said now_due fed),
              (one.ended, refl),
              subst (λ (es : List RowEnd). MakesCalls plan (run_at step.0.log (ended ++ ends_said now_due fed)) (calls_from (clock + 1) left later)
                  (run_at after.log es)) (append_assoc ended (ends_said now_due fed) on.more) on.ran,
            );
        slots = on.slots ∙ omega arith;
        more_is = ap (λ (es : List RowEnd). ends_said now_due fed ++ es) on.more_is
            ∙ (sym (ends_split now_due later fed tail place these arrive_now)
            ∙ λ i. ends_from place (lines_of (arrived_and_later row_slot clock items i)) (refused_from place (sym rest_is i)));
        running = on.running;
      }

  -- Where a slot is refused

  -- a slot below the last one that a die reaches is refused out of memory alone
  slot_memory : (before after : Core N) (refused : RefusedAt) → IsRunning before → now before.log < MAX_SLOT
      → Step before (asked_event events.Slot (Err refused)) after → refused.refusal ≡ NoMemory
  slot_memory before after refused r few s = slot_refused (fresh plan) before.log refused.refusal few
      (one_call before after events.Slot (Err refused) r s).ended.0

  pub stops_for_memory : (left clock : ℕ) (items : List ScriptItem) (before after : Core N) (rest : List AskedEvent)
      → InClockOrder left clock (arrivals_of items) rest → FoldsTo Step before rest after → IsRunning before → now before.log ≡ clock
      → clock + left ≤ MAX_SLOT → All (λ item. IsArrival item.event) items → IfSome (stop_of rest) (λ refused. refused.refusal ≡ NoMemory)
  stops_for_memory zero clock items before after rest ordered calls r at_now few arrive =
      let these = subst (λ (xs : List Arrival). AreAsked xs rest) (same_arrived clock items) ordered in
      let arrive_now = arrived_hold row_slot clock (λ item. IsArrival item.event) items arrive in
      let none : stop_of rest ≡ None = ap stop_of (sym (append-nil rest)) ∙ stop_after (arrivals_by row_slot clock items) rest [] these arrive_now in
      subst (λ (o : Option RefusedAt). IfSome o (λ refused. refused.refusal ≡ NoMemory)) (sym none) tt
  stops_for_memory (suc left) clock items before after rest (fed, beyond, split, asked, inr (refused, last)) calls r at_now few arrive =
      let these = subst (λ (xs : List Arrival). AreAsked xs fed) (same_arrived clock items) asked in
      let arrive_now = arrived_hold row_slot clock (λ item. IsArrival item.event) items arrive in
      let said = asked_event events.Slot (Err refused) in
      let rest_is : rest ≡ fed ++ said ∷ [] = split ∙ ap (λ (xs : List AskedEvent). fed ++ xs) last in
      let cut = folds_split Step fed (said ∷ []) before after (subst (λ (xs : List AskedEvent). FoldsTo Step before xs after) rest_is calls) in
      let rows = rows_run (arrivals_by row_slot clock items) fed before cut.0 [] these arrive_now r cut.1 in
      let stop_is : stop_of rest ≡ Some refused = ap stop_of rest_is ∙ stop_after (arrivals_by row_slot clock items) fed (said ∷ []) these arrive_now in
      subst (λ (o : Option RefusedAt). IfSome o (λ by. by.refusal ≡ NoMemory)) (sym stop_is)
      (slot_memory cut.0 cut.2.0 refused rows.running (omega (arith, rows.stays, at_now, few)) cut.2.1)
  stops_for_memory (suc left) clock items before after rest (fed, beyond, split, asked, inl (slot, more, first, ordered)) calls r at_now few arrive =
      let now_due = arrivals_by row_slot clock items in
      let tail = asked_event events.Slot (Ok (replies.Slot slot)) ∷ more in
      let rest_is : rest ≡ fed ++ tail = split ∙ ap (λ (xs : List AskedEvent). fed ++ xs) first in
      let these = subst (λ (xs : List Arrival). AreAsked xs fed) (same_arrived clock items) asked in
      let arrive_now = arrived_hold row_slot clock (λ item. IsArrival item.event) items arrive in
      let cut = folds_split Step fed tail before after (subst (λ (xs : List AskedEvent). FoldsTo Step before xs after) rest_is calls) in
      let rows = rows_run now_due fed before cut.0 [] these arrive_now r cut.1 in
      let step = cut.2 in
      let one = one_call cut.0 step.0 events.Slot (Ok (replies.Slot slot)) rows.running step.1 in
      let a = step.1.called.ended in
      let here : now cut.0.log ≡ clock = rows.stays ∙ at_now in
      let number : slot.slot ≡ clock = numbered cut.0.start cut.0.log slot a.answered ∙ here in
      subst (λ (o : Option RefusedAt). IfSome o (λ by. by.refusal ≡ NoMemory))
      (sym (ap stop_of rest_is ∙ stop_after now_due fed tail these arrive_now))
      (stops_for_memory left (clock + 1) (arrivals_after row_slot clock items) step.0 after more
      (subst (λ (x : ℕ × List Arrival). InClockOrder left x.0 x.1 more) (λ i. (number i + 1, same_coming clock items i)) ordered)
      step.2 one.running (slot_counted cut.0.log step.0.log slot a.logged ∙ ap (λ (n : ℕ). n + 1) here) (omega (arith, few))
      (later_hold row_slot clock (λ item. IsArrival item.event) items arrive))
