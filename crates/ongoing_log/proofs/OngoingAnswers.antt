-- What a task of a die that goes on by itself is answered tells from the slots and its own asks alone, also where some are for
-- slots ahead.
use Rattle.std.proofs.Common.{◌≡◌, ◌≢◌, ℕ, ◌+◌, ◌-◌, ◌<◌, ◌==◌, nat_lt, Bool, true, false, cond, if◌then◌else◌, List, [], ◌∷◌, ◌++◌, length, map, get_or}
use Rattle.std.proofs.Common.{Option, Some, None, refl, ap, sym, ◌∙◌, arith}
use Rattle.std.proofs.lemmas.Bool.{eqb-true}
use Rattle.std.proofs.lemmas.Bool.Decides.{nat_tests}
use Rattle.std.proofs.lemmas.List.{get_or-set_other, get_or-set_same}
use Rattle.slot_types.specs.declared.events.Op.{Op}
use Rattle.slot_types.specs.declared.plans.DiePlan.{DiePlan}
use Rattle.demand_rules.specs.declared.terms.TaskTerms.{TaskTerms}
use Rattle.demand_rules.specs.declared.terms.Terms.{Terms}
use Rattle.demand_rules.specs.Demand.{terms_of}
use Rattle.die_log.specs.Model.Log.{Log, now}
use Rattle.die_log.specs.Model.Start.{Start}
use Rattle.die_log.specs.Model.Lives.{Lives, all_slots}
use Rattle.planned_log.specs.declared.ask_kinds.AskKind.{AskKind}
use Rattle.planned_log.specs.declared.refusals.AskRefusal.{AskRefusal}
use Rattle.planned_log.specs.declared.refusals.AskRefusal.TheVariants as because
use Rattle.planned_log.specs.Asks.{Asked, asked_by}
use Rattle.planned_log.specs.AskKinds.{refusal_as, jobs_as, with_jobs, with_asked}
use Rattle.planned_log.specs.Bursts.{jobs_of}
use Rattle.planned_log.specs.Laws.{Seen, Asks, Slots, seen_by}
use Rattle.planned_log.specs.Moves.{Move, Ask, Slot}
use Rattle.planned_log.proofs.Answered.{refused_now, other_ask, own_ask}
use Rattle.ongoing_log.specs.PastLives.{counted}
use Rattle.ongoing_log.specs.Ongoing.{WaitingAsk, Ongoing, waiting_of, awaited_of, start_of, clock_of, Answer, Refused, Enters, Waits, WaitsAlready, Past, TooFarAhead}
use Rattle.ongoing_log.specs.Ongoing.{unless_waits, answer_by, answer_to, after_answer, answers_to, due_at, left_at, let_in, next_life, living_on, carried, ongoing_after_move}
use Rattle.ongoing_log.specs.Ongoing.{AreLongEnough, IsOngoing}
use Rattle.ongoing_log.specs.Ahead.{last_slot, wait_until, refusal_at, answer_ahead, answer_at, AheadMove, Now, AskAt, ahead_after_move, ahead_answer_to, ahead_answers_to}
use Rattle.ongoing_log.specs.Ahead.{AheadSeen, Sees, AsksAt, ahead_seen_of, ahead_seen_by}
use Rattle.ongoing_log.proofs.Passing.{plan_stays}
use Rattle.ongoing_log.proofs.WhatWaits.{left_reads, none_due}
use Rattle.ongoing_log.proofs.GoingOn.{Begins, Sound, sound_now, sound_at, known_waits, let_in_now, asks_none, asks_here, slot_log, slot_now, slot_asked, next_clock, slot_begins, ahead_goes_on}

-- By what the task sees

-- what the answers to a task depend on: where the present life began on the clock, its slot, what the task asked for, and the
-- slot and the operations of its ask that waits
record Known : Type 0 where
  pub first : ℕ
  pub slot : ℕ
  pub asked : List Asked
  pub awaits : Option (ℕ × List Op)

abbrev unless_known : Option (ℕ × List Op) → Answer → Answer
unless_known None answer = answer
unless_known (Some a) answer = WaitsAlready

unless_is : (v : Option WaitingAsk) (answer : Answer) → unless_waits v answer ≡ unless_known (awaited_of v) answer
unless_is None answer = refl
unless_is (Some w) answer = refl

abbrev told_by : (first slot life deadline : ℕ) → Option (ℕ × List Op) → Option AskRefusal → Answer
told_by first slot life deadline v None = unless_known v (Enters (first + slot) (first + slot + deadline))
told_by first slot life deadline v (Some because.LifeEnd) = unless_known v (Waits (first + life) (first + life + deadline))
told_by first slot life deadline v (Some refusal) = Refused refusal

told_is : (first slot life deadline : ℕ) (v : Option WaitingAsk) (o : Option AskRefusal)
    → answer_by first slot life deadline v o ≡ told_by first slot life deadline (awaited_of v) o
told_is first slot life deadline v None = unless_is v (Enters (first + slot) (first + slot + deadline))
told_is first slot life deadline v (Some because.LifeEnd) = unless_is v (Waits (first + life) (first + life + deadline))
told_is first slot life deadline v (Some because.DieStopped) = refl
told_is first slot life deadline v (Some because.UnknownTask) = refl
told_is first slot life deadline v (Some because.EmptyJob) = refl
told_is first slot life deadline v (Some (because.TooManyOps most)) = refl
told_is first slot life deadline v (Some (because.BadPage page)) = refl
told_is first slot life deadline v (Some (because.TooManyWrites most)) = refl
told_is first slot life deadline v (Some (because.TooSoon next)) = refl

abbrev wait_told : (at last deadline : ℕ) → Option (ℕ × List Op) → (release : ℕ) → Answer
wait_told at last deadline v release = cond (nat_lt last at) (TooFarAhead last) (unless_known v (Waits release (release + deadline)))

wait_is : (at last deadline : ℕ) (v : Option WaitingAsk) (release : ℕ) → wait_until at last deadline v release ≡ wait_told at last deadline (awaited_of v) release
wait_is at last deadline v release = ap (cond (nat_lt last at) (TooFarAhead last)) (unless_is v (Waits release (release + deadline)))

abbrev told_ahead : (at last first life deadline : ℕ) → Option (ℕ × List Op) → Option AskRefusal → Answer
told_ahead at last first life deadline v None = wait_told at last deadline v at
told_ahead at last first life deadline v (Some because.LifeEnd) = wait_told at last deadline v (first + life)
told_ahead at last first life deadline v (Some refusal) = Refused refusal

ahead_is : (at last first life deadline : ℕ) (v : Option WaitingAsk) (o : Option AskRefusal)
    → answer_ahead at last first life deadline v o ≡ told_ahead at last first life deadline (awaited_of v) o
ahead_is at last first life deadline v None = wait_is at last deadline v at
ahead_is at last first life deadline v (Some because.LifeEnd) = wait_is at last deadline v (first + life)
ahead_is at last first life deadline v (Some because.DieStopped) = refl
ahead_is at last first life deadline v (Some because.UnknownTask) = refl
ahead_is at last first life deadline v (Some because.EmptyJob) = refl
ahead_is at last first life deadline v (Some (because.TooManyOps most)) = refl
ahead_is at last first life deadline v (Some (because.BadPage page)) = refl
ahead_is at last first life deadline v (Some (because.TooManyWrites most)) = refl
ahead_is at last first life deadline v (Some (because.TooSoon next)) = refl

-- what waits for the slot enters
abbrev entered_known : Known → Option (ℕ × List Op) → Known
entered_known s None = s
entered_known s (Some a) =
    cond (a.0 == s.first + s.slot) (record s { asked = with_asked (s.first + s.slot) (jobs_of a.1) s.asked; awaits = None }) s

module _ (plan : DiePlan) (terms : Terms) (life task : ℕ) where
  abbrev own_terms : TaskTerms
  own_terms = terms_of terms task

  abbrev answer_in : Known → AskKind → List Op → Answer
  answer_in s kind ops = told_by s.first s.slot life own_terms.deadline s.awaits (refused_now plan terms life s.first task kind s.slot s.asked ops)

  abbrev answer_in_at : Known → AskKind → List Op → ℕ → Answer
  answer_in_at s kind ops at =
      cond (nat_lt at (s.first + s.slot)) Past (cond (at == s.first + s.slot) (answer_in s kind ops)
      (told_ahead at (last_slot (s.first + s.slot) own_terms.period s.first life) s.first life own_terms.deadline s.awaits
      (refused_now plan terms life s.first task kind (at - s.first) s.asked ops)))

  abbrev after_told : Known → AskKind → List Op → Answer → Known
  after_told s kind ops (Enters release due) = record s { asked = with_asked (s.first + s.slot) (jobs_as kind ops) s.asked }
  after_told s kind ops (Waits release due) = record s { awaits = Some (release, ops) }
  after_told s kind ops _ = s

  abbrev begun_known : Known → Known
  begun_known s = cond (s.slot + 1 == life) (record s { first = s.first + (s.slot + 1); slot = 0 }) (record s { slot = s.slot + 1 })

  abbrev after_slot : Known → Known
  after_slot s = entered_known (begun_known s) (begun_known s).awaits

  abbrev known_answers : Known → List AheadSeen → List Answer
  known_answers s [] = []
  known_answers s (Sees (Asks kind ops) ∷ rest) = answer_in s kind ops ∷ known_answers (after_told s kind ops (answer_in s kind ops)) rest
  known_answers s (Sees Slots ∷ rest) = known_answers (after_slot s) rest
  known_answers s (AsksAt kind ops at ∷ rest) =
      answer_in_at s kind ops at ∷ known_answers (after_told s kind ops (answer_in_at s kind ops at)) rest

-- A die

module _ (first : Start) (terms : Terms) (life task : ℕ) (long : AreLongEnough terms life) where
  abbrev known_of : Ongoing → Known
  known_of d = record {
    first = all_slots (counted d.earlier);
    slot = now d.log;
    asked = asked_by task (d.log ∷ counted d.earlier);
    awaits = awaited_of (waiting_of d task);
  }

  -- what waits enters
  let_in_known : (n : Ongoing) → Begins first terms life n → known_of (let_in first terms life n) ≡ entered_known (known_of n) (awaited_of (waiting_of n task))
  let_in_known n b = by (waiting_of n task) refl
    where
      clock : ℕ
      clock = clock_of n

      left_is : (v : Option WaitingAsk) → left_at clock (waiting_of n task) ≡ v
          → awaited_of (waiting_of (let_in first terms life n) task) ≡ awaited_of v
      left_is v e = ap awaited_of (left_reads clock n.waiting task ∙ e)

      here : Option (ℕ × List Op) → List Asked → Known
      here awaits asked = record { first = all_slots (counted n.earlier); slot = now n.log; asked = asked; awaits = awaits }

      then_is : (v : Option WaitingAsk) (asked : List Asked) → left_at clock (waiting_of n task) ≡ v
          → asked_by task ((let_in first terms life n).log ∷ counted n.earlier) ≡ asked
          → known_of (let_in first terms life n) ≡ here (awaited_of v) asked
      then_is v asked left same = λ i. record {
        first = all_slots (counted n.earlier);
        slot = let_in_now first terms life n b i;
        asked = same i;
        awaits = left_is v left i;
      }

      by_slot : (w : WaitingAsk) → waiting_of n task ≡ Some w → (t : Bool) → (w.until == clock) ≡ t
          → known_of (let_in first terms life n)
          ≡ cond t (here None (with_asked clock (jobs_of w.ops) (asked_by task (n.log ∷ counted n.earlier)))) (known_of n)
      by_slot w is true e =
          then_is None (with_asked clock (jobs_of w.ops) (asked_by task (n.log ∷ counted n.earlier))) (ap (left_at clock) is ∙ rw e refl)
          (asks_here first terms life n b task w is (sym (eqb-true w.until clock e)))
      by_slot w is false e =
          then_is (waiting_of n task) (asked_by task (n.log ∷ counted n.earlier)) (ap (left_at clock) is ∙ (rw e refl ∙ sym is))
          (asks_none first terms life n b task (none_due clock (waiting_of n task) w is e))

      by : (v : Option WaitingAsk) → waiting_of n task ≡ v → known_of (let_in first terms life n) ≡ entered_known (known_of n) (awaited_of v)
      by None is = then_is (waiting_of n task) (asked_by task (n.log ∷ counted n.earlier)) (ap (left_at clock) is ∙ sym is)
          (asks_none first terms life n b task (ap (λ (v : Option WaitingAsk). due_of v) is))
        where
          due_of : Option WaitingAsk → Option WaitingAsk
          due_of v = due_at clock v
      by (Some w) is = by_slot w is (w.until == clock) refl

  module _ (d : Ongoing) (k : IsOngoing first terms life d) where
    abbrev start : Start
    start = start_of first d

    -- another task's ask
    other_known : (kind : AskKind) (caller other : ℕ) (ops : List Op) (a : Answer) → Sound first terms life d k kind other ops a → (other == task) ≡ false
        → known_of (after_answer first terms d kind caller other ops a) ≡ known_of d
    other_known kind caller other ops (Enters release due) s away =
        let o = other_ask start terms (counted d.earlier) life task d.log k.kept kind caller other ops away None s.1 in
        λ i. record { first = all_slots (counted d.earlier); slot = o.0 i; asked = o.1 i; awaits = awaited_of (waiting_of d task) }
    other_known kind caller other ops (Waits release due) s away =
        ap (λ (v : Option WaitingAsk). record { first = all_slots (counted d.earlier); slot = now d.log; asked = asked_by task (d.log ∷ counted d.earlier); awaits = awaited_of v })
        (get_or-set_other d.waiting other task (Some (record { caller = caller; ops = ops; until = release })) None apart)
      where
        apart : task ≢ other
        apart same = grind (arith, nat_tests, away, same)
    other_known kind caller other ops (Refused refusal) s away = refl
    other_known kind caller other ops WaitsAlready s away = refl
    other_known kind caller other ops Past s away = refl
    other_known kind caller other ops (TooFarAhead last) s away = refl

    -- the task's own ask
    own_known : (kind : AskKind) (caller : ℕ) (ops : List Op) (a : Answer) → Sound first terms life d k kind task ops a
        → known_of (after_answer first terms d kind caller task ops a) ≡ after_told start.plan terms life task (known_of d) kind ops a
    own_known kind caller ops (Enters release due) s =
        let o = own_ask start terms (counted d.earlier) life task d.log k.kept kind caller task ops same None s.1 in
        λ i. record { first = all_slots (counted d.earlier); slot = o.0 i; asked = o.1 i; awaits = awaited_of (waiting_of d task) }
      where
        same : (task == task) ≡ true
        same = grind (arith, nat_tests)
    own_known kind caller ops (Waits release due) s =
        ap (λ (v : Option WaitingAsk). record { first = all_slots (counted d.earlier); slot = now d.log; asked = asked_by task (d.log ∷ counted d.earlier); awaits = awaited_of v })
        (get_or-set_same d.waiting task (Some (record { caller = caller; ops = ops; until = release })) None
        (known_waits first terms life d k task (record { caller = caller; ops = ops; until = release }) (s.1 caller)))
    own_known kind caller ops (Refused refusal) s = refl
    own_known kind caller ops WaitsAlready s = refl
    own_known kind caller ops Past s = refl
    own_known kind caller ops (TooFarAhead last) s = refl

    -- a slot
    module _ (caller : ℕ) where
      abbrev begun : Ongoing
      begun = living_on life (carried first terms life d caller)

      abbrev log : Log
      log = slot_log first terms life d k caller

      slot_begun : known_of begun ≡ begun_known start.plan terms life task (known_of d)
      slot_begun = by (now log == life) ∙ ap (λ n. cond (n == life) (record (known_of d) { first = all_slots (counted d.earlier) + (now d.log + 1); slot = 0 })
          (record (known_of d) { slot = now d.log + 1 })) (slot_now first terms life d k caller)
        where
          by : (b : Bool) → known_of (cond b (next_life (carried first terms life d caller)) (carried first terms life d caller))
              ≡ cond b (record (known_of d) { first = all_slots (counted d.earlier) + (now d.log + 1); slot = 0 }) (record (known_of d) { slot = now d.log + 1 })
          by true = λ i. record {
            first = next_clock first terms life d k caller i;
            slot = 0;
            asked = slot_asked first terms life d k caller task i;
            awaits = awaited_of (waiting_of d task);
          }
          by false = λ i. record {
            first = all_slots (counted d.earlier);
            slot = slot_now first terms life d k caller i;
            asked = slot_asked first terms life d k caller task i;
            awaits = awaited_of (waiting_of d task);
          }

      one_slot : known_of (ongoing_after_move first terms life d (Slot caller)) ≡ after_slot start.plan terms life task (known_of d)
      one_slot =
          let_in_known begun (slot_begins first terms life d k long caller)
          ∙ ap (λ (s : Known). entered_known s s.awaits) slot_begun

    told_here : (kind : AskKind) (ops : List Op) → answer_to first terms life d kind task ops ≡ answer_in start.plan terms life task (known_of d) kind ops
    told_here kind ops = told_is (all_slots (counted d.earlier)) (now d.log) life (terms_of terms task).deadline (waiting_of d task)
        (refusal_as kind start.plan terms life (counted d.earlier) d.log task ops)

    told_at : (kind : AskKind) (ops : List Op) (at : ℕ) → answer_at first terms life d kind task ops at
        ≡ answer_in_at start.plan terms life task (known_of d) kind ops at
    told_at kind ops at = λ i. cond (nat_lt at (clock_of d)) Past (cond (at == clock_of d) (told_here kind ops i)
        (ahead_is at (last_slot (clock_of d) (terms_of terms task).period (all_slots (counted d.earlier)) life) (all_slots (counted d.earlier)) life
        (terms_of terms task).deadline (waiting_of d task)
        (refusal_at kind start.plan terms life (counted d.earlier) d.log (at - all_slots (counted d.earlier)) task ops) i))

  abbrev known_told : Known → List AheadSeen → List Answer
  known_told s seen = known_answers first.plan terms life task s seen

  -- one more ask
  module _ (d : Ongoing) (k : IsOngoing first terms life d) (kind : AskKind) (caller : ℕ) (ops : List Op) where
    own_then : (a b : Answer) → Sound first terms life d k kind task ops a → a ≡ b → (rest : List Answer) (seen : List AheadSeen)
        → rest ≡ known_told (known_of (after_answer first terms d kind caller task ops a)) seen
        → a ∷ rest ≡ b ∷ known_told (after_told first.plan terms life task (known_of d) kind ops b) seen
    own_then a b sound same rest seen is =
        let after : known_of (after_answer first terms d kind caller task ops a) ≡ after_told first.plan terms life task (known_of d) kind ops b =
        own_known d k kind caller ops a sound ∙ ap (after_told first.plan terms life task (known_of d) kind ops) same in
        ap (λ (l : List Answer). a ∷ l) (is ∙ ap (λ (s : Known). known_told s seen) after)
        ∙ ap (λ (x : Answer). x ∷ known_told (after_told first.plan terms life task (known_of d) kind ops b) seen) same

    of_plan : answer_to first terms life d kind task ops ≡ answer_in first.plan terms life task (known_of d) kind ops
    of_plan = told_here d k kind ops
        ∙ ap (λ (plan : DiePlan). answer_in plan terms life task (known_of d) kind ops) (plan_stays first life d.earlier k.passed)

    of_plan_at : (at : ℕ) → answer_at first terms life d kind task ops at ≡ answer_in_at first.plan terms life task (known_of d) kind ops at
    of_plan_at at = told_at d k kind ops at
        ∙ ap (λ (plan : DiePlan). answer_in_at plan terms life task (known_of d) kind ops at) (plan_stays first life d.earlier k.passed)

  answers_known : (moves : List AheadMove) (d : Ongoing) → IsOngoing first terms life d
      → ahead_answers_to first terms life task d moves ≡ known_told (known_of d) (ahead_seen_by task moves)
  answers_known [] d k = refl
  answers_known (Now (Slot caller) ∷ moves) d k =
      answers_known moves (ongoing_after_move first terms life d (Slot caller)) (ahead_goes_on first terms life long d k (Now (Slot caller)))
      ∙ ap (λ (s : Known). known_told s (ahead_seen_by task moves)) (one_slot d k caller)
  answers_known (Now (Ask kind caller other ops) ∷ moves) d k =
      by_test (answers_known moves next (ahead_goes_on first terms life long d k (Now (Ask kind caller other ops)))) (other == task) refl
    where
      next : Ongoing
      next = ongoing_after_move first terms life d (Ask kind caller other ops)

      by_test : ahead_answers_to first terms life task next moves ≡ known_told (known_of next) (ahead_seen_by task moves)
          → (b : Bool) → (other == task) ≡ b
          → cond b (answer_to first terms life d kind task ops ∷ []) [] ++ ahead_answers_to first terms life task next moves
          ≡ known_told (known_of d) (map Sees (cond b (Asks kind ops ∷ []) []) ++ ahead_seen_by task moves)
      by_test rest false e = rest ∙ ap (λ (s : Known). known_told s (ahead_seen_by task moves))
          (other_known d k kind caller other ops (answer_to first terms life d kind other ops) (sound_now first terms life d k kind other ops) e)
      by_test rest true e =
          own_then d k kind caller ops (answer_to first terms life d kind task ops) (answer_in first.plan terms life task (known_of d) kind ops)
          (sound_now first terms life d k kind task ops) (of_plan d k kind caller ops) (ahead_answers_to first terms life task next moves) (ahead_seen_by task moves)
          (rest ∙ ap (λ i. known_told (known_of (ongoing_after_move first terms life d (Ask kind caller i ops))) (ahead_seen_by task moves)) (eqb-true other task e))
  answers_known (AskAt kind caller other ops at ∷ moves) d k =
      by_test (answers_known moves next (ahead_goes_on first terms life long d k (AskAt kind caller other ops at))) (other == task) refl
    where
      next : Ongoing
      next = ahead_after_move first terms life d (AskAt kind caller other ops at)

      by_test : ahead_answers_to first terms life task next moves ≡ known_told (known_of next) (ahead_seen_by task moves)
          → (b : Bool) → (other == task) ≡ b
          → cond b (answer_at first terms life d kind task ops at ∷ []) [] ++ ahead_answers_to first terms life task next moves
          ≡ known_told (known_of d) (cond b (AsksAt kind ops at ∷ []) [] ++ ahead_seen_by task moves)
      by_test rest false e = rest ∙ ap (λ (s : Known). known_told s (ahead_seen_by task moves))
          (other_known d k kind caller other ops (answer_at first terms life d kind other ops at) (sound_at first terms life d k kind other ops at) e)
      by_test rest true e =
          own_then d k kind caller ops (answer_at first terms life d kind task ops at) (answer_in_at first.plan terms life task (known_of d) kind ops at)
          (sound_at first terms life d k kind task ops at) (of_plan_at d k kind caller ops at) (ahead_answers_to first terms life task next moves)
          (ahead_seen_by task moves)
          (rest ∙ ap (λ i. known_told (known_of (ahead_after_move first terms life d (AskAt kind caller i ops at))) (ahead_seen_by task moves)) (eqb-true other task e))

  -- moves that are made now
  now_answers : (moves : List Move) (d : Ongoing) → answers_to first terms life task d moves ≡ ahead_answers_to first terms life task d (map Now moves)
  now_answers [] d = refl
  now_answers (Slot caller ∷ moves) d = now_answers moves (ongoing_after_move first terms life d (Slot caller))
  now_answers (Ask kind caller other ops ∷ moves) d =
      by (now_answers moves (ongoing_after_move first terms life d (Ask kind caller other ops))) (other == task)
    where
      next : Ongoing
      next = ongoing_after_move first terms life d (Ask kind caller other ops)

      by : answers_to first terms life task next moves ≡ ahead_answers_to first terms life task next (map Now moves) → (b : Bool)
          → cond b (answer_to first terms life d kind task ops ∷ answers_to first terms life task next moves) (answers_to first terms life task next moves)
          ≡ cond b (answer_to first terms life d kind task ops ∷ []) [] ++ ahead_answers_to first terms life task next (map Now moves)
      by rest true = ap (λ (l : List Answer). answer_to first terms life d kind task ops ∷ l) rest
      by rest false = rest

now_seen : (task : ℕ) (moves : List Move) → ahead_seen_by task (map Now moves) ≡ map Sees (seen_by task moves)
now_seen task [] = refl
now_seen task (Slot caller ∷ moves) = ap (λ (l : List AheadSeen). Sees Slots ∷ l) (now_seen task moves)
now_seen task (Ask kind caller other ops ∷ moves) = by (now_seen task moves) (other == task)
  where
    by : ahead_seen_by task (map Now moves) ≡ map Sees (seen_by task moves) → (b : Bool) → map Sees (cond b (Asks kind ops ∷ []) []) ++ ahead_seen_by task (map Now moves)
        ≡ map Sees (cond b (Asks kind ops ∷ seen_by task moves) (seen_by task moves))
    by rest true = ap (λ (l : List AheadSeen). Sees (Asks kind ops) ∷ l) rest
    by rest false = rest

-- two such dies answer a task alike
module _ (first other : Start) (terms : Terms) (life task : ℕ) (long : AreLongEnough terms life) (plan : first.plan ≡ other.plan)
    (one two : Ongoing) (k : IsOngoing first terms life one) (h : IsOngoing other terms life two)
    (clock : all_slots (counted one.earlier) ≡ all_slots (counted two.earlier)) (slot : now one.log ≡ now two.log)
    (asked : asked_by task (one.log ∷ counted one.earlier) ≡ asked_by task (two.log ∷ counted two.earlier))
    (awaits : awaited_of (waiting_of one task) ≡ awaited_of (waiting_of two task)) where
  same_known : known_of first terms life task long one ≡ known_of other terms life task long two
  same_known = λ i. record { first = clock i; slot = slot i; asked = asked i; awaits = awaits i }

  pub ahead_answered_alike : (moves others : List AheadMove) → ahead_seen_by task moves ≡ ahead_seen_by task others
      → ahead_answers_to first terms life task one moves ≡ ahead_answers_to other terms life task two others
  ahead_answered_alike moves others same =
      answers_known first terms life task long moves one k
      ∙ ((λ i. known_answers (plan i) terms life task (same_known i) (same i)) ∙ sym (answers_known other terms life task long others two h))

  pub ongoing_answered_alike : (moves others : List Move) → seen_by task moves ≡ seen_by task others
      → answers_to first terms life task one moves ≡ answers_to other terms life task two others
  ongoing_answered_alike moves others same =
      now_answers first terms life task long moves one
      ∙ (ahead_answered_alike (map Now moves) (map Now others) (now_seen task moves ∙ (ap (map Sees) same ∙ sym (now_seen task others)))
      ∙ sym (now_answers other terms life task long others two))
