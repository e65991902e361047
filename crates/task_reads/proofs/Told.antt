-- What a task's jobs are in each life of a die that begins its lives itself, by what it sees and what it is answered.
use Rattle.std.proofs.Common.{◌≡◌, ◌≢◌, inl, inr, ℕ, ◌+◌, ◌==◌, nat_lt, Bool, true, false, cond, List, [], ◌∷◌, ◌++◌, map, Option, Some, None}
use Rattle.std.proofs.Common.{refl, ap, sym, ◌∙◌, arith}
use Rattle.std.proofs.lemmas.Bool.{eqb-true}
use Rattle.std.proofs.lemmas.Bool.Decides.{nat_tests}
use Rattle.std.proofs.lemmas.List.{get_or-set_other, get_or-set_same}
use Rattle.slot_types.specs.declared.events.Op.{Op}
use Rattle.demand_rules.specs.declared.terms.Terms.{Terms}
use Rattle.die_log.specs.Model.Log.{Job, now}
use Rattle.die_log.specs.Model.Start.{Start}
use Rattle.die_log.specs.Model.Lives.{all_slots}
use Rattle.planned_log.specs.declared.ask_kinds.AskKind.{AskKind}
use Rattle.planned_log.specs.AskKinds.{jobs_as}
use Rattle.planned_log.specs.Bursts.{jobs_of}
use Rattle.planned_log.specs.Laws.{Asks, Slots}
use Rattle.planned_log.specs.Moves.{Ask, Slot}
use Rattle.planned_log.proofs.Answered.{other_ask, own_ask}
use Rattle.ongoing_log.specs.PastLives.{PastLife, Renewed, counted}
use Rattle.ongoing_log.specs.Ongoing.{WaitingAsk, Ongoing, waiting_of, awaited_of, start_of, clock_of, Answer, Refused, Enters, Waits, WaitsAlready, Past, TooFarAhead}
use Rattle.ongoing_log.specs.Ongoing.{answer_to, after_answer, due_at, left_at, let_in, next_life, living_on, carried, ongoing_after_move, AreLongEnough, IsOngoing}
use Rattle.ongoing_log.specs.Ahead.{answer_at, AheadMove, Now, AskAt, ahead_after_move, ahead_after, ahead_answers_to}
use Rattle.ongoing_log.specs.Ahead.{AheadSeen, Sees, AsksAt, ahead_seen_by}
use Rattle.ongoing_log.proofs.WhatWaits.{due_reads, left_reads, none_due, one_due}
use Rattle.ongoing_log.proofs.GoingOn.{Begins, Sound, sound_now, sound_at, known_waits, let_in_now, slot_now, next_clock, slot_begins, ahead_goes_on}
use Rattle.task_reads.proofs.Calls.{keys, new_key}
use Rattle.task_reads.proofs.Running.{others_keys, own_asked, slot_keys_if}
use Rattle.task_reads.proofs.Entering.{none_enters, own_enters}

-- By what the task sees

-- where the present life began on the clock, its slot, what waits of the task, and the task's jobs: of the present life, and of
-- those that ended
pub record Told : Type 0 where
  pub first : ℕ
  pub slot : ℕ
  pub awaits : Option (ℕ × List Op)
  pub own : List Job
  pub before : List (List Job)

module _ (terms : Terms) (life task : ℕ) where
  abbrev new_jobs : ℕ → List (List Op) → List Job
  new_jobs slot all = map (new_key terms task slot) all

  abbrev after_told : Told → AskKind → List Op → Answer → Told
  after_told s kind ops (Enters release due) = record s { own = s.own ++ new_jobs s.slot (jobs_as kind ops) }
  after_told s kind ops (Waits release due) = record s { awaits = Some (release, ops) }
  after_told s kind ops _ = s

  abbrev begun_told : Told → Told
  begun_told s = cond (s.slot + 1 == life)
      (record s { first = s.first + (s.slot + 1); slot = 0; own = []; before = s.own ∷ s.before }) (record s { slot = s.slot + 1 })

  abbrev entered_told : Told → Option (ℕ × List Op) → Told
  entered_told s None = s
  entered_told s (Some a) = cond (a.0 == s.first + s.slot) (record s { awaits = None; own = s.own ++ new_jobs s.slot (jobs_of a.1) }) s

  abbrev slot_told : Told → Told
  slot_told s = entered_told (begun_told s) (begun_told s).awaits

  -- each of its asks has an answer
  abbrev pub all_told : Told → List AheadSeen → List Answer → Told
  all_told s [] answers = s
  all_told s (Sees (Asks kind ops) ∷ rest) [] = s
  all_told s (Sees (Asks kind ops) ∷ rest) (a ∷ answers) = all_told (after_told s kind ops a) rest answers
  all_told s (Sees Slots ∷ rest) answers = all_told (slot_told s) rest answers
  all_told s (AsksAt kind ops at ∷ rest) [] = s
  all_told s (AsksAt kind ops at ∷ rest) (a ∷ answers) = all_told (after_told s kind ops a) rest answers

-- A die

-- the lives that ended by a move, before others that did
abbrev pub since_move : Start → Terms → ℕ → Ongoing → AheadMove → List PastLife → List PastLife
since_move first terms life d (Now (Ask kind caller task ops)) since = since
since_move first terms life d (Now (Slot caller)) since =
    let c = carried first terms life d caller in cond (now c.log == life) (record { log = c.log; ended = Renewed } ∷ since) since
since_move first terms life d (AskAt kind caller task ops at) since = since

abbrev pub since_moves : Start → Terms → ℕ → Ongoing → List AheadMove → List PastLife → List PastLife
since_moves first terms life d [] since = since
since_moves first terms life d (move ∷ moves) since =
    since_moves first terms life (ahead_after_move first terms life d move) moves (since_move first terms life d move since)

module _ (first : Start) (terms : Terms) (life task : ℕ) (long : AreLongEnough terms life) where
  abbrev pub told_of : List PastLife → Ongoing → Told
  told_of since d = record {
    first = all_slots (counted d.earlier);
    slot = now d.log;
    awaits = awaited_of (waiting_of d task);
    own = keys task d.log;
    before = map (λ (p : PastLife). keys task p.log) since;
  }

  -- what waits enters
  module _ (since : List PastLife) (n : Ongoing) (b : Begins first terms life n) where
    abbrev clock : ℕ
    clock = clock_of n

    abbrev next : Ongoing
    next = let_in first terms life n

    abbrev due_here : List (Option WaitingAsk)
    due_here = map (due_at clock) n.waiting

    abbrev here : Option (ℕ × List Op) → List Job → Told
    here awaits own = record {
      first = all_slots (counted n.earlier);
      slot = now n.log;
      awaits = awaits;
      own = own;
      before = map (λ (p : PastLife). keys task p.log) since;
    }

    then_is : (v : Option WaitingAsk) (own : List Job) → left_at clock (waiting_of n task) ≡ v → keys task next.log ≡ own
        → told_of since next ≡ here (awaited_of v) own
    then_is v own left same = λ i. record {
      first = all_slots (counted n.earlier);
      slot = let_in_now first terms life n b i;
      awaits = awaited_of ((left_reads clock n.waiting task ∙ left) i);
      own = same i;
      before = map (λ (p : PastLife). keys task p.log) since;
    }

    by_slot : (w : WaitingAsk) → waiting_of n task ≡ Some w → (t : Bool) → (w.until == clock) ≡ t
        → told_of since next ≡ cond t (here None (keys task n.log ++ new_jobs terms life task (now n.log) (jobs_of w.ops))) (told_of since n)
    by_slot w is true e =
        then_is None (keys task n.log ++ new_jobs terms life task (now n.log) (jobs_of w.ops)) (ap (left_at clock) is ∙ rw e refl)
        (own_enters (start_of first n) terms (counted n.earlier) life task due_here n.log b.kept w
        (due_reads clock n.waiting task ∙ one_due clock (waiting_of n task) w is e) (elim (b.waits task w is) [
          | inl enters ↦ enters.1
          | inr a ↦ absurd (omega (arith, a.later, eqb-true w.until clock e))
        ]))
    by_slot w is false e =
        then_is (waiting_of n task) (keys task n.log) (ap (left_at clock) is ∙ (rw e refl ∙ sym is))
        (none_enters (start_of first n) terms (counted n.earlier) life task due_here n.log b.kept
        (due_reads clock n.waiting task ∙ none_due clock (waiting_of n task) w is e))

    let_in_told : told_of since next ≡ entered_told terms life task (told_of since n) (awaited_of (waiting_of n task))
    let_in_told = by (waiting_of n task) refl
      where
        due_of : Option WaitingAsk → Option WaitingAsk
        due_of v = due_at clock v

        by : (v : Option WaitingAsk) → waiting_of n task ≡ v → told_of since next ≡ entered_told terms life task (told_of since n) (awaited_of v)
        by None is = then_is (waiting_of n task) (keys task n.log) (ap (left_at clock) is ∙ sym is)
            (none_enters (start_of first n) terms (counted n.earlier) life task due_here n.log b.kept
            (due_reads clock n.waiting task ∙ ap due_of is))
        by (Some w) is = by_slot w is (w.until == clock) refl

  module _ (since : List PastLife) (d : Ongoing) (k : IsOngoing first terms life d) where
    abbrev start : Start
    start = start_of first d

    abbrev with_own : List Job → ℕ → Told
    with_own own slot = record (told_of since d) { own = own; slot = slot }

    -- another task's ask
    other_told : (kind : AskKind) (caller other : ℕ) (ops : List Op) (a : Answer) → Sound first terms life d k kind other ops a → (other == task) ≡ false
        → told_of since (after_answer first terms d kind caller other ops a) ≡ told_of since d
    other_told kind caller other ops (Enters release due) s away =
        let o = other_ask start terms (counted d.earlier) life task d.log k.kept kind caller other ops away None s.1 in
        λ i. with_own (others_keys start terms (counted d.earlier) life task other away (jobs_as kind ops) d.log caller i) (o.0 i)
    other_told kind caller other ops (Waits release due) s away =
        ap (λ (v : Option WaitingAsk). record (told_of since d) { awaits = awaited_of v })
        (get_or-set_other d.waiting other task (Some (record { caller = caller; ops = ops; until = release })) None apart)
      where
        apart : task ≢ other
        apart same = grind (arith, nat_tests, away, same)
    other_told kind caller other ops (Refused refusal) s away = refl
    other_told kind caller other ops WaitsAlready s away = refl
    other_told kind caller other ops Past s away = refl
    other_told kind caller other ops (TooFarAhead last) s away = refl

    -- the task's own ask
    own_told : (kind : AskKind) (caller : ℕ) (ops : List Op) (a : Answer) → Sound first terms life d k kind task ops a
        → told_of since (after_answer first terms d kind caller task ops a) ≡ after_told terms life task (told_of since d) kind ops a
    own_told kind caller ops (Enters release due) s =
        let o = own_ask start terms (counted d.earlier) life task d.log k.kept kind caller task ops same None s.1 in
        λ i. with_own (own_asked start terms (counted d.earlier) life task d.log k.kept kind caller ops None s.1 i) (o.0 i)
      where
        same : (task == task) ≡ true
        same = grind (arith, nat_tests)
    own_told kind caller ops (Waits release due) s =
        ap (λ (v : Option WaitingAsk). record (told_of since d) { awaits = awaited_of v })
        (get_or-set_same d.waiting task (Some (record { caller = caller; ops = ops; until = release })) None
        (known_waits first terms life d k task (record { caller = caller; ops = ops; until = release }) (s.1 caller)))
    own_told kind caller ops (Refused refusal) s = refl
    own_told kind caller ops WaitsAlready s = refl
    own_told kind caller ops Past s = refl
    own_told kind caller ops (TooFarAhead last) s = refl

    -- a slot
    module _ (caller : ℕ) where
      abbrev then : Ongoing
      then = carried first terms life d caller

      abbrev then_since : List PastLife
      then_since = since_move first terms life d (Now (Slot caller)) since

      own_stays : keys task then.log ≡ keys task d.log
      own_stays = slot_keys_if start terms (counted d.earlier) life task d.log caller (nat_lt (now d.log) life)

      slot_begun : told_of then_since (living_on life then) ≡ begun_told terms life task (told_of since d)
      slot_begun = by (now then.log == life) ∙ ap (λ n. cond (n == life) ended on) (slot_now first terms life d k caller)
        where
          ended : Told
          ended = record (told_of since d) {
            first = all_slots (counted d.earlier) + (now d.log + 1);
            slot = 0;
            own = [];
            before = keys task d.log ∷ map (λ (p : PastLife). keys task p.log) since;
          }

          on : Told
          on = record (told_of since d) { slot = now d.log + 1 }

          by : (b : Bool) → told_of (cond b (record { log = then.log; ended = Renewed } ∷ since) since) (cond b (next_life then) then)
              ≡ cond b ended on
          by true = λ i. record {
            first = next_clock first terms life d k caller i;
            slot = 0;
            awaits = awaited_of (waiting_of d task);
            own = [];
            before = own_stays i ∷ map (λ (p : PastLife). keys task p.log) since;
          }
          by false = λ i. record {
            first = all_slots (counted d.earlier);
            slot = slot_now first terms life d k caller i;
            awaits = awaited_of (waiting_of d task);
            own = own_stays i;
            before = map (λ (p : PastLife). keys task p.log) since;
          }

      one_slot : told_of then_since (ongoing_after_move first terms life d (Slot caller)) ≡ slot_told terms life task (told_of since d)
      one_slot =
          let_in_told then_since (living_on life then) (slot_begins first terms life d k long caller)
          ∙ ap (λ (s : Told). entered_told terms life task s s.awaits) slot_begun

  -- so a task's jobs in all lives follow from what it sees and is answered
  pub run_told : (moves : List AheadMove) (since : List PastLife) (d : Ongoing) → IsOngoing first terms life d
      → told_of (since_moves first terms life d moves since) (ahead_after first terms life d moves)
      ≡ all_told terms life task (told_of since d) (ahead_seen_by task moves) (ahead_answers_to first terms life task d moves)
  run_told [] since d k = refl
  run_told (Now (Slot caller) ∷ moves) since d k =
      let next : Ongoing = ongoing_after_move first terms life d (Slot caller) in
      run_told moves (since_move first terms life d (Now (Slot caller)) since) next (ahead_goes_on first terms life long d k (Now (Slot caller)))
      ∙ ap (λ (s : Told). all_told terms life task s (ahead_seen_by task moves) (ahead_answers_to first terms life task next moves))
      (one_slot since d k caller)
  run_told (Now (Ask kind caller other ops) ∷ moves) since d k =
      by_test (run_told moves since next (ahead_goes_on first terms life long d k (Now (Ask kind caller other ops)))) (other == task) refl
    where
      next : Ongoing
      next = ongoing_after_move first terms life d (Ask kind caller other ops)

      end : Told
      end = told_of (since_moves first terms life next moves since) (ahead_after first terms life next moves)

      rest_told : Told → Told
      rest_told s = all_told terms life task s (ahead_seen_by task moves) (ahead_answers_to first terms life task next moves)

      by_test : end ≡ rest_told (told_of since next) → (b : Bool) → (other == task) ≡ b
          → end ≡ all_told terms life task (told_of since d) (map Sees (cond b (Asks kind ops ∷ []) []) ++ ahead_seen_by task moves)
          (cond b (answer_to first terms life d kind task ops ∷ []) [] ++ ahead_answers_to first terms life task next moves)
      by_test rest false e =
          rest ∙ ap rest_told (other_told since d k kind caller other ops (answer_to first terms life d kind other ops) (sound_now first terms life d k kind other ops) e)
      by_test rest true e =
          rest ∙ ap rest_told (ap (λ i. told_of since (ongoing_after_move first terms life d (Ask kind caller i ops))) (eqb-true other task e)
          ∙ own_told since d k kind caller ops (answer_to first terms life d kind task ops) (sound_now first terms life d k kind task ops))
  run_told (AskAt kind caller other ops at ∷ moves) since d k =
      by_test (run_told moves since next (ahead_goes_on first terms life long d k (AskAt kind caller other ops at))) (other == task) refl
    where
      next : Ongoing
      next = ahead_after_move first terms life d (AskAt kind caller other ops at)

      end : Told
      end = told_of (since_moves first terms life next moves since) (ahead_after first terms life next moves)

      rest_told : Told → Told
      rest_told s = all_told terms life task s (ahead_seen_by task moves) (ahead_answers_to first terms life task next moves)

      by_test : end ≡ rest_told (told_of since next) → (b : Bool) → (other == task) ≡ b
          → end ≡ all_told terms life task (told_of since d) (cond b (AsksAt kind ops at ∷ []) [] ++ ahead_seen_by task moves)
          (cond b (answer_at first terms life d kind task ops at ∷ []) [] ++ ahead_answers_to first terms life task next moves)
      by_test rest false e =
          rest ∙ ap rest_told (other_told since d k kind caller other ops (answer_at first terms life d kind other ops at) (sound_at first terms life d k kind other ops at) e)
      by_test rest true e =
          rest ∙ ap rest_told (ap (λ i. told_of since (ahead_after_move first terms life d (AskAt kind caller i ops at))) (eqb-true other task e)
          ∙ own_told since d k kind caller ops (answer_at first terms life d kind task ops at) (sound_at first terms life d k kind task ops at))
