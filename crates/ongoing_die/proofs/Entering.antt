-- An ask of the die below, for a job or for a burst, is a move of its log; and what waited is entered task by task.
use Rattle.std.proofs.Common.{◌≡◌, ℕ, zero, suc, ◌+◌, ◌<◌, ◌≤◌, ◌==◌, true, false, List, [], ◌∷◌, length, map, drop, get_or, set, Option, None, Some, Result, Ok, Err}
use Rattle.std.proofs.Common.{◌++◌, take, vec_capacity, refl, ap, sym, ◌∙◌, inl, inr, arith, add-one}
use Rattle.std.proofs.lemmas.Bool.{true≢false}
use Rattle.std.proofs.lemmas.List.{drop_more, get_or-map, length-map, map-set}
use Rattle.slot_types.specs.declared.events.Op.{Op}
use Rattle.slot_types.specs.declared.replies.Reply.{Reply}
use Rattle.slot_types.specs.declared.replies.Reply.TheVariants as replies
use Rattle.demand_rules.specs.declared.terms.Terms.{Terms}
use Rattle.die_log.specs.Model.Log.{Log, now}
use Rattle.die_log.specs.Model.Start.{Start}
use Rattle.die_log.specs.Model.Lives.{Lives}
use Rattle.die_log.specs.Model.Answers.{after_call, with_answer}
use Rattle.slot_core.specs.Core.{Core, with_entry}
use Rattle.planned_log.specs.declared.ask_kinds.AskKind.{AskKind}
use Rattle.planned_log.specs.declared.refusals.AskRefusal.{AskRefusal}
use Rattle.planned_log.specs.Asks.{asked_job}
use Rattle.planned_log.specs.AskKinds.{jobs_as, with_jobs}
use Rattle.planned_log.specs.Moves.{Ask, after_ask, after_move, after_moves}
use Rattle.ongoing_log.specs.Ongoing.{WaitingAsk, asks_of, due_at, left_at}
use Rattle.planned_die.specs.Planned.{Planned}
use Rattle.planned_die.specs.declared.bursts.Burst.{Burst}
use Rattle.planned_die.specs.PlannedCalls.{HasAsked, HaveAsked}
use Rattle.ongoing_die.specs.declared.waiting.Waiting.{Waiting}
use Rattle.ongoing_die.specs.Standing.{ask_in}
use Rattle.ongoing_die.specs.Entering.{after_one, IsSameDie}
use Rattle.ongoing_die.specs.DieAsks.{IsDieAsk}
use Rattle.ongoing_die.specs.OngoingCalls.{with_numbered}

pub same_die : {N : Type 0} (one two three : Planned N) → IsSameDie one two → IsSameDie two three → IsSameDie one three
same_die one two three a b = record {
  start = b.start ∙ a.start;
  device = b.device ∙ a.device;
  stopped = b.stopped ∙ a.stopped;
  terms = b.terms ∙ a.terms;
  life = b.life ∙ a.life;
  entered = b.entered ∙ a.entered;
  first = b.first ∙ a.first;
}

pub itself : {N : Type 0} (one : Planned N) → IsSameDie one one
itself one = record { start = refl; device = refl; stopped = refl; terms = refl; life = refl; entered = refl; first = refl }

-- one that nothing happened to
unchanged : {N : Type 0} (before after : Planned N) → after ≡ before → IsSameDie before after
unchanged {N} before after is = record {
  start = ap (λ (d : Planned N). d.core.start) is;
  device = ap (λ (d : Planned N). d.core.device) is;
  stopped = ap (λ (d : Planned N). d.core.stopped) is;
  terms = ap (λ (d : Planned N). d.terms) is;
  life = ap (λ (d : Planned N). d.life) is;
  entered = ap (λ (d : Planned N). d.entered) is;
  first = ap (λ (d : Planned N). d.first) is;
}

module _ {N : Type 0} (caller task : ℕ) (earlier : Lives) where
  -- a job leaves the die but for its log, and is its next entry, the log's next call
  one_same : (ops : List Op) (number : ℕ) (before after : Planned N) → HasAsked caller task ops earlier number before after → IsSameDie before after
  one_same ops number before after h = record {
    start = ap (λ (c : Core N). c.start) h.entered.logged;
    device = ap (λ (c : Core N). c.device) h.entered.logged;
    stopped = ap (λ (c : Core N). c.stopped) h.entered.logged;
    terms = ap (λ (d : Planned N). d.terms) h.stays;
    life = ap (λ (d : Planned N). d.life) h.stays;
    entered = ap (λ (d : Planned N). d.entered) h.stays;
    first = ap (λ (d : Planned N). d.first) h.stays;
  }

  one_log : (ops : List Op) (number : ℕ) (before after : Planned N) → HasAsked caller task ops earlier number before after
      → after.core.log ≡ after_call before.core.start before.core.log (caller, asked_job before.terms before.core.log task ops)
  one_log ops number before after h =
      ap (λ (c : Core N). c.log) h.entered.logged
      ∙ sym (ap (λ (r : Reply). with_answer caller (asked_job before.terms before.core.log task ops) r before.core.log) h.entered.answered)

  -- so do jobs one after the other
  pub jobs_same : (jobs : List (List Op)) (number : ℕ) (before after : Planned N) → HaveAsked caller task jobs earlier number before after
      → IsSameDie before after
  jobs_same [] number before after h = unchanged before after h
  jobs_same (ops ∷ jobs) number before after h =
      same_die before h.0 after (one_same ops number before h.0 h.1.0) (jobs_same jobs (number + 1) h.0 after h.1.1)

  pub jobs_log : (jobs : List (List Op)) (number : ℕ) (before after : Planned N) → HaveAsked caller task jobs earlier number before after
      → after.core.log ≡ with_jobs before.core.start before.terms before.core.log caller task jobs
  jobs_log [] number before after h = ap (λ (d : Planned N). d.core.log) h
  jobs_log (ops ∷ jobs) number before after h =
      let same = one_same ops number before h.0 h.1.0 in
      jobs_log jobs (number + 1) h.0 after h.1.1
      ∙ (λ i. with_jobs (same.start i) (same.terms i) (one_log ops number before h.0 h.1.0 i) caller task jobs)

  -- and they have one number after the other
  pub jobs_numbered : (jobs : List (List Op)) (number : ℕ) (before after : Planned N) → HaveAsked caller task jobs earlier number before after
      → after.core.log ≡ with_numbered before.terms caller task jobs number before.core.log
  jobs_numbered [] number before after h = ap (λ (d : Planned N). d.core.log) h
  jobs_numbered (ops ∷ jobs) number before after h =
      let same = one_same ops number before h.0 h.1.0 in
      jobs_numbered jobs (number + 1) h.0 after h.1.1
      ∙ (λ i. with_numbered (same.terms i) caller task jobs (number + 1) (ap (λ (c : Core N). c.log) h.1.0.entered.logged i))

-- in the slot in which they are asked for
pub numbered_now : (terms : Terms) (caller task : ℕ) (jobs : List (List Op)) (number : ℕ) (log : Log)
    → now (with_numbered terms caller task jobs number log) ≡ now log
numbered_now terms caller task [] number log = refl
numbered_now terms caller task (ops ∷ jobs) number log =
    numbered_now terms caller task jobs (number + 1) (with_entry caller (asked_job terms log task ops) (replies.Taken number) log)

module _ {N : Type 0} (kind : AskKind) (caller task : ℕ) (ops : List Op) (earlier : Lives) (before after : Planned N) where
  -- an ask leaves the die but for its log
  pub asked_same : (result : Result Burst AskRefusal) → IsDieAsk kind caller task ops earlier result before after → IsSameDie before after
  asked_same (Ok burst) h = jobs_same caller task earlier (jobs_as kind ops) burst.first before after h.asked
  asked_same (Err refusal) h = unchanged before after h.0

  abbrev start : Start
  start = before.core.start

  abbrev log : Log
  log = before.core.log

  -- the log is that after this move, whatever is answered
  pub asked_log : (result : Result Burst AskRefusal) → before.core.stopped ≡ false → IsDieAsk kind caller task ops earlier result before after
      → after.core.log ≡ after_move start before.terms earlier before.life log (Ask kind caller task ops)
  asked_log (Ok burst) runs h =
      jobs_log caller task earlier (jobs_as kind ops) burst.first before after h.asked
      ∙ sym (ap (λ (o : Option AskRefusal). after_ask start before.terms log kind caller task ops o) h.unrefused)
  asked_log (Err refusal) runs h = elim h.1 [
    | inl stopped ↦ absurd (true≢false (sym stopped.0 ∙ runs))
    | inr refused ↦ ap (λ (d : Planned N). d.core.log) h.0
        ∙ sym (ap (λ (o : Option AskRefusal). after_ask start before.terms log kind caller task ops o) refused.1)
  ]

-- what waited from a task on
pub entered_one : (start : Start) (terms : Terms) (earlier : Lives) (life : ℕ) (log : Log) (task : ℕ) (w : Option WaitingAsk) (rest : List (Option WaitingAsk))
    → after_moves start terms earlier life log (asks_of task (w ∷ rest))
    ≡ after_moves start terms earlier life (after_one start terms earlier life log task w) (asks_of (task + 1) rest)
entered_one _ _ _ _ _ _ None _ = refl
entered_one _ _ _ _ _ _ (Some w) _ = refl

pub entered_more : (start : Start) (terms : Terms) (earlier : Lives) (life : ℕ) (ws : List (Option WaitingAsk)) (i : ℕ) (log next : Log) → i < length ws
    → next ≡ after_one start terms earlier life log i (get_or ws i None)
    → after_moves start terms earlier life next (asks_of (i + 1) (drop (i + 1) ws)) ≡ after_moves start terms earlier life log (asks_of i (drop i ws))
entered_more start terms earlier life ws i log next lt e =
    ap (λ (l : Log). after_moves start terms earlier life l (asks_of (i + 1) (drop (i + 1) ws))) e
    ∙ (sym (entered_one start terms earlier life log i (get_or ws i None) (drop (i + 1) ws))
    ∙ ap (λ (l : List (Option WaitingAsk)). after_moves start terms earlier life log (asks_of i l)) (sym (drop_more ws i None lt)))

module _ (slot : ℕ) where
  -- of the first tasks what was due waits no more
  abbrev pub cleared : ℕ → List (Option WaitingAsk) → List (Option WaitingAsk)
  cleared i ws = map (left_at slot) (take i ws) ++ drop i ws

  cleared_at : (ws : List (Option WaitingAsk)) (i : ℕ) → get_or (cleared i ws) i None ≡ get_or ws i None
  cleared_at [] zero = refl
  cleared_at [] (suc i) = refl
  cleared_at (w ∷ ws) zero = refl
  cleared_at (w ∷ ws) (suc i) = cleared_at ws i

  cleared_next : (ws : List (Option WaitingAsk)) (i : ℕ) → set (cleared i ws) i (left_at slot (get_or ws i None)) ≡ cleared (suc i) ws
  cleared_next [] zero = refl
  cleared_next [] (suc i) = refl
  cleared_next (w ∷ ws) zero = refl
  cleared_next (w ∷ ws) (suc i) = ap (λ (l : List (Option WaitingAsk)). left_at slot w ∷ l) (cleared_next ws i)

  cleared_all : (ws : List (Option WaitingAsk)) (i : ℕ) → length ws ≤ i → cleared i ws ≡ map (left_at slot) ws
  cleared_all [] zero le = refl
  cleared_all [] (suc i) le = refl
  cleared_all (w ∷ ws) zero le = absurd (omega (arith, le))
  cleared_all (w ∷ ws) (suc i) le = ap (λ (l : List (Option WaitingAsk)). left_at slot w ∷ l) (cleared_all ws i (omega (arith, le)))

  same_length : (ws : List (Option WaitingAsk)) (i : ℕ) → length (cleared i ws) ≡ length ws
  same_length [] zero = refl
  same_length [] (suc i) = refl
  same_length (w ∷ ws) zero = refl
  same_length (w ∷ ws) (suc i) = ap suc (same_length ws i)

  pub as_many : (kept left : List Waiting) (i : ℕ) → map ask_in left ≡ cleared i (map ask_in kept) → length left ≡ length kept
  as_many kept left i is = omega (arith, length-map left ask_in, ap length is, length-map kept ask_in, same_length (map ask_in kept) i)

  -- one more, in the lists that are kept of it
  module _ (kept left : List Waiting) (i : ℕ) (is : map ask_in left ≡ cleared i (map ask_in kept)) where
    pub here_waits : (w : Waiting) → i < length kept → w ≡ get_or left i w → ask_in w ≡ get_or (map ask_in kept) i None
    here_waits w lt e =
        ap ask_in e
        ∙ (sym (get_or-map ask_in left i w None lt_left)
        ∙ (ap (λ l. get_or l i None) is ∙ cleared_at (map ask_in kept) i))
      where
        lt_left : i < length left
        lt_left = omega (arith, lt, as_many kept left i is)

    pub then_left : (w : Waiting) → ask_in w ≡ left_at slot (get_or (map ask_in kept) i None) → map ask_in (set left i w) ≡ cleared (i + 1) (map ask_in kept)
    then_left w then_is =
        map-set ask_in left i w
        ∙ (ap (λ v. set (map ask_in left) i v) then_is
        ∙ (ap (λ l. set l i (left_at slot (get_or (map ask_in kept) i None))) is
        ∙ (cleared_next (map ask_in kept) i ∙ ap (λ n. cleared n (map ask_in kept)) (sym (add-one i)))))

  pub all_left : (kept left : List Waiting) (i : ℕ) → length kept ≤ i → map ask_in left ≡ cleared i (map ask_in kept)
      → map ask_in left ≡ map (left_at slot) (map ask_in kept)
  all_left kept left i le is = is ∙ cleared_all (map ask_in kept) i (omega (arith, le, length-map kept ask_in))

-- and their memory
pub rooms_stay : (xs : List Waiting) (i : ℕ) (w old : Waiting) → i < length xs → old ≡ get_or xs i old → vec_capacity w.ops ≡ vec_capacity old.ops
    → (task : ℕ) (d : Waiting) → vec_capacity (get_or (set xs i w) task d).ops ≡ vec_capacity (get_or xs task d).ops
rooms_stay [] i w old lt is e task d = refl
rooms_stay (x ∷ xs) zero w old lt is e zero d = e ∙ ap (λ (v : Waiting). vec_capacity v.ops) is
rooms_stay (x ∷ xs) zero w old lt is e (suc task) d = refl
rooms_stay (x ∷ xs) (suc i) w old lt is e zero d = refl
rooms_stay (x ∷ xs) (suc i) w old lt is e (suc task) d = rooms_stay xs i w old (omega (arith, lt)) is e task d

-- the ask of a task that waits for this slot
pub is_due : (w : Waiting) (slot : ℕ) → w.waits ≡ true → (w.until == slot) ≡ true
    → due_at slot (ask_in w) ≡ Some (record { caller = w.caller; ops = w.ops.items; until = w.until })
is_due w slot waits here = rw waits (rw here refl)
