-- What a task is answered in two shared logs in which it sees the same.
use Rattle.std.proofs.Common.{◌≡◌, ◌<◌, ◌==◌, length, ℕ, List, [], ◌∷◌, ◌++◌, ap, sym, subst, ◌∙◌}
use Rattle.std.proofs.lemmas.List.{append-nil, append_cancel_left}
use Rattle.slot_types.specs.declared.events.Op.{Op}
use Rattle.demand_rules.specs.declared.terms.Terms.{Terms}
use Rattle.die_log.specs.Model.Log.{now}
use Rattle.die_log.specs.Model.Start.{Start}
use Rattle.die_log.specs.Model.Lives.{all_slots}
use Rattle.planned_log.specs.declared.ask_kinds.AskKind.{AskKind}
use Rattle.planned_log.specs.Asks.{asked_by}
use Rattle.planned_log.specs.Laws.{AreDoneInTime, ForKeptLogs}
use Rattle.planned_log.specs.Moves.{Ask}
use Rattle.ongoing_log.specs.PastLives.{counted}
use Rattle.ongoing_log.specs.Ongoing.{Ongoing, Answer, answer_to, waiting_of, awaited_of, start_of, AreLongEnough, IsOngoing}
use Rattle.task_outcomes.specs.OutcomeDies.{OutcomeParts}
use Rattle.task_outcomes.specs.declared.task_outcome.TaskOutcome.{TaskOutcome}
use Rattle.task_outcomes.specs.OutcomeMoves.{OutcomeMove, Told, told_after, taken_by, AreAccountedFor}
use Rattle.ongoing_log.specs.Ahead.{AheadMove, Now, AskAt, AheadSeen, answer_at, ahead_after, ahead_answer_to, ahead_answers_to, ahead_seen_of, ahead_seen_by}
use Rattle.planned_ports.specs.Calls.{PortCall, moves_of, die_moves, after_calls}
use Rattle.planned_ports.specs.Replies.{WereGranted, opened_as}
use Rattle.planned_ports.specs.Laws.{IsInTime, RanFrom, SeesTheSame, answers_in, outcomes_in}
use Rattle.planned_ports.proofs.Answering.{same_task, own_same, answers_are, answers_then, seen_then, ongoing_is, outcomes_are}

-- In time

abbrev pub GoesOn : Type 0
GoesOn = (first : Start) (terms : Terms) (life : ℕ) → AreLongEnough terms life → (d : Ongoing) → IsOngoing first terms life d → (moves : List AheadMove)
    → IsOngoing first terms life (ahead_after first terms life d moves)

module _ {N : Type 0} (law : GoesOn) (opened : OutcomeParts N) (first : Start) (d : Ongoing) (calls : List PortCall) (ran : RanFrom opened first d calls) where
  abbrev t : Told
  t = opened_as opened d

  pub shared_goes_on : IsOngoing first opened.die.die.terms opened.die.die.life (after_calls first opened.die.die.terms opened.die.die.life t calls).ongoing
  shared_goes_on =
      subst (IsOngoing first opened.die.die.terms opened.die.die.life) (sym (ongoing_is first opened.die.die.terms opened.die.die.life 0 t calls))
      (law first opened.die.die.terms opened.die.die.life ran.shared.is_die.long d (ran.stands.runs ran.runs).goes_on (die_moves calls))

  pub shared_in_time : ForKeptLogs (λ start terms earlier life entered log. AreDoneInTime start.plan log)
      → IsInTime first opened.die.die.life (after_calls first opened.die.die.terms opened.die.die.life t calls).ongoing
  shared_in_time jobs =
      let k = shared_goes_on in
      let there : Ongoing = (after_calls first opened.die.die.terms opened.die.die.life t calls).ongoing in
      (k.passed, jobs (start_of first there) opened.die.die.terms (counted there.earlier) opened.die.die.life 0 there.log k.kept)

-- Isolation

abbrev pub Isolates : Type 0
Isolates = (first other : Start) (terms : Terms) (life task : ℕ) → AreLongEnough terms life → first.plan ≡ other.plan → (one two : Ongoing)
    → IsOngoing first terms life one → IsOngoing other terms life two → all_slots (counted one.earlier) ≡ all_slots (counted two.earlier)
    → now one.log ≡ now two.log → asked_by task (one.log ∷ counted one.earlier) ≡ asked_by task (two.log ∷ counted two.earlier)
    → awaited_of (waiting_of one task) ≡ awaited_of (waiting_of two task) → (moves others : List AheadMove)
    → ahead_seen_by task moves ≡ ahead_seen_by task others
    → ahead_answers_to first terms life task one moves ≡ ahead_answers_to other terms life task two others

module _ {N : Type 0} (law : Isolates) (task : ℕ) (opened again : OutcomeParts N) (first other : Start) (one two : Ongoing) (calls others : List PortCall)
    (h : SeesTheSame task opened again first other one two calls others) where
  abbrev terms : Terms
  terms = opened.die.die.terms

  abbrev life : ℕ
  life = opened.die.die.life

  goes_on_again : IsOngoing other terms life two
  goes_on_again = subst (λ n. IsOngoing other terms n two) h.plan.life
      (subst (λ (t : Terms). IsOngoing other t again.die.die.life two) h.plan.terms (h.ran_again.stands.runs h.ran_again.runs).goes_on)

  abbrev told_one : Told
  told_one = opened_as opened one

  abbrev told_two : Told
  told_two = opened_as again two

  granted_again : WereGranted other terms life told_two others
  granted_again = subst (λ n. WereGranted other terms n told_two others) h.plan.life
      (subst (λ (x : Terms). WereGranted other x again.die.die.life told_two others) h.plan.terms (h.ran_again.shared.granted other two h.ran_again.stands))

  same : (moves more : List AheadMove) → ahead_seen_by task moves ≡ ahead_seen_by task more
      → ahead_answers_to first terms life task one moves ≡ ahead_answers_to other terms life task two more
  same = law first other terms life task h.ran.shared.is_die.long h.alike.plan one two (h.ran.stands.runs h.ran.runs).goes_on goes_on_again
      h.alike.clock h.alike.slot h.alike.asked h.alike.waits

  pub same_granted : answers_in task calls ≡ answers_in task others
  same_granted =
      answers_are first terms life task told_one calls (h.ran.shared.granted first one h.ran.stands)
      ∙ (same (die_moves calls) (die_moves others) h.seen ∙ sym (answers_are other terms life task told_two others granted_again))

  -- what the task is answered by one move more
  then_same : (move : AheadMove) → ahead_answer_to first terms life task (ahead_after first terms life one (die_moves calls)) move
      ≡ ahead_answer_to other terms life task (ahead_after other terms life two (die_moves others)) move
  then_same move =
      let x : List Answer = ahead_answer_to first terms life task (ahead_after first terms life one (die_moves calls)) move in
      let y : List Answer = ahead_answer_to other terms life task (ahead_after other terms life two (die_moves others)) move in
      let before : List Answer = ahead_answers_to first terms life task one (die_moves calls) in
      let seen = seen_then task (die_moves calls) move
      ∙ (ap (λ (l : List AheadSeen). l ++ (ahead_seen_of task move ++ [])) h.seen ∙ sym (seen_then task (die_moves others) move)) in
      let both : x ++ [] ≡ y ++ [] =
      append_cancel_left before (x ++ []) (y ++ [])
      (sym (answers_then first terms life task one (die_moves calls) move)
      ∙ (same (die_moves calls ++ move ∷ []) (die_moves others ++ move ∷ []) seen
      ∙ (answers_then other terms life task two (die_moves others) move
      ∙ ap (λ (l : List Answer). l ++ (y ++ [])) (sym (same (die_moves calls) (die_moves others) h.seen))))) in
      sym (append-nil x) ∙ (both ∙ append-nil y)

  pub same_next : (kind : AskKind) (ops : List Op) → answer_to first terms life (after_calls first terms life told_one calls).ongoing kind task ops
      ≡ answer_to other terms life (after_calls other terms life told_two others).ongoing kind task ops
  same_next kind ops =
      ap (λ (x : Ongoing). answer_to first terms life x kind task ops) (ongoing_is first terms life task told_one calls)
      ∙ (own_same (task == task) _ _ (same_task task) (then_same (Now (Ask kind 0 task ops)))
      ∙ sym (ap (λ (x : Ongoing). answer_to other terms life x kind task ops) (ongoing_is other terms life task told_two others)))

  pub same_next_at : (kind : AskKind) (ops : List Op) (at : ℕ)
      → answer_at first terms life (after_calls first terms life told_one calls).ongoing kind task ops at
      ≡ answer_at other terms life (after_calls other terms life told_two others).ongoing kind task ops at
  same_next_at kind ops at =
      ap (λ (x : Ongoing). answer_at first terms life x kind task ops at) (ongoing_is first terms life task told_one calls)
      ∙ (own_same (task == task) _ _ (same_task task) (then_same (AskAt kind 0 task ops at))
      ∙ sym (ap (λ (x : Ongoing). answer_at other terms life x kind task ops at) (ongoing_is other terms life task told_two others)))

-- Outcomes

abbrev pub Accounts : Type 0
Accounts = (first : Start) (terms : Terms) (life : ℕ) → AreLongEnough terms life → (t : Told) → IsOngoing first terms life t.ongoing → (task : ℕ)
    → task < length t.queues → (moves : List OutcomeMove)
    → AreAccountedFor first task t (taken_by first terms life task t moves) (told_after first terms life t moves)

pub accounted : {N : Type 0} → Accounts → (task : ℕ) (opened : OutcomeParts N) (first : Start) (d : Ongoing) (calls : List PortCall)
    → RanFrom opened first d calls → task < length opened.queues
    → AreAccountedFor first task (opened_as opened d) (outcomes_in task calls)
    (after_calls first opened.die.die.terms opened.die.die.life (opened_as opened d) calls)
accounted law task opened first d calls ran lt =
    let terms = opened.die.die.terms in
    let life = opened.die.die.life in
    let t : Told = opened_as opened d in
    subst (λ (os : List TaskOutcome). AreAccountedFor first task t os (after_calls first terms life t calls))
    (outcomes_are first terms life task t calls (ran.shared.granted first d ran.stands))
    (law first terms life ran.shared.is_die.long t (ran.stands.runs ran.runs).goes_on task lt (moves_of calls))
