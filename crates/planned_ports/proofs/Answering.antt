-- What a task was answered, in the log of a shared die.
use Rattle.std.proofs.Common.{◌≡◌, ℕ, ◌==◌, true, false, Bool, List, [], ◌∷◌, ◌++◌, Option, option_to_list, if◌then◌else◌, Result, Ok, Err, refl, ap, sym, ◌∙◌, arith}
use Rattle.std.proofs.lemmas.Bool.{false≢true}
use Rattle.std.proofs.lemmas.Bool.Decides.{nat_tests}
use Rattle.std.proofs.lemmas.List.{append_assoc}
use Rattle.demand_rules.specs.declared.terms.Terms.{Terms}
use Rattle.die_log.specs.Model.Start.{Start}
use Rattle.ongoing_log.specs.Ongoing.{Ongoing, Answer, answer_to}
use Rattle.ongoing_log.specs.Ahead.{AheadMove, AheadSeen, answer_at, ahead_after_move, ahead_after, ahead_answer_to, ahead_answers_to, ahead_seen_of, ahead_seen_by}
use Rattle.task_outcomes.specs.declared.task_outcome.TaskOutcome.{TaskOutcome}
use Rattle.task_outcomes.specs.Queues.{first_of as first_told}
use Rattle.task_outcomes.specs.OutcomeMoves.{OutcomeMove, Takes, Told, told_after_move, taken_by}
use Rattle.planned_ports.specs.declared.calls.Request.{Request}
use Rattle.planned_ports.specs.declared.calls.Request.TheVariants as requests
use Rattle.planned_ports.specs.declared.calls.Granted.{Granted}
use Rattle.planned_ports.specs.declared.calls.Granted.TheVariants as granted
use Rattle.planned_ports.specs.declared.calls.Refused.{Refused}
use Rattle.planned_ports.specs.Calls.{PortCall, move_by, move_of, moves_of, die_move_by, die_moves, after_calls}
use Rattle.planned_ports.specs.Replies.{WasGranted, WereGranted}
use Rattle.planned_ports.specs.Laws.{answer_in, answers_in, outcome_in, outcomes_in}

pub same_task : (task : ℕ) → (task == task) ≡ true
same_task task = grind (arith, nat_tests)

equal : (m n : ℕ) → (m == n) ≡ true → m ≡ n
equal m n e = grind (arith, nat_tests, e)

module _ {A : Type 0} where
  abbrev rest_of : List A → List A
  rest_of [] = []
  rest_of (x ∷ xs) = xs

  abbrev first_of : A → List A → A
  first_of d [] = d
  first_of d (x ∷ xs) = x

-- one answer, if it is the task's
same_in : (b : Bool) (x y : Answer) → (b ≡ true → x ≡ y) → (if b then x ∷ [] else []) ≡ (if b then y ∷ [] else [])
same_in true x y e = ap (λ (a : Answer). a ∷ []) (e refl)
same_in false x y e = refl

pub own_same : (b : Bool) (x y : Answer) → b ≡ true → (if b then x ∷ [] else []) ≡ (if b then y ∷ [] else []) → x ≡ y
own_same true x y own e = ap (first_of x) e
own_same false x y own e = absurd (false≢true own)

module _ (first : Start) (terms : Terms) (life task : ℕ) where
  -- the answers in the log are those of the rules
  one_answer : (t : Told) (caller : ℕ) (request : Request) (reply : Result Granted Refused) (rest : List AheadMove)
      → WasGranted first terms life t caller request reply
      → ahead_answers_to first terms life task t.ongoing (die_move_by caller request ++ rest)
      ≡ answer_in task request reply
      ++ ahead_answers_to first terms life task (told_after_move first terms life t (move_by caller request)).ongoing rest
  one_answer t caller (requests.Ask kind other ops) (Ok (granted.Job answer)) rest h =
      ap (λ (l : List Answer). l ++ ahead_answers_to first terms life task
      (told_after_move first terms life t (move_by caller (requests.Ask kind other ops))).ongoing rest)
      (same_in (other == task) _ _ (λ e. ap (λ n. answer_to first terms life t.ongoing kind n ops) (sym (equal other task e)) ∙ h.0))
  one_answer t caller (requests.AskAt kind other ops at) (Ok (granted.Job answer)) rest h =
      ap (λ (l : List Answer). l ++ ahead_answers_to first terms life task
      (told_after_move first terms life t (move_by caller (requests.AskAt kind other ops at))).ongoing rest)
      (same_in (other == task) _ _ (λ e. ap (λ n. answer_at first terms life t.ongoing kind n ops at) (sym (equal other task e)) ∙ h.0))
  one_answer t caller (requests.Ask kind other ops) (Ok (granted.Slot reply)) rest h = absurd h
  one_answer t caller (requests.Ask kind other ops) (Ok (granted.Outcome outcome)) rest h = absurd h
  one_answer t caller (requests.AskAt kind other ops at) (Ok (granted.Slot reply)) rest h = absurd h
  one_answer t caller (requests.AskAt kind other ops at) (Ok (granted.Outcome outcome)) rest h = absurd h
  one_answer t caller requests.Slot (Ok (granted.Slot reply)) rest h = refl
  one_answer t caller requests.Slot (Ok (granted.Job answer)) rest h = absurd h
  one_answer t caller requests.Slot (Ok (granted.Outcome outcome)) rest h = absurd h
  one_answer t caller (requests.Outcome other) (Ok answer) rest h = refl
  one_answer t caller request (Err refusal) rest h = absurd h

  pub answers_are : (t : Told) (calls : List PortCall) → WereGranted first terms life t calls
      → answers_in task calls ≡ ahead_answers_to first terms life task t.ongoing (die_moves calls)
  answers_are t [] all = refl
  answers_are t (call ∷ calls) all =
      ap (λ (l : List Answer). answer_in task call.event call.reply ++ l)
      (answers_are (told_after_move first terms life t (move_of call)) calls all.1)
      ∙ sym (one_answer t call.caller call.event call.reply (die_moves calls) all.0)

  -- outcomes that are taken change nothing that answers depend on
  one_move : (t : Told) (caller : ℕ) (request : Request) (moves : List AheadMove)
      → ahead_after first terms life (told_after_move first terms life t (move_by caller request)).ongoing moves
      ≡ ahead_after first terms life t.ongoing (die_move_by caller request ++ moves)
  one_move t caller (requests.Ask kind other ops) moves = refl
  one_move t caller (requests.AskAt kind other ops at) moves = refl
  one_move t caller requests.Slot moves = refl
  one_move t caller (requests.Outcome other) moves = refl

  pub ongoing_is : (t : Told) (calls : List PortCall)
      → (after_calls first terms life t calls).ongoing ≡ ahead_after first terms life t.ongoing (die_moves calls)
  ongoing_is t [] = refl
  ongoing_is t (call ∷ calls) =
      ongoing_is (told_after_move first terms life t (move_of call)) calls ∙ one_move t call.caller call.event (die_moves calls)

  -- with one move more
  pub answers_then : (d : Ongoing) (moves : List AheadMove) (move : AheadMove)
      → ahead_answers_to first terms life task d (moves ++ move ∷ [])
      ≡ ahead_answers_to first terms life task d moves
      ++ (ahead_answer_to first terms life task (ahead_after first terms life d moves) move ++ [])
  answers_then d [] move = refl
  answers_then d (m ∷ moves) move =
      ap (λ (l : List Answer). ahead_answer_to first terms life task d m ++ l)
      (answers_then (ahead_after_move first terms life d m) moves move)
      ∙ sym (append_assoc (ahead_answer_to first terms life task d m)
      (ahead_answers_to first terms life task (ahead_after_move first terms life d m) moves)
      (ahead_answer_to first terms life task (ahead_after first terms life (ahead_after_move first terms life d m) moves) move ++ []))

pub seen_then : (task : ℕ) (moves : List AheadMove) (move : AheadMove)
    → ahead_seen_by task (moves ++ move ∷ []) ≡ ahead_seen_by task moves ++ (ahead_seen_of task move ++ [])
seen_then task [] move = refl
seen_then task (m ∷ moves) move =
    ap (λ (l : List AheadSeen). ahead_seen_of task m ++ l) (seen_then task moves move)
    ∙ sym (append_assoc (ahead_seen_of task m) (ahead_seen_by task moves) (ahead_seen_of task move ++ []))

-- Outcomes

module _ (first : Start) (terms : Terms) (life task : ℕ) where
  one_outcome : (t : Told) (caller : ℕ) (request : Request) (reply : Result Granted Refused) (rest : List OutcomeMove)
      → WasGranted first terms life t caller request reply
      → taken_by first terms life task t (move_by caller request ∷ rest)
      ≡ outcome_in task request reply ++ taken_by first terms life task (told_after_move first terms life t (move_by caller request)) rest
  one_outcome t caller (requests.Ask kind other ops) (Ok answer) rest h = refl
  one_outcome t caller (requests.AskAt kind other ops at) (Ok answer) rest h = refl
  one_outcome t caller requests.Slot (Ok answer) rest h = refl
  one_outcome t caller (requests.Outcome other) (Ok (granted.Outcome outcome)) rest h = by (other == task) refl
    where
      later : List TaskOutcome
      later = taken_by first terms life task (told_after_move first terms life t (Takes other)) rest

      by : (b : Bool) → (other == task) ≡ b
          → (if b then option_to_list (first_told t.queues task) ++ later else later) ≡ (if b then outcome ∷ [] else []) ++ later
      by true e = ap (λ (o : Option TaskOutcome). option_to_list o ++ later) (ap (first_told t.queues) (sym (equal other task e)) ∙ h)
      by false e = refl
  one_outcome t caller (requests.Outcome other) (Ok (granted.Job answer)) rest h = absurd h
  one_outcome t caller (requests.Outcome other) (Ok (granted.Slot reply)) rest h = absurd h
  one_outcome t caller request (Err refusal) rest h = absurd h

  -- the outcomes in the log are those that the task takes
  pub outcomes_are : (t : Told) (calls : List PortCall) → WereGranted first terms life t calls
      → taken_by first terms life task t (moves_of calls) ≡ outcomes_in task calls
  outcomes_are t [] all = refl
  outcomes_are t (call ∷ calls) all =
      one_outcome t call.caller call.event call.reply (moves_of calls) all.0
      ∙ ap (λ (os : List TaskOutcome). outcome_in task call.event call.reply ++ os)
      (outcomes_are (told_after_move first terms life t (move_of call)) calls all.1)
