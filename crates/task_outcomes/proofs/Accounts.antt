-- Each outcome of a task is taken, dropped or kept.
use Rattle.std.proofs.Common.{◌≡◌, ℕ, ◌+◌, ◌-◌, ◌<◌, ◌==◌, Bool, true, false, cond, List, [], ◌∷◌, ◌++◌, length, map, set}
use Rattle.std.proofs.Common.{slice_get, option_to_list, Option, Some, None, refl, ap, sym, subst, ◌∙◌, arith}
use Rattle.std.proofs.lemmas.Bool.{eqb-true, eqb-false}
use Rattle.std.proofs.lemmas.List.{append-nil, append_assoc, map-append, length-append, length-set, get_or-set_same, get_or-set_other}
use Rattle.demand_rules.specs.declared.terms.Terms.{Terms}
use Rattle.die_log.specs.Model.Start.{Start}
use Rattle.planned_log.specs.Moves.{Ask, Slot}
use Rattle.ongoing_log.specs.Ongoing.{Ongoing, IsOngoing}
use Rattle.ongoing_log.specs.Ahead.{AheadMove, Now, AskAt, ahead_after}
use Rattle.task_outcomes.specs.declared.task_outcome.TaskOutcome.{TaskOutcome}
use Rattle.task_outcomes.specs.Told.{told_of, own_of, told_next}
use Rattle.task_outcomes.specs.Queues.{Queue, queue_of, no_queue, counted, have_room, newest_in, with_outcome, with_told, first_of, without_first, with_taken}
use Rattle.task_outcomes.specs.OutcomeMoves.{OutcomeMove, Does, Takes, Told, queues_after_move, told_after_move, told_after, taken_by}
use Rattle.task_outcomes.specs.OutcomeMoves.{Gone, Taken, Dropped, outcome_gone, taken_among, dropped_among, AreAccountedFor}
use Rattle.task_outcomes.proofs.Telling.{ask_tells, ask_at_tells, slot_tells}

-- What has gone

gone_joined : (xs ys : List Gone) → taken_among (xs ++ ys) ≡ taken_among xs ++ taken_among ys
gone_joined [] ys = refl
gone_joined (Taken o ∷ xs) ys = ap (λ (os : List TaskOutcome). o ∷ os) (gone_joined xs ys)
gone_joined (Dropped o ∷ xs) ys = gone_joined xs ys

count_joined : (xs ys : List Gone) → dropped_among (xs ++ ys) ≡ dropped_among xs + dropped_among ys
count_joined [] ys = omega arith
count_joined (Taken o ∷ xs) ys = count_joined xs ys
count_joined (Dropped o ∷ xs) ys = omega (arith, count_joined xs ys)

abbrev drops : List TaskOutcome → List Gone
drops os = map Dropped os

drops_are : (os : List TaskOutcome) → map outcome_gone (drops os) ≡ os
drops_are [] = refl
drops_are (o ∷ os) = ap (λ (xs : List TaskOutcome). o ∷ xs) (drops_are os)

none_taken : (os : List TaskOutcome) → taken_among (drops os) ≡ []
none_taken [] = refl
none_taken (o ∷ os) = none_taken os

all_dropped : (os : List TaskOutcome) → dropped_among (drops os) ≡ length os
all_dropped [] = refl
all_dropped (o ∷ os) = omega (arith, all_dropped os)

-- A queue

-- these were done meanwhile, these were taken, and this is the queue then
record Accounts (q : Queue) (new taken : List TaskOutcome) (r : Queue) : Type 0 where
  pub gone : List Gone
  pub in_order : map outcome_gone gone ++ r.kept ≡ q.kept ++ new
  pub taken_are : taken_among gone ≡ taken
  pub counts : counted r.dropped ≡ counted (q.dropped + dropped_among gone)

nothing : (q : Queue) → Accounts q [] [] q
nothing q = record { gone = []; in_order = sym (append-nil q.kept); taken_are = refl; counts = grind arith }

sums : (a b x y z : ℕ) → counted y ≡ counted (x + a) → counted z ≡ counted (y + b) → counted z ≡ counted (x + (a + b))
sums a b x y z e f = grind (arith, e, f)

both : (q r s : Queue) (xs ys ts us : List TaskOutcome) → Accounts q xs ts r → Accounts r ys us s → Accounts q (xs ++ ys) (ts ++ us) s
both q r s xs ys ts us a b = record {
  gone = a.gone ++ b.gone;
  in_order =
      ap (λ (os : List TaskOutcome). os ++ s.kept) (map-append outcome_gone a.gone b.gone)
      ∙ (append_assoc (map outcome_gone a.gone) (map outcome_gone b.gone) s.kept
      ∙ (ap (λ (os : List TaskOutcome). map outcome_gone a.gone ++ os) b.in_order
      ∙ (sym (append_assoc (map outcome_gone a.gone) r.kept ys)
      ∙ (ap (λ (os : List TaskOutcome). os ++ ys) a.in_order ∙ append_assoc q.kept xs ys))));
  taken_are = gone_joined a.gone b.gone ∙ ((λ i. a.taken_are i ++ taken_among b.gone) ∙ ap (λ (os : List TaskOutcome). ts ++ os) b.taken_are);
  counts = sums (dropped_among a.gone) (dropped_among b.gone) q.dropped r.dropped s.dropped a.counts b.counts
      ∙ ap (λ n. counted (q.dropped + n)) (sym (count_joined a.gone b.gone));
}

-- those that go are the first ones
splits : (room : ℕ) (os : List TaskOutcome) → (front : List TaskOutcome) × (os ≡ front ++ newest_in room os)
splits room [] = ([], refl)
splits room (o ∷ os) = by (splits room os) (have_room room (o ∷ os))
  where
    by : (front : List TaskOutcome) × (os ≡ front ++ newest_in room os) → (b : Bool)
        → (front : List TaskOutcome) × (o ∷ os ≡ front ++ cond b (o ∷ os) (newest_in room os))
    by s true = ([], refl)
    by s false = (o ∷ s.0, ap (λ (xs : List TaskOutcome). o ∷ xs) s.1)

dropped_so : (d n k f : ℕ) → n ≡ f + k → counted (counted (d + (n - k))) ≡ counted (d + f)
dropped_so d n k f e = grind (arith, e)

one_more : (o : TaskOutcome) (q : Queue) → Accounts q (o ∷ []) [] (with_outcome o q)
one_more o q =
    let s = splits q.room (q.kept ++ o ∷ []) in
    record {
      gone = drops s.0;
      in_order = ap (λ (os : List TaskOutcome). os ++ newest_in q.room (q.kept ++ o ∷ [])) (drops_are s.0) ∙ sym s.1;
      taken_are = none_taken s.0;
      counts = dropped_so q.dropped (length (q.kept ++ o ∷ [])) (length (newest_in q.room (q.kept ++ o ∷ []))) (length s.0)
          (ap (λ (os : List TaskOutcome). length os) s.1 ∙ length-append s.0 (newest_in q.room (q.kept ++ o ∷ [])))
          ∙ ap (λ n. counted (q.dropped + n)) (sym (all_dropped s.0));
    }

one_taken : (q : Queue) → Accounts q [] (option_to_list (slice_get q.kept 0)) (without_first q)
one_taken q = by q.kept
  where
    by : (kept : List TaskOutcome)
        → Accounts (record q { kept = kept }) [] (option_to_list (slice_get kept 0)) (without_first (record q { kept = kept }))
    by [] = record { gone = []; in_order = refl; taken_are = refl; counts = grind arith }
    by (o ∷ later) = record {
      gone = Taken o ∷ [];
      in_order = ap (λ (os : List TaskOutcome). o ∷ os) (sym (append-nil later));
      taken_are = refl;
      counts = grind arith;
    }

-- All queues

module _ (task : ℕ) where
  -- an outcome that is reported comes to its task
  told_to : (queues : List Queue) → task < length queues → (o : Option TaskOutcome)
      → Accounts (queue_of queues task) (own_of task (option_to_list o)) [] (queue_of (with_told queues o) task)
  told_to queues lt None = nothing (queue_of queues task)
  told_to queues lt (Some o) = by (o.task == task) refl
    where
      next : Queue
      next = queue_of (set queues o.task (with_outcome o (queue_of queues o.task))) task

      by : (b : Bool) → (o.task == task) ≡ b → Accounts (queue_of queues task) (cond b (o ∷ []) []) [] next
      by true e =
          let same : next ≡ with_outcome o (queue_of queues task) =
          (λ i. queue_of (set queues (eqb-true o.task task e i) (with_outcome o (queue_of queues (eqb-true o.task task e i)))) task)
          ∙ get_or-set_same queues task (with_outcome o (queue_of queues task)) no_queue lt in
          subst (Accounts (queue_of queues task) (o ∷ []) []) (sym same) (one_more o (queue_of queues task))
      by false e =
          let same : next ≡ queue_of queues task =
          get_or-set_other queues o.task task (with_outcome o (queue_of queues o.task)) no_queue (λ is. eqb-false o.task task e (sym is)) in
          subst (Accounts (queue_of queues task) [] []) (sym same) (nothing (queue_of queues task))

  -- one that is taken goes from its own
  taken_from : (queues : List Queue) → task < length queues → (other : ℕ) (b : Bool) → (other == task) ≡ b
      → Accounts (queue_of queues task) [] (cond b (option_to_list (first_of queues task)) []) (queue_of (with_taken queues other) task)
  taken_from queues lt other true e =
      let same : queue_of (with_taken queues other) task ≡ without_first (queue_of queues task) =
      (λ i. queue_of (set queues (eqb-true other task e i) (without_first (queue_of queues (eqb-true other task e i)))) task)
      ∙ get_or-set_same queues task (without_first (queue_of queues task)) no_queue lt in
      subst (Accounts (queue_of queues task) [] (option_to_list (first_of queues task))) (sym same) (one_taken (queue_of queues task))
  taken_from queues lt other false e =
      let same : queue_of (with_taken queues other) task ≡ queue_of queues task =
      get_or-set_other queues other task (without_first (queue_of queues other)) no_queue (λ is. eqb-false other task e (sym is)) in
      subst (Accounts (queue_of queues task) [] []) (sym same) (nothing (queue_of queues task))

still_one_each : (queues : List Queue) (o : Option TaskOutcome) → length (with_told queues o) ≡ length queues
still_one_each queues None = refl
still_one_each queues (Some o) = length-set queues o.task (with_outcome o (queue_of queues o.task))

own_joined : (task : ℕ) (xs ys : List TaskOutcome) → own_of task (xs ++ ys) ≡ own_of task xs ++ own_of task ys
own_joined task [] ys = refl
own_joined task (o ∷ xs) ys = by (own_joined task xs ys) (o.task == task)
  where
    by : own_of task (xs ++ ys) ≡ own_of task xs ++ own_of task ys → (b : Bool)
        → cond b (o ∷ own_of task (xs ++ ys)) (own_of task (xs ++ ys)) ≡ cond b (o ∷ own_of task xs) (own_of task xs) ++ own_of task ys
    by later true = ap (λ (os : List TaskOutcome). o ∷ os) later
    by later false = later

then_taken : (b : Bool) (xs ys : List TaskOutcome) → cond b (xs ++ ys) ys ≡ cond b xs [] ++ ys
then_taken true xs ys = refl
then_taken false xs ys = refl

-- Over all moves

module _ (first : Start) (terms : Terms) (life : ℕ)
    (law : (d : Ongoing) → IsOngoing first terms life d → (moves : List AheadMove) → IsOngoing first terms life (ahead_after first terms life d moves))
    (task : ℕ) where
  accounts_of : (t u : Told) (new taken : List TaskOutcome)
      → own_of task (told_of first u.ongoing) ≡ own_of task (told_of first t.ongoing) ++ new
      → Accounts (queue_of t.queues task) new taken (queue_of u.queues task) → AreAccountedFor first task t taken u
  accounts_of t u new taken done a = record {
    new = new;
    done = done;
    gone = a.gone;
    in_order = a.in_order;
    taken_are = a.taken_are;
    counts = a.counts;
  }

  then_more : (t u v : Told) (ts us : List TaskOutcome) → AreAccountedFor first task t ts u → AreAccountedFor first task u us v
      → AreAccountedFor first task t (ts ++ us) v
  then_more t u v ts us a b =
      accounts_of t v (a.new ++ b.new) (ts ++ us)
      (b.done ∙ (ap (λ (os : List TaskOutcome). os ++ b.new) a.done ∙ append_assoc (own_of task (told_of first t.ongoing)) a.new b.new))
      (both (queue_of t.queues task) (queue_of u.queues task) (queue_of v.queues task) a.new b.new ts us
      (record { gone = a.gone; in_order = a.in_order; taken_are = a.taken_are; counts = a.counts })
      (record { gone = b.gone; in_order = b.in_order; taken_are = b.taken_are; counts = b.counts }))

  -- a move
  one_move : (t : Told) → IsOngoing first terms life t.ongoing → task < length t.queues → (move : AheadMove)
      → AreAccountedFor first task t [] (told_after_move first terms life t (Does move))
  one_move t k lt (AskAt kind caller other ops at) =
      accounts_of t (told_after_move first terms life t (Does (AskAt kind caller other ops at))) [] []
      (ap (own_of task) (ask_at_tells first terms life t.ongoing kind caller other ops at)
      ∙ sym (append-nil (own_of task (told_of first t.ongoing))))
      (nothing (queue_of t.queues task))
  one_move t k lt (Now (Ask kind caller other ops)) =
      accounts_of t (told_after_move first terms life t (Does (Now (Ask kind caller other ops)))) [] []
      (ap (own_of task) (ask_tells first terms life t.ongoing kind caller other ops) ∙ sym (append-nil (own_of task (told_of first t.ongoing))))
      (nothing (queue_of t.queues task))
  one_move t k lt (Now (Slot caller)) =
      let o = told_next first terms life t.ongoing caller in
      accounts_of t (told_after_move first terms life t (Does (Now (Slot caller)))) (own_of task (option_to_list o)) []
      (ap (own_of task) (slot_tells first terms life t.ongoing k caller) ∙ own_joined task (told_of first t.ongoing) (option_to_list o))
      (told_to task t.queues lt o)

  one_take : (t : Told) → task < length t.queues → (other : ℕ)
      → AreAccountedFor first task t (cond (other == task) (option_to_list (first_of t.queues task)) [])
      (told_after_move first terms life t (Takes other))
  one_take t lt other =
      accounts_of t (told_after_move first terms life t (Takes other)) [] (cond (other == task) (option_to_list (first_of t.queues task)) [])
      (sym (append-nil (own_of task (told_of first t.ongoing)))) (taken_from task t.queues lt other (other == task) refl)

  moved_one_each : (t : Told) (move : AheadMove) → length (queues_after_move first terms life t move) ≡ length t.queues
  moved_one_each t (Now (Ask kind caller other ops)) = refl
  moved_one_each t (AskAt kind caller other ops at) = refl
  moved_one_each t (Now (Slot caller)) = still_one_each t.queues (told_next first terms life t.ongoing caller)

  pub accounted : (moves : List OutcomeMove) (t : Told) → IsOngoing first terms life t.ongoing → task < length t.queues
      → AreAccountedFor first task t (taken_by first terms life task t moves) (told_after first terms life t moves)
  accounted [] t k lt =
      accounts_of t t [] [] (sym (append-nil (own_of task (told_of first t.ongoing)))) (nothing (queue_of t.queues task))
  accounted (Does move ∷ moves) t k lt =
      let u : Told = told_after_move first terms life t (Does move) in
      then_more t u (told_after first terms life u moves) [] (taken_by first terms life task u moves) (one_move t k lt move)
      (accounted moves u (law t.ongoing k (move ∷ [])) (omega (arith, lt, moved_one_each t move)))
  accounted (Takes other ∷ moves) t k lt =
      let u : Told = told_after_move first terms life t (Takes other) in
      let all = then_more t u (told_after first terms life u moves) (cond (other == task) (option_to_list (first_of t.queues task)) [])
      (taken_by first terms life task u moves) (one_take t lt other)
      (accounted moves u k (omega (arith, lt, length-set t.queues other (without_first (queue_of t.queues other))))) in
      subst (λ (ts : List TaskOutcome). AreAccountedFor first task t ts (told_after first terms life u moves))
      (sym (then_taken (other == task) (option_to_list (first_of t.queues task)) (taken_by first terms life task u moves))) all
