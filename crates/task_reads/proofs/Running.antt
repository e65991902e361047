-- The jobs of a task in a run are what it asked for, by what it sees of the run.
use Rattle.std.proofs.Common.{◌≡◌, ℕ, ◌+◌, ◌≤◌, ◌==◌, nat_lt, Bool, true, false, cond, List, [], ◌∷◌, ◌++◌, map, Option, Some, None}
use Rattle.std.proofs.Common.{refl, ap, sym, ◌∙◌, arith, append_assoc, append-nil}
use Rattle.std.proofs.lemmas.Bool.{eqb-true, eq-eqb}
use Rattle.slot_types.specs.declared.events.Op.{Op}
use Rattle.slot_types.specs.declared.events.Event.TheVariants as events
use Rattle.slot_types.specs.declared.plans.DiePlan.{DiePlan}
use Rattle.demand_rules.specs.declared.terms.Terms.{Terms}
use Rattle.die_log.specs.Model.Log.{Log, Job, jobs, now}
use Rattle.die_log.specs.Model.Start.{Start}
use Rattle.die_log.specs.Model.Lives.{Lives, all_slots}
use Rattle.die_log.specs.Model.Answers.{after_call}
use Rattle.planned_log.specs.declared.ask_kinds.AskKind.{AskKind}
use Rattle.planned_log.specs.declared.refusals.AskRefusal.{AskRefusal}
use Rattle.planned_log.specs.Asks.{Asked, asked_by, asked_job, ask_refusal}
use Rattle.planned_log.specs.AskKinds.{refusal_as, jobs_as, with_jobs}
use Rattle.planned_log.specs.Bursts.{AreUnrefused}
use Rattle.planned_log.specs.Laws.{IsKept, Seen, Asks, Slots, seen_by}
use Rattle.planned_log.specs.Moves.{Move, Ask, Slot, after_ask, after_own, after_move, after_moves}
use Rattle.planned_log.proofs.AskJobs.{unrefused_as}
use Rattle.planned_log.proofs.Answered.{then_asked, refused_now, other_ask, own_ask, a_slot}
use Rattle.planned_log.proofs.Kept.{after_accepted, ask_accepted, ask_goes_on}
use Rattle.planned_log.proofs.Moving.{move_keeps}
use Rattle.task_reads.specs.Asked.{is_job_of, task_jobs, ComeInOrder}
use Rattle.task_reads.specs.OwnPages.{AreAskedAlike}
use Rattle.task_reads.specs.Runs.{AreSeenAlike}
use Rattle.task_reads.proofs.Lists.{in_filter}
use Rattle.task_reads.proofs.Calls.{call_keeps, IsOrdered, ask_ordered, slot_ordered, own_ordered}
use Rattle.task_reads.proofs.Calls.{unnumbered, keys, new_key, keys_other, keys_own, slot_keys, own_keys}

-- Order

module _ (start : Start) (terms : Terms) (earlier : Lives) (life task : ℕ) where
  pub jobs_ordered : (log : Log) (caller other : ℕ) (all : List (List Op)) → IsOrdered start terms task log
      → IsOrdered start terms task (with_jobs start terms log caller other all)
  jobs_ordered log caller other [] h = h
  jobs_ordered log caller other (ops ∷ all) h =
      jobs_ordered (after_call start log (caller, asked_job terms log other ops)) caller other all (ask_ordered start terms task log caller other ops h)

  asked_ordered : (log : Log) (kind : AskKind) (caller other : ℕ) (ops : List Op) (o : Option AskRefusal) → IsOrdered start terms task log
      → IsOrdered start terms task (after_ask start terms log kind caller other ops o)
  asked_ordered log kind caller other ops None h = jobs_ordered log caller other (jobs_as kind ops) h
  asked_ordered log kind caller other ops (Some refusal) h = h

  pub slot_if : (log : Log) (caller : ℕ) (b : Bool) → IsOrdered start terms task log
      → IsOrdered start terms task (cond b (after_call start (after_own start terms log caller) (caller, events.Slot)) log)
  slot_if log caller true h = slot_ordered start terms task (after_own start terms log caller) caller
      (own_ordered start terms task terms.tasks 0 (now log) log caller h)
  slot_if log caller false h = h

  pub moves_ordered : (moves : List Move) (log : Log) → IsOrdered start terms task log
      → IsOrdered start terms task (after_moves start terms earlier life log moves)
  moves_ordered [] log h = h
  moves_ordered (Ask kind caller other ops ∷ moves) log h = moves_ordered moves (after_move start terms earlier life log (Ask kind caller other ops))
      (asked_ordered log kind caller other ops (refusal_as kind start.plan terms life earlier log other ops) h)
  moves_ordered (Slot caller ∷ moves) log h = moves_ordered moves (after_move start terms earlier life log (Slot caller))
      (slot_if log caller (nat_lt (now log) life) h)

pub come_in_order : (start : Start) (terms : Terms) (task : ℕ) (log : Log) → IsOrdered start terms task log → ComeInOrder task log
come_in_order start terms task log h i j is js less =
    let a = in_filter (is_job_of task) (jobs log) i is in
    let b = in_filter (is_job_of task) (jobs log) j js in
    let risen : i.release ≤ j.release = h.risen i j a.0 a.1 b.0 b.1 less in
    (risen, omega (arith, risen, h.due_is i a.0 a.1, h.due_is j b.0 b.1))

pub none_ordered : (start : Start) (terms : Terms) (task : ℕ) → IsOrdered start terms task []
none_ordered start terms task = record {
  exact = tt;
  released = λ j js. absurd (omega (arith, js.1));
  due_is = λ j js. absurd (omega (arith, js.1));
  risen = λ i j is. absurd (omega (arith, is.1));
}

-- What comes

module _ (plan : DiePlan) (terms : Terms) (life first task : ℕ) where
  abbrev pub new_keys : ℕ → List (List Op) → List Job
  new_keys slot all = map (new_key terms task slot) all

  abbrev pub then_new : ℕ → List (List Op) → Option AskRefusal → List Job
  then_new slot all None = new_keys slot all
  then_new slot all (Some refusal) = []

  -- the jobs by what the task sees
  abbrev pub seen_keys : ℕ → List Asked → List Seen → List Job
  seen_keys slot asked [] = []
  seen_keys slot asked (Asks kind ops ∷ rest) =
      then_new slot (jobs_as kind ops) (refused_now plan terms life first task kind slot asked ops)
      ++ seen_keys slot (then_asked (first + slot) (jobs_as kind ops) asked (refused_now plan terms life first task kind slot asked ops)) rest
  seen_keys slot asked (Slots ∷ rest) = seen_keys (cond (nat_lt slot life) (slot + 1) slot) asked rest

module _ (start : Start) (terms : Terms) (earlier : Lives) (life task : ℕ) where
  abbrev first : ℕ
  first = all_slots earlier

  abbrev entering : Log → ℕ → ℕ → List Op → Log
  entering log caller other ops = after_call start log (caller, asked_job terms log other ops)

  -- another task's jobs are none of this one's
  pub others_keys : (other : ℕ) → (other == task) ≡ false → (all : List (List Op)) (log : Log) (caller : ℕ)
      → keys task (with_jobs start terms log caller other all) ≡ keys task log
  others_keys other away [] log caller = refl
  others_keys other away (ops ∷ all) log caller =
      others_keys other away all (entering log caller other ops) caller
      ∙ call_keeps (λ (l : Log). keys task l ≡ keys task log) start log caller (asked_job terms log other ops) refl
      (keys_other start task (jobs log) _ away)

  other_keys : (other : ℕ) → (other == task) ≡ false → (log : Log) (kind : AskKind) (caller : ℕ) (ops : List Op) (o : Option AskRefusal)
      → keys task (after_ask start terms log kind caller other ops o) ≡ keys task log
  other_keys other away log kind caller ops None = others_keys other away (jobs_as kind ops) log caller
  other_keys other away log kind caller ops (Some refusal) = refl

  -- the task's own, which aren't refused, come one after the other
  one_key : (log : Log) → IsKept start terms earlier life 0 log → (caller : ℕ) (ops : List Op)
      → ask_refusal start.plan terms life earlier log task ops ≡ None
      → keys task (entering log caller task ops) ≡ keys task log ++ new_key terms task (now log) ops ∷ []
  one_key log k caller ops none =
      ap (keys task) (after_accepted start terms earlier life 0 log k caller (asked_job terms log task ops)
      (ask_accepted start terms earlier life 0 log k task ops none))
      ∙ keys_own start task (jobs log) _ (eq-eqb task task refl)

  one_now : (log : Log) → IsKept start terms earlier life 0 log → (caller : ℕ) (ops : List Op)
      → ask_refusal start.plan terms life earlier log task ops ≡ None → now (entering log caller task ops) ≡ now log
  one_now log k caller ops none = ap now (after_accepted start terms earlier life 0 log k caller (asked_job terms log task ops)
      (ask_accepted start terms earlier life 0 log k task ops none))

  mine_keys : (all : List (List Op)) (log : Log) (caller : ℕ) → IsKept start terms earlier life 0 log
      → AreUnrefused start terms earlier life log caller task all
      → keys task (with_jobs start terms log caller task all) ≡ keys task log ++ new_keys start.plan terms life first task (now log) all
  mine_keys [] log caller k u = sym (append-nil (keys task log))
  mine_keys (ops ∷ all) log caller k u =
      mine_keys all (entering log caller task ops) caller (ask_goes_on start terms earlier life 0 log k caller task ops u.0) u.1
      ∙ (ap (λ (n : ℕ). keys task (entering log caller task ops) ++ new_keys start.plan terms life first task n all) (one_now log k caller ops u.0)
      ∙ (ap (λ (l : List Job). l ++ new_keys start.plan terms life first task (now log) all) (one_key log k caller ops u.0)
      ∙ append_assoc (keys task log) (new_key terms task (now log) ops ∷ []) (new_keys start.plan terms life first task (now log) all)))

  pub own_asked : (log : Log) → IsKept start terms earlier life 0 log → (kind : AskKind) (caller : ℕ) (ops : List Op) (o : Option AskRefusal)
      → refusal_as kind start.plan terms life earlier log task ops ≡ o
      → keys task (after_ask start terms log kind caller task ops o)
      ≡ keys task log ++ then_new start.plan terms life first task (now log) (jobs_as kind ops) o
  own_asked log k kind caller ops None e = mine_keys (jobs_as kind ops) log caller k
      (unrefused_as start terms earlier life 0 caller task kind log k ops e)
  own_asked log k kind caller ops (Some refusal) e = sym (append-nil (keys task log))

  pub slot_keys_if : (log : Log) (caller : ℕ) (b : Bool)
      → keys task (cond b (after_call start (after_own start terms log caller) (caller, events.Slot)) log) ≡ keys task log
  slot_keys_if log caller true = slot_keys start task (after_own start terms log caller) caller ∙ own_keys start task terms.tasks 0 (now log) log caller
  slot_keys_if log caller false = refl

  abbrev told : ℕ → List Asked → List Move → List Job
  told slot asked moves = seen_keys start.plan terms life first task slot asked (seen_by task moves)

  abbrev after : Log → List Move → Log
  after log moves = after_moves start terms earlier life log moves

  -- so a task's jobs in a run follow from what it sees
  pub keys_told : (moves : List Move) (log : Log) → IsKept start terms earlier life 0 log
      → keys task (after log moves) ≡ keys task log ++ told (now log) (asked_by task (log ∷ earlier)) moves
  keys_told [] log k = sym (append-nil (keys task log))
  keys_told (Slot caller ∷ moves) log k =
      let s = a_slot start terms earlier life task log k caller (nat_lt (now log) life) refl in
      let next : Log = after_move start terms earlier life log (Slot caller) in
      keys_told moves next (move_keeps start terms earlier life log (Slot caller) k)
      ∙ (ap (λ (l : List Job). l ++ told (now next) (asked_by task (next ∷ earlier)) moves) (slot_keys_if log caller (nat_lt (now log) life))
      ∙ (ap (λ n. keys task log ++ told n (asked_by task (next ∷ earlier)) moves) s.0
      ∙ ap (λ (l : List Asked). keys task log ++ told (cond (nat_lt (now log) life) (now log + 1) (now log)) l moves) s.1))
  keys_told (Ask kind caller other ops ∷ moves) log k = by_test
      (keys_told moves (after_move start terms earlier life log (Ask kind caller other ops))
      (move_keeps start terms earlier life log (Ask kind caller other ops) k))
      (other == task) refl
    where
      next : Log
      next = after_move start terms earlier life log (Ask kind caller other ops)

      by_test : keys task (after next moves) ≡ keys task next ++ told (now next) (asked_by task (next ∷ earlier)) moves
          → (b : Bool) → (other == task) ≡ b
          → keys task (after next moves) ≡ keys task log ++ seen_keys start.plan terms life first task (now log) (asked_by task (log ∷ earlier))
          (cond b (Asks kind ops ∷ seen_by task moves) (seen_by task moves))
      by_test rest false e =
          let o = other_ask start terms earlier life task log k kind caller other ops e
          (refusal_as kind start.plan terms life earlier log other ops) refl in
          rest
          ∙ (ap (λ (l : List Job). l ++ told (now next) (asked_by task (next ∷ earlier)) moves)
          (other_keys other e log kind caller ops (refusal_as kind start.plan terms life earlier log other ops))
          ∙ (ap (λ n. keys task log ++ told n (asked_by task (next ∷ earlier)) moves) o.0
          ∙ ap (λ (l : List Asked). keys task log ++ told (now log) l moves) o.1))
      by_test rest true e =
          let mine : other ≡ task = eqb-true other task e in
          let refused : Option AskRefusal = refusal_as kind start.plan terms life earlier log other ops in
          let refused_mine : Option AskRefusal = refusal_as kind start.plan terms life earlier log task ops in
          let o = own_ask start terms earlier life task log k kind caller other ops e refused refl in
          let same : refused ≡ refused_mine = ap (λ i. refusal_as kind start.plan terms life earlier log i ops) mine in
          let here : List Job = then_new start.plan terms life first task (now log) (jobs_as kind ops) refused_mine in
          let then : List Asked = then_asked (first + now log) (jobs_as kind ops) (asked_by task (log ∷ earlier)) refused_mine in
          let came : keys task next ≡ keys task log ++ here =
          ap (λ i. keys task (after_ask start terms log kind caller i ops (refusal_as kind start.plan terms life earlier log i ops))) mine
          ∙ own_asked log k kind caller ops refused_mine refl in
          rest
          ∙ (ap (λ n. keys task next ++ told n (asked_by task (next ∷ earlier)) moves) o.0
          ∙ (ap (λ (l : List Asked). keys task next ++ told (now log) l moves) o.1
          ∙ (ap (λ (r : Option AskRefusal). keys task next
          ++ told (now log) (then_asked (first + now log) (jobs_as kind ops) (asked_by task (log ∷ earlier)) r) moves) same
          ∙ (ap (λ (l : List Job). l ++ told (now log) then moves) came
          ∙ append_assoc (keys task log) here (told (now log) then moves)))))

-- Two runs

of_keys : {X : Type 0} (f : Job → X) → ((j : Job) → f (unnumbered j) ≡ f j) → (js : List Job) → map f (map unnumbered js) ≡ map f js
of_keys f e [] = refl
of_keys f e (j ∷ js) = let head : f (unnumbered j) ≡ f j = e j in let tail : map f (map unnumbered js) ≡ map f js = of_keys f e js in cc

-- whatever doesn't tell a job's number is the same where the jobs are the same without it
pub alike_by : {X : Type 0} (task : ℕ) (one two : Log) → keys task one ≡ keys task two → (f : Job → X) → ((j : Job) → f (unnumbered j) ≡ f j)
    → map f (task_jobs task one) ≡ map f (task_jobs task two)
alike_by task one two same f e =
    sym (of_keys f e (task_jobs task one)) ∙ (ap (λ (l : List Job). map f l) same ∙ of_keys f e (task_jobs task two))

module _ (task life : ℕ) (terms : Terms) (start : Start) (earlier : Lives) (moves : List Move) (other : Start) (before : Lives)
    (others : List Move) (h : AreSeenAlike task life terms start earlier moves other before others) where
  abbrev one : Log
  one = after_moves start terms earlier life [] moves

  abbrev two : Log
  two = after_moves other terms before life [] others

  pub keys_alike : keys task one ≡ keys task two
  keys_alike =
      keys_told start terms earlier life task moves [] h.kept_one
      ∙ (ap (λ (p : DiePlan). seen_keys p terms life (all_slots earlier) task 0 (asked_by task ([] ∷ earlier)) (seen_by task moves)) h.plan
      ∙ (ap (λ n. seen_keys other.plan terms life n task 0 (asked_by task ([] ∷ earlier)) (seen_by task moves)) h.clock
      ∙ (ap (λ (l : List Asked). seen_keys other.plan terms life (all_slots before) task 0 l (seen_by task moves)) h.asked
      ∙ (ap (λ (l : List Seen). seen_keys other.plan terms life (all_slots before) task 0 (asked_by task ([] ∷ before)) l) h.seen
      ∙ sym (keys_told other terms before life task others [] h.kept_two)))))

  pub releases_alike : map (λ (j : Job). j.release) (task_jobs task one) ≡ map (λ (j : Job). j.release) (task_jobs task two)
  releases_alike = alike_by task one two keys_alike (λ (j : Job). j.release) (λ j. refl)

  pub dues_alike : map (λ (j : Job). j.due) (task_jobs task one) ≡ map (λ (j : Job). j.due) (task_jobs task two)
  dues_alike = alike_by task one two keys_alike (λ (j : Job). j.due) (λ j. refl)

  pub asked_alike : AreAskedAlike task start one other two
  asked_alike =
      let order_one = moves_ordered start terms earlier life task moves [] (none_ordered start terms task) in
      let order_two = moves_ordered other terms before life task others [] (none_ordered other terms task) in
      record {
        opens_one = h.kept_one.opens;
        opens_two = h.kept_two.opens;
        exact_one = order_one.exact;
        exact_two = order_two.exact;
        order_one = come_in_order start terms task one order_one;
        order_two = come_in_order other terms task two order_two;
        same = alike_by task one two keys_alike (λ (j : Job). j.ops) (λ j. refl);
      }
