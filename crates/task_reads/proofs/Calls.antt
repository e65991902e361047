-- The jobs of a task in the log of a die that keeps its plan itself: they come in order, and by what the task sees.
use Rattle.std.proofs.Common.{◌≡◌, ◌⊎◌, ℕ, ◌+◌, ◌<◌, ◌≤◌, ◌==◌, not, Bool, true, false, cond, List, [], ◌∷◌, ◌++◌, length, map, Option, Some, None}
use Rattle.std.proofs.Common.{refl, ap, sym, subst, ◌∙◌, inl, inr, arith, filter, append-nil}
use Rattle.std.specs.Prelude.{Contains}
use Rattle.std.proofs.lemmas.Bool.{true≢false, and_parts, eqb-true}
use Rattle.std.proofs.lemmas.List.{length_push}
use Rattle.std.proofs.lemmas.List.Elements.{Contains-push_cases, All-contains, All-from_recursion, filter-append}
use Rattle.slot_types.specs.declared.events.Op.{Op}
use Rattle.slot_types.specs.declared.events.Event.{Event}
use Rattle.slot_types.specs.declared.events.Event.TheVariants as events
use Rattle.slot_types.specs.declared.refusals.Refusal.{Refusal}
use Rattle.demand_rules.specs.declared.terms.TaskTerms.{TaskTerms}
use Rattle.demand_rules.specs.declared.terms.Terms.{Terms}
use Rattle.demand_rules.specs.Demand.{terms_of}
use Rattle.die_log.specs.Model.Log.{Log, Job, jobs, carried_slots, now}
use Rattle.die_log.specs.Model.Start.{Start}
use Rattle.die_log.specs.Model.Answers.{IsExact, refusal_of, reply_if_accepted, with_answer, after_call, run, choice, slot_reply}
use Rattle.die_log.proofs.Known.{known}
use Rattle.die_log.proofs.Legality.{entry, refused_answer, accepted_answer}
use Rattle.die_log.proofs.Runs.{call_exact}
use Rattle.planned_log.specs.Asks.{asked_job}
use Rattle.planned_log.specs.KeptLogs.{comes_at, collections_at}
use Rattle.task_reads.specs.Asked.{is_job_of, task_jobs}

-- a call leaves the log, or adds an entry
pub accepted_is : (start : Start) (past : Log) (caller : ℕ) (event : Event)
    → with_answer caller event (reply_if_accepted start past event) past ≡ entry caller event (reply_if_accepted start past event) ∷ past
accepted_is start past caller (events.Submit task release due ops) = refl
accepted_is start past caller (events.Collect task release due) = refl
accepted_is start past caller events.Slot = refl

pub call_keeps : (P : Log → Type 0) (start : Start) (past : Log) (caller : ℕ) (event : Event) → P past
    → P (entry caller event (reply_if_accepted start past event) ∷ past) → P (after_call start past (caller, event))
call_keeps P start past caller event h k = by_refusal (refusal_of start past event) refl
  where
    by_refusal : (o : Option Refusal) → refusal_of start past event ≡ o → P (after_call start past (caller, event))
    by_refusal None e = subst P (sym (ap (λ r. with_answer caller event r past) (accepted_answer start past event e)
        ∙ accepted_is start past caller event)) k
    by_refusal (Some r) e = subst P (sym (ap (λ x. with_answer caller event x past) (refused_answer start past event r e))) h

-- Order

-- each job of the task is released by now, and due so many slots later as all of them; and none is released before an earlier one
pub record IsOrdered (start : Start) (terms : Terms) (task : ℕ) (log : Log) : Type 0 where
  pub exact : IsExact start log
  pub released : (j : Job) → Contains (jobs log) j → is_job_of task j ≡ true → j.release ≤ now log
  pub due_is : (j : Job) → Contains (jobs log) j → is_job_of task j ≡ true → j.due ≡ j.release + (terms_of terms task).deadline
  pub risen : (i j : Job) → Contains (jobs log) i → is_job_of task i ≡ true → Contains (jobs log) j → is_job_of task j ≡ true
      → i.number < j.number → i.release ≤ j.release

module _ (start : Start) (terms : Terms) (task : ℕ) where
  -- one that is taken now, if it is the task's
  taken_ordered : (past : Log) (new : Job) → IsOrdered start terms task past → (log : Log) → IsExact start log → jobs log ≡ jobs past ++ new ∷ []
      → now log ≡ now past → new.number ≡ length (jobs past)
      → (is_job_of task new ≡ true → (new.release ≡ now past) × (new.due ≡ new.release + (terms_of terms task).deadline))
      → IsOrdered start terms task log
  taken_ordered past new h log exact jobs_are slot number own = record {
    exact = exact;
    released = λ j js mine. elim (cases j js) [
      | inl before ↦ omega (arith, h.released j before mine, slot)
      | inr same ↦ omega (arith, ap (λ (x : Job). x.release) same, slot, (own (mine_too j same mine)).0)
    ];
    due_is = λ j js mine. elim (cases j js) [
      | inl before ↦ h.due_is j before mine
      | inr same ↦ subst (λ (x : Job). x.due ≡ x.release + (terms_of terms task).deadline) same (own (mine_too j same mine)).1
    ];
    risen = λ i j is mine js theirs less. elim (cases j js) [
      | inl before ↦ elim (cases i is) [
        | inl earlier ↦ h.risen i j earlier mine before theirs less
        | inr same ↦ absurd (omega (arith, less, number, ap (λ (x : Job). x.number) same, below j before))
      ]
      | inr same ↦ elim (cases i is) [
        | inl earlier ↦ omega (arith, h.released i earlier mine, ap (λ (x : Job). x.release) same, (own (mine_too j same theirs)).0)
        | inr also ↦ absurd (omega (arith, less, ap (λ (x : Job). x.number) same, ap (λ (x : Job). x.number) also))
      ]
    ];
  }
    where
      cases : (j : Job) → Contains (jobs log) j → Contains (jobs past) j ⊎ (new ≡ j)
      cases j js = Contains-push_cases (jobs past) new j (subst (λ (l : List Job). Contains l j) jobs_are js)

      mine_too : (j : Job) → new ≡ j → is_job_of task j ≡ true → is_job_of task new ≡ true
      mine_too j same mine = ap (is_job_of task) same ∙ mine

      below : (j : Job) → Contains (jobs past) j → j.number < length (jobs past)
      below j js = All-contains (λ (x : Job). x.number < length (jobs past)) (jobs past) j
          (All-from_recursion (λ (x : Job). x.number < length (jobs past)) (jobs past) (known start past h.exact).of_jobs) js

  -- after a call
  pub exactly : (log : Log) (caller : ℕ) (event : Event) → IsOrdered start terms task log → IsExact start (after_call start log (caller, event))
  exactly log caller event h = call_exact start log (caller, event) h.exact

  abbrev Follows : Log → Type 0
  Follows log = IsExact start log → IsOrdered start terms task log

  ordered_call : (log : Log) (caller : ℕ) (event : Event) → IsOrdered start terms task log
      → Follows (entry caller event (reply_if_accepted start log event) ∷ log) → IsOrdered start terms task (after_call start log (caller, event))
  ordered_call log caller event h k = call_keeps Follows start log caller event (λ exact. h) k (exactly log caller event h)

  pub ask_ordered : (log : Log) (caller other : ℕ) (ops : List Op) → IsOrdered start terms task log
      → IsOrdered start terms task (after_call start log (caller, asked_job terms log other ops))
  ask_ordered log caller other ops h = ordered_call log caller (asked_job terms log other ops) h (λ exact.
      taken_ordered log _ h _ exact refl refl refl (λ mine. (
        refl,
        ap (λ (n : ℕ). now log + (terms_of terms n).deadline) (eqb-true other task (and_parts (not false) (other == task) mine).1),
      )))

  pub collect_ordered : (log : Log) (caller other release due : ℕ) → IsOrdered start terms task log
      → IsOrdered start terms task (after_call start log (caller, events.Collect other release due))
  collect_ordered log caller other release due h = ordered_call log caller (events.Collect other release due) h (λ exact.
      taken_ordered log _ h _ exact refl refl refl (λ mine. absurd (true≢false (sym mine))))

  pub slot_ordered : (log : Log) (caller : ℕ) → IsOrdered start terms task log → IsOrdered start terms task (after_call start log (caller, events.Slot))
  slot_ordered log caller h = ordered_call log caller events.Slot h (λ exact. record {
    exact = exact;
    released = λ j js mine. omega (
      arith,
      h.released j js mine,
      length_push (carried_slots log) (slot_reply start log (choice start log).waived (choice start log).head).ran,
    );
    due_is = h.due_is;
    risen = h.risen;
  })

  pub own_ordered : (ts : List TaskTerms) (other slot : ℕ) (log : Log) (caller : ℕ) → IsOrdered start terms task log
      → IsOrdered start terms task (run start log (map (λ event. (caller, event)) (collections_at ts other slot)))
  own_ordered [] other slot log caller h = h
  own_ordered (t ∷ ts) other slot log caller h = by_test (comes_at t.collect_period slot) h (own_ordered ts (other + 1) slot)
    where
      by_test : (b : Bool) → IsOrdered start terms task log
          → ((l : Log) (caller : ℕ) → IsOrdered start terms task l
          → IsOrdered start terms task (run start l (map (λ event. (caller, event)) (collections_at ts (other + 1) slot))))
          → IsOrdered start terms task (run start log (map (λ event. (caller, event))
          (cond b (events.Collect other slot (slot + t.collect_deadline) ∷ collections_at ts (other + 1) slot) (collections_at ts (other + 1) slot))))
      by_test true h rest = rest (after_call start log (caller, events.Collect other slot (slot + t.collect_deadline))) caller
          (collect_ordered log caller other slot (slot + t.collect_deadline) h)
      by_test false h rest = rest log caller h

-- What a job asks for, without its number

abbrev pub unnumbered : Job → Job
unnumbered j = record j { number = 0 }

abbrev pub keys : ℕ → Log → List Job
keys task log = map unnumbered (task_jobs task log)

-- a job that is taken in this slot
abbrev pub new_key : Terms → (task slot : ℕ) → List Op → Job
new_key terms task slot ops = record {
  number = 0;
  collects = false;
  task = task;
  release = slot;
  due = slot + (terms_of terms task).deadline;
  ops = ops;
}

module _ (start : Start) (task : ℕ) where
  -- with one more of another task, or a collection
  pub keys_other : (js : List Job) (new : Job) → is_job_of task new ≡ false
      → map unnumbered (filter (is_job_of task) (js ++ new ∷ [])) ≡ map unnumbered (filter (is_job_of task) js)
  keys_other js new e = ap (λ (l : List Job). map unnumbered l) (filter-append (is_job_of task) js (new ∷ [])
      ∙ (ap (λ (b : Bool). filter (is_job_of task) js ++ cond b (new ∷ []) []) e ∙ append-nil (filter (is_job_of task) js)))

  -- with one more of the task
  pub keys_own : (js : List Job) (new : Job) → is_job_of task new ≡ true
      → map unnumbered (filter (is_job_of task) (js ++ new ∷ [])) ≡ map unnumbered (filter (is_job_of task) js) ++ unnumbered new ∷ []
  keys_own js new e = ap (λ (l : List Job). map unnumbered l) (filter-append (is_job_of task) js (new ∷ [])
      ∙ ap (λ (b : Bool). filter (is_job_of task) js ++ cond b (new ∷ []) []) e) ∙ map_push (filter (is_job_of task) js)
    where
      map_push : (xs : List Job) → map unnumbered (xs ++ new ∷ []) ≡ map unnumbered xs ++ unnumbered new ∷ []
      map_push [] = refl
      map_push (x ∷ xs) = ap (λ (l : List Job). unnumbered x ∷ l) (map_push xs)

  -- collections and slots are none of them
  pub collect_keys : (log : Log) (caller other release due : ℕ) → keys task (after_call start log (caller, events.Collect other release due)) ≡ keys task log
  collect_keys log caller other release due = call_keeps (λ (l : Log). keys task l ≡ keys task log) start log caller
      (events.Collect other release due) refl (keys_other (jobs log) _ refl)

  pub slot_keys : (log : Log) (caller : ℕ) → keys task (after_call start log (caller, events.Slot)) ≡ keys task log
  slot_keys log caller = call_keeps (λ (l : Log). keys task l ≡ keys task log) start log caller events.Slot refl refl

  pub own_keys : (ts : List TaskTerms) (other slot : ℕ) (log : Log) (caller : ℕ)
      → keys task (run start log (map (λ event. (caller, event)) (collections_at ts other slot))) ≡ keys task log
  own_keys [] other slot log caller = refl
  own_keys (t ∷ ts) other slot log caller = by_test (comes_at t.collect_period slot) (λ l. own_keys ts (other + 1) slot l caller)
    where
      by_test : (b : Bool)
          → ((l : Log) → keys task (run start l (map (λ event. (caller, event)) (collections_at ts (other + 1) slot))) ≡ keys task l)
          → keys task (run start log (map (λ event. (caller, event))
          (cond b (events.Collect other slot (slot + t.collect_deadline) ∷ collections_at ts (other + 1) slot) (collections_at ts (other + 1) slot))))
          ≡ keys task log
      by_test true rest = rest (after_call start log (caller, events.Collect other slot (slot + t.collect_deadline)))
          ∙ collect_keys log caller other slot (slot + t.collect_deadline)
      by_test false rest = rest log
