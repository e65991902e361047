-- Where a task's jobs come in order, one is begun only when all that were taken before it are done.
use Rattle.std.proofs.Common.{◌≡◌, ℕ, ◌<◌, ◌≤◌, ◌==◌, ◌&&◌, not, nat_le, Bool, true, false, cond, List, [], ◌∷◌, ◌++◌}
use Rattle.std.proofs.Common.{length, Option, Some, None, refl, ap, sym, subst, ◌∙◌, inl, inr, arith}
use Rattle.std.specs.Prelude.{Contains}
use Rattle.std.specs.List.{AllByRecursion}
use Rattle.std.proofs.lemmas.Bool.{true≢false, cases_Bool, cases_eq, eq-eqb, ne_eqb, and_parts, and_from, or_right, le-leb, leb-true}
use Rattle.std.proofs.lemmas.Bool.Decides.{nat_tests}
use Rattle.std.proofs.lemmas.Option.{same_Some, none-some}
use Rattle.std.proofs.lemmas.List.Elements.{Contains-append_left, Contains-push_cases, All-contains, All-from_recursion}
use Rattle.std.proofs.lemmas.List.Folds.{list_any-append}
use Rattle.slot_types.specs.declared.acts.Act.{Act}
use Rattle.slot_types.specs.declared.events.Event.{Event}
use Rattle.slot_types.specs.declared.events.Event.TheVariants as events
use Rattle.slot_types.specs.declared.replies.Entry.{Entry}
use Rattle.die_log.specs.Model.Log.{Log, Job, Carried, jobs, job_at, now, act_of, acts, work, is_waived, waived_collections}
use Rattle.die_log.specs.Model.Start.{Start}
use Rattle.die_log.specs.Model.Work.{are_all, is_done, is_ready, goes_first}
use Rattle.die_log.specs.Model.Opening.{IsOpening}
use Rattle.die_log.specs.Model.Answers.{IsExact, choice, act_for, reply_with, slot_reply, reply_if_accepted, refusals}
use Rattle.die_log.specs.Results.Legal.{is_among}
use Rattle.die_log.specs.Invariants.RunningCollections.{AreNumbered}
use Rattle.die_log.proofs.Choices.{OfSome}
use Rattle.die_log.proofs.Heads.{IsPassed, NotBefore}
use Rattle.die_log.proofs.Known.{known, waived_is}
use Rattle.die_log.proofs.Collecting.{no_acts}
use Rattle.die_log.proofs.Legality.{entry, exact_induction}
use Rattle.die_log.proofs.Legal.Exact.{stands_well}
use Rattle.die_log.proofs.Legal.Runs.{all_passed_ready}
use Rattle.die_log.proofs.Supply.Waived.{waives_collections}
use Rattle.die_log.proofs.LogInvariants.EveryLog.{waiting_undone}
use Rattle.die_log.proofs.LogInvariants.OneMoreEntry.{IsWaiting, waits, same_job, stands_at, acts_stay, acts_grow}
use Rattle.task_reads.specs.Asked.{is_job_of, task_jobs, ComeInOrder}
use Rattle.task_reads.proofs.Lists.{in_filter, filter_has}

-- an act of this number is what the slot carried
pub own_act : (n : ℕ) (c : Carried) (act : Act) → act_of n c ≡ Some act → c ≡ Some (n, act)
own_act n None act e = absurd (none-some act e)
own_act n (Some (m, a)) act e = elim (cases_eq m n) [
  | inl same ↦ let is : a ≡ act = same_Some a act (sym (ap (λ b. cond b (Some a) None) (eq-eqb m n same)) ∙ e) in cc
  | inr other ↦ absurd (none-some act (sym (ap (λ b. cond b (Some a) None) (ne_eqb m n other)) ∙ e))
]

-- what the next slot carries
abbrev pub next_ran : Start → Log → Carried
next_ran start past = (slot_reply start past (choice start past).waived (choice start past).head).ran

abbrev pub slot_entry : Start → Log → ℕ → Entry
slot_entry start past caller = entry caller events.Slot (reply_if_accepted start past events.Slot)

-- it carries this act of this job
pub record Carries (start : Start) (past : Log) (j : Job) (act : Act) : Type 0 where
  pub head : (choice start past).head ≡ Some j
  pub act_is : act_for start past j ≡ Some act
  pub stands : Contains (jobs past) j
  pub ready : is_ready start.plan past j ≡ true

module _ (start : Start) (past : Log) where
  by_act : (j : Job) (o : Option Act) (n : ℕ) (act : Act) → (choice start past).head ≡ Some j → IsWaiting start.plan past j → act_for start past j ≡ o
      → (reply_with start.plan past (choice start past).waived j o).ran ≡ Some (n, act) → (i : Job) × (i.number ≡ n) × Carries start past i act
  by_act j None n act head w is e = absurd (none-some (n, act) e)
  by_act j (Some a) n act head w is e =
      let same : (j.number, a) ≡ (n, act) = same_Some (j.number, a) (n, act) e in (
        j,
        ap (λ (p : ℕ × Act). p.0) same,
        record { head = head; act_is = is ∙ ap (λ (p : ℕ × Act). Some p.1) same; stands = w.0; ready = w.1 },
      )

  by_head : (o : Option Job) (n : ℕ) (act : Act) → (choice start past).head ≡ o → OfSome (IsWaiting start.plan past) o
      → (slot_reply start past (choice start past).waived o).ran ≡ Some (n, act) → (i : Job) × (i.number ≡ n) × Carries start past i act
  by_head None n act head w e = absurd (none-some (n, act) e)
  by_head (Some j) n act head w e = by_act j (act_for start past j) n act head w refl e

  -- what is carried is carried of the head
  pub carried_of : (n : ℕ) (act : Act) → next_ran start past ≡ Some (n, act) → (i : Job) × (i.number ≡ n) × Carries start past i act
  carried_of n act e = by_head (choice start past).head n act refl (waits start past).head e

  pub carries : AreNumbered 0 (jobs past) → (j : Job) → Contains (jobs past) j → (act : Act) → act_of j.number (next_ran start past) ≡ Some act
      → Carries start past j act
  carries numbered j stands act e =
      let c = carried_of j.number act (own_act j.number (next_ran start past) act e) in
      subst (λ (i : Job). Carries start past i act) (same_job (jobs past) c.0 j numbered c.2.stands stands c.1) c.2

  -- who carries nothing keeps its acts
  pub slot_stays : (caller : ℕ) (n : ℕ) → act_of n (next_ran start past) ≡ None → acts n (slot_entry start past caller ∷ past) ≡ acts n past
  slot_stays caller n e = acts_stay n (slot_entry start past caller) past e

  pub slot_grows : (caller : ℕ) (n : ℕ) (act : Act) → act_of n (next_ran start past) ≡ Some act
      → acts n (slot_entry start past caller ∷ past) ≡ acts n past ++ act ∷ []
  slot_grows caller n act e = acts_grow n (slot_entry start past caller) past act e

  -- what is done stays done, and has no act any more
  pub done_rests : AreNumbered 0 (jobs past) → (caller : ℕ) (i : Job) → Contains (jobs past) i → is_done start.plan past i ≡ true
      → acts i.number (slot_entry start past caller ∷ past) ≡ acts i.number past
  done_rests numbered caller i stands done = by_case (act_of i.number (next_ran start past)) refl
    where
      by_case : (o : Option Act) → act_of i.number (next_ran start past) ≡ o → acts i.number (slot_entry start past caller ∷ past) ≡ acts i.number past
      by_case None e = slot_stays caller i.number e
      by_case (Some act) e = absurd (true≢false (sym done ∙ waiting_undone start.plan past i (carries numbered i stands act e).ready))

module _ (start : Start) (opens : IsOpening start) (task : ℕ) where
  abbrev pub InOrder : Log → Type 0
  InOrder log =
      (i j : Job) → Contains (jobs log) i → is_job_of task i ≡ true → Contains (jobs log) j → is_job_of task j ≡ true → i.number < j.number
      → (i.release ≤ j.release) × (i.due ≤ j.due)

  abbrev pub InTurn : Log → Type 0
  InTurn log =
      (i j : Job) → Contains (jobs log) i → is_job_of task i ≡ true → Contains (jobs log) j → is_job_of task j ≡ true → i.number < j.number
      → 0 < work j.number log → is_done start.plan log i ≡ true

  pub in_order : (log : Log) → ComeInOrder task log → InOrder log
  in_order log h i j is own js theirs less =
      h i j (filter_has (is_job_of task) (jobs log) i is own) (filter_has (is_job_of task) (jobs log) j js theirs) less

  pub numbered_of : (log : Log) → IsExact start log → AreNumbered 0 (jobs log)
  numbered_of log exact = (stands_well start opens log exact).0.numbered

  -- a job is never waived
  pub unwaived : (log : Log) → IsExact start log → (j : Job) → Contains (jobs log) j → j.collects ≡ false → is_waived log j.number ≡ true → ⊥
  unwaived log exact j stands kind gone =
      let c = waives_collections start opens log exact j.number gone in
      let at : job_at log j.number ≡ Some j = stands_at (jobs log) j (numbered_of log exact) stands in
      true≢false (sym c.2 ∙ (ap (λ (i : Job). i.collects) (same_Some c.0 j (sym c.1 ∙ at)) ∙ kind))

  pub job_kind : (j : Job) → is_job_of task j ≡ true → j.collects ≡ false
  job_kind j e = not_true j.collects (and_parts (not j.collects) (j.task == task) e).0
    where
      not_true : (b : Bool) → not b ≡ true → b ≡ false
      not_true true e = absurd cc
      not_true false e = refl

  -- with one more that was taken
  taken : (past : Log) (new : Job) → IsExact start past → new.number ≡ length (jobs past) → InTurn past
      → (i j : Job) → Contains (jobs past ++ new ∷ []) i → is_job_of task i ≡ true → Contains (jobs past ++ new ∷ []) j → is_job_of task j ≡ true
      → i.number < j.number → 0 < work j.number past → is_done start.plan past i ≡ true
  taken past new exact number h i j is own js theirs less more = elim (Contains-push_cases (jobs past) new j js) [
    | inr same ↦
        let none : work j.number past ≡ 0 = ap (λ (i : Job). work i.number past) (sym same)
        ∙ (ap (λ (n : ℕ). work n past) number ∙ ap (λ (l : List Act). length l) (no_acts start past exact)) in
        absurd (omega (arith, none, more))
    | inl before ↦ elim (Contains-push_cases (jobs past) new i is) [
      | inl earlier ↦ h i j earlier own before theirs less more
      | inr same ↦
          let low : j.number < length (jobs past) = All-contains (λ (x : Job). x.number < length (jobs past)) (jobs past) j
          (All-from_recursion (λ (x : Job). x.number < length (jobs past)) (jobs past) (known start past exact).of_jobs) before in
          absurd (omega (arith, low, less, number, ap (λ (x : Job). x.number) same))
    ]
  ]

  ready_now : (past : Log) (i : Job) → i.release ≤ now past → is_done start.plan past i ≡ false → is_waived past i.number ≡ false
      → is_ready start.plan past i ≡ true
  ready_now past i released undone stays = and_from (nat_le i.release (now past) && not (is_done start.plan past i)) (not (is_waived past i.number))
      (and_from (nat_le i.release (now past)) (not (is_done start.plan past i)) (le-leb i.release (now past) released)
      (ap (λ (b : Bool). not b) undone)) (ap (λ (b : Bool). not b) stays)

  goes_before_it : (i j : Job) → i.due ≤ j.due → i.number < j.number → goes_first i j ≡ true
  goes_before_it i j due less = grind (arith, nat_tests)

  -- whoever is carried has none of its task before it
  pub carries_first : (past : Log) (caller : ℕ) → IsExact start past → IsExact start (slot_entry start past caller ∷ past) → InOrder past
      → (i j : Job) → Contains (jobs past) i → is_job_of task i ≡ true → is_job_of task j ≡ true → i.number < j.number → (act : Act)
      → Carries start past j act → is_done start.plan past i ≡ true
  carries_first past caller exact longer order i j is own theirs less act c = elim (cases_Bool (is_done start.plan past i)) [
    | inl done ↦ done
    | inr undone ↦ absurd (not_before (all_passed_ready start past i is (ready_if undone)))
  ]
    where
      keys : (i.release ≤ j.release) × (i.due ≤ j.due)
      keys = order i j is own c.stands theirs less

      released : i.release ≤ now past
      released =
          let time : nat_le j.release (now past) ≡ true = (and_parts _ _ (and_parts _ _ c.ready).0).0 in
          omega (arith, keys.0, leb-true j.release (now past) time)

      stays : is_waived past i.number ≡ false
      stays = elim (cases_Bool (is_waived past i.number)) [
        | inl gone ↦ absurd (unwaived past exact i is (job_kind i own) gone)
        | inr remains ↦ remains
      ]

      ready_if : is_done start.plan past i ≡ false → is_ready start.plan past i ≡ true
      ready_if undone = ready_now past i released undone stays

      waived_then : is_among i.number (choice start past).waived ≡ true → is_waived (slot_entry start past caller ∷ past) i.number ≡ true
      waived_then e = list_any-append (λ w. w.number == i.number) (waived_collections past)
          (slot_reply start past (choice start past).waived (choice start past).head).waived
          ∙ or_right (is_waived past i.number)
          (is_among i.number (slot_reply start past (choice start past).waived (choice start past).head).waived)
          (ap (is_among i.number) (waived_is start past (choice start past).waived (choice start past).head) ∙ e)

      not_before : IsPassed (choice start past) i → ⊥
      not_before (inl gone) = unwaived (slot_entry start past caller ∷ past) longer i is (job_kind i own) (waived_then gone)
      not_before (inr beyond) =
          true≢false (sym (goes_before_it i j keys.1 less) ∙ subst (NotBefore i) c.head beyond)

  slot_turn : (past : Log) (caller : ℕ) → IsExact start past → IsExact start (slot_entry start past caller ∷ past) → InOrder past → InTurn past
      → InTurn (slot_entry start past caller ∷ past)
  slot_turn past caller exact longer order h i j is own js theirs less more = rests (by_case (act_of j.number (next_ran start past)) refl)
    where
      by_case : (o : Option Act) → act_of j.number (next_ran start past) ≡ o → is_done start.plan past i ≡ true
      by_case None e = h i j is own js theirs less
          (subst (λ (l : List Act). 0 < length l) (slot_stays start past caller j.number e) more)
      by_case (Some act) e = carries_first past caller exact longer order i j is own theirs less act
          (carries start past (numbered_of past exact) j js act e)

      rests : is_done start.plan past i ≡ true → is_done start.plan (slot_entry start past caller ∷ past) i ≡ true
      rests done = ap (are_all start.plan i) (done_rests start past (numbered_of past exact) caller i is done) ∙ done

  pub order_before : (past : Log) (new : Job) → ((i j : Job) → Contains (jobs past ++ new ∷ []) i → is_job_of task i ≡ true
      → Contains (jobs past ++ new ∷ []) j → is_job_of task j ≡ true → i.number < j.number → (i.release ≤ j.release) × (i.due ≤ j.due))
      → InOrder past
  order_before past new h i j is own js theirs less =
      h i j (Contains-append_left (jobs past) (new ∷ []) i is) own (Contains-append_left (jobs past) (new ∷ []) j js) theirs less

  abbrev Goal : Log → Type 0
  Goal log = IsExact start log → InOrder log → InTurn log

  pub in_turn : (log : Log) → IsExact start log → InOrder log → InTurn log
  in_turn log exact order = exact_induction start Goal (λ exact order i j is. absurd (omega (arith, is.1))) step log exact exact order
    where
      step : (past : Log) (caller : ℕ) (event : Event) → IsExact start past → Goal past
          → AllByRecursion (λ c. c.0 ≡ false) (refusals start past event)
          → Goal (entry caller event (reply_if_accepted start past event) ∷ past)
      step past caller (events.Submit t release due ops) exact h none longer order =
          taken past _ exact refl (h exact (order_before past _ order))
      step past caller (events.Collect t release due) exact h none longer order =
          taken past _ exact refl (h exact (order_before past _ order))
      step past caller events.Slot exact h none longer order = slot_turn past caller exact longer order (h exact order)

-- a job is begun once those before it are done
pub served_in_order : (start : Start) → IsOpening start → (log : Log) → IsExact start log → (task : ℕ) → ComeInOrder task log → (i j : Job)
    → Contains (task_jobs task log) i → Contains (task_jobs task log) j → i.number < j.number → 0 < work j.number log
    → is_done start.plan log i ≡ true
served_in_order start opens log exact task order i j is js less more =
    let a = in_filter (is_job_of task) (jobs log) i is in
    let b = in_filter (is_job_of task) (jobs log) j js in
    in_turn start opens task log exact (in_order start opens task log order) i j a.0 a.1 b.0 b.1 less more
