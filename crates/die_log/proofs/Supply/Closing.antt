-- A task whose collection is closed in a slot, by a waiver or by its last erase slot, gains by it.
use Rattle.std.proofs.Common.{◌≡◌, ℕ, zero, suc, ◌≤◌, ◌<◌, ◌==◌, ◌||◌, ◌&&◌, not, Bool, true, false, cond, List, [], ◌∷◌, ◌++◌, length}
use Rattle.std.proofs.Common.{count_by, Option, Some, None, refl, ap, sym, subst, ◌∙◌, ◌⊎◌, inl, inr, arith, slice_get}
use Rattle.std.proofs.lemmas.Bool.{true≢false, cases_eq, and_parts, eqb-true}
use Rattle.std.proofs.lemmas.List.Sums.{sum_by-cons}
use Rattle.std.proofs.lemmas.Option.{same_Some}
use Rattle.slot_types.specs.declared.plans.DiePlan.{DiePlan}
use Rattle.slot_types.specs.declared.acts.Act.{Act}
use Rattle.slot_types.specs.declared.acts.Act.TheVariants as does
use Rattle.slot_types.specs.declared.replies.Waived.{Waived}
use Rattle.plan_rules.specs.Accounts.{Accounts, accounts_after_collection}
use Rattle.die_log.specs.Model.Log.{Log, Job, job_at, jobs, acts, waived_collections, is_waived}
use Rattle.die_log.specs.Model.Work.{are_all, is_copy_program}
use Rattle.die_log.specs.Model.Accounts.{accounts, after_act, after_waivers}
use Rattle.die_log.specs.Results.Legal.{is_among, AreWaivers}
use Rattle.die_log.specs.Invariants.TrueAccounts.{is_pending, pending_of, HasTaskAndOps, AreTrueAccounts}
use Rattle.die_log.proofs.Tokens.Given.{CellsServe}
use Rattle.die_log.proofs.Tokens.Sums.{one_if, some_pass, all_at}
use Rattle.die_log.proofs.Tokens.Doing.{act_kind, IsCollectionAct, IsJobAct}
use Rattle.die_log.proofs.Tokens.Changes.{Waives}
use Rattle.die_log.proofs.Tokens.Slots.{slot_entry, slot_waives, idle_acts, ran_acts, IsTurn, of_job}
use Rattle.die_log.proofs.Tokens.Turns.{turn_log, stays_pending}
use Rattle.die_log.proofs.Supply.Gains.{Gains, Fits, agree_fits, gains_then, then_gains, waivers_rise, act_rises, waivers_gain, waivers_fit}
use Rattle.die_log.proofs.Supply.Gains.{settled_gains}
use Rattle.die_log.specs.Model.Start.{Start}

-- Counting

-- what is counted stands somewhere
pub found : {X : Type 0} (p : X → Bool) (xs : List X) → 1 ≤ count_by p xs → (k : ℕ) × (x : X) × (slice_get xs k ≡ Some x) × (p x ≡ true)
found p [] h = absurd (omega (arith, h))
found {X = X} p (x ∷ xs) h = by_test (p x) refl (found p xs)
  where
    by_test : (b : Bool) → p x ≡ b → (1 ≤ count_by p xs → (k : ℕ) × (y : X) × (slice_get xs k ≡ Some y) × (p y ≡ true)) → (k : ℕ) × (y : X)
        × (slice_get (x ∷ xs) k ≡ Some y) × (p y ≡ true)
    by_test true e further = (zero, x, refl, e)
    by_test false e further = let r = further (omega (arith, h, sum_by-cons (λ y. cond (p y) 1 0) x xs, ap one_if e)) in
        (suc r.0, r.1, r.2, r.3)

-- and where nothing is counted, nothing passes
pub none_passes : {X : Type 0} (p : X → Bool) (xs : List X) (k : ℕ) (x : X) → count_by p xs ≤ 0 → slice_get xs k ≡ Some x → p x ≡ false
none_passes p xs k x h e = by_test (p x) refl
  where
    by_test : (b : Bool) → p x ≡ b → p x ≡ false
    by_test true is = absurd (omega (arith, h, some_pass p xs k x e is))
    by_test false is = is

-- a collection of the task that was pending and is no longer
pub record IsClosed (plan : DiePlan) (own own' : ℕ → List Act) (gone gone' : ℕ → Bool) (js : List Job) (t : ℕ) (j : Job) : Type 0 where
  pub known : slice_get js j.number ≡ Some j
  pub task : j.task ≡ t
  pub was : is_pending plan own gone j ≡ true
  pub over : is_pending plan own' gone' j ≡ false

-- where a task's only pending collection is gone, it is closed
pub closed_one : (plan : DiePlan) (own own' : ℕ → List Act) (gone gone' : ℕ → Bool) (js : List Job) (t : ℕ)
    → ((k : ℕ) (j : Job) → slice_get js k ≡ Some j → j.number ≡ k)
    → 1 ≤ pending_of plan own gone js t → pending_of plan own' gone' js t ≤ 0 → (j : Job) × IsClosed plan own own' gone gone' js t j
closed_one plan own own' gone gone' js t numbered some none =
    let r = found (λ j. (j.task == t) && is_pending plan own gone j) js some in
    let j : Job = r.1 in
    let parts = and_parts (j.task == t) (is_pending plan own gone j) r.3 in
    let after : ((j.task == t) && is_pending plan own' gone' j)
    ≡ false = none_passes (λ i. (i.task == t) && is_pending plan own' gone' i) js r.0 j none r.2 in (
      j,
      record {
        known = ap (slice_get js) (numbered r.0 j r.2) ∙ r.2;
        task = eqb-true j.task t parts.0;
        was = parts.1;
        over = sym (ap (λ (b : Bool). b && is_pending plan own' gone' j) parts.0) ∙ after;
      },
    )

-- Waivers

waived_now : (c d g a : Bool) → (c && d && not g) ≡ true → (c && d && not (g || a)) ≡ false → a ≡ true
waived_now true true false true h k = refl
waived_now true true false false h k = absurd cc
waived_now true true true a h k = absurd cc
waived_now true false g a h k = absurd cc
waived_now false d g a h k = absurd cc

-- one without a new act was waived
closed_waived : (plan : DiePlan) (own own' : ℕ → List Act) (gone gone' am : ℕ → Bool) (js : List Job) (t : ℕ) (j : Job)
    → Waives own gone gone' am → own j.number ≡ own' j.number → IsClosed plan own own' gone gone' js t j → am j.number ≡ true
closed_waived plan own own' gone gone' am js t j w e c =
    waived_now j.collects (not (are_all plan j (own j.number))) (gone j.number) (am j.number) c.was (
    ap (λ (b : Bool). j.collects && not (are_all plan j (own j.number)) && not b) (sym (w.gone_is j.number))
    ∙ (ap (λ (l : List Act). j.collects && not (are_all plan j l) && not (gone' j.number)) e ∙ c.over)
    )

collects_if : (c d g : Bool) → (c && d && g) ≡ true → c ≡ true
collects_if true d g h = refl
collects_if false d g h = absurd cc

-- a slot without an act
pub idle_gains : (start : Start) (past : Log) (caller slot : ℕ) (ws : List Waived) (finished : Option ℕ) (t : ℕ) → AreTrueAccounts start past
    → CellsServe start past → AreWaivers start.plan past (waived_collections past) (accounts start past) ws
    → 1 ≤ pending_of start.plan (λ n. acts n past) (is_waived past) (jobs past) t
    → pending_of start.plan (λ n. acts n (slot_entry caller slot ws None finished ∷ past))
    (is_waived (slot_entry caller slot ws None finished ∷ past)) (jobs past) t ≤ 0
    → Gains start.plan (accounts start past) (after_waivers past ws (accounts start past)) t
idle_gains start past caller slot ws finished t h c are some none =
    let log : Log = slot_entry caller slot ws None finished ∷ past in
    let own : ℕ → List Act = λ n. acts n past in
    let own' : ℕ → List Act = λ n. acts n log in
    let r = closed_one start.plan own own' (is_waived past) (is_waived log) (jobs past) t c.numbered some none in
    let j : Job = r.0 in
    let is : is_among j.number ws ≡ true = closed_waived start.plan own own' (is_waived past) (is_waived log) (λ n. is_among n ws) (jobs past) t j
    (slot_waives start caller slot ws None finished past c.numbered are) (idle_acts caller slot ws finished past j.number) r.1 in
    let within : j.task < length start.plan.caps = (all_at (HasTaskAndOps start.plan) (jobs past) j.number j h.taken r.1.known).task in
    subst (Gains start.plan (accounts start past) (after_waivers past ws (accounts start past))) r.1.task
    (waivers_gain start.plan past ws (accounts start past) j (agree_fits start.plan (accounts start past) _ _ _ _ h.agree) r.1.known within is)

-- Acts

over_now : (c d g : Bool) → c ≡ true → g ≡ false → (c && not d && not g) ≡ false → d ≡ true
over_now true true g p q h = refl
over_now true false false p q h = absurd cc
over_now true false true p q h = absurd cc
over_now false d g p q h = absurd cc

-- the last erase slot settles
settles : (start : Start) (past : Log) (ws : List Waived) (j : Job) (act : Act) → IsTurn start past ws j act → j.collects ≡ true
    → are_all start.plan j (acts j.number past ++ act ∷ []) ≡ true
    → IsJobAct past j act ⊎ IsCollectionAct j act → (a : Accounts) → Fits start.plan a
    → Gains start.plan a (after_act start.plan (Some j) (acts j.number past) act a) j.task
settles start past ws j act h kind all (inl k) a f = absurd (true≢false (sym kind ∙ k.job))
settles start past ws j (does.Read page bytes) h kind all (inr k) a f = absurd k.kind
settles start past ws j (does.Write page bytes) h kind all (inr k) a f = absurd k.kind
settles start past ws j (does.Trim page) h kind all (inr k) a f = absurd k.kind
settles start past ws j (does.CopyRead page) h kind all (inr k) a f = absurd
    (true≢false (sym all ∙ stays_pending start past ws j (does.CopyRead page) h kind refl))
settles start past ws j (does.CopyProgram page) h kind all (inr k) a f = absurd
    (true≢false (sym all ∙ stays_pending start past ws j (does.CopyProgram page) h kind refl))
settles start past ws j (does.Erase block) h kind all (inr k) a f =
    subst (λ (b : Bool). Gains start.plan a (cond b (accounts_after_collection a j.task (count_by is_copy_program (acts j.number past))) a) j.task) (sym all)
    (settled_gains start.plan a j.task (count_by is_copy_program (acts j.number past)) f (of_job start past ws j (does.Erase block) h).task)

-- a slot with an act
pub turn_gains : (start : Start) (past : Log) (caller slot : ℕ) (ws : List Waived) (finished : Option ℕ) (j : Job) (act : Act) (t : ℕ)
    → IsTurn start past ws j act
    → 1 ≤ pending_of start.plan (λ n. acts n past) (is_waived past) (jobs past) t
    → pending_of start.plan (λ n. acts n (turn_log past caller slot ws finished j act)) (is_waived (turn_log past caller slot ws finished j act))
    (jobs past) t ≤ 0
    → Gains start.plan (accounts start past) (after_act start.plan (job_at past j.number) (acts j.number past) act
    (after_waivers past ws (accounts start past))) t
turn_gains start past caller slot ws finished j act t h some none =
    let log : Log = turn_log past caller slot ws finished j act in
    let own : ℕ → List Act = λ n. acts n past in
    let own' : ℕ → List Act = λ n. acts n log in
    let a : Accounts = accounts start past in
    let b : Accounts = after_waivers past ws a in
    let more = ran_acts caller slot ws finished past j.number act in
    let fits : Fits start.plan a = agree_fits start.plan a _ _ _ _ h.true_before.agree in
    let r = closed_one start.plan own own' (is_waived past) (is_waived log) (jobs past) t h.serve.numbered some none in
    let i : Job = r.0 in
    elim (cases_eq i.number j.number) [
      | inl e ↦
          let same : i ≡ j = same_Some i j (sym r.1.known ∙ (ap (job_at past) e ∙ h.waits.known)) in
          let kind : j.collects ≡ true = sym (ap (λ (x : Job). x.collects) same)
          ∙ collects_if i.collects (not (are_all start.plan i (own i.number))) (not (is_waived past i.number)) r.1.was in
          let over : is_pending start.plan own' (is_waived log) j ≡ false = sym (ap (is_pending start.plan own' (is_waived log)) same) ∙ r.1.over in
          let all : are_all start.plan j (acts j.number past ++ act ∷ []) ≡ true = sym (ap (are_all start.plan j) more.more)
          ∙ over_now j.collects (are_all start.plan j (own' j.number)) (is_waived log j.number) kind h.waits.new over in
          subst (Gains start.plan a (after_act start.plan (job_at past j.number) (acts j.number past) act b)) (sym (ap (λ (x : Job). x.task) same)
          ∙ r.1.task) (
          subst (λ o. Gains start.plan a (after_act start.plan o (acts j.number past) act b) j.task) (sym h.waits.known) (
          then_gains start.plan a b (after_act start.plan (Some j) (acts j.number past) act b) j.task (waivers_rise past ws a j.task)
          (settles start past ws j act h kind all (act_kind start past j act h.does_it) b (waivers_fit start.plan past ws a fits))
          )
          )
      | inr apart ↦
          let is : is_among i.number ws ≡ true = closed_waived start.plan own own' (is_waived past) (is_waived log) (λ n. is_among n ws)
          (jobs past) t i (slot_waives start caller slot ws (Some (j.number, act)) finished past h.serve.numbered h.waivers)
          (more.other i.number apart) r.1 in
          let within : i.task < length start.plan.caps = (all_at (HasTaskAndOps start.plan) (jobs past) i.number i h.true_before.taken r.1.known).task in
          subst (Gains start.plan a (after_act start.plan (job_at past j.number) (acts j.number past) act b)) r.1.task (
          gains_then start.plan a b (after_act start.plan (job_at past j.number) (acts j.number past) act b) i.task
          (waivers_gain start.plan past ws a i fits r.1.known within is)
          (act_rises start.plan (job_at past j.number) (acts j.number past) act b i.task)
          )
    ]
