-- Arrivals keep what the fields of a die say of its log, and a fresh die has them so.
use Rattle.std.proofs.Common.{◌≡◌, ℕ, zero, suc, ◌<◌, ◌≤◌, ◌==◌, ◌||◌, Bool, true, false, List, [], ◌∷◌, ◌++◌, None, refl, ap, sym, ◌∙◌}
use Rattle.std.proofs.Common.{subst, length, map, slice_index, nat_lt, nat_le, ◌&&◌, not, inl, inr, ◌⊎◌, arith}
use Rattle.std.proofs.lemmas.List.{length-map}
use Rattle.std.proofs.lemmas.Bool.Decides.{nat_tests}
use Rattle.std.specs.List.{list_any}
use Rattle.std.specs.Prelude.{Result, Ok, Err, IfOk, IfErr, OnOk, IsOk, ◌↔◌}
use Rattle.std.specs.Result.{IsErrAnd}
use Rattle.slot_types.specs.declared.plans.DiePlan.{DiePlan}
use Rattle.slot_types.specs.declared.plans.Shape.{Shape}
use Rattle.slot_types.specs.declared.refusals.Refusal.{Refusal}
use Rattle.slot_types.specs.declared.refusals.Refusal.TheVariants.{BadShape, BadPlan, NoMemory}
use Rattle.slot_types.specs.declared.limits.TheConstants.{MAX_JOBS}
use Rattle.slot_types.specs.declared.events.Op.{Op}
use Rattle.slot_types.specs.declared.events.Event.TheVariants as events
use Rattle.slot_types.specs.declared.replies.Reply.{Reply}
use Rattle.slot_types.specs.declared.replies.Reply.TheVariants as replies
use Rattle.plan_rules.specs.Bound.{MeetsBound}
use Rattle.plan_rules.specs.Accounts.{Accounts, accounts_after_admit}
use Rattle.flash_die.specs.Flash as device
use Rattle.flash_volume.specs.State.{State, fresh_volume}
use Rattle.job_table.specs.Jobs.{JobRecord, new_job, new_collection}
use Rattle.job_table.specs.Table.{Table, empty_table, with_job}
use Rattle.job_table.specs.Table as table_words
use Rattle.die_log.specs.Model.Log.{Log, Job, jobs, waived_collections, is_waived}
use Rattle.slot_types.specs.Operations.{writes}
use Rattle.die_log.specs.Model.Work.{is_done, is_collecting}
use Rattle.die_log.specs.Model.Accounts.{accounts}
use Rattle.die_log.specs.Model.Answers.{IsAccepted, answer, refusal_of, refusals}
use Rattle.die_log.proofs.Legality.{entry, accepted_answer, none_stands}
use Rattle.die_log.proofs.Legal.Exact.{has_slots}
use Rattle.slot_core.specs.Records.{record_with, job_records}
use Rattle.slot_core.specs.Device.{FlashState, flash_of, IsFlashOf}
use Rattle.slot_core.specs.Agreement.{AgreeWithLog}
use Rattle.slot_core.specs.Core.{with_entry}
use Rattle.slot_core.proofs.Recording.{records-submit, records-collect}
use Rattle.slot_core.proofs.Heading.{pending_is}
use Rattle.slot_core.proofs.Flashing.{flash-submit, flash-collect, fresh_state, fresh_flash}
use Rattle.die_log.specs.Model.Start.{Start, over, fresh}
use Rattle.die_log.proofs.Openings.{fresh_opens, fresh_erases}

-- Arrivals

some_ops : (n : ℕ) → (n == 0) ≡ false → 0 < n
some_ops zero h = absurd cc
some_ops (suc n) h = omega arith

abbrev number_reply : ℕ → Reply
number_reply n = replies.Taken n

pub keeps_submit : (start : Start) (log : Log) (present : ℕ) (t : Table) (f : FlashState) (caller task release due : ℕ) (ops : List Op)
    → AgreeWithLog start log present t false f → refusal_of start log (events.Submit task release due ops) ≡ None
    → AgreeWithLog start (entry caller (events.Submit task release due ops) (replies.Taken (length (jobs log))) ∷ log) present
    (with_job t (new_job task release due ops)) false (record f { tokens = accounts_after_admit f.tokens task (writes ops) })
keeps_submit start log present t f caller task release due ops k none = record {
  exact = (k.exact, sym (accepted_answer start log (events.Submit task release due ops) none), tt);
  bound = k.bound;
  left = k.left;
  now_is = k.now_is;
  tasks_are = k.tasks_are;
  clock_by = k.clock_by;
  ended_is = k.ended_is;
  jobs_are = ap (λ js. js ++ new_job task release due ops ∷ []) k.jobs_are
      ∙ sym (records-submit start log caller task release due ops k.exact some);
  places_are = (flash-submit start log caller task release due ops f k.exact (k.flash refl)).places_are;
  flash = λ alive. flash-submit start log caller task release due ops f k.exact (k.flash alive);
}
  where
    some : 0 < length ops
    some = some_ops (length ops) ((none_stands (refusals start log (events.Submit task release due ops)) none).1.0)

pub keeps_collect : (start : Start) (log : Log) (present : ℕ) (t : Table) (f : FlashState) (caller task release due : ℕ)
    → AgreeWithLog start log present t false f → refusal_of start log (events.Collect task release due) ≡ None
    → AgreeWithLog start (entry caller (events.Collect task release due) (replies.Taken (length (jobs log))) ∷ log) present
    (with_job t (new_collection task release due)) false f
keeps_collect start log present t f caller task release due k none = record {
  exact = (k.exact, sym (accepted_answer start log (events.Collect task release due) none), tt);
  bound = k.bound;
  left = k.left;
  now_is = k.now_is;
  tasks_are = k.tasks_are;
  clock_by = k.clock_by;
  ended_is = k.ended_is;
  jobs_are = ap (λ js. js ++ new_collection task release due ∷ []) k.jobs_are
      ∙ sym (records-collect start log caller task release due k.exact (has_slots start.plan k.bound.bound));
  places_are = (flash-collect start log caller task release due f k.exact (k.flash refl)).places_are;
  flash = λ alive. flash-collect start log caller task release due f k.exact (k.flash alive);
}

-- At the start, and with a call's values as they come

pub keeps_start : {N : Type 0} (blocks_of : N → List device.Block) (plan : DiePlan) (nand : N) (log : Log) (t : Table) (v : State N)
    → (start : Start) → MeetsBound plan → blocks_of nand ≡ device.fresh_blocks plan.shape → log ≡ [] → t ≡ empty_table (length plan.caps) → v
    ≡ fresh_volume plan nand → start ≡ fresh plan
    → AgreeWithLog (over v.accounts.plan start) log 0 t v.failed (flash_of blocks_of v)
keeps_start blocks_of plan nand log t v start bound unused none table_is volume_is start_is =
    rw start_is (rw volume_is (rw none (rw table_is (record {
      exact = tt;
      bound = fresh_opens plan bound;
      left = λ b. omega (arith, fresh_erases plan b);
      now_is = refl;
      tasks_are = refl;
      clock_by = omega arith;
      ended_is = refl;
      jobs_are = refl;
      places_are = (fresh_flash plan).places_are;
      flash = λ alive. subst (λ (bs : List device.Block). IsFlashOf (fresh plan) [] (record (fresh_state plan) { blocks = bs })) (sym unused)
          (fresh_flash plan);
    }))))

balance_enough : (have need : ℕ) → nat_lt have need ≡ false → need ≤ have
balance_enough have need h = grind (arith, nat_tests)

-- a job that is not refused has its tokens
pub tokens_suffice : (start : Start) (log : Log) (task release due : ℕ) (ops : List Op) (tokens : Accounts) → tokens ≡ accounts start log
    → refusal_of start log (events.Submit task release due ops) ≡ None
    → writes ops ≤ slice_index tokens.balances task
tokens_suffice start log task release due ops tokens is none =
    rw is (balance_enough (slice_index (accounts start log).balances task) (writes ops)
    (none_stands (refusals start log (events.Submit task release due ops)) none).1.1.1.1.1.1.1.0)

pub jobs_counted : (start : Start) (log : Log) (t : Table) → t.jobs ≡ job_records start log → length t.jobs ≡ length (jobs log)
jobs_counted start log t is = ap length is ∙ length-map (jobs log) (record_with start log (waived_collections log))

pub submit_kept : (start : Start) {N : Type 0} (blocks_of : N → List device.Block) (log later : Log) (present caller number task release due : ℕ)
    (ops : List Op) (t u : Table) (v w : State N)
    → AgreeWithLog (over v.accounts.plan start) log present t v.failed (flash_of blocks_of v) → v.failed ≡ false
    → refusal_of (over v.accounts.plan start) log (events.Submit task release due ops) ≡ None → number ≡ length t.jobs → u
    ≡ with_job t (new_job task release due ops)
    → w ≡ record v { accounts = accounts_after_admit v.accounts task (writes ops) } → later
    ≡ with_entry caller (events.Submit task release due ops) (replies.Taken number) log
    → AgreeWithLog (over w.accounts.plan start) later present u w.failed (flash_of blocks_of w)
submit_kept start blocks_of log later present caller number task release due ops t u v w k alive none number_is table_is volume_is log_is =
    rw volume_is (rw table_is (rw log_is (rw alive (rw (number_is ∙ jobs_counted (over v.accounts.plan start) log t k.jobs_are)
    (keeps_submit (over v.accounts.plan start) log present t (flash_of blocks_of v) caller task release due ops
    (subst (λ (b : Bool). AgreeWithLog (over v.accounts.plan start) log present t b (flash_of blocks_of v)) alive k) none)))))

pub collect_kept : (start : Start) {N : Type 0} (blocks_of : N → List device.Block) (log later : Log) (present caller number task release due : ℕ)
    (t u : Table) (v : State N)
    → AgreeWithLog (over v.accounts.plan start) log present t v.failed (flash_of blocks_of v) → v.failed ≡ false
    → refusal_of (over v.accounts.plan start) log (events.Collect task release due) ≡ None → number ≡ length t.jobs → u
    ≡ with_job t (new_collection task release due)
    → later ≡ with_entry caller (events.Collect task release due) (replies.Taken number) log
    → AgreeWithLog (over v.accounts.plan start) later present u v.failed (flash_of blocks_of v)
collect_kept start blocks_of log later present caller number task release due t u v k alive none number_is table_is log_is =
    rw table_is (rw log_is (rw alive (rw (number_is ∙ jobs_counted (over v.accounts.plan start) log t k.jobs_are)
    (keeps_collect (over v.accounts.plan start) log present t (flash_of blocks_of v) caller task release due
    (subst (λ (b : Bool). AgreeWithLog (over v.accounts.plan start) log present t b (flash_of blocks_of v)) alive k) none))))

pub submit_accepts : (start : Start) (log : Log) (task release due : ℕ) (ops : List Op)
    → refusal_of start log (events.Submit task release due ops) ≡ None → IsAccepted (answer start log (events.Submit task release due ops))
submit_accepts start log task release due ops none = subst IsAccepted
    (sym (accepted_answer start log (events.Submit task release due ops) none)) tt

pub collect_accepts : (start : Start) (log : Log) (task release due : ℕ) → refusal_of start log (events.Collect task release due) ≡ None
    → IsAccepted (answer start log (events.Collect task release due))
collect_accepts start log task release due none = subst IsAccepted (sym (accepted_answer start log (events.Collect task release due) none)) tt

pub collect_taken : (start : Start) (log : Log) (t : Table) (task release due number : ℕ)
    → refusal_of start log (events.Collect task release due) ≡ None → t.jobs ≡ job_records start log → number ≡ length t.jobs
    → answer start log (events.Collect task release due) ≡ replies.Taken number
collect_taken start log t task release due number none jobs_are is = accepted_answer start log (events.Collect task release due) none
    ∙ ap number_reply (sym (is ∙ jobs_counted start log t jobs_are))

-- the task of a collection has a pending one in the table where it has one in the log
pub collecting_is : (start : Start) (log : Log) (js : List JobRecord) (task : ℕ) → js ≡ job_records start log
    → table_words.is_collecting js task ≡ is_collecting start.plan log task
collecting_is start log js task are = ap (λ (rs : List JobRecord). table_words.is_collecting rs task) are ∙ any_mapped (jobs log)
  where
    joined : (a b c d : Bool) → ((a && b) && (c && d)) ≡ (((a && b) && c) && d)
    joined true true c d = refl
    joined true false c d = refl
    joined false b c d = refl

    one : (j : Job) → table_words.is_collection_of task (record_with start log (waived_collections log) j)
        ≡ (j.collects && (j.task == task) && not (is_done start.plan log j) && not (is_waived log j.number))
    one j = ap (λ (b : Bool). (j.collects && (j.task == task)) && b) (pending_is start log (waived_collections log) j)
        ∙ joined j.collects (j.task == task) (not (is_done start.plan log j)) (not (is_waived log j.number))

    any_mapped : (xs : List Job) → list_any (table_words.is_collection_of task) (map (record_with start log (waived_collections log)) xs)
        ≡ list_any (λ j. j.collects && (j.task == task) && not (is_done start.plan log j) && not (is_waived log j.number)) xs
    any_mapped [] = refl
    any_mapped (x ∷ xs) = rw (one x) (ap (λ b. (x.collects && (x.task == task) && not (is_done start.plan log x) && not (is_waived log x.number))
        || b) (any_mapped xs))

-- a task that may collect is there, and has no pending collection
pub record MayCollect (plan : DiePlan) (log : Log) (task : ℕ) : Type 0 where
  pub task_in : task < length plan.caps
  pub single : is_collecting plan log task ≡ false
  pub few : length (jobs log) < MAX_JOBS

at_most : (m n : ℕ) → nat_le m n ≡ false → n < m
at_most m n h = grind (arith, nat_tests)

pub may_collect : (start : Start) (log : Log) (task release due : ℕ) → refusal_of start log (events.Collect task release due) ≡ None
    → MayCollect start.plan log task
may_collect start log task release due none =
    let all = none_stands (refusals start log (events.Collect task release due)) none in
    record {
      task_in = at_most (length start.plan.caps) task all.0;
      single = all.1.1.1.0;
      few = at_most MAX_JOBS (length (jobs log)) all.1.1.1.1.0;
    }

-- what an error is known by
pub err_where : {A E : Type 0} (r : Result A E) (P Q : E → Type 0) → IsErrAnd r P → ((e : E) → P e → Q e) → IfErr r Q
err_where (Ok x) P Q h f = absurd h
err_where (Err e) P Q h f = f e h

pub on_ok : {A E : Type 0} (r : Result A E) (P : Type 0) → OnOk r P → IsOk r → P
on_ok (Ok x) P h is = h
on_ok (Err e) P h is = absurd cc

-- the refusal of a plan that is out of its bound
pub bound_refusal : (e r : Refusal) → e ≡ r → (r ≡ BadShape) ⊎ (r ≡ BadPlan) → (e ≡ BadShape) ⊎ ((e ≡ BadPlan) ⊎ (e ≡ NoMemory))
bound_refusal e r is (inl h) = inl (is ∙ h)
bound_refusal e r is (inr h) = inr (inl (is ∙ h))

pub same_shape : (s t : Shape) → false ≡ not ((s.blocks == t.blocks) && ((s.pages == t.pages) && (s.erase_slots == t.erase_slots))) → s ≡ t
same_shape s t h =
    let b : s.blocks ≡ t.blocks = grind (arith, nat_tests) in
    let p : s.pages ≡ t.pages = grind (arith, nat_tests) in
    let e : s.erase_slots ≡ t.erase_slots = grind (arith, nat_tests) in
    rw b (rw p (rw e refl))

-- what a job is answered that is not refused
pub submit_taken : (start : Start) (log : Log) (t : Table) (task release due number : ℕ) (ops : List Op)
    → refusal_of start log (events.Submit task release due ops) ≡ None → t.jobs ≡ job_records start log → number ≡ length t.jobs
    → answer start log (events.Submit task release due ops) ≡ replies.Taken number
submit_taken start log t task release due number ops none jobs_are is = accepted_answer start log (events.Submit task release due ops) none
    ∙ ap number_reply (sym (is ∙ jobs_counted start log t jobs_are))

-- the tokens are there, so they are moved
pub admit_made : {N A : Type 0} (v w : State N) (task count : ℕ) (ops : List Op) (r : Result A Refusal) → count ≡ writes ops → writes ops
    ≤ slice_index v.accounts.balances task
    → OnOk r (w ≡ record v { accounts = accounts_after_admit v.accounts task count }) → (IsOk r ↔ count ≤ slice_index v.accounts.balances task) → w
    ≡ record v { accounts = accounts_after_admit v.accounts task (writes ops) }
admit_made v w task count ops r is enough made accepted =
    on_ok r (w ≡ record v { accounts = accounts_after_admit v.accounts task count }) made
    (accepted.1 (subst (λ (n : ℕ). n ≤ slice_index v.accounts.balances task) (sym is) enough))
    ∙ ap (λ (n : ℕ). record v { accounts = accounts_after_admit v.accounts task n }) is

-- What a collection's entry leaves, as it comes

if_ok : {A E : Type 0} (r : Result A E) (P Q : A → Type 0) → IfOk r P → ((x : A) → P x → Q x) → IfOk r Q
if_ok (Ok x) P Q h f = f x h
if_ok (Err e) P Q h f = tt

pub if_ok_both : {A E : Type 0} (r : Result A E) (P Q R : A → Type 0) → IfOk r P → IfOk r Q → ((x : A) → P x → Q x → R x) → IfOk r R
if_ok_both (Ok x) P Q R h k f = f x h k
if_ok_both (Err e) P Q R h k f = tt

pub if_err_both : {A E : Type 0} (r : Result A E) (P Q R : E → Type 0) → IfErr r P → IfErr r Q → ((e : E) → P e → Q e → R e) → IfErr r R
if_err_both (Ok x) P Q R h k f = tt
if_err_both (Err e) P Q R h k f = f e h k

pub collect_answered : (start : Start) (log : Log) (t : Table) (task release due : ℕ) (r : Result ℕ Refusal)
    → refusal_of start log (events.Collect task release due) ≡ None → t.jobs ≡ job_records start log → IfOk r (λ number. number ≡ length t.jobs)
    → IfOk r (λ number. answer start log (events.Collect task release due) ≡ replies.Taken number)
collect_answered start log t task release due r none jobs_are is =
    if_ok r (λ number. number ≡ length t.jobs) (λ number. answer start log (events.Collect task release due) ≡ replies.Taken number) is
    (λ number e. collect_taken start log t task release due number none jobs_are e)
