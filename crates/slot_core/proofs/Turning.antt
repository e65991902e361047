-- The head of a slot: what it is in the log, and what it finds on the volume.
use Rattle.std.proofs.Common.{◌≡◌, ℕ, zero, suc, ◌+◌, ◌<◌, ◌^◌, not, Bool, true, false, List, [], ◌∷◌, ◌++◌, Option, Some, None, refl, ap}
use Rattle.std.proofs.Common.{sym, ◌∙◌, subst, length, slice_get, slice_index, slice_index_or, arith}
use Rattle.std.specs.Prelude.{Contains}
use Rattle.std.proofs.lemmas.Bool.{and_parts, true≢false}
use Rattle.std.proofs.lemmas.Option.{same_Some, slice_get_within, get_or_from_slice_get}
use Rattle.slot_types.specs.declared.plans.DiePlan.{DiePlan}
use Rattle.slot_types.specs.declared.events.Op.{Op}
use Rattle.slot_types.specs.declared.replies.Waived.{Waived}
use Rattle.plan_rules.specs.Accounts.{Accounts}
use Rattle.flash_die.specs.Flash as device
use Rattle.flash_volume.specs.declared.collection.Collection.{Collection}
use Rattle.flash_volume.specs.State.{State}
use Rattle.job_table.specs.Jobs.{JobRecord}
use Rattle.job_table.specs.Table.{Table, work_at, work_of}
use Rattle.job_table.specs.Order as table
use Rattle.die_log.specs.Model.Log.{Log, Job, Carried, jobs, job_at, carried_slots, act_of, acts, waived_collections, is_waived, work, now}
use Rattle.die_log.specs.Model.Flash.{Block, cells, block_at, free_block, free}
use Rattle.die_log.specs.Model.Work.{is_done, is_ready, ready, least, owed_writes}
use Rattle.die_log.specs.Model.Accounts.{accounts, after_waiver, after_waivers}
use Rattle.die_log.specs.Invariants.TrueAccounts.{lent_to, is_pending}
use Rattle.die_log.specs.Results.Legal.{is_among}
use Rattle.die_log.specs.Results.Limits.{IsWithinLimits}
use Rattle.die_log.proofs.Legal.Exact.{stands_well, StandsWell}
use Rattle.die_log.proofs.Legal.Runs.{operation_left}
use Rattle.die_log.proofs.Limits.{few_found, keeps_limits}
use Rattle.die_log.proofs.LogInvariants.EveryLog.{waiting_undone}
use Rattle.die_log.proofs.LogInvariants.OneMoreEntry.{number_at, contained}
use Rattle.die_log.proofs.Tokens.Begins.{is_pending_if}
use Rattle.slot_core.specs.Records.{record_with}
use Rattle.slot_core.specs.Device.{FlashState, flash_of}
use Rattle.slot_core.specs.WithinSlot.{without_waived, IsWaivedFlash, IsWaivedTable, IsSlot, RunsHead, IsHeadInSlot}
use Rattle.slot_core.specs.HeadSteps.{OpFits, RunFits, HeadFits}
use Rattle.slot_core.proofs.Flashing.{counted}
use Rattle.slot_core.proofs.Heading.{slice_get-mapped, ready_is, stays, table_at, head_least}
use Rattle.slot_core.proofs.Serving.{contents_len, hold_positive}
use Rattle.die_log.specs.Model.Start.{Start, over}
use Rattle.die_log.specs.Model.Opening.{IsOpening}

-- The head in the log

-- the head of a table, within a slot that waived these, is this job or collection of the log
pub record IsHeadJob (start : Start) (log : Log) (ws : List Waived) (t : Table) (n : ℕ) (j : Job) : Type 0 where
  pub both : StandsWell start log
  pub number_is : j.number ≡ n
  pub at : job_at log n ≡ Some j
  pub own_at : job_at log j.number ≡ Some j
  pub stands : Contains (jobs log) j
  pub record_at : slice_get t.jobs n ≡ Some (record_with start log (waived_collections log ++ ws) j)
  pub ready_now : is_ready start.plan log j ≡ true
  pub unwaived_now : is_among j.number ws ≡ false
  pub undone : is_done start.plan log j ≡ false
  pub limits : IsWithinLimits start.plan j
  pub pending_if : j.collects ≡ true → is_pending start.plan (λ k. acts k log) (is_waived log) j ≡ true
  pub least_is : least (without_waived ws (ready start.plan log)) ≡ Some j

same_table : (t : Table) (clock : ℕ) (jobs : List JobRecord) → t.clock ≡ clock → t.jobs ≡ jobs → t ≡ record t { clock = clock; jobs = jobs }
same_table t clock jobs a b = λ i. record t { clock = a i; jobs = b i }

-- the table within a slot is read off the log
pub table_is : (start : Start) (log : Log) (ws : List Waived) (t : Table) → IsWaivedTable start log ws t → t
    ≡ table_at t start log ws
table_is start log ws t w = same_table t _ _ w.clock_is w.jobs_are

head_job_by : (start : Start) (log : Log) (present : ℕ) (ws : List Waived) (t : Table) (n : ℕ) (j : Job) → IsSlot start log present
    → IsWaivedTable start log ws t → (h : table.IsHead t n)
    → slice_get (jobs log) n ≡ Some j → record_with start log (waived_collections log ++ ws) j ≡ h.head → IsHeadJob start log ws t n j
head_job_by start log present ws t n j s w h at record_is = record {
  both = both;
  number_is = number_is;
  at = at;
  own_at = ap (slice_get (jobs log)) number_is ∙ at;
  stands = stands;
  record_at = h.is_at ∙ ap Some (sym record_is);
  ready_now = parts.0;
  unwaived_now = not_true (is_among j.number ws) parts.1;
  undone = waiting_undone start.plan log j parts.0;
  limits = (keeps_limits start log s.exact).each j stands;
  pending_if = λ collects. is_pending_if start.plan log j parts.0 collects;
  least_is = head_least start log ws t n j both.0.numbered at
      (subst (λ (u : Table). table.IsHead u n) (table_is start log ws t w) h);
}
  where
    both : StandsWell start log
    both = stands_well start s.bound log s.exact

    number_is : j.number ≡ n
    number_is = omega (arith, number_at 0 (jobs log) n j (stands_well start s.bound log s.exact).0.numbered at)

    stands : Contains (jobs log) j
    stands = contained (jobs log) n j at

    stayed : stays start.plan log ws j ≡ true
    stayed = sym (ready_is start log ws j) ∙ (ap (table.is_ready (now log)) record_is
        ∙ subst (λ (k : ℕ). table.is_ready k h.head ≡ true) w.clock_is h.ready)

    parts : (is_ready start.plan log j ≡ true) × (not (is_among j.number ws) ≡ true)
    parts = and_parts (is_ready start.plan log j) (not (is_among j.number ws)) stayed

    not_true : (b : Bool) → not b ≡ true → b ≡ false
    not_true true e = absurd (true≢false (sym e))
    not_true false e = refl

pub head_job : (start : Start) (log : Log) (present : ℕ) (ws : List Waived) (t : Table) (n : ℕ) → IsSlot start log present
    → IsWaivedTable start log ws t → table.IsHead t n → (j : Job) × IsHeadJob start log ws t n j
head_job start log present ws t n s w h =
    let found = slice_get-mapped (record_with start log (waived_collections log ++ ws)) (jobs log) n h.head
    (subst (λ (js : List JobRecord). slice_get js n ≡ Some h.head) w.jobs_are h.is_at) in
    (found.0, head_job_by start log present ws t n found.0 s w h found.1 found.2)

pub turn_job : (start : Start) (log : Log) (present : ℕ) (ws : List Waived) (t : Table) (f : FlashState) (n : ℕ)
    → (h : IsHeadInSlot start log present ws t f n) → IsHeadJob start log ws t n h.job
turn_job start log present ws t f n h =
    let found = head_job start log present ws t n h.slot h.table h.head in
    subst (IsHeadJob start log ws t n) (same_Some found.0 h.job (sym found.1.at ∙ h.at)) found.1

-- What it finds

holds_stay : (past : Log) (ws : List Waived) (a : Accounts) → (after_waivers past ws a).holds ≡ a.holds
holds_stay past [] a = refl
holds_stay past (w ∷ ws) a = holds_stay past ws (after_waiver (job_at past w.number) a) ∙ one (job_at past w.number)
  where
    one : (o : Option Job) → (after_waiver o a).holds ≡ a.holds
    one None = refl
    one (Some j) = refl

some_op : (xs : List Op) (k : ℕ) → k < length xs → (op : Op) × (slice_get xs k ≡ Some op)
some_op [] k lt = absurd (omega arith)
some_op (x ∷ xs) zero lt = (x, refl)
some_op (x ∷ xs) (suc k) lt = some_op xs k (omega arith)

op_fits : (start : Start) {N : Type 0} (blocks_of : N → List device.Block) (log : Log) (ws : List Waived) (t : Table) (n : ℕ) (j : Job) (v : State N)
    → IsOpening (over v.accounts.plan start) → IsHeadJob (over v.accounts.plan start) log ws t n j
    → IsWaivedFlash (over v.accounts.plan start) log ws (flash_of blocks_of v) → j.collects ≡ false
    → OpFits v (record_with (over v.accounts.plan start) log (waived_collections log ++ ws) j)
op_fits start blocks_of log ws t n j v bound h flash plain = record {
  op = next.0;
  next = next.1;
  page = omega (arith, h.limits.pages next.0 op_in, contents_len (over v.accounts.plan start) bound log, ap length flash.pages_are);
  held = λ is. subst (λ (l : List ℕ). 0 < slice_index l j.task)
      (sym (ap (λ (a : Accounts). a.holds) flash.accounts_are ∙ holds_stay log ws (accounts (over v.accounts.plan start) log)))
      (hold_positive v.accounts.plan (accounts (over v.accounts.plan start) log) (λ k. acts k log)
      (lent_to v.accounts.plan (λ k. acts k log) (is_waived log) (jobs log)) (owed_writes log) (free (over v.accounts.plan start) log) (jobs log) j next.0
      h.both.1.true_accounts.agree
      h.limits.task h.own_at next.1 is);
}
  where
    next : (op : Op) × (slice_get j.ops (work j.number log) ≡ Some op)
    next = some_op j.ops (work j.number log) (operation_left v.accounts.plan log j (h.both.0.of_jobs j h.stands plain) plain h.undone)

    op_in : Contains j.ops next.0
    op_in = (
      work j.number log,
      slice_get_within j.ops (work j.number log) next.0 next.1,
      get_or_from_slice_get j.ops (work j.number log)
          next.0 next.0 next.1,
    )

run_fits : (start : Start) {N : Type 0} (blocks_of : N → List device.Block) (log : Log) (present : ℕ) (ws : List Waived) (j : Job) (v : State N)
    (c : Collection) → IsSlot (over v.accounts.plan start) log present → IsWaivedFlash (over v.accounts.plan start) log ws (flash_of blocks_of v)
    → RunsHead (over v.accounts.plan start) log j (flash_of blocks_of v) c → RunFits blocks_of v (record_with (over v.accounts.plan start) log (waived_collections log ++ ws) j)
run_fits start blocks_of log present ws j v c s flash run =
    let erases : (device.block_at (blocks_of v.device) c.victim).erases ≡ (block_at (cells (over v.accounts.plan start) log) c.victim).erases =
    ap (λ (x : Block). x.erases) (counted (blocks_of v.device) c.victim
    ∙ ap (λ (bs : List Block). slice_index_or bs c.victim free_block) flash.blocks_are) in
    record {
      collection = c;
      runs = run.runs;
      few_erases = omega
          (arith, erases, (keeps_limits (over v.accounts.plan start) log s.exact).erases c.victim, s.few, s.left c.victim);
    }

pub head_fits : (start : Start) {N : Type 0} (blocks_of : N → List device.Block) (log : Log) (present : ℕ) (ws : List Waived) (t : Table) (n : ℕ)
    (v : State N) (r : JobRecord) → IsHeadInSlot (over v.accounts.plan start) log present ws t (flash_of blocks_of v) n → slice_get t.jobs n ≡ Some r
    → HeadFits blocks_of v r
head_fits start blocks_of log present ws t n v r h at = subst (HeadFits blocks_of v)
    (same_Some (record_with (over v.accounts.plan start) log (waived_collections log ++ ws) h.job) r (sym job.record_at ∙ at)) (record {
      task = job.limits.task;
      op = λ plain. op_fits start blocks_of log ws t n h.job v h.slot.bound job h.flash plain;
      run = λ collects. let c = h.runs collects in run_fits start blocks_of log present ws h.job v c.0 h.slot h.flash c.1;
    })
  where
    job : IsHeadJob (over v.accounts.plan start) log ws t n h.job
    job = turn_job (over v.accounts.plan start) log present ws t (flash_of blocks_of v) n h

-- Its slots so far are among the log's

pub work_fits : (start : Start) (log : Log) (present : ℕ) (ws : List Waived) (t : Table) (f : FlashState) (n : ℕ)
    → IsHeadInSlot start log present ws t f n → work_at t.jobs n + 1 < 2 ^ 32
work_fits start log present ws t f n h =
    let job = turn_job start log present ws t f n h in
    let work_is : work_at t.jobs n ≡ work h.job.number log = ap work_of job.record_at in
    omega (arith, work_is, few_found (λ (c : Carried). act_of h.job.number c) (carried_slots log), h.slot.few)
