-- A look ahead at a slot: the collections that it will waive, and what its head will do.
use Rattle.std.proofs.Common.{◌≡◌, ◌≢◌, ◌⊎◌, inl, inr, ℕ, ◌+◌, ◌-◌, ◌<◌, ◌≤◌, ◌==◌, ◌&&◌, nat_le, Bool, true, false, cond, List, [], ◌∷◌, ◌++◌}
use Rattle.std.proofs.Common.{Option, Some, None, refl, ap, sym, ◌∙◌, subst, length, slice_get, slice_index, slice_set, arith, ◌||◌}
use Rattle.std.specs.Prelude.{min}
use Rattle.std.specs.List.{AllByRecursion, last_or}
use Rattle.std.proofs.lemmas.Bool.{and_parts, eqb-true, eq-eqb, true≢false}
use Rattle.std.proofs.lemmas.Bool.Decides.{nat_tests}
use Rattle.std.proofs.lemmas.List.{get_or-set_other}
use Rattle.std.proofs.lemmas.Option.{same_Some, none-some}
use Rattle.slot_types.specs.declared.acts.Act.{Act}
use Rattle.slot_types.specs.declared.events.Op.{Op}
use Rattle.slot_types.specs.declared.events.Op.TheVariants as asks
use Rattle.slot_types.specs.declared.limits.TheConstants.{MAX_SLOT}
use Rattle.slot_types.specs.declared.plans.DiePlan.{DiePlan}
use Rattle.slot_types.specs.declared.replies.Waived.{Waived}
use Rattle.plan_rules.specs.Accounts.{Accounts, given_of}
use Rattle.plan_rules.specs.Accounts as moves
use Rattle.flash_die.specs.Flash as device
use Rattle.flash_die.specs.declared.nand.NandCall.{NandCall}
use Rattle.flash_volume.specs.declared.collection.Collection.{Collection}
use Rattle.flash_volume.specs.declared.collection.CollectStep.{CollectStep}
use Rattle.flash_volume.specs.declared.collection.CollectStep.TheVariants as steps
use Rattle.flash_volume.specs.Calls.{call_of}
use Rattle.flash_volume.specs.Picks.{IsCandidate}
use Rattle.flash_volume.specs.State.{State}
use Rattle.flash_volume.specs.Steps.{IsCollectStep, IsFirstStep}
use Rattle.job_table.specs.declared.stages.Stage.TheVariants.{Waived as Gone}
use Rattle.job_table.specs.Heads.{WereHeads, with_waived}
use Rattle.job_table.specs.Jobs.{JobRecord, with_stage}
use Rattle.job_table.specs.Order as table
use Rattle.job_table.specs.Table.{Table, with_change}
use Rattle.job_table.specs.Waivers.{jobs_after_waivers}
use Rattle.job_table.proofs.Beyond.{WereHeads-push, pending_stays}
use Rattle.job_table.proofs.Heads.{ready_pending}
use Rattle.job_table.proofs.Waivers.{waived_push}
use Rattle.die_log.specs.Model.Log.{Log, Job, acts, job_at, jobs, is_waived, waived_collections, work}
use Rattle.die_log.specs.Model.Work.{victim_of}
use Rattle.die_log.specs.Model.Accounts.{after_waiver, after_waivers}
use Rattle.die_log.specs.Model.Answers.{act_for, block_for, buffer_after, choice, collect_act, is_waivable, victim}
use Rattle.die_log.specs.Model.Flash.{cells}
use Rattle.die_log.specs.Invariants.TrueAccounts.{is_pending, AreTrueAccounts}
use Rattle.die_log.specs.Results.Legal.{is_among}
use Rattle.die_log.specs.Model.Start.{Start, over}
use Rattle.slot_core.specs.declared.next_slot.NextAct.{NextAct}
use Rattle.slot_core.specs.declared.next_slot.NextSlot.{NextSlot}
use Rattle.slot_core.specs.Device.{flash_of, page_held}
use Rattle.slot_core.specs.HeadSlots.{IsHeadSlot, IsFirstSlot}
use Rattle.slot_core.specs.Agreement.{AgreeWithLog}
use Rattle.slot_core.specs.NextSlot.{kind_of_step, next_slot, nothing_next}
use Rattle.slot_core.specs.NextHeadSteps.{op_call, NextBy}
use Rattle.slot_core.specs.Records.{record_with}
use Rattle.slot_core.specs.WithinSlot.{InSlot, IsHeadInSlot}
use Rattle.slot_core.specs.HeadSteps.{is_fresh, BeginsBy, BeginsAs, OpFits, HeadFits}
use Rattle.slot_core.proofs.Beginning.{looks_turn, looks_waived, looks_few}
use Rattle.slot_core.proofs.Choosing.{begins}
use Rattle.slot_core.proofs.Collections.{one_pending}
use Rattle.slot_core.proofs.Needing.{step_acts, acts_next, nothing_acts, idle_next, turn_next}
use Rattle.slot_core.proofs.Slotting.{slot_starts}
use Rattle.slot_core.proofs.Turning.{IsHeadJob, head_job, head_fits}
use Rattle.slot_core.proofs.Victims.{victim_is, no_victim}

-- The accounts after waivers

plan_stays : (log : Log) (ws : List Waived) (a : Accounts) → (after_waivers log ws a).plan ≡ a.plan
plan_stays log [] a = refl
plan_stays log (w ∷ ws) a = plan_stays log ws (after_waiver (job_at log w.number) a) ∙ one (job_at log w.number)
  where
    one : (o : Option Job) → (after_waiver o a).plan ≡ a.plan
    one None = refl
    one (Some j) = refl

holds_stay : (log : Log) (ws : List Waived) (a : Accounts) → (after_waivers log ws a).holds ≡ a.holds
holds_stay log [] a = refl
holds_stay log (w ∷ ws) a = holds_stay log ws (after_waiver (job_at log w.number) a) ∙ one (job_at log w.number)
  where
    one : (o : Option Job) → (after_waiver o a).holds ≡ a.holds
    one None = refl
    one (Some j) = refl

after_more : (log : Log) (ws : List Waived) (w : Waived) (a : Accounts) → after_waivers log (ws ++ w ∷ []) a
    ≡ after_waiver (job_at log w.number) (after_waivers log ws a)
after_more log [] w a = refl
after_more log (x ∷ ws) w a = after_more log ws w (after_waiver (job_at log x.number) a)

-- a waiver of a collection of another task
abbrev IsOther : Log → ℕ → Waived → Type 0
IsOther log task w = (i : Job) × (job_at log w.number ≡ Some i) × (task ≢ i.task)

-- gives a task as much as before
gift_stays : (log : Log) (ws : List Waived) (a : Accounts) (task : ℕ) → AllByRecursion (IsOther log task) ws
    → given_of (after_waivers log ws a) task ≡ given_of a task
gift_stays log [] a task all = refl
gift_stays log (w ∷ ws) a task all =
    gift_stays log ws (after_waiver (job_at log w.number) a) task all.1
    ∙ (ap (λ (o : Option Job). given_of (after_waiver o a) task) all.0.1 ∙ other all.0.0.task all.0.2)
  where
    other : (k : ℕ) → task ≢ k → given_of (moves.accounts_after_waiver a k) task ≡ given_of a task
    other k apart = ap (λ (b : ℕ). min a.plan.alpha (slice_index a.plan.caps task - (b + slice_index a.holds task)))
        (get_or-set_other a.balances k task (slice_index a.balances k + given_of a k) 0 apart)

-- The look

-- the accounts with these waived, of the same plan
abbrev pub waived_accounts : {N : Type 0} → Log → State N → List Waived → Accounts
waived_accounts log v ws = record (after_waivers log ws v.accounts) { plan = v.accounts.plan }

abbrev pub waived_state : {N : Type 0} → Log → State N → List Waived → State N
waived_state log v ws = record v { accounts = waived_accounts log v ws }

-- a pending collection of the log
abbrev pub IsOpenOne : Start → Log → Waived → Type 0
IsOpenOne start log w = (i : Job) × (job_at log w.number ≡ Some i) × (i.number ≡ w.number)
    × (is_pending start.plan (λ n. acts n log) (is_waived log) i ≡ true)

-- so far these would be waived, and `spare` pages be spare
pub record Foresees (start : Start) {N : Type 0} (blocks_of : N → List device.Block) (log : Log) (present : ℕ) (ws : List Waived) (t : Table)
    (v : State N) (spare : ℕ) : Type 0 where
  pub within : InSlot (over v.accounts.plan start) log present ws (with_waived t ws) (flash_of blocks_of (waived_state log v ws))
  pub heads : WereHeads t ws
  pub spare_is : spare ≡ (after_waivers log ws v.accounts).spare
  pub open_ones : AllByRecursion (IsOpenOne (over v.accounts.plan start) log) ws

pub foresees_start : (start : Start) {N : Type 0} (blocks_of : N → List device.Block) (log : Log) (present : ℕ) (t : Table) (v : State N)
    → AgreeWithLog (over v.accounts.plan start) log present t v.failed (flash_of blocks_of v) → v.failed ≡ false → present < MAX_SLOT
    → Foresees start blocks_of log present [] (record t { clock = present }) v v.accounts.spare
foresees_start start blocks_of log present t v k alive few = record {
  within = slot_starts start blocks_of log present t v k alive few;
  heads = tt;
  spare_is = refl;
  open_ones = tt;
}

pub foresees_idle : (start : Start) {N : Type 0} (blocks_of : N → List device.Block) (log : Log) (present : ℕ) (ws : List Waived) (t : Table)
    (v : State N) (spare : ℕ) → Foresees start blocks_of log present ws t v spare → table.NothingReady (with_waived t ws)
    → nothing_next ≡ next_slot (over v.accounts.plan start) log
foresees_idle start blocks_of log present ws t v spare f nothing =
    sym (idle_next (over v.accounts.plan start) log present ws (with_waived t ws) (flash_of blocks_of (waived_state log v ws)) f.within nothing)

-- the head's record is as it is without the waivers
record_there : (t : Table) (ws : List Waived) (n : ℕ) (r : JobRecord) → table.IsHead (with_waived t ws) n → slice_get t.jobs n ≡ Some r
    → slice_get (jobs_after_waivers t.jobs ws) n ≡ Some r
record_there t ws n r head at =
    let here = pending_stays t.jobs ws n head.head head.is_at (ready_pending t.clock head.head head.ready) in
    head.is_at ∙ (sym here ∙ at)

same_clock : (start : Start) {N : Type 0} (blocks_of : N → List device.Block) (log : Log) (present : ℕ) (ws : List Waived) (t : Table)
    (v : State N) (spare : ℕ) → Foresees start blocks_of log present ws t v spare → with_waived t ws ≡ record (with_waived t ws) { clock = present }
same_clock start blocks_of log present ws t v spare f = ap (λ (c : ℕ). record (with_waived t ws) { clock = c })
    (f.within.table.clock_is ∙ sym f.within.slot.now_is)

-- a step needs nothing of the accounts but their plan
step_over : {N : Type 0} (blocks_of : N → List device.Block) (log : Log) (ws : List Waived) (v : State N) (c : Collection) (x : CollectStep)
    → IsCollectStep blocks_of v c x → IsCollectStep blocks_of (waived_state log v ws) c x
step_over blocks_of log ws v c (steps.Read page source) k = k
step_over blocks_of log ws v c (steps.Program page place bytes) k = record {
  copied = k.copied;
  holds = k.holds;
  page_is = k.page_is;
  here = k.here;
  lies = k.lies;
  bytes_are = k.bytes_are;
  finds = k.finds;
  place_is = k.place_is;
}
step_over blocks_of log ws v c (steps.Erase block) k = k

-- A head that begins nothing

unfresh_turn : (start : Start) {N : Type 0} (blocks_of : N → List device.Block) (log : Log) (present : ℕ) (ws : List Waived) (t : Table) (n : ℕ)
    (v : State N) (spare : ℕ) (r : JobRecord) → Foresees start blocks_of log present ws t v spare → table.IsHead (with_waived t ws) n
    → slice_get t.jobs n ≡ Some r → is_fresh r ≡ false
    → IsHeadInSlot (over v.accounts.plan start) log present ws (with_waived t ws) (flash_of blocks_of (waived_state log v ws)) n
unfresh_turn start blocks_of log present ws t n v spare r f head at unfresh =
    looks_turn start blocks_of log present ws (with_waived t ws) (with_waived t ws) n (waived_state log v ws) (waived_state log v ws) r f.within
    (same_clock start blocks_of log present ws t v spare f) head (record_there t ws n r head at)
    (subst (λ (b : Bool). BeginsBy blocks_of (waived_state log v ws) r.task b None (waived_state log v ws)) (sym unfresh) (refl, refl))

pub foresees_fits : (start : Start) {N : Type 0} (blocks_of : N → List device.Block) (log : Log) (present : ℕ) (ws : List Waived) (t : Table)
    (n : ℕ) (v : State N) (spare : ℕ) (r : JobRecord) → Foresees start blocks_of log present ws t v spare
    → table.IsHead (with_waived t ws) n → slice_get t.jobs n ≡ Some r → is_fresh r ≡ false → HeadFits blocks_of v r
foresees_fits start {N = N} blocks_of log present ws t n v spare r f head at unfresh = record {
  task = fits.task;
  op = λ plain. op_over (fits.op plain);
  run = λ collects. let run = fits.run collects in
      record { collection = run.collection; runs = run.runs; few_erases = run.few_erases };
}
  where
    fits : HeadFits blocks_of (waived_state log v ws) r
    fits = head_fits start blocks_of log present ws (with_waived t ws) n (waived_state log v ws) r
        (unfresh_turn start blocks_of log present ws t n v spare r f head at unfresh) (record_there t ws n r head at)

    op_over : OpFits (waived_state log v ws) r → OpFits v r
    op_over o = record {
      op = o.op;
      next = o.next;
      page = o.page;
      held = λ is. subst (λ (l : List ℕ). 0 < slice_index l r.task) (holds_stay log ws v.accounts) (o.held is);
    }

pub foresees_turn : (start : Start) {N : Type 0} (blocks_of : N → List device.Block) (log : Log) (present : ℕ) (ws : List Waived) (t : Table)
    (n : ℕ) (v : State N) (spare : ℕ) (r : JobRecord) (slot : NextSlot) → Foresees start blocks_of log present ws t v spare
    → table.IsHead (with_waived t ws) n → slice_get t.jobs n ≡ Some r → is_fresh r ≡ false → IsHeadSlot blocks_of v r n slot
    → slot ≡ next_slot (over v.accounts.plan start) log
foresees_turn start blocks_of log present ws t n v spare r slot f head at unfresh s =
    s.is ∙ sym (turn_next start blocks_of log present ws (with_waived t ws) n (waived_state log v ws) r s.kind s.call
    (unfresh_turn start blocks_of log present ws t n v spare r f head at unfresh) (record_there t ws n r head at)
    (next_over r.collects s.next))
  where
    next_over : (b : Bool) → NextBy blocks_of v r b s.kind s.call → NextBy blocks_of (waived_state log v ws) r b s.kind s.call
    next_over true d = record {
      collection = d.collection;
      runs = d.runs;
      step = d.step;
      is = step_over blocks_of log ws v d.collection d.step d.is;
      kind_is = d.kind_is;
      call_is = d.call_is;
    }
    next_over false d = record { op = d.op; next = d.next; kind_is = d.kind_is; call_is = d.call_is ∙ op_over d.op }
      where
        op_over : (o : Op) → op_call blocks_of v o ≡ op_call blocks_of (waived_state log v ws) o
        op_over (asks.Read page) = refl
        op_over (asks.Write page bytes) = refl
        op_over (asks.Trim page) = refl

-- A collection that begins

not_spare : (m n : ℕ) → n < m → nat_le m n ≡ false
not_spare m n h = grind (arith, nat_tests)

and_false : (b c : Bool) → c ≡ false → (b && c) ≡ false
and_false true c e = e
and_false false c e = refl

nil_by : (xs : List Act) → length xs ≡ 0 → xs ≡ []
nil_by [] h = refl
nil_by (x ∷ xs) h = absurd (omega (arith, h))

pub foresees_first : (start : Start) {N : Type 0} (blocks_of : N → List device.Block) (log : Log) (present : ℕ) (ws : List Waived) (t : Table)
    (n : ℕ) (v : State N) (spare : ℕ) (r : JobRecord) (slot : NextSlot) → Foresees start blocks_of log present ws t v spare
    → table.IsHead (with_waived t ws) n → slice_get t.jobs n ≡ Some r → is_fresh r ≡ true → spare < v.accounts.plan.alpha
    → IsFirstSlot blocks_of v n slot → slot ≡ next_slot (over v.accounts.plan start) log
foresees_first start {N = N} blocks_of log present ws t n v spare r slot f head at fresh short first = by_first first
  where
    s : Start
    s = over v.accounts.plan start

    j : Job
    j = (head_job (over v.accounts.plan start) log present ws (with_waived t ws) n f.within.slot f.within.table head).0

    job : IsHeadJob (over v.accounts.plan start) log ws (with_waived t ws) n
        (head_job (over v.accounts.plan start) log present ws (with_waived t ws) n f.within.slot f.within.table head).0
    job = (head_job (over v.accounts.plan start) log present ws (with_waived t ws) n f.within.slot f.within.table head).1

    record_is : record_with (over v.accounts.plan start) log (waived_collections log ++ ws)
        (head_job (over v.accounts.plan start) log present ws (with_waived t ws) n f.within.slot f.within.table head).0 ≡ r
    record_is = same_Some (record_with (over v.accounts.plan start) log (waived_collections log ++ ws) j) r
        (sym job.record_at ∙ record_there t ws n r head at)

    parts : ((head_job (over v.accounts.plan start) log present ws (with_waived t ws) n f.within.slot f.within.table head).0.collects ≡ true)
        × ((work (head_job (over v.accounts.plan start) log present ws (with_waived t ws) n f.within.slot f.within.table head).0.number log == 0)
        ≡ true)
    parts = and_parts j.collects (work j.number log == 0) (ap is_fresh record_is ∙ fresh)

    unwaivable : is_waivable v.accounts.plan log (waived_accounts log v ws)
        (head_job (over v.accounts.plan start) log present ws (with_waived t ws) n f.within.slot f.within.table head).0 ≡ false
    unwaivable = and_false (j.collects && (work j.number log == 0)) (nat_le v.accounts.plan.alpha (after_waivers log ws v.accounts).spare)
        (not_spare v.accounts.plan.alpha (after_waivers log ws v.accounts).spare (omega (arith, f.spare_is, short)))

    chosen : choice (over v.accounts.plan start) log ≡ record {
      waived = ws;
      head = Some (head_job (over v.accounts.plan start) log present ws (with_waived t ws) n f.within.slot f.within.table head).0;
    }
    chosen = begins (over v.accounts.plan start) log ws (waived_accounts log v ws) j f.within.goes_on job.least_is unwaivable

    held : None ≡ page_held log (head_job (over v.accounts.plan start) log present ws (with_waived t ws) n f.within.slot f.within.table head).0.number
    held = ap (λ (own : List Act). buffer_after (last_or None own))
        (sym (nil_by (acts j.number log) (eqb-true (work j.number log) 0 parts.1)))

    by_victim : (o : Option ℕ) → victim (over v.accounts.plan start) log ≡ o → block_for (over v.accounts.plan start) log
        (head_job (over v.accounts.plan start) log present ws (with_waived t ws) n f.within.slot f.within.table head).0 ≡ o
    by_victim o is = ap (λ (b : Bool). cond b (victim (over v.accounts.plan start) log) (victim_of (over v.accounts.plan start) j.number log))
        parts.1 ∙ is

    by_first : IsFirstSlot blocks_of v n slot → slot ≡ next_slot (over v.accounts.plan start) log
    by_first (inl x) =
        let c : Collection = record { victim = x.first.block; buffer = None } in
        let a = step_acts start blocks_of log ws j (waived_state log v ws) c x.step job.both.0.collects.sound f.within.flash parts.0
        (by_victim (Some x.first.block) (victim_is (over v.accounts.plan start) log (blocks_of v.device) v.places v.running x.first.block
        job.both.0.collects.sound f.within.flash.blocks_are f.within.flash.places_are f.within.running x.first.victim))
        held (step_over blocks_of log ws v c x.step x.first.is) in
        x.is ∙ sym (acts_next (over v.accounts.plan start) log present ws j (kind_of_step x.step) (Some (call_of x.step)) f.within.slot chosen a
        ∙ ap (λ (m : ℕ). record { ran = Some (m, kind_of_step x.step); call = Some (call_of x.step) }) job.number_is)
    by_first (inr x) =
        x.is ∙ sym (nothing_acts (over v.accounts.plan start) log present ws j f.within.slot chosen
        (rw parts.0 (ap (collect_act v.accounts.plan (cells (over v.accounts.plan start) log) (page_held log j.number))
        (by_victim None (no_victim (over v.accounts.plan start) log (blocks_of v.device) v.running job.both.0.collects.sound
        f.within.flash.blocks_are f.within.running x.none)))))

-- A collection that is waived

or_parts : (a b : Bool) → (a || b) ≡ false → (a ≡ false) × (b ≡ false)
or_parts true b h = absurd cc
or_parts false b h = (refl, h)

-- what pending collections are waived are of other tasks than one that isn't among them
others_of : (start : Start) (log : Log) (ws : List Waived) (j : Job) → AreTrueAccounts start log → job_at log j.number ≡ Some j
    → is_pending start.plan (λ k. acts k log) (is_waived log) j ≡ true → is_among j.number ws ≡ false
    → AllByRecursion (IsOpenOne start log) ws → AllByRecursion (IsOther log j.task) ws
others_of start log [] j truth at_j open_j among all = tt
others_of start log (w ∷ ws) j truth at_j open_j among all =
    let parts = or_parts (w.number == j.number) (is_among j.number ws) among in
    ((all.0.0, all.0.1, λ same. differs parts.0 same), others_of start log ws j truth at_j open_j parts.1 all.1)
  where
    differs : (w.number == j.number) ≡ false → j.task ≡ all.0.0.task → ⊥
    differs apart same =
        let it : all.0.0 ≡ j = one_pending start log all.0.0 j truth (ap (job_at log) all.0.2 ∙ all.0.1) at_j all.0.3 open_j (sym same) in
        true≢false (sym (eq-eqb w.number j.number (sym all.0.2 ∙ ap (λ (x : Job). x.number) it)) ∙ apart)

all_push : {A : Type 0} (P : A → Type 0) (xs : List A) (x : A) → AllByRecursion P xs → P x → AllByRecursion P (xs ++ x ∷ [])
all_push P [] x all here = (here, tt)
all_push P (y ∷ ys) x all here = (all.0, all_push P ys x all.1 here)

-- one more waiver of a head
pub record WaivesOne (start : Start) {N : Type 0} (blocks_of : N → List device.Block) (log : Log) (present : ℕ) (ws : List Waived) (t : Table)
    (n : ℕ) (v : State N) (spare given : ℕ) : Type 0 where
  pub few : length ws < 16
  pub then : Foresees start blocks_of log present (ws ++ record { number = n; given = given } ∷ []) t v (spare - given)

pub foresees_waive : (start : Start) {N : Type 0} (blocks_of : N → List device.Block) (log : Log) (present : ℕ) (ws : List Waived) (t : Table)
    (n : ℕ) (v : State N) (spare given : ℕ) (r : JobRecord) → Foresees start blocks_of log present ws t v spare
    → table.IsHead (with_waived t ws) n → slice_get t.jobs n ≡ Some r → is_fresh r ≡ true → v.accounts.plan.alpha ≤ spare
    → given ≡ given_of v.accounts r.task → WaivesOne start blocks_of log present ws t n v spare given
foresees_waive start {N = N} blocks_of log present ws t n v spare given r f head at fresh enough given_is = record {
  few = looks_few start blocks_of log present ws (with_waived t ws) (with_waived t ws) n given (waived_state log v ws) after r f.within
      (same_clock start blocks_of log present ws t v spare f) head (record_there t ws n r head at) waives;
  then = record {
    within = subst (λ (a : Accounts). InSlot (over v.accounts.plan start) log present more (with_waived t more)
        (flash_of blocks_of (record v { accounts = a }))) accounts_are
        (subst (λ (x : Table). InSlot (over v.accounts.plan start) log present more x (flash_of blocks_of after)) table_are
        (looks_waived start blocks_of log present ws more (with_waived t ws) (with_waived t ws)
        (with_change (with_waived t ws) n (with_stage (Gone given))) n given (waived_state log v ws) after r f.within
        (same_clock start blocks_of log present ws t v spare f) head (record_there t ws n r head at) waives refl refl));
    heads = WereHeads-push t ws w f.heads head;
    spare_is = ap (λ (x : ℕ). x - given) f.spare_is
        ∙ (ap (λ (g : ℕ). (after_waivers log ws v.accounts).spare - g) given_then
        ∙ sym (ap (λ (a : Accounts). a.spare) moved));
    open_ones = all_push (IsOpenOne (over v.accounts.plan start) log) ws w f.open_ones
        (j, job.at, job.number_is, job.pending_if collects);
  };
}
  where
    w : Waived
    w = record { number = n; given = given }

    more : List Waived
    more = ws ++ record { number = n; given = given } ∷ []

    before : Accounts
    before = after_waivers log ws v.accounts

    after : State N
    after = record v { accounts = moves.accounts_after_waiver (waived_accounts log v ws) r.task }

    j : Job
    j = (head_job (over v.accounts.plan start) log present ws (with_waived t ws) n f.within.slot f.within.table head).0

    job : IsHeadJob (over v.accounts.plan start) log ws (with_waived t ws) n
        (head_job (over v.accounts.plan start) log present ws (with_waived t ws) n f.within.slot f.within.table head).0
    job = (head_job (over v.accounts.plan start) log present ws (with_waived t ws) n f.within.slot f.within.table head).1

    record_is : record_with (over v.accounts.plan start) log (waived_collections log ++ ws)
        (head_job (over v.accounts.plan start) log present ws (with_waived t ws) n f.within.slot f.within.table head).0 ≡ r
    record_is = same_Some (record_with (over v.accounts.plan start) log (waived_collections log ++ ws) j) r
        (sym job.record_at ∙ record_there t ws n r head at)

    task_is : (head_job (over v.accounts.plan start) log present ws (with_waived t ws) n f.within.slot f.within.table head).0.task ≡ r.task
    task_is = ap (λ (x : JobRecord). x.task) record_is

    collects : (head_job (over v.accounts.plan start) log present ws (with_waived t ws) n f.within.slot f.within.table head).0.collects ≡ true
    collects = (and_parts j.collects (work j.number log == 0) (ap is_fresh record_is ∙ fresh)).0

    gift_before : given_of (after_waivers log ws v.accounts)
        (head_job (over v.accounts.plan start) log present ws (with_waived t ws) n f.within.slot f.within.table head).0.task
        ≡ given_of v.accounts (head_job (over v.accounts.plan start) log present ws (with_waived t ws) n f.within.slot f.within.table head).0.task
    gift_before = gift_stays log ws v.accounts j.task (others_of (over v.accounts.plan start) log ws j job.both.1.true_accounts job.own_at
        (job.pending_if collects) job.unwaived_now f.open_ones)

    given_then : given ≡ given_of (after_waivers log ws v.accounts)
        (head_job (over v.accounts.plan start) log present ws (with_waived t ws) n f.within.slot f.within.table head).0.task
    given_then = given_is ∙ (ap (given_of v.accounts) (sym task_is) ∙ sym gift_before)

    planned : given_of (waived_accounts log v ws) r.task ≡ given_of (after_waivers log ws v.accounts) r.task
    planned = ap (λ (p : DiePlan). given_of (record (after_waivers log ws v.accounts) { plan = p }) r.task)
        (sym (plan_stays log ws v.accounts))

    waives : BeginsAs blocks_of (waived_state log v ws) r (Some given) after
    waives = subst (λ (b : Bool). BeginsBy blocks_of (waived_state log v ws) r.task b (Some given) after) (sym fresh) (record {
      spare = omega (arith, enough, f.spare_is);
      given = given_then ∙ (ap (given_of before) task_is ∙ sym planned);
      moved = refl;
    })

    moved : after_waivers log (ws ++ record { number = n; given = given } ∷ []) v.accounts
        ≡ moves.accounts_after_waiver (after_waivers log ws v.accounts)
        (head_job (over v.accounts.plan start) log present ws (with_waived t ws) n f.within.slot f.within.table head).0.task
    moved = after_more log ws w v.accounts ∙ ap (λ (o : Option Job). after_waiver o before) job.at

    same_plan : record (moves.accounts_after_waiver (after_waivers log ws v.accounts) r.task) { plan = v.accounts.plan }
        ≡ moves.accounts_after_waiver (waived_accounts log v ws) r.task
    same_plan = subst (λ (p : DiePlan). record (moves.accounts_after_waiver before r.task) { plan = p } ≡ moves.accounts_after_waiver (record before { plan = p }) r.task)
        (plan_stays log ws v.accounts) refl

    accounts_are : moves.accounts_after_waiver (waived_accounts log v ws) r.task
        ≡ waived_accounts log v (ws ++ record { number = n; given = given } ∷ [])
    accounts_are = sym (ap (λ (a : Accounts). record a { plan = v.accounts.plan }) (moved ∙ ap (moves.accounts_after_waiver before) task_is) ∙ same_plan)

    table_are : record (with_change (with_waived t ws) n (with_stage (Gone given))) { clock = present }
        ≡ with_waived t (ws ++ record { number = n; given = given } ∷ [])
    table_are = ap (λ (c : ℕ). record (with_change (with_waived t ws) n (with_stage (Gone given))) { clock = c })
        (f.within.slot.now_is ∙ sym f.within.table.clock_is)
        ∙ ap (λ (js : List JobRecord). record t { jobs = js }) (sym (waived_push t.jobs ws w))

-- a head's record is there
pub foresees_there : (t : Table) (ws : List Waived) (n : ℕ) → table.IsHead (with_waived t ws) n → slice_get t.jobs n ≡ None → ⊥
foresees_there t ws n head none = none-some head.head
    (sym none ∙ pending_stays t.jobs ws n head.head head.is_at (ready_pending t.clock head.head head.ready))

-- its task is one of the die's
pub foresees_task : (start : Start) {N : Type 0} (blocks_of : N → List device.Block) (log : Log) (present : ℕ) (ws : List Waived) (t : Table)
    (n : ℕ) (v : State N) (spare : ℕ) (r : JobRecord) → Foresees start blocks_of log present ws t v spare
    → table.IsHead (with_waived t ws) n → slice_get t.jobs n ≡ Some r → r.task < length v.accounts.plan.caps
foresees_task start blocks_of log present ws t n v spare r f head at =
    let found = head_job (over v.accounts.plan start) log present ws (with_waived t ws) n f.within.slot f.within.table head in
    subst (λ (x : JobRecord). x.task < length v.accounts.plan.caps)
    (same_Some (record_with (over v.accounts.plan start) log (waived_collections log ++ ws) found.0) r (sym found.1.record_at ∙ record_there t ws n r head at))
    found.1.limits.task
