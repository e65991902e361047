-- Which call of the device the head of a slot needs, and that it is the log's.
use Rattle.std.proofs.Common.{◌≡◌, ◌≢◌, ℕ, ◌+◌, ◌<◌, ◌≤◌, Bool, true, false, List, [], ◌∷◌, ◌++◌, Option, Some, None, option_map, refl, ap, sym}
use Rattle.std.proofs.Common.{Ok, Err, ◌∙◌, subst, length, slice_get, slice_index_or, map, arith, unwrap_or}
use Rattle.std.specs.Prelude.{IsSome}
use Rattle.std.proofs.lemmas.Option.{same_Some}
use Rattle.slot_types.specs.declared.plans.DiePlan.{DiePlan}
use Rattle.slot_types.specs.declared.acts.Act.{Act}
use Rattle.slot_types.specs.declared.acts.Act.TheVariants as does
use Rattle.slot_types.specs.declared.events.Op.{Op}
use Rattle.slot_types.specs.declared.events.Op.TheVariants as asks
use Rattle.slot_types.specs.declared.events.Event.TheVariants as events
use Rattle.slot_types.specs.declared.refusals.Refusal.{Refusal}
use Rattle.slot_types.specs.declared.replies.Reply.{Reply}
use Rattle.slot_types.specs.declared.replies.Reply.TheVariants as replies
use Rattle.slot_types.specs.declared.pages.PageData.{PageData}
use Rattle.slot_types.specs.declared.pages.Place.{Place}
use Rattle.slot_types.specs.declared.replies.Waived.{Waived}
use Rattle.slot_types.specs.Operations.{is_write}
use Rattle.slot_types.specs.Places.{place_of}
use Rattle.flash_die.specs.Flash as device
use Rattle.flash_die.specs.declared.nand.NandCall.{NandCall}
use Rattle.flash_die.specs.declared.nand.NandCall.TheVariants as calls
use Rattle.flash_volume.specs.declared.collection.Collection.{Collection}
use Rattle.flash_volume.specs.declared.collection.CollectStep.{CollectStep}
use Rattle.flash_volume.specs.declared.collection.CollectStep.TheVariants as steps
use Rattle.flash_volume.specs.Acts.{HasDropped, IsUnplaced, IsFirstInBlock}
use Rattle.flash_volume.specs.Calls as step_calls
use Rattle.flash_volume.specs.Cells.{open_in, next_cell}
use Rattle.flash_volume.specs.Pages.{next_in}
use Rattle.flash_volume.specs.Steps.{IsCollectStep}
use Rattle.flash_volume.specs.State.{State}
use Rattle.job_table.specs.Jobs.{JobRecord}
use Rattle.job_table.specs.Order as table
use Rattle.job_table.specs.Table.{Table}
use Rattle.die_log.specs.Model.Log.{Log, Job, Carried, acts, job_at, jobs, now, waived_collections, is_waived, work}
use Rattle.die_log.specs.Model.Flash as flash
use Rattle.die_log.specs.Model.Flash.{Block, Cells, cells, content, free, block_at, free_block, ran_by, open_block}
use Rattle.die_log.specs.Model.Work.{owed_writes}
use Rattle.die_log.specs.Model.Accounts.{accounts}
use Rattle.die_log.specs.Model.Answers.{answer, reply_if_accepted, act_for, block_for, Choice, choice, slot_reply, reply_with}
use Rattle.die_log.specs.Invariants.TrueAccounts.{held_of, lent_to}
use Rattle.die_log.specs.Model.NeededCalls.{next_place, call_of, call_by, needed_call}
use Rattle.die_log.specs.Invariants.SoundCells.{AreSoundCells}
use Rattle.die_log.specs.Model.Start.{Start, over}
use Rattle.die_log.proofs.Cells.Steps.{opens}
use Rattle.die_log.proofs.Legality.{accepted_answer}
use Rattle.die_log.proofs.Tokens.Amounts.{one_le_sum}
use Rattle.die_log.proofs.Tokens.Turns.{owed_fits}
use Rattle.slot_core.specs.declared.next_slot.NextAct.{NextAct}
use Rattle.slot_core.specs.declared.next_slot.NextSlot.{NextSlot}
use Rattle.slot_core.specs.OpEffects.{act_by}
use Rattle.slot_core.specs.Device.{FlashState, flash_of, counts_of, page_in, page_held}
use Rattle.slot_core.specs.NextSlot.{kind_of, kind_of_op, kind_of_step, nothing_next, next_by, next_slot}
use Rattle.slot_core.specs.Needs.{IsOnlyCall, MadeAndFailed, MakesCall}
use Rattle.slot_core.specs.NextHeadSteps.{op_call, OpNext, StepNext, NextBy, HeadStepMakes}
use Rattle.slot_core.specs.Records.{record_with}
use Rattle.slot_core.specs.WithinSlot.{IsSlot, IsWaivedFlash, InSlot, IsHeadInSlot}
use Rattle.slot_core.proofs.Choosing.{begins, ends}
use Rattle.slot_core.proofs.Emptying.{copies, reads, erases}
use Rattle.slot_core.proofs.Flashing.{counted, content_is}
use Rattle.slot_core.proofs.Heading.{nothing_least}
use Rattle.slot_core.proofs.Opened.{opens_same}
use Rattle.slot_core.proofs.Serving.{hold_positive}
use Rattle.slot_core.proofs.Slotting.{slot_unrefused, act_is}
use Rattle.slot_core.proofs.Turning.{IsHeadJob, turn_job, table_is}

-- The next cell

-- it is the log's
next_known : (plan : DiePlan) (c : Cells) (blocks : List device.Block) (b : ℕ) → map counts_of blocks ≡ c.blocks
    → open_in plan.shape.pages blocks ≡ Some b → next_place plan c ≡ Some (next_cell plan.shape.pages blocks)
next_known plan c blocks b are opened =
    ap (option_map (λ (x : ℕ). place_in x)) (sym (opens_same plan c blocks are) ∙ opened)
    ∙ ap Some (ap (λ (n : ℕ). at b n) (sym filled) ∙ sym next)
  where
    at : ℕ → ℕ → Place
    at x n = record { block = x; page = n }

    place_in : ℕ → Place
    place_in x = record { block = x; page = (block_at c x).filled }

    filled : length (device.block_at blocks b).pages ≡ (block_at c b).filled
    filled = ap (λ (s : Block). s.filled) (counted blocks b) ∙ ap (λ (bs : List Block). (slice_index_or bs b free_block).filled) are

    next : next_cell plan.shape.pages blocks ≡ at b (length (device.block_at blocks b).pages)
    next = ap (λ (o : Option ℕ). at (unwrap_or o 0) (length (device.block_at blocks (unwrap_or o 0)).pages)) opened

some_is : (o : Option ℕ) → IsSome o → (b : ℕ) × (o ≡ Some b)
some_is None h = absurd cc
some_is (Some b) h = (b, refl)

-- The act of a job or collection

-- the act is known except for its bytes, and so is the call that it needs
pub record ActsSo (start : Start) (log : Log) (j : Job) (kind : NextAct) (call : Option NandCall) : Type 0 where
  pub act : Act
  pub act_is : act_for start log j ≡ Some act
  pub kind_is : kind_of act ≡ kind
  pub call_is : call_of start log act ≡ call

-- a collection's step is what the log lets it do
pub step_acts : (start : Start) {N : Type 0} (blocks_of : N → List device.Block) (log : Log) (ws : List Waived) (j : Job) (v : State N)
    (c : Collection) (step : CollectStep) → AreSoundCells v.accounts.plan (cells (over v.accounts.plan start) log)
    → IsWaivedFlash (over v.accounts.plan start) log ws (flash_of blocks_of v) → j.collects ≡ true
    → block_for (over v.accounts.plan start) log j ≡ Some c.victim → page_in c ≡ page_held log j.number → IsCollectStep blocks_of v c step
    → ActsSo (over v.accounts.plan start) log j (kind_of_step step) (Some (step_calls.call_of step))
step_acts start blocks_of log ws j v c (steps.Read page source) sound flash collects victim holds d = record {
  act = does.CopyRead page;
  act_is = reads (over v.accounts.plan start) log j c page source sound collects victim holds
      (subst (λ (ps : List (Option Place)). HasDropped ps c) flash.places_are d.dropped)
      (subst (λ (ps : List (Option Place)). IsFirstInBlock ps c.victim page source) flash.places_are d.first);
  kind_is = refl;
  call_is = ap (option_map (λ (p : Place). calls.Read p)) (ap (λ (ps : List (Option Place)). place_of ps page) (sym flash.places_are)
      ∙ d.first.lies);
}
step_acts start blocks_of log ws j v c (steps.Program page place bytes) sound flash collects victim holds d = record {
  act = does.CopyProgram page;
  act_is = copies (over v.accounts.plan start) log j c d.copied collects victim holds d.holds d.here
      (ap (λ (ps : List (Option Place)). place_of ps d.copied.page) (sym flash.places_are) ∙ (ap (place_of v.places) d.page_is ∙ d.lies))
      ∙ ap (λ (p : ℕ). Some (does.CopyProgram p)) d.page_is;
  kind_is = refl;
  call_is = ap (option_map (λ (p : Place). calls.Program p (Some page) (content (over v.accounts.plan start) log page)))
      (next_known v.accounts.plan (cells (over v.accounts.plan start) log) (blocks_of v.device) opened.0 flash.blocks_are opened.1
      ∙ ap Some (sym d.place_is))
      ∙ ap (λ (x : PageData). Some (calls.Program place (Some page) x)) (sym (content_is (over v.accounts.plan start) log v.pages page flash.pages_are)
      ∙ sym d.bytes_are);
}
  where
    opened : (b : ℕ) × (open_in v.accounts.plan.shape.pages (blocks_of v.device) ≡ Some b)
    opened = some_is (open_in v.accounts.plan.shape.pages (blocks_of v.device)) d.finds
step_acts start blocks_of log ws j v c (steps.Erase block) sound flash collects victim holds d = record {
  act = does.Erase block;
  act_is = erases (over v.accounts.plan start) log j c collects victim holds
      (subst (λ (ps : List (Option Place)). HasDropped ps c) flash.places_are d.dropped)
      (subst (λ (ps : List (Option Place)). IsUnplaced ps c.victim) flash.places_are (subst (IsUnplaced v.places) d.victim d.unplaced))
      ∙ ap (λ (b : ℕ). Some (does.Erase b)) (sym d.victim);
  kind_is = refl;
  call_is = refl;
}

-- so is a job's operation
op_acts : (start : Start) {N : Type 0} (blocks_of : N → List device.Block) (log : Log) (ws : List Waived) (j : Job) (v : State N) (op : Op)
    → IsWaivedFlash (over v.accounts.plan start) log ws (flash_of blocks_of v) → j.collects ≡ false
    → slice_get j.ops (work j.number log) ≡ Some op → (is_write op ≡ true → 0 < free (over v.accounts.plan start) log)
    → ActsSo (over v.accounts.plan start) log j (kind_of_op op) (op_call blocks_of v op)
op_acts start blocks_of log ws j v op flash plain next some = record {
  act = act_by (flash_of blocks_of v) op;
  act_is = act_is (over v.accounts.plan start) log (flash_of blocks_of v) j op flash.pages_are plain next;
  kind_is = kind op;
  call_is = call op some;
}
  where
    kind : (o : Op) → kind_of (act_by (flash_of blocks_of v) o) ≡ kind_of_op o
    kind (asks.Read page) = refl
    kind (asks.Write page bytes) = refl
    kind (asks.Trim page) = refl

    call : (o : Op) → (is_write o ≡ true → 0 < free (over v.accounts.plan start) log)
        → call_of (over v.accounts.plan start) log (act_by (flash_of blocks_of v) o) ≡ op_call blocks_of v o
    call (asks.Read page) found = ap (λ (ps : List (Option Place)). option_map (λ (p : Place). calls.Read p) (place_of ps page))
        (sym flash.places_are)
    call (asks.Trim page) found = refl
    call (asks.Write page bytes) found =
        let opened = opens v.accounts.plan (cells (over v.accounts.plan start) log) (found refl) in
        ap (option_map (λ (p : Place). calls.Program p (Some page) bytes))
        (next_known v.accounts.plan (cells (over v.accounts.plan start) log) (blocks_of v.device) opened.0 flash.blocks_are
        (opens_same v.accounts.plan (cells (over v.accounts.plan start) log) (blocks_of v.device) flash.blocks_are ∙ opened.1))

-- where a job has a write next, a page is free
pub write_finds : (start : Start) (log : Log) (ws : List Waived) (t : Table) (n : ℕ) (j : Job) (op : Op) → IsHeadJob start log ws t n j
    → slice_get j.ops (work j.number log) ≡ Some op → is_write op ≡ true → 0 < free start log
write_finds start log ws t n j op job next is =
    let agree = job.both.1.true_accounts.agree in
    let held = hold_positive start.plan (accounts start log) (λ k. acts k log)
    (lent_to start.plan (λ k. acts k log) (is_waived log) (jobs log)) (owed_writes log) (free start log) (jobs log) j
    op agree job.limits.task job.own_at next is in
    omega (
      arith,
      held,
      one_le_sum (accounts start log).holds j.task (omega (arith, job.limits.task, agree.holds_len)),
      agree.owed_is,
      owed_fits start (accounts start log) (held_of (λ k. acts k log) (jobs log))
          (lent_to start.plan (λ k. acts k log) (is_waived log) (jobs log)) (owed_writes log) (free start log) agree,
    )

-- The slot

-- a slot before the last one answers what the choice gives
slot_answers : (start : Start) (log : Log) (present : ℕ) → IsSlot start log present → answer start log events.Slot
    ≡ replies.Slot (slot_reply start log (choice start log).waived (choice start log).head)
slot_answers start log present s = accepted_answer start log events.Slot (slot_unrefused start log (now log) refl s.few)

-- after this choice the slot carries this
pub acts_next : (start : Start) (log : Log) (present : ℕ) (ws : List Waived) (j : Job) (kind : NextAct) (call : Option NandCall)
    → IsSlot start log present → choice start log ≡ record { waived = ws; head = Some j } → ActsSo start log j kind call
    → next_slot start log ≡ record { ran = Some (j.number, kind); call = call }
acts_next start log present ws j kind call s chosen a =
    ap (λ (r : Reply). next_by start log (ran_by r)) (slot_answers start log present s
    ∙ (ap (λ (c : Choice). replies.Slot (slot_reply start log c.waived c.head)) chosen
    ∙ ap (λ (o : Option Act). replies.Slot (reply_with start.plan log ws j o)) a.act_is))
    ∙ same (kind_of a.act) kind (call_of start log a.act) call a.kind_is a.call_is
  where
    same : (k l : NextAct) (x y : Option NandCall) → k ≡ l → x ≡ y
        → ◌≡◌ {A = NextSlot} (record { ran = Some (j.number, k); call = x }) (record { ran = Some (j.number, l); call = y })
    same k l x y p q = rw p (rw q refl)

-- one that has no act carries nothing
pub nothing_acts : (start : Start) (log : Log) (present : ℕ) (ws : List Waived) (j : Job) → IsSlot start log present
    → choice start log ≡ record { waived = ws; head = Some j } → act_for start log j ≡ None → next_slot start log ≡ nothing_next
nothing_acts start log present ws j s chosen none =
    ap (λ (r : Reply). next_by start log (ran_by r)) (slot_answers start log present s
    ∙ (ap (λ (c : Choice). replies.Slot (slot_reply start log c.waived c.head)) chosen
    ∙ ap (λ (o : Option Act). replies.Slot (reply_with start.plan log ws j o)) none))

-- a slot without a head needs no call
pub idle_next : (start : Start) (log : Log) (present : ℕ) (ws : List Waived) (t : Table) (f : FlashState) → InSlot start log present ws t f
    → table.NothingReady t → next_slot start log ≡ nothing_next
idle_next start log present ws t f s nothing =
    ap (λ (r : Reply). next_by start log (ran_by r)) (slot_answers start log present s.slot
    ∙ ap (λ (c : Choice). replies.Slot (slot_reply start log c.waived c.head)) chosen)
  where
    chosen : choice start log ≡ record { waived = ws; head = None }
    chosen = ends start log ws f.tokens s.goes_on (nothing_least start log ws t
        (subst table.NothingReady (table_is start log ws t s.table) nothing))

-- what is next is also the needed call
pub needed_next : (start : Start) (log : Log) → needed_call start log ≡ (next_slot start log).call
needed_next start log = by_carried (ran_by (answer start log events.Slot))
  where
    by_carried : (c : Carried) → call_by start log c ≡ (next_by start log c).call
    by_carried None = refl
    by_carried (Some (n, act)) = refl

-- the head's step
pub turn_next : (start : Start) {N : Type 0} (blocks_of : N → List device.Block) (log : Log) (present : ℕ) (ws : List Waived) (t : Table)
    (n : ℕ) (v : State N) (r : JobRecord) (kind : NextAct) (call : Option NandCall)
    → IsHeadInSlot (over v.accounts.plan start) log present ws t (flash_of blocks_of v) n → slice_get t.jobs n ≡ Some r
    → NextBy blocks_of v r r.collects kind call → next_slot (over v.accounts.plan start) log ≡ record { ran = Some (n, kind); call = call }
turn_next start blocks_of log present ws t n v r kind call h at next =
    subst (λ (m : ℕ). next_slot (over v.accounts.plan start) log ≡ record { ran = Some (m, kind); call = call }) job.number_is
    (acts_next (over v.accounts.plan start) log present ws h.job kind call h.slot
    (begins (over v.accounts.plan start) log ws v.accounts h.job h.goes_on job.least_is h.unwaivable)
    (by_kind h.job.collects refl (subst (λ (x : JobRecord). NextBy blocks_of v x x.collects kind call) record_is next)))
  where
    job : IsHeadJob (over v.accounts.plan start) log ws t n h.job
    job = turn_job (over v.accounts.plan start) log present ws t (flash_of blocks_of v) n h

    record_is : r ≡ record_with (over v.accounts.plan start) log (waived_collections log ++ ws) h.job
    record_is = same_Some r (record_with (over v.accounts.plan start) log (waived_collections log ++ ws) h.job) (sym at ∙ job.record_at)

    by_kind : (b : Bool) → h.job.collects ≡ b
        → NextBy blocks_of v (record_with (over v.accounts.plan start) log (waived_collections log ++ ws) h.job) b kind call
        → ActsSo (over v.accounts.plan start) log h.job kind call
    by_kind false plain d =
        subst (λ (k : NextAct). ActsSo (over v.accounts.plan start) log h.job k call) (sym d.kind_is)
        (subst (λ (x : Option NandCall). ActsSo (over v.accounts.plan start) log h.job (kind_of_op d.op) x) (sym d.call_is)
        (op_acts start blocks_of log ws h.job v d.op h.flash plain d.next
        (λ is. write_finds (over v.accounts.plan start) log ws t n h.job d.op job d.next is)))
    by_kind true collects d =
        let c = h.runs collects in
        let same : c.0 ≡ d.collection = same_Some c.0 d.collection (sym c.1.runs ∙ d.runs) in
        subst (λ (k : NextAct). ActsSo (over v.accounts.plan start) log h.job k call) (sym d.kind_is)
        (subst (λ (x : Option NandCall). ActsSo (over v.accounts.plan start) log h.job (kind_of_step d.step) x) (sym d.call_is)
        (step_acts start blocks_of log ws h.job v c.0 d.step job.both.0.collects.sound h.flash collects c.1.victim c.1.holds
        (subst (λ (x : Collection). IsCollectStep blocks_of v x d.step) (sym same) d.is)))

-- so it needs this call
pub turn_needs : (start : Start) {N : Type 0} (blocks_of : N → List device.Block) (log : Log) (present : ℕ) (ws : List Waived) (t : Table)
    (n : ℕ) (v : State N) (r : JobRecord) (kind : NextAct) (call : Option NandCall)
    → IsHeadInSlot (over v.accounts.plan start) log present ws t (flash_of blocks_of v) n → slice_get t.jobs n ≡ Some r
    → NextBy blocks_of v r r.collects kind call → needed_call (over v.accounts.plan start) log ≡ call
turn_needs start blocks_of log present ws t n v r kind call h at next =
    needed_next (over v.accounts.plan start) log
    ∙ ap (λ (x : NextSlot). x.call) (turn_next start blocks_of log present ws t n v r kind call h at next)

-- What a slot makes of it

-- an idle slot calls no device
pub idle_makes : (start : Start) {N A : Type 0} (blocks_of : N → List device.Block) (ends_so : N → NandCall → Bool → N → Type 0) (failures : N → ℕ)
    (log : Log) (present : ℕ) (ws : List Waived) (t : Table) (v w : State N) (a : A) → w.accounts.plan ≡ v.accounts.plan → w.device ≡ v.device
    → InSlot (over w.accounts.plan start) log present ws t (flash_of blocks_of w) → table.NothingReady t
    → MakesCall {A = A} ends_so failures (needed_call (over v.accounts.plan start) log) (Ok a) v.device w.device
idle_makes start {N = N} blocks_of ends_so failures log present ws t v w a plan_is device_is s nothing = record {
  made = rw none device_is;
  counted = ap failures device_is;
  fault = tt;
}
  where
    none : needed_call (over v.accounts.plan start) log ≡ None
    none = ap (λ (p : DiePlan). needed_call (over p start) log) (sym plan_is)
        ∙ (needed_next (over w.accounts.plan start) log
        ∙ ap (λ (x : NextSlot). x.call) (idle_next (over w.accounts.plan start) log present ws t (flash_of blocks_of w) s nothing))

-- a step's call is the needed one
turn_call : (start : Start) {N : Type 0} (blocks_of : N → List device.Block) (ends_so : N → NandCall → Bool → N → Type 0)
    (log : Log) (present : ℕ) (ws : List Waived) (t : Table) (n : ℕ) (v u w : State N) (r : JobRecord) (well : Bool)
    → u.accounts.plan ≡ v.accounts.plan → IsHeadInSlot (over u.accounts.plan start) log present ws t (flash_of blocks_of u) n
    → slice_get t.jobs n ≡ Some r → (m : HeadStepMakes ends_so blocks_of u r well w) → needed_call (over v.accounts.plan start) log ≡ m.call
turn_call start blocks_of ends_so log present ws t n v u w r well plan_is h at m =
    ap (λ (p : DiePlan). needed_call (over p start) log) (sym plan_is)
    ∙ turn_needs start blocks_of log present ws t n u r m.kind m.call h at m.next

-- a step that ended well
pub turn_makes : (start : Start) {N A : Type 0} (blocks_of : N → List device.Block) (ends_so : N → NandCall → Bool → N → Type 0) (failures : N → ℕ)
    (log : Log) (present : ℕ) (ws : List Waived) (t : Table) (n : ℕ) (v u w : State N) (r : JobRecord) (a : A)
    → u.accounts.plan ≡ v.accounts.plan → u.device ≡ v.device → IsHeadInSlot (over u.accounts.plan start) log present ws t (flash_of blocks_of u) n
    → slice_get t.jobs n ≡ Some r → HeadStepMakes ends_so blocks_of u r true w → failures w.device ≡ failures u.device
    → MakesCall {A = A} ends_so failures (needed_call (over v.accounts.plan start) log) (Ok a) v.device w.device
turn_makes start {N = N} blocks_of ends_so failures log present ws t n v u w r a plan_is device_is h at m counted_is = record {
  made = rw (turn_call start blocks_of ends_so log present ws t n v u w r true plan_is h at m)
      (subst (λ (d : N). IsOnlyCall ends_so m.call true d w.device) device_is m.made);
  counted = counted_is ∙ ap failures device_is;
  fault = tt;
}

-- and one that the device failed
pub turn_fails : (start : Start) {N A : Type 0} (blocks_of : N → List device.Block) (ends_so : N → NandCall → Bool → N → Type 0) (failures : N → ℕ)
    (log : Log) (present : ℕ) (ws : List Waived) (t : Table) (n : ℕ) (v u w : State N) (r : JobRecord) (refusal : Refusal)
    → u.accounts.plan ≡ v.accounts.plan → u.device ≡ v.device → IsHeadInSlot (over u.accounts.plan start) log present ws t (flash_of blocks_of u) n
    → slice_get t.jobs n ≡ Some r → HeadStepMakes ends_so blocks_of u r false w
    → MakesCall {A = A} ends_so failures (needed_call (over v.accounts.plan start) log) (Err refusal) v.device w.device
turn_fails start {N = N} blocks_of ends_so failures log present ws t n v u w r refusal plan_is device_is h at m = record {
  made = tt;
  counted = tt;
  fault = λ is. by_call m.call (turn_call start blocks_of ends_so log present ws t n v u w r false plan_is h at m) (m.needs refl)
      (subst (λ (d : N). IsOnlyCall ends_so m.call false d w.device) device_is m.made);
}
  where
    by_call : (o : Option NandCall) → needed_call (over v.accounts.plan start) log ≡ o → IsSome o → IsOnlyCall ends_so o false v.device w.device
        → MadeAndFailed ends_so (needed_call (over v.accounts.plan start) log) v.device w.device
    by_call None is some made = absurd cc
    by_call (Some call) is some made = record { call = call; needed_is = is; ended = made }
