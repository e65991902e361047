-- A slot keeps what the fields of a die say of its log.
use Rattle.std.proofs.Common.{◌≡◌, ℕ, zero, suc, ◌+◌, ◌<◌, ◌≤◌, ◌==◌, ◌&&◌, ◌||◌, not, nat_le, Bool, true, false, List, [], ◌∷◌, ◌++◌}
use Rattle.std.proofs.Common.{Option, Some, None, option_map, refl, ap, sym, ◌∙◌, subst, length, map, slice_get, slice_index_or}
use Rattle.std.proofs.Common.{if◌then◌else◌, append-nil, arith}
use Rattle.std.proofs.lemmas.Bool.{and_parts, not-true, true≢false}
use Rattle.std.proofs.lemmas.Bool.Decides.{nat_tests}
use Rattle.std.proofs.lemmas.List.{length_push}
use Rattle.std.proofs.lemmas.Option.{same_Some}
use Rattle.slot_types.specs.declared.plans.DiePlan.{DiePlan}
use Rattle.slot_types.specs.declared.limits.TheConstants.{MAX_SLOT}
use Rattle.slot_types.specs.declared.acts.Act.{Act}
use Rattle.slot_types.specs.declared.acts.Act.TheVariants as does
use Rattle.slot_types.specs.declared.pages.PageData.{PageData}
use Rattle.slot_types.specs.declared.refusals.Refusal.TheVariants.{ClockEnd}
use Rattle.slot_types.specs.declared.events.Op.{Op}
use Rattle.slot_types.specs.declared.events.Op.TheVariants as asks
use Rattle.slot_types.specs.declared.events.Event.TheVariants as events
use Rattle.slot_types.specs.declared.replies.Reply.TheVariants as replies
use Rattle.slot_types.specs.declared.replies.SlotReply.{SlotReply}
use Rattle.slot_types.specs.declared.replies.Waived.{Waived}
use Rattle.flash_die.specs.Flash as device
use Rattle.flash_volume.specs.declared.collection.Collected.{Collected}
use Rattle.flash_volume.specs.declared.collection.Collected.TheVariants as acts_of
use Rattle.flash_volume.specs.Cells.{open_in}
use Rattle.flash_volume.specs.State.{State}
use Rattle.job_table.specs.declared.stages.Stage.{Stage}
use Rattle.job_table.specs.declared.stages.Stage.TheVariants.{Pending, Done, Waived as Gone}
use Rattle.job_table.specs.Jobs.{JobRecord, is_pending, is_read, is_some_read, reads_next, with_stage}
use Rattle.job_table.specs.Jobs as jobs_table
use Rattle.job_table.specs.Table.{Table, changed_at, with_change, reads_next_at, reads_next_of}
use Rattle.job_table.specs.Waivers.{WerePending, jobs_after_waivers, AreWaived, stopped_table}
use Rattle.job_table.proofs.Waivers.{AreWaived-waived_in}
use Rattle.job_table.specs.Order as table
use Rattle.late_cert.specs.Schedule.{Slots}
use Rattle.die_log.specs.Model.Log.{Log, Job, Carried, jobs, job_at, carried_slots, acts, waived_collections, is_waived, now, work}
use Rattle.die_log.specs.Model.Flash as flash
use Rattle.die_log.specs.Model.Flash.{cells, contents, free}
use Rattle.slot_types.specs.Operations.{is_write}
use Rattle.die_log.specs.Model.Work.{is_done, are_all, owed_writes}
use Rattle.die_log.specs.Model.Accounts.{accounts}
use Rattle.die_log.specs.Model.Answers.{answer, reply_if_accepted, IsAccepted, refusal_of, Choice, choice, slot_reply, reply_with, act_for, act_of_op}
use Rattle.die_log.specs.Invariants.TrueAccounts.{held_of, lent_to, HasTaskAndOps as IsOfPlan}
use Rattle.die_log.specs.Results.Legal.{is_among}
use Rattle.die_log.specs.Model.Rows.{carried_numbers}
use Rattle.die_log.proofs.Cells.Steps.{opens}
use Rattle.die_log.proofs.Legality.{entry, accepted_answer, refused_answer}
use Rattle.die_log.proofs.Tokens.Amounts.{one_le_sum}
use Rattle.die_log.proofs.Tokens.Sums.{all_at}
use Rattle.die_log.proofs.Tokens.Turns.{owed_fits}
use Rattle.slot_core.specs.Core.{with_entry}
use Rattle.slot_core.specs.Agreement.{AgreeWithLog}
use Rattle.slot_core.specs.Records.{record_with, job_records, waiver_among}
use Rattle.slot_core.specs.Device.{FlashState, flash_of, AreRunning, IsFlashOf}
use Rattle.slot_core.specs.WithinSlot.{ChoiceGoesOn, IsWaivedFlash, IsSlot, InSlot, IsHeadInSlot, idle_reply}
use Rattle.slot_core.specs.OpEffects.{act_by, flash_after_op}
use Rattle.slot_core.specs.declared.head_step.HeadStep.{HeadStep}
use Rattle.slot_core.specs.HeadSteps.{is_read_act, after_read, table_after_end, table_after_step, head_step_by, DidOp, DidBy, DidHeadStep}
use Rattle.slot_core.proofs.Choosing.{starts, begins, ends}
use Rattle.slot_core.proofs.Collections.{running_acted}
use Rattle.slot_core.proofs.Recording.{records-idle, records-act, acted_is, acted_record, acted_reply}
use Rattle.slot_core.proofs.Heading.{is_some_waiver, waiver_is, among_both, nothing_least, pending_is}
use Rattle.slot_core.proofs.Flashing.{slot_entry, slot_with, unwaived_flash, flash-idle, flash-read, flash-trim, flash-write, content_is}
use Rattle.slot_core.proofs.Opened.{opens_same}
use Rattle.slot_core.proofs.Serving.{hold_positive}
use Rattle.slot_core.proofs.Taking.{IsCollector, IsTaken, took}
use Rattle.slot_core.proofs.Turning.{IsHeadJob, turn_job, table_is}
use Rattle.die_log.specs.Model.Start.{Start, over}

past_clock : (m n : ℕ) → n < m → nat_le m n ≡ false
past_clock m n h = grind (arith, nat_tests)

-- a slot before the last one is not refused
pub slot_unrefused : (start : Start) (log : Log) (present : ℕ) → present ≡ now log → present < MAX_SLOT → refusal_of start log events.Slot
    ≡ None
slot_unrefused start log present is few = rw (past_clock MAX_SLOT (now log) (subst (λ (n : ℕ). n < MAX_SLOT) is few)) refl

unrefused : (start : Start) (log : Log) (present : ℕ) → IsSlot start log present → refusal_of start log events.Slot ≡ None
unrefused start log present s = rw (past_clock MAX_SLOT (now log) s.few) refl

-- The slot begins

starts_with : (start : Start) (log : Log) (present : ℕ) (t : Table) (f : FlashState) → AgreeWithLog start log present t false f → present
    < MAX_SLOT → t.clock ≡ present → InSlot start log present [] t f
starts_with start log present t f k few clock = record {
  slot = record { exact = k.exact; bound = k.bound; left = k.left; now_is = k.now_is; few = subst (λ (n : ℕ). n < MAX_SLOT) k.now_is few };
  table = record {
    tasks_are = k.tasks_are;
    clock_is = clock ∙ k.now_is;
    running = k.ended_is;
    jobs_are = rw (append-nil (waived_collections log)) k.jobs_are;
    were_pending = tt;
    were = k.jobs_are;
  };
  goes_on = subst (ChoiceGoesOn start log []) (sym (k.flash refl).accounts_are) (starts start log);
  flash = unwaived_flash start log f (k.flash refl);
  running = (k.flash refl).running_are;
}

pub slot_starts : (start : Start) {N : Type 0} (blocks_of : N → List device.Block) (log : Log) (present : ℕ) (t : Table) (v : State N)
    → AgreeWithLog (over v.accounts.plan start) log present t v.failed (flash_of blocks_of v) → v.failed ≡ false → present < MAX_SLOT
    → InSlot (over v.accounts.plan start) log present [] (record t { clock = present }) (flash_of blocks_of v)
slot_starts start blocks_of log present t v k alive few =
    starts_with (over v.accounts.plan start) log present (record t { clock = present }) (flash_of blocks_of v)
    (subst (λ (b : Bool). AgreeWithLog (over v.accounts.plan start) log present (record t { clock = present }) b (flash_of blocks_of v)) alive (looked k))
    few refl
  where
    looked : AgreeWithLog (over v.accounts.plan start) log present t v.failed (flash_of blocks_of v)
        → AgreeWithLog (over v.accounts.plan start) log present (record t { clock = present }) v.failed (flash_of blocks_of v)
    looked kept = record {
      exact = kept.exact;
      bound = kept.bound;
      left = kept.left;
      now_is = kept.now_is;
      tasks_are = kept.tasks_are;
      clock_by = omega arith;
      ended_is = kept.ended_is;
      jobs_are = kept.jobs_are;
      places_are = kept.places_are;
      flash = kept.flash;
    }

-- Without a head

pub slot_idles : (start : Start) (log : Log) (present : ℕ) (ws : List Waived) (t : Table) (f : FlashState) (caller : ℕ)
    → InSlot start log present ws t f → table.NothingReady t
    → AgreeWithLog start (entry caller events.Slot (replies.Slot (idle_reply present ws)) ∷ log) (present + 1) t false f
    × (reply_if_accepted start log events.Slot ≡ replies.Slot (idle_reply present ws))
slot_idles start log present ws t f caller s nothing = (
  subst (λ (n : ℕ). AgreeWithLog start (entry caller events.Slot (replies.Slot (idle_reply n ws)) ∷ log) (present + 1) t false f)
      (sym s.slot.now_is) kept,
  rw s.slot.now_is replied,
)
  where
    chosen : choice start log ≡ record { waived = ws; head = None }
    chosen = ends start log ws f.tokens s.goes_on (nothing_least start log ws t
        (subst table.NothingReady (table_is start log ws t s.table) nothing))

    replied : reply_if_accepted start log events.Slot ≡ replies.Slot (idle_reply (now log) ws)
    replied = ap (λ (c : Choice). replies.Slot (slot_reply start log c.waived c.head)) chosen

    kept : AgreeWithLog start (entry caller events.Slot (replies.Slot (idle_reply (now log) ws)) ∷ log) (present + 1) t false f
    kept = record {
      exact = (s.slot.exact, sym (accepted_answer start log events.Slot (unrefused start log present s.slot) ∙ replied), tt);
      bound = s.slot.bound;
      left = s.slot.left;
      now_is = ap (λ n. n + 1) s.slot.now_is ∙ sym (length_push (carried_slots log) None);
      tasks_are = s.table.tasks_are;
      clock_by = omega (arith, s.table.clock_is, s.slot.now_is);
      ended_is = s.table.running;
      jobs_are = s.table.jobs_are ∙ sym (records-idle start log caller ws);
      places_are = (flash-idle start log caller (now log) ws f s.flash s.running).places_are;
      flash = λ alive. flash-idle start log caller (now log) ws f s.flash s.running;
    }

pub idle_kept : (start : Start) {N : Type 0} (blocks_of : N → List device.Block) (log later : Log) (present caller : ℕ) (ws : List Waived) (t : Table)
    (v : State N) (reply : SlotReply)
    → InSlot (over v.accounts.plan start) log present ws t (flash_of blocks_of v) → table.NothingReady t → v.failed ≡ false → reply
    ≡ idle_reply present ws → later ≡ with_entry caller events.Slot (replies.Slot reply) log
    → AgreeWithLog (over v.accounts.plan start) later (present + 1) t v.failed (flash_of blocks_of v)
    × (answer (over v.accounts.plan start) log events.Slot ≡ replies.Slot reply)
idle_kept start blocks_of log later present caller ws t v reply s nothing alive reply_is later_is =
    let done = slot_idles (over v.accounts.plan start) log present ws t (flash_of blocks_of v) caller s nothing in (
      rw later_is (rw reply_is (rw alive done.0)),
      accepted_answer (over v.accounts.plan start) log events.Slot (unrefused (over v.accounts.plan start) log present s.slot)
          ∙ (done.1 ∙ ap replies.Slot (sym reply_is)),
    )

-- A job's operation

-- the act of the head's operation is what the log determines
pub act_is : (start : Start) (log : Log) (f : FlashState) (j : Job) (op : Op) → f.pages ≡ contents start log → j.collects ≡ false
    → slice_get j.ops (work j.number log) ≡ Some op → act_for start log j ≡ Some (act_by f op)
act_is start log f j op pages_are plain next = rw plain (rw next (by_op op))
  where
    by_op : (o : Op) → act_of_op start log (Some o) ≡ Some (act_by f o)
    by_op (asks.Read page) = ap (λ (bytes : PageData). Some (does.Read page bytes)) (sym (content_is start log f.pages page pages_are))
    by_op (asks.Write page bytes) = refl
    by_op (asks.Trim page) = refl

-- and it leaves the flash of the log with that act
flash_operated : (start : Start) (log : Log) (caller slot : ℕ) (ws : List Waived) (j : Job) (op : Op) (finished : Option ℕ)
    (f : FlashState)
    → job_at log j.number ≡ Some j → f.tokens.plan ≡ start.plan → IsWaivedFlash start log ws f
    → AreRunning start (slot_with caller slot ws j.number (act_by f op) finished log) f.running
    → (is_write op ≡ true → 0 < free start log)
    → IsFlashOf start (slot_with caller slot ws j.number (act_by f op) finished log) (flash_after_op f j.task op)
flash_operated start log caller slot ws j (asks.Read page) finished f at plan_is w runs some = flash-read start log caller slot ws j page
    (slice_index_or f.pages page device.blank) finished f at w runs
flash_operated start log caller slot ws j (asks.Trim page) finished f at plan_is w runs some = flash-trim start log caller slot ws j page
    finished f at w runs
flash_operated start log caller slot ws j (asks.Write page bytes) finished f at plan_is w runs some =
    rw (ap (λ (p : DiePlan). open_in p.shape.pages f.blocks) plan_is ∙ (opens_same start.plan (cells start log) f.blocks w.blocks_are ∙ opened.1))
    (flash-write start log caller slot ws j page bytes finished f opened.0 at opened.1 w runs)
  where
    opened : (b : ℕ) × (flash.open_block start.plan (cells start log) ≡ Some b)
    opened = opens start.plan (cells start log) (some refl)

plain_all : (plan : DiePlan) (j : Job) (own : List Act) (act : Act) → j.collects ≡ false → are_all plan j (own ++ act ∷ [])
    ≡ (length own + 1 == length j.ops)
plain_all plan j own act plain = rw plain (ap (λ (n : ℕ). n == length j.ops) (length_push own act))

took_op : (start : Start) {N : Type 0} (blocks_of : N → List device.Block) (log : Log) (present caller : ℕ) (ws : List Waived) (t : Table) (n : ℕ)
    (v w : State N) (turn : HeadStep) → (h : IsHeadInSlot (over v.accounts.plan start) log present ws t (flash_of blocks_of v) n) → h.job.collects ≡ false
    → DidOp blocks_of v (record_with (over v.accounts.plan start) log (waived_collections log ++ ws) h.job) turn w → IsTaken start blocks_of log caller ws h.job v w turn
took_op start blocks_of log present caller ws t n v w turn h plain d = rw d.turn_is (record {
  act_is = act_is (over v.accounts.plan start) log (flash_of blocks_of v) h.job d.op h.flash.pages_are plain d.next;
  last_is = plain_all v.accounts.plan h.job (acts h.job.number log) (act_by (flash_of blocks_of v) d.op) plain;
  given_is = λ e. rw plain refl;
  flash = λ slot finished. subst (IsFlashOf (over v.accounts.plan start)
      (slot_with caller slot ws h.job.number (act_by (flash_of blocks_of v) d.op) finished log)) (sym d.flash)
      (flash_operated (over v.accounts.plan start) log caller slot ws h.job d.op finished (flash_of blocks_of v) job.own_at refl h.flash
      (runs slot finished) some_free);
})
  where
    job : IsHeadJob (over v.accounts.plan start) log ws t n h.job
    job = turn_job (over v.accounts.plan start) log present ws t (flash_of blocks_of v) n h

    runs : (slot : ℕ) (finished : Option ℕ) → AreRunning (over v.accounts.plan start)
        (slot_with caller slot ws h.job.number (act_by (flash_of blocks_of v) d.op) finished log) v.running
    runs slot finished =
        running_acted (over v.accounts.plan start) (slot_entry caller slot ws h.job.number (act_by (flash_of blocks_of v) d.op) finished) log h.job
        (act_by (flash_of blocks_of v) d.op) (flash_of blocks_of v) v.running refl refl
        job.both.0.numbered job.stands h.others h.others.len (λ task apart. refl) (λ collects. absurd (true≢false (sym collects ∙ plain)))

    some_free : is_write d.op ≡ true → 0 < free (over v.accounts.plan start) log
    some_free is =
        let agree = job.both.1.true_accounts.agree in
        let held = hold_positive v.accounts.plan (accounts (over v.accounts.plan start) log) (λ k. acts k log)
        (lent_to v.accounts.plan (λ k. acts k log) (is_waived log) (jobs log)) (owed_writes log) (free (over v.accounts.plan start) log) (jobs log) h.job
        d.op agree job.limits.task job.own_at d.next is in
        omega (
          arith,
          held,
          one_le_sum (accounts (over v.accounts.plan start) log).holds h.job.task (omega (arith, job.limits.task, agree.holds_len)),
          agree.owed_is,
          owed_fits (over v.accounts.plan start) (accounts (over v.accounts.plan start) log) (held_of (λ k. acts k log) (jobs log))
              (lent_to v.accounts.plan (λ k. acts k log) (is_waived log) (jobs log)) (owed_writes log) (free (over v.accounts.plan start) log) agree,
        )

-- The head's step

took_turn : (start : Start) {N : Type 0} (blocks_of : N → List device.Block) (log : Log) (present caller : ℕ) (ws : List Waived) (t : Table) (n : ℕ)
    (v w : State N) (turn : HeadStep) → (h : IsHeadInSlot (over v.accounts.plan start) log present ws t (flash_of blocks_of v) n)
    → DidHeadStep blocks_of v (record_with (over v.accounts.plan start) log (waived_collections log ++ ws) h.job) turn w → IsTaken start blocks_of log caller ws h.job v w turn
took_turn start blocks_of log present caller ws t n v w turn h d = by_kind h.job.collects refl d
  where
    job : IsHeadJob (over v.accounts.plan start) log ws t n h.job
    job = turn_job (over v.accounts.plan start) log present ws t (flash_of blocks_of v) n h

    by_kind : (b : Bool) → h.job.collects ≡ b → DidBy blocks_of v (record_with (over v.accounts.plan start) log (waived_collections log ++ ws) h.job) b turn w
        → IsTaken start blocks_of log caller ws h.job v w turn
    by_kind false plain k = took_op start blocks_of log present caller ws t n v w turn h plain k
    by_kind true collects k =
        let c = h.runs collects in
        let same : c.0 ≡ k.collection = same_Some c.0 k.collection (sym c.1.runs ∙ k.runs) in
        rw k.turn_is (took start blocks_of log caller ws h.job v w k.collection k.did (subst (IsCollector start blocks_of log ws h.job v) same (record {
          bound = h.slot.bound.bound;
          both = job.both;
          stands = job.stands;
          at = job.own_at;
          collects = collects;
          undone = job.undone;
          opened = job.pending_if collects;
          task = job.limits.task;
          flash = h.flash;
          run = c.1;
          others = h.others;
        })) k.does_it)

none_among : (o : Option Waived) → is_some_waiver o ≡ false → o ≡ None
none_among None h = refl
none_among (Some w) h = absurd cc

or_both : (a b : Bool) → a ≡ false → b ≡ false → (a || b) ≡ false
or_both true b h k = absurd cc
or_both false b h k = k

stage_pending : (s : Stage) → is_pending s ≡ true → s ≡ Pending
stage_pending Pending h = refl
stage_pending (Done c g) h = absurd cc
stage_pending (Gone g) h = absurd cc

same_stage : (act : Act) (r : JobRecord) → r.stage ≡ Pending → with_stage Pending (after_read act (jobs_table.with_one_more_slot r))
    ≡ after_read act (jobs_table.with_one_more_slot r)
same_stage (does.Read page bytes) r h = rw h refl
same_stage (does.Write page bytes) r h = rw h refl
same_stage (does.Trim page) r h = rw h refl
same_stage (does.CopyRead page) r h = rw h refl
same_stage (does.CopyProgram page) r h = rw h refl
same_stage (does.Erase block) r h = rw h refl

changed_twice : (xs : List JobRecord) (n : ℕ) (f g : JobRecord → JobRecord) → changed_at (changed_at xs n f) n g
    ≡ changed_at xs n (λ r. g (f r))
changed_twice [] n f g = refl
changed_twice (x ∷ xs) zero f g = refl
changed_twice (x ∷ xs) (suc n) f g = ap (λ ys. x ∷ ys) (changed_twice xs n f g)

-- what the step does to the head's record
abbrev pub turned : HeadStep → ℕ → JobRecord → JobRecord
turned turn completion r = if turn.last then with_stage (Done completion turn.given) (after_read turn.act (jobs_table.with_one_more_slot r)) else
    after_read turn.act (jobs_table.with_one_more_slot r)

pub turn_change : (t : Table) (n : ℕ) (turn : HeadStep) (completion : ℕ) → table_after_step t n turn completion
    ≡ with_change t n (turned turn completion)
turn_change t n turn completion = by_last turn.last
  where
    by_last : (b : Bool) → table_after_end b n completion turn.given (with_change t n (λ job. after_read turn.act (jobs_table.with_one_more_slot job)))
        ≡ with_change t n (λ r. if b then with_stage (Done completion turn.given) (after_read turn.act (jobs_table.with_one_more_slot r)) else
        after_read turn.act (jobs_table.with_one_more_slot r))
    by_last true = ap (λ (js : List JobRecord). record t { jobs = js })
        (changed_twice t.jobs n (λ r. after_read turn.act (jobs_table.with_one_more_slot r)) (with_stage (Done completion turn.given)))
    by_last false = refl

turned_is : (start : Start) {N : Type 0} (blocks_of : N → List device.Block) (log : Log) (present caller : ℕ) (ws : List Waived) (t : Table) (n : ℕ)
    (v w : State N) (turn : HeadStep) → (h : IsHeadInSlot (over v.accounts.plan start) log present ws t (flash_of blocks_of v) n)
    → IsTaken start blocks_of log caller ws h.job v w turn
    → turned turn (present + 1) (record_with (over v.accounts.plan start) log (waived_collections log ++ ws) h.job)
    ≡ acted_record (over v.accounts.plan start) log caller ws h.job turn.act turn.last
turned_is start blocks_of log present caller ws t n v w turn h k = by_last turn.last refl
  where
    job : IsHeadJob (over v.accounts.plan start) log ws t n h.job
    job = turn_job (over v.accounts.plan start) log present ws t (flash_of blocks_of v) n h

    unwaived : is_among h.job.number (waived_collections log ++ ws) ≡ false
    unwaived = among_both h.job.number (waived_collections log) ws ∙ or_both (is_among h.job.number (waived_collections log)) (is_among h.job.number ws) past
        job.unwaived_now
      where
        past : is_waived log h.job.number ≡ false
        past = not-true (is_waived log h.job.number) (and_parts (nat_le h.job.release (now log) && not (is_done v.accounts.plan log h.job))
            (not (is_waived log h.job.number)) job.ready_now).1

    none : waiver_among h.job.number (waived_collections log ++ ws) ≡ None
    none = none_among (waiver_among h.job.number (waived_collections log ++ ws)) (waiver_is h.job.number (waived_collections log ++ ws) ∙ unwaived)

    stage_is : (record_with (over v.accounts.plan start) log (waived_collections log ++ ws) h.job).stage ≡ Pending
    stage_is = stage_pending (record_with (over v.accounts.plan start) log (waived_collections log ++ ws) h.job).stage
        (pending_is (over v.accounts.plan start) log (waived_collections log ++ ws) h.job ∙ rw job.undone (rw unwaived refl))

    moved : JobRecord
    moved = after_read turn.act (jobs_table.with_one_more_slot (record_with (over v.accounts.plan start) log (waived_collections log ++ ws) h.job))

    by_last : (b : Bool) → turn.last ≡ b
        → (if b then with_stage (Done (present + 1) turn.given) moved else moved)
        ≡ acted_record (over v.accounts.plan start) log caller ws h.job turn.act b
    by_last true e =
        ap (λ (m : ℕ). with_stage (Done (m + 1) turn.given) moved) h.slot.now_is
        ∙ (ap (λ (g : ℕ). with_stage (Done (now log + 1) g) moved) (k.given_is e)
        ∙ sym (acted_is (over v.accounts.plan start) log caller ws h.job turn.act true job.own_at none (k.last_is ∙ e)))
    by_last false e =
        sym (same_stage turn.act (record_with (over v.accounts.plan start) log (waived_collections log ++ ws) h.job) stage_is)
        ∙ sym (acted_is (over v.accounts.plan start) log caller ws h.job turn.act false job.own_at none (k.last_is ∙ e))

abbrev pub turn_reply : ℕ → List Waived → ℕ → HeadStep → SlotReply
turn_reply slot ws n turn = record { slot = slot; waived = ws; ran = Some (n, turn.act); finished = if turn.last then Some n else None }

slot_acts : (start : Start) {N : Type 0} (blocks_of : N → List device.Block) (log : Log) (present caller : ℕ) (ws : List Waived) (t : Table) (n : ℕ)
    (v w : State N) (turn : HeadStep)
    → (h : IsHeadInSlot (over v.accounts.plan start) log present ws t (flash_of blocks_of v) n) → IsTaken start blocks_of log caller ws h.job v w turn
    → AgreeWithLog (over v.accounts.plan start) (with_entry caller events.Slot (replies.Slot (turn_reply (now log) ws h.job.number turn)) log) (present + 1)
    (with_change t h.job.number (turned turn (present + 1))) false (flash_of blocks_of w)
    × (reply_if_accepted (over v.accounts.plan start) log events.Slot ≡ replies.Slot (turn_reply (now log) ws h.job.number turn))
slot_acts start blocks_of log present caller ws t n v w turn h k = (kept, replied)
  where
    plan : DiePlan
    plan = v.accounts.plan

    job : IsHeadJob (over v.accounts.plan start) log ws t n h.job
    job = turn_job (over v.accounts.plan start) log present ws t (flash_of blocks_of v) n h

    chosen : choice (over v.accounts.plan start) log ≡ record { waived = ws; head = Some h.job }
    chosen = begins (over v.accounts.plan start) log ws v.accounts h.job h.goes_on job.least_is h.unwaivable

    replied : reply_if_accepted (over v.accounts.plan start) log events.Slot ≡ replies.Slot (turn_reply (now log) ws h.job.number turn)
    replied =
        ap (λ (c : Choice). replies.Slot (slot_reply (over v.accounts.plan start) log c.waived c.head)) chosen
        ∙ (ap (λ (o : Option Act). replies.Slot (reply_with v.accounts.plan log ws h.job o)) k.act_is
        ∙ ap (λ (b : Bool). replies.Slot (acted_reply log ws h.job.number turn.act b)) k.last_is)

    kept : AgreeWithLog (over v.accounts.plan start) (with_entry caller events.Slot (replies.Slot (turn_reply (now log) ws h.job.number turn)) log)
        (present + 1) (with_change t h.job.number (turned turn (present + 1))) false (flash_of blocks_of w)
    kept = record {
      exact = (
        h.slot.exact,
        sym (accepted_answer (over v.accounts.plan start) log events.Slot (unrefused (over v.accounts.plan start) log present h.slot) ∙ replied),
        tt,
      );
      bound = h.slot.bound;
      left = h.slot.left;
      now_is = ap (λ m. m + 1) h.slot.now_is ∙ sym (length_push (carried_slots log) (Some (h.job.number, turn.act)));
      tasks_are = h.table.tasks_are;
      clock_by = omega (arith, h.table.clock_is, h.slot.now_is);
      ended_is = h.table.running;
      jobs_are = ap (λ (js : List JobRecord). changed_at js h.job.number (turned turn (present + 1))) h.table.jobs_are
          ∙ records-act (over v.accounts.plan start) log caller ws h.job turn.act turn.last (turned turn (present + 1)) job.both.0.numbered job.own_at
          (turned_is start blocks_of log present caller ws t n v w turn h k);
      places_are = (k.flash (now log) (if turn.last then Some h.job.number else None)).places_are;
      flash = λ alive. k.flash (now log) (if turn.last then Some h.job.number else None);
    }

pub turn_kept : (start : Start) {N : Type 0} (blocks_of : N → List device.Block) (log later : Log) (present caller : ℕ) (ws : List Waived) (t x : Table)
    (n : ℕ) (v w : State N) (r : JobRecord) (turn : HeadStep) (reply : SlotReply)
    → IsHeadInSlot (over v.accounts.plan start) log present ws t (flash_of blocks_of v) n → slice_get t.jobs n ≡ Some r → DidHeadStep blocks_of v r turn w
    → w.accounts.plan ≡ v.accounts.plan → w.failed ≡ false
    → x ≡ table_after_step t n turn (present + 1) → reply ≡ turn_reply present ws n turn → later
    ≡ with_entry caller events.Slot (replies.Slot reply) log
    → AgreeWithLog (over w.accounts.plan start) later (present + 1) x w.failed (flash_of blocks_of w)
    × (answer (over v.accounts.plan start) log events.Slot ≡ replies.Slot reply)
turn_kept start blocks_of log later present caller ws t x n v w r turn reply h at did plan_is well table_after reply_is later_is = (
  subst (λ (p : DiePlan). AgreeWithLog (over p start) later (present + 1) x w.failed (flash_of blocks_of w)) (sym plan_is)
      (rw later_is (rw reply_is (rw well (rw (table_after ∙ turn_change t n turn (present + 1))
      (subst (λ (m : ℕ). AgreeWithLog (over v.accounts.plan start) (with_entry caller events.Slot (replies.Slot (turn_reply m ws n turn)) log) (present + 1)
      (with_change t n (turned turn (present + 1))) false (flash_of blocks_of w)) (sym h.slot.now_is)
      (subst (λ (m : ℕ). AgreeWithLog (over v.accounts.plan start) (with_entry caller events.Slot (replies.Slot (turn_reply (now log) ws m turn)) log)
      (present + 1) (with_change t m (turned turn (present + 1))) false (flash_of blocks_of w)) job.number_is done.0)))))),
  accepted_answer (over v.accounts.plan start) log events.Slot (unrefused (over v.accounts.plan start) log present h.slot)
      ∙ (done.1 ∙ (ap (λ (m : ℕ). replies.Slot (turn_reply (now log) ws m turn)) job.number_is
      ∙ (ap (λ (m : ℕ). replies.Slot (turn_reply m ws n turn)) (sym h.slot.now_is) ∙ ap replies.Slot (sym reply_is)))),
)
  where
    job : IsHeadJob (over v.accounts.plan start) log ws t n h.job
    job = turn_job (over v.accounts.plan start) log present ws t (flash_of blocks_of v) n h

    record_is : r ≡ record_with (over v.accounts.plan start) log (waived_collections log ++ ws) h.job
    record_is = same_Some r (record_with (over v.accounts.plan start) log (waived_collections log ++ ws) h.job) (sym at ∙ job.record_at)

    done : AgreeWithLog (over v.accounts.plan start) (with_entry caller events.Slot (replies.Slot (turn_reply (now log) ws h.job.number turn)) log)
        (present + 1) (with_change t h.job.number (turned turn (present + 1))) false (flash_of blocks_of w)
        × (reply_if_accepted (over v.accounts.plan start) log events.Slot ≡ replies.Slot (turn_reply (now log) ws h.job.number turn))
    done = slot_acts start blocks_of log present caller ws t n v w turn h
        (took_turn start blocks_of log present caller ws t n v w turn h (subst (λ (x : JobRecord). DidHeadStep blocks_of v x turn w) record_is did))

-- a step carries a read where the next operation is one
pub turn_reads : (start : Start) {N : Type 0} (blocks_of : N → List device.Block) (log : Log) (present : ℕ) (ws : List Waived) (t : Table) (n : ℕ)
    (v w : State N) (r : JobRecord) (turn : HeadStep) → IsHeadInSlot (over v.accounts.plan start) log present ws t (flash_of blocks_of v) n → slice_get t.jobs n
    ≡ Some r
    → DidHeadStep blocks_of v r turn w → reads_next_at t.jobs n ≡ is_read_act turn.act
turn_reads start blocks_of log present ws t n v w r turn h at did = ap reads_next_of at ∙ by_kind r.collects refl did
  where
    job : IsHeadJob (over v.accounts.plan start) log ws t n h.job
    job = turn_job (over v.accounts.plan start) log present ws t (flash_of blocks_of v) n h

    record_is : r ≡ record_with (over v.accounts.plan start) log (waived_collections log ++ ws) h.job
    record_is = same_Some r (record_with (over v.accounts.plan start) log (waived_collections log ++ ws) h.job) (sym at ∙ job.record_at)

    by_op : (op : Op) → is_read op ≡ is_read_act (act_by (flash_of blocks_of v) op)
    by_op (asks.Read page) = refl
    by_op (asks.Write page bytes) = refl
    by_op (asks.Trim page) = refl

    by_did : (did : Collected) → false ≡ is_read_act (head_step_by did).act
    by_did (acts_of.CopyRead page) = refl
    by_did (acts_of.CopyProgram page) = refl
    by_did (acts_of.EraseSlot block) = refl
    by_did (acts_of.Finished block given) = refl

    nothing_at : (k : ℕ) → ◌≡◌ {A = Option Op} (slice_get [] k) None
    nothing_at k = refl

    by_kind : (b : Bool) → r.collects ≡ b → DidBy blocks_of v r b turn w → is_some_read (slice_get r.ops r.work) ≡ is_read_act turn.act
    by_kind false plain d = ap is_some_read d.next ∙ (by_op d.op ∙ ap (λ (x : HeadStep). is_read_act x.act) (sym d.turn_is))
    by_kind true collects d =
        let none : h.job.ops ≡ [] = (all_at (IsOfPlan v.accounts.plan) (jobs log) n h.job job.both.1.true_accounts.taken job.at).none
        (sym (ap (λ (x : JobRecord). x.collects) record_is) ∙ collects) in
        ap (λ (l : List Op). is_some_read (slice_get l r.work)) (ap (λ (x : JobRecord). x.ops) record_is ∙ none)
        ∙ (ap is_some_read (nothing_at r.work) ∙ (by_did d.did ∙ ap (λ (x : HeadStep). is_read_act x.act) (sym d.turn_is)))

-- A fault

-- the waivers of a slot are all waived
pub all_waived : (start : Start) (log : Log) (present : ℕ) (ws : List Waived) (t : Table) (f : FlashState) (n : ℕ)
    → IsHeadInSlot start log present ws t f n → AreWaived t.jobs ws
all_waived start log present ws t f n h = subst (λ (js : List JobRecord). AreWaived js ws) (sym h.table.were)
    (AreWaived-waived_in (job_records start log) ws h.table.were_pending)

-- What a slot is refused with

at_clock : (m n : ℕ) → m ≤ n → nat_le m n ≡ true
at_clock m n h = grind (arith, nat_tests)

pub slot_refused : (start : Start) (log : Log) (present : ℕ) → present ≡ now log → MAX_SLOT ≤ present → answer start log events.Slot
    ≡ replies.Refused ClockEnd
slot_refused start log present is past = refused_answer start log events.Slot ClockEnd
    (rw (at_clock MAX_SLOT (now log) (subst (λ (n : ℕ). MAX_SLOT ≤ n) is past)) refl)

pub slot_accepts : (start : Start) (log : Log) (present : ℕ) → present ≡ now log → present < MAX_SLOT
    → IsAccepted (answer start log events.Slot)
slot_accepts start log present is few = subst IsAccepted (sym
    (accepted_answer start log events.Slot (slot_unrefused start log present is few))) tt
