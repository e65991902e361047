-- What one more event makes of the log that a die's jobs and events tell.
use Rattle.std.proofs.Common.{◌≡◌, ℕ, suc, ◌+◌, ◌<◌, ◌^◌, Bool, true, false, List, [], ◌∷◌, ◌++◌, map, Option, Some, None, refl, ap, sym}
use Rattle.std.proofs.Common.{◌∙◌, subst, length, slice_get, arith, length-append}
use Rattle.slot_types.specs.declared.plans.DiePlan.{DiePlan}
use Rattle.slot_types.specs.declared.events.Op.{Op}
use Rattle.slot_types.specs.declared.events.Event.TheVariants as events
use Rattle.slot_types.specs.declared.replies.Reply.TheVariants as replies
use Rattle.slot_types.specs.declared.replies.Waived.{Waived}
use Rattle.job_table.specs.Jobs.{JobRecord, new_job, new_collection}
use Rattle.job_table.specs.Waivers.{jobs_after_waivers, jobs_after_waiver}
use Rattle.job_table.specs.declared.stages.Stage.TheVariants as stages
use Rattle.event_log.specs.declared.deeds.Deed.{Deed}
use Rattle.event_log.specs.declared.deeds.Deed.TheVariants.{Submit, Collect, Idle, Operation, LastOperation, CopyRead, CopyProgram}
use Rattle.event_log.specs.declared.deeds.Deed.TheVariants.{EraseSlot, LastEraseSlot}
use Rattle.event_log.specs.Notes.{Note}
use Rattle.event_log.specs.Entries.{event_of, ran_by, reply_of, slots_of, slots_in, entries_of}
use Rattle.event_log.specs.Slots.{slot_by, with_carried, carried_in}
use Rattle.event_log.specs.GrownTable.{Fits, AllFit, Grew}
use Rattle.event_log.proofs.Growing.{entries_stay, all_fit_stay, grew_push, grew_change, grew_self, grew_then, stage_grown}
use Rattle.die_log.specs.Model.Log.{Log, Job, Carried, jobs, with_taken, with_slot, carried_slots, now}
use Rattle.die_log.specs.Model.Rows.{carried_numbers}
use Rattle.die_log.specs.Model.Answers.{IsExact, refusal_of}
use Rattle.die_log.proofs.Limits.{keeps_limits}
use Rattle.std.specs.Prelude.{option_map, Result, Ok, Err, IfOk, OnOk, OnErr}
use Rattle.slot_types.specs.declared.refusals.Refusal.{Refusal}
use Rattle.flash_die.specs.Flash as device
use Rattle.flash_volume.specs.State.{State}
use Rattle.job_table.specs.Table.{Table, with_job}
use Rattle.slot_core.specs.Core.{with_entry}
use Rattle.slot_core.specs.Device.{flash_of}
use Rattle.slot_core.specs.Records.{job_records}
use Rattle.slot_core.specs.TableLog.{log_of, SaysLog}
use Rattle.slot_core.proofs.Keeping.{collect_kept}
use Rattle.die_log.specs.Model.Start.{Start, over}

abbrev job_by : ℕ → Bool → ℕ → ℕ → ℕ → List Op → Job
job_by number collects task release due ops = record {
  number = number;
  collects = collects;
  task = task;
  release = release;
  due = due;
  ops
      = ops;
}

-- How many events there are

pub length_reported : (js : List JobRecord) (notes : List Note) → length (entries_of js notes) ≡ length notes
length_reported js [] = refl
length_reported js (s ∷ past) = ap suc (length_reported js past)

-- an event is a slot, or an arrival that is taken
one_more : (js : List JobRecord) (slot : ℕ) (ws : List Waived) (d : Deed) (cs : List Carried) (earlier : List Job) → Fits js d
    → length (with_slot (reply_of js slot ws d) cs) + length (with_taken (event_of js d) (reply_of js slot ws d) earlier)
    ≡ length cs + length earlier + 1
one_more js slot ws (Submit n) cs earlier fits = rw fits.1
    (omega (arith, length-append earlier (job_by n false fits.0.task fits.0.release fits.0.due fits.0.ops ∷ [])))
one_more js slot ws (Collect n) cs earlier fits = rw fits.1
    (omega (arith, length-append earlier (job_by n true fits.0.task fits.0.release fits.0.due [] ∷ [])))
one_more js slot ws Idle cs earlier fits = omega (arith, length-append cs (ran_by js Idle ∷ []))
one_more js slot ws (Operation n p) cs earlier fits = omega (arith, length-append cs (ran_by js (Operation n p) ∷ []))
one_more js slot ws (LastOperation n p) cs earlier fits = omega (arith, length-append cs (ran_by js (LastOperation n p) ∷ []))
one_more js slot ws (CopyRead n p) cs earlier fits = omega (arith, length-append cs (ran_by js (CopyRead n p) ∷ []))
one_more js slot ws (CopyProgram n p) cs earlier fits = omega (arith, length-append cs (ran_by js (CopyProgram n p) ∷ []))
one_more js slot ws (EraseSlot n b) cs earlier fits = omega (arith, length-append cs (ran_by js (EraseSlot n b) ∷ []))
one_more js slot ws (LastEraseSlot n b) cs earlier fits = omega (arith, length-append cs (ran_by js (LastEraseSlot n b) ∷ []))

all_reported : (js : List JobRecord) (notes : List Note) → AllFit js notes → length notes
    ≡ now (entries_of js notes) + length (jobs (entries_of js notes))
all_reported js [] fits = refl
all_reported js (s ∷ past) fits =
    omega (
      arith,
      all_reported js past fits.1,
      one_more js (slots_in past) s.waived s.deed (carried_slots (entries_of js past))
          (jobs (entries_of js past)) fits.0,
    )

-- a die has room for one more event's number
pub few_reported : (start : Start) (js : List JobRecord) (notes : List Note) → IsExact start (entries_of js notes) → AllFit js notes
    → length notes + 1 < 2 ^ 32
few_reported start js notes exact fits =
    let limits = keeps_limits start (entries_of js notes) exact in
    omega (arith, limits.slots, limits.few_jobs, all_reported js notes fits)

-- as a slot finds it
pub few_of : (start : Start) (js : List JobRecord) (notes : List Note) (log : Log) → entries_of js notes ≡ log → IsExact start log
    → AllFit js notes → length notes + 1 < 2 ^ 32
few_of start js notes log said exact fits = few_reported start js notes (subst (IsExact start) (sym said) exact) fits

slot_more : (js : List JobRecord) (slot : ℕ) (ws : List Waived) (d : Deed) (cs : List Carried)
    → length (with_slot (reply_of js slot ws d) cs) ≡ slots_of d + length cs
slot_more js slot ws (Submit n) cs = omega arith
slot_more js slot ws (Collect n) cs = omega arith
slot_more js slot ws Idle cs = omega (arith, length-append cs (ran_by js Idle ∷ []))
slot_more js slot ws (Operation n p) cs = omega (arith, length-append cs (ran_by js (Operation n p) ∷ []))
slot_more js slot ws (LastOperation n p) cs = omega (arith, length-append cs (ran_by js (LastOperation n p) ∷ []))
slot_more js slot ws (CopyRead n p) cs = omega (arith, length-append cs (ran_by js (CopyRead n p) ∷ []))
slot_more js slot ws (CopyProgram n p) cs = omega (arith, length-append cs (ran_by js (CopyProgram n p) ∷ []))
slot_more js slot ws (EraseSlot n b) cs = omega (arith, length-append cs (ran_by js (EraseSlot n b) ∷ []))
slot_more js slot ws (LastEraseSlot n b) cs = omega (arith, length-append cs (ran_by js (LastEraseSlot n b) ∷ []))

-- the present slot is the number of slots among the events
pub now_reported : (js : List JobRecord) (notes : List Note) → now (entries_of js notes) ≡ slots_in notes
now_reported js [] = refl
now_reported js (s ∷ past) = slot_more js (slots_in past) s.waived s.deed (carried_slots (entries_of js past))
    ∙ ap (λ n. slots_of s.deed + n) (now_reported js past)

-- What slots carried

numbers_more : (c : Carried) (cs : List Carried)
    → map (λ (x : Carried). option_map (λ ran. ran.0) x) (cs ++ c ∷ [])
    ≡ map (λ (x : Carried). option_map (λ ran. ran.0) x) cs ++ option_map (λ ran. ran.0) c ∷ []
numbers_more c [] = refl
numbers_more c (x ∷ cs) = ap (λ ys. option_map (λ ran. ran.0) x ∷ ys) (numbers_more c cs)

numbers_with : (js : List JobRecord) (slot : ℕ) (ws : List Waived) (d : Deed) (cs : List Carried)
    → map (λ (x : Carried). option_map (λ ran. ran.0) x) (with_slot (reply_of js slot ws d) cs)
    ≡ with_carried (map (λ (x : Carried). option_map (λ ran. ran.0) x) cs) (slot_by d)
numbers_with js slot ws (Submit n) cs = refl
numbers_with js slot ws (Collect n) cs = refl
numbers_with js slot ws Idle cs = numbers_more (ran_by js Idle) cs
numbers_with js slot ws (Operation n p) cs = numbers_more (ran_by js (Operation n p)) cs
numbers_with js slot ws (LastOperation n p) cs = numbers_more (ran_by js (LastOperation n p)) cs
numbers_with js slot ws (CopyRead n p) cs = numbers_more (ran_by js (CopyRead n p)) cs
numbers_with js slot ws (CopyProgram n p) cs = numbers_more (ran_by js (CopyProgram n p)) cs
numbers_with js slot ws (EraseSlot n b) cs = numbers_more (ran_by js (EraseSlot n b)) cs
numbers_with js slot ws (LastEraseSlot n b) cs = numbers_more (ran_by js (LastEraseSlot n b)) cs

-- the numbers that the slots of a told log carried are read off its notes
pub numbers_reported : (js : List JobRecord) (notes : List Note) → carried_numbers (entries_of js notes) ≡ carried_in notes
numbers_reported js [] = refl
numbers_reported js (s ∷ past) =
    numbers_with js (slots_in past) s.waived s.deed (carried_slots (entries_of js past))
    ∙ ap (λ ks. with_carried ks (slot_by s.deed)) (numbers_reported js past)

-- Arrivals

pub get_here : {T : Type 0} (xs : List T) (x : T) → slice_get (xs ++ x ∷ []) (length xs) ≡ Some x
get_here [] x = refl
get_here (y ∷ xs) x = get_here xs x

pub submit_reported : (js : List JobRecord) (notes : List Note) (caller n task release due : ℕ) (ops : List Op) → n ≡ length js
    → AllFit js notes
    → (entries_of (js ++ new_job task release due ops ∷ []) (record { caller = caller; deed = Submit n; waived = [] } ∷ notes)
    ≡ with_entry caller (events.Submit task release due ops) (replies.Taken n) (entries_of js notes))
    × AllFit (js ++ new_job task release due ops ∷ []) (record { caller = caller; deed = Submit n; waived = [] } ∷ notes)
submit_reported js notes caller n task release due ops is fits =
    let grew = grew_push js (new_job task release due ops) in
    let here : slice_get (js ++ new_job task release due ops ∷ []) n
    ≡ Some (new_job task release due ops) = rw is (get_here js (new_job task release due ops)) in (
      rw (here, entries_stay js (js ++ new_job task release due ops ∷ []) notes grew fits) refl,
      ((new_job task release due ops, here), all_fit_stay js (js ++ new_job task release due ops ∷ []) notes grew fits),
    )

pub collect_reported : (js : List JobRecord) (notes : List Note) (caller n task release due : ℕ) → n ≡ length js → AllFit js notes
    → (entries_of (js ++ new_collection task release due ∷ []) (record { caller = caller; deed = Collect n; waived = [] } ∷ notes)
    ≡ with_entry caller (events.Collect task release due) (replies.Taken n) (entries_of js notes))
    × AllFit (js ++ new_collection task release due ∷ []) (record { caller = caller; deed = Collect n; waived = [] } ∷ notes)
collect_reported js notes caller n task release due is fits =
    let grew = grew_push js (new_collection task release due) in
    let here : slice_get (js ++ new_collection task release due ∷ []) n
    ≡ Some (new_collection task release due) = rw is (get_here js (new_collection task release due)) in (
      rw (here, entries_stay js (js ++ new_collection task release due ∷ []) notes grew fits) refl,
      ((new_collection task release due, here), all_fit_stay js (js ++ new_collection task release due ∷ []) notes grew fits),
    )

-- as a call finds them
pub submit_reports : (t u : Table) (before after : List Note) (caller n task release due : ℕ) (ops : List Op) → u
    ≡ with_job t (new_job task release due ops) → n ≡ length t.jobs
    → after ≡ record { caller = caller; deed = Submit n; waived = [] } ∷ before → AllFit t.jobs before
    → (log_of u after ≡ with_entry caller (events.Submit task release due ops) (replies.Taken n) (log_of t before)) × AllFit u.jobs after
submit_reports t u before after caller n task release due ops table_is is logged fits = rw (table_is, logged)
    (submit_reported t.jobs before caller n task release due ops is fits)

pub collect_enters : (start : Start) {N : Type 0} (blocks_of : N → List device.Block) (before after : List Note) (present caller task release due : ℕ)
    (t u : Table) (v : State N) (r : Result ℕ Refusal)
    → SaysLog (over v.accounts.plan start) present t before v.failed (flash_of blocks_of v) → v.failed ≡ false
    → refusal_of (over v.accounts.plan start) (log_of t before) (events.Collect task release due) ≡ None
    → OnOk r (u ≡ with_job t (new_collection task release due)) → IfOk r (λ number. number ≡ length t.jobs)
    → IfOk r (λ number. after ≡ record { caller = caller; deed = Collect number; waived = [] } ∷ before)
    → OnErr r (u ≡ t) → OnErr r (after ≡ before)
    → SaysLog (over v.accounts.plan start) present u after v.failed (flash_of blocks_of v)
collect_enters start blocks_of before after present caller task release due t u v (Ok number) holds alive none table_is number_is logged
    table_stays log_stays =
    let says : (log_of u after ≡ with_entry caller (events.Collect task release due) (replies.Taken number) (log_of t before))
    × AllFit u.jobs after =
    rw (table_is, logged) (collect_reported t.jobs before caller number task release due number_is holds.fits) in
    record {
      kept = collect_kept start blocks_of (log_of t before) (log_of u after) present caller number task release due t u v holds.kept alive none
          number_is table_is says.0;
      fits = says.1;
    }
collect_enters start blocks_of before after present caller task release due t u v (Err refusal) holds alive none table_is number_is logged
    table_stays log_stays = rw (table_stays, log_stays) holds

pub collect_logged : (t u : Table) (before after : List Note) (caller task release due : ℕ) (r : Result ℕ Refusal) → AllFit t.jobs before
    → OnOk r (u ≡ with_job t (new_collection task release due)) → IfOk r (λ number. number ≡ length t.jobs)
    → IfOk r (λ number. after ≡ record { caller = caller; deed = Collect number; waived = [] } ∷ before)
    → IfOk r (λ number. log_of u after ≡ with_entry caller (events.Collect task release due) (replies.Taken number) (log_of t before))
collect_logged t u before after caller task release due (Ok number) fits table_is number_is logged = rw (table_is, logged)
    (collect_reported t.jobs before caller number task release due number_is fits).0
collect_logged t u before after caller task release due (Err refusal) fits table_is number_is logged = tt

-- Slots

-- waivers change no more than how jobs stand
pub grew_waived : (js : List JobRecord) (ws : List Waived) → Grew js (jobs_after_waivers js ws)
grew_waived js [] = grew_self js
grew_waived js (w ∷ ws) =
    grew_then js (jobs_after_waiver js w) (jobs_after_waivers (jobs_after_waiver js w) ws) (grew_change js w.number _ (stage_grown (stages.Waived w.given)))
    (grew_waived (jobs_after_waiver js w) ws)

-- so the jobs grew, where collections were waived in a slot
pub slot_grew : (start : Start) (plan same : DiePlan) (log : Log) (js later : List JobRecord) (ws : List Waived) → same ≡ plan → js ≡ job_records (over plan start) log
    → later ≡ jobs_after_waivers (job_records (over same start) log) ws → Grew js later
slot_grew start plan same log js later ws plan_is jobs_are were = rw (were, plan_is, jobs_are) (grew_waived (job_records (over plan start) log) ws)

pub idle_reported : (js later : List JobRecord) (notes : List Note) (log : Log) (caller present : ℕ) (ws : List Waived) → entries_of js notes
    ≡ log → AllFit js notes → Grew js later → present ≡ now log
    → entries_of later (record { caller = caller; deed = Idle; waived = ws } ∷ notes)
    ≡ with_entry caller events.Slot (replies.Slot (record { slot = present; waived = ws; ran = None; finished = None })) log
idle_reported js later notes log caller present ws said fits grew is =
    let slot : slots_in notes ≡ present = sym (now_reported js notes) ∙ ap now said ∙ sym is in
    rw (entries_stay js later notes grew fits, said, slot) refl
