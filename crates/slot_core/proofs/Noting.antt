-- What a step makes of the log that a die's jobs and events tell.
use Rattle.std.proofs.Common.{◌≡◌, ℕ, ◌+◌, ◌==◌, subst, Bool, true, false, List, ◌∷◌, Some, refl, ap, sym, ◌∙◌, length, slice_get, take}
use Rattle.std.proofs.Common.{count_by}
use Rattle.slot_types.specs.declared.acts.Act.{Act}
use Rattle.slot_types.specs.declared.acts.Act.TheVariants as does
use Rattle.slot_types.specs.declared.events.Op.{Op}
use Rattle.slot_types.specs.declared.events.Op.TheVariants as asks
use Rattle.slot_types.specs.declared.events.Event.TheVariants as events
use Rattle.slot_types.specs.declared.replies.Reply.TheVariants as replies
use Rattle.slot_types.specs.declared.replies.SlotReply.{SlotReply}
use Rattle.slot_types.specs.declared.replies.Waived.{Waived}
use Rattle.slot_types.specs.declared.pages.PageData.{PageData}
use Rattle.flash_die.specs.Flash as device
use Rattle.flash_volume.specs.declared.collection.Collected.{Collected}
use Rattle.flash_volume.specs.declared.collection.Collected.TheVariants as acts_of
use Rattle.flash_volume.specs.State.{State}
use Rattle.job_table.specs.declared.stages.Stage.TheVariants.{Done}
use Rattle.job_table.specs.Jobs.{JobRecord, is_read, with_stage}
use Rattle.job_table.specs.Jobs as jobs_table
use Rattle.job_table.specs.Table.{Table, with_change, changed_at}
use Rattle.job_table.proofs.Changed.{changed_here}
use Rattle.event_log.specs.declared.deeds.Deed.{Deed}
use Rattle.event_log.specs.Notes.{Note}
use Rattle.event_log.specs.Entries.{act_at, slots_in, entries_of}
use Rattle.event_log.specs.GrownTable.{HasDone, Fits, AllFit, IsGrown, Grew}
use Rattle.event_log.proofs.Growing.{entries_stay, all_fit_stay, carried_grown, read_grown, stage_grown, grew_change, grew_then}
use Rattle.die_log.specs.Model.Log.{Log, now}
use Rattle.slot_core.specs.Core.{with_entry}
use Rattle.slot_core.specs.Device.{FlashState, flash_of}
use Rattle.slot_core.specs.TableLog.{log_of}
use Rattle.slot_core.specs.OpEffects.{act_by}
use Rattle.slot_core.specs.declared.head_step.HeadStep.{HeadStep}
use Rattle.slot_core.specs.HeadSteps.{after_read, table_after_end, table_after_step, head_step_by, deed_by, DidBy, DidHeadStep}
use Rattle.slot_core.proofs.Slotting.{turn_reply, turned, turn_change}
use Rattle.slot_core.proofs.Telling.{get_here, now_reported}

-- The jobs after a step

act_grown : (act : Act) (job : JobRecord) → IsGrown job (after_read act (jobs_table.with_one_more_slot job))
act_grown (does.Read page bytes) job = read_grown bytes job
act_grown (does.Write page bytes) job = carried_grown job
act_grown (does.Trim page) job = carried_grown job
act_grown (does.CopyRead page) job = carried_grown job
act_grown (does.CopyProgram page) job = carried_grown job
act_grown (does.Erase block) job = carried_grown job

pub turn_grew : (t : Table) (n : ℕ) (turn : HeadStep) (completion : ℕ) → Grew t.jobs (table_after_step t n turn completion).jobs
turn_grew t n turn completion = by_last turn.last
  where
    acted : Grew t.jobs (changed_at t.jobs n (λ job. after_read turn.act (jobs_table.with_one_more_slot job)))
    acted = grew_change t.jobs n (λ job. after_read turn.act (jobs_table.with_one_more_slot job)) (act_grown turn.act)

    by_last : (b : Bool) → Grew t.jobs (table_after_end b n completion turn.given
        (with_change t n (λ job. after_read turn.act (jobs_table.with_one_more_slot job)))).jobs
    by_last true = grew_then _ _ _ acted (grew_change (changed_at t.jobs n (λ job. after_read turn.act (jobs_table.with_one_more_slot job))) n
        (with_stage (Done completion turn.given)) (stage_grown (Done completion turn.given)))
    by_last false = acted

-- the head's record after a step has its operations, and its reads with what this one gave
pub record IsTurned (later : List JobRecord) (n : ℕ) (r : JobRecord) (act : Act) : Type 0 where
  pub moved : JobRecord
  pub is_at : slice_get later n ≡ Some moved
  pub ops_are : moved.ops ≡ r.ops
  pub reads_are : moved.reads ≡ (after_read act r).reads

turned_ops : (act : Act) (last : Bool) (completion given : ℕ) (r : JobRecord)
    → (turned (record { act = act; last = last; given = given }) completion r).ops ≡ r.ops
turned_ops (does.Read page bytes) true completion given r = refl
turned_ops (does.Read page bytes) false completion given r = refl
turned_ops (does.Write page bytes) true completion given r = refl
turned_ops (does.Write page bytes) false completion given r = refl
turned_ops (does.Trim page) true completion given r = refl
turned_ops (does.Trim page) false completion given r = refl
turned_ops (does.CopyRead page) true completion given r = refl
turned_ops (does.CopyRead page) false completion given r = refl
turned_ops (does.CopyProgram page) true completion given r = refl
turned_ops (does.CopyProgram page) false completion given r = refl
turned_ops (does.Erase block) true completion given r = refl
turned_ops (does.Erase block) false completion given r = refl

turned_reads : (act : Act) (last : Bool) (completion given : ℕ) (r : JobRecord)
    → (turned (record { act = act; last = last; given = given }) completion r).reads ≡ (after_read act r).reads
turned_reads (does.Read page bytes) true completion given r = refl
turned_reads (does.Read page bytes) false completion given r = refl
turned_reads (does.Write page bytes) true completion given r = refl
turned_reads (does.Write page bytes) false completion given r = refl
turned_reads (does.Trim page) true completion given r = refl
turned_reads (does.Trim page) false completion given r = refl
turned_reads (does.CopyRead page) true completion given r = refl
turned_reads (does.CopyRead page) false completion given r = refl
turned_reads (does.CopyProgram page) true completion given r = refl
turned_reads (does.CopyProgram page) false completion given r = refl
turned_reads (does.Erase block) true completion given r = refl
turned_reads (does.Erase block) false completion given r = refl

turned_at : (t : Table) (n : ℕ) (turn : HeadStep) (completion : ℕ) (r : JobRecord) → slice_get t.jobs n ≡ Some r
    → IsTurned (table_after_step t n turn completion).jobs n r turn.act
turned_at t n turn completion r at = record {
  moved = turned turn completion r;
  is_at = rw (turn_change t n turn completion, changed_here t.jobs n (turned turn completion), at) refl;
  ops_are = turned_ops turn.act turn.last completion turn.given r;
  reads_are = turned_reads turn.act turn.last completion turn.given r;
}

-- What was done stands

pub record Stands (later : List JobRecord) (n place : ℕ) (act : Act) : Type 0 where
  pub act_is : act_at later n place ≡ act
  pub done : HasDone later n place

read_stands : (later : List JobRecord) (n : ℕ) (r : JobRecord) (page : ℕ) (bytes : PageData) → IsTurned later n r (does.Read page bytes)
    → slice_get r.ops r.work ≡ Some (asks.Read page)
    → length r.reads ≡ count_by is_read (take r.work r.ops) → Stands later n r.work (does.Read page bytes)
read_stands later n r page bytes m next counted = record {
  act_is = rw (m.is_at, m.ops_are, next, m.reads_are, ← counted, get_here r.reads bytes) refl;
  done = record {
    job = m.moved;
    is_at = m.is_at;
    op = asks.Read page;
    stands = rw m.ops_are next;
    gave = λ reads. (bytes, rw (m.reads_are, m.ops_are, ← counted) (get_here r.reads bytes));
  };
}

op_stands : (later : List JobRecord) (n : ℕ) (r : JobRecord) (f : FlashState) (op : Op) → IsTurned later n r (act_by f op)
    → slice_get r.ops r.work ≡ Some op → length r.reads ≡ count_by is_read (take r.work r.ops)
    → Stands later n r.work (act_by f op)
op_stands later n r f (asks.Write page bytes) m next counted = record {
  act_is = rw (m.is_at, m.ops_are, next) refl;
  done = record { job = m.moved; is_at = m.is_at; op = asks.Write page bytes; stands = rw m.ops_are next; gave = λ reads. absurd cc };
}
op_stands later n r f (asks.Trim page) m next counted = record {
  act_is = rw (m.is_at, m.ops_are, next) refl;
  done = record { job = m.moved; is_at = m.is_at; op = asks.Trim page; stands = rw m.ops_are next; gave = λ reads. absurd cc };
}
op_stands later n r f (asks.Read page) m next counted = read_stands later n r page _ m next counted

-- What is noted of it

-- the events with one more tell the log with this step, and fit
pub record Noted (later : List JobRecord) (notes : List Note) (log : Log) (caller present : ℕ) (ws : List Waived) (n place : ℕ)
    (turn : HeadStep) : Type 0 where
  pub says : entries_of later (record { caller = caller; deed = deed_by n place turn.last turn.act; waived = ws } ∷ notes)
      ≡ with_entry caller events.Slot (replies.Slot (turn_reply present ws n turn)) log
  pub fits : Fits later (deed_by n place turn.last turn.act)

op_noted : (later : List JobRecord) (notes : List Note) (log : Log) (caller present : ℕ) (ws : List Waived) (n place given : ℕ)
    (f : FlashState) (op : Op) (last : Bool) → Stands later n place (act_by f op)
    → entries_of later notes ≡ log → slots_in notes ≡ present
    → Noted later notes log caller present ws n place (record { act = act_by f op; last = last; given = given })
op_noted later notes log caller present ws n place given f (asks.Read page) true st said slot = record
    { says = rw (st.act_is, said, slot) refl; fits = st.done }
op_noted later notes log caller present ws n place given f (asks.Read page) false st said slot = record
    { says = rw (st.act_is, said, slot) refl; fits = st.done }
op_noted later notes log caller present ws n place given f (asks.Write page bytes) true st said slot = record
    { says = rw (st.act_is, said, slot) refl; fits = st.done }
op_noted later notes log caller present ws n place given f (asks.Write page bytes) false st said slot = record
    { says = rw (st.act_is, said, slot) refl; fits = st.done }
op_noted later notes log caller present ws n place given f (asks.Trim page) true st said slot = record
    { says = rw (st.act_is, said, slot) refl; fits = st.done }
op_noted later notes log caller present ws n place given f (asks.Trim page) false st said slot = record
    { says = rw (st.act_is, said, slot) refl; fits = st.done }

did_noted : (later : List JobRecord) (notes : List Note) (log : Log) (caller present : ℕ) (ws : List Waived) (n place : ℕ) (did : Collected)
    → entries_of later notes ≡ log → slots_in notes ≡ present
    → Noted later notes log caller present ws n place (head_step_by did)
did_noted later notes log caller present ws n place (acts_of.CopyRead page) said slot = record { says = rw (said, slot) refl; fits = tt }
did_noted later notes log caller present ws n place (acts_of.CopyProgram page) said slot = record
    { says = rw (said, slot) refl; fits = tt }
did_noted later notes log caller present ws n place (acts_of.EraseSlot block) said slot = record { says = rw (said, slot) refl; fits = tt }
did_noted later notes log caller present ws n place (acts_of.Finished block given) said slot = record
    { says = rw (said, slot) refl; fits = tt }

turn_noted : {N : Type 0} (blocks_of : N → List device.Block) (later : List JobRecord) (notes : List Note) (log : Log) (caller present : ℕ)
    (ws : List Waived) (n : ℕ) (r : JobRecord) (v w : State N) (turn : HeadStep)
    → IsTurned later n r turn.act → DidHeadStep blocks_of v r turn w → length r.reads ≡ count_by is_read (take r.work r.ops)
    → entries_of later notes ≡ log → slots_in notes ≡ present → Noted later notes log caller present ws n r.work turn
turn_noted blocks_of later notes log caller present ws n r v w turn m did counted said slot = by_kind r.collects did
  where
    by_kind : (b : Bool) → DidBy blocks_of v r b turn w → Noted later notes log caller present ws n r.work turn
    by_kind false d =
        let moved = subst (λ (x : HeadStep). IsTurned later n r x.act) d.turn_is m in
        subst (Noted later notes log caller present ws n r.work) (sym d.turn_is)
        (op_noted later notes log caller present ws n r.work 0 (flash_of blocks_of v) d.op (r.work + 1 == length r.ops)
        (op_stands later n r (flash_of blocks_of v) d.op moved d.next counted) said slot)
    by_kind true d = subst (Noted later notes log caller present ws n r.work) (sym d.turn_is)
        (did_noted later notes log caller present ws n r.work d.did said slot)

-- as a slot finds it: js were the jobs before it, and t is the table before the step
pub record Reported (js : List JobRecord) (notes after : List Note) (log : Log) (caller : ℕ) (u : Table) (reply : SlotReply) : Type 0 where
  pub says : log_of u after ≡ with_entry caller events.Slot (replies.Slot reply) log
  pub fits : AllFit u.jobs after

pub turn_reported : {N : Type 0} (blocks_of : N → List device.Block) (js : List JobRecord) (notes after : List Note) (log : Log)
    (caller present place : ℕ) (ws : List Waived) (t u : Table) (n : ℕ) (r : JobRecord) (v w : State N) (turn : HeadStep) (deed : Deed)
    (reply : SlotReply)
    → entries_of js notes ≡ log → AllFit js notes → Grew js t.jobs → present ≡ now log → slice_get t.jobs n ≡ Some r
    → DidHeadStep blocks_of v r turn w → length r.reads ≡ count_by is_read (take r.work r.ops) → place ≡ r.work
    → u ≡ table_after_step t n turn (present + 1) → deed ≡ deed_by n place turn.last turn.act → after
    ≡ record { caller = caller; deed = deed; waived = ws } ∷ notes → reply ≡ turn_reply present ws n turn
    → Reported js notes after log caller u reply
turn_reported blocks_of js notes after log caller present place ws t u n r v w turn deed reply said fits grew now_is at did counted place_is
    table_is deed_is after_is reply_is =
    rw (after_is, deed_is, place_is, reply_is, table_is)
    (record { says = noted.says; fits = (noted.fits, all_fit_stay js (table_after_step t n turn (present + 1)).jobs notes grown fits) })
  where
    grown : Grew js (table_after_step t n turn (present + 1)).jobs
    grown = grew_then js t.jobs (table_after_step t n turn (present + 1)).jobs grew (turn_grew t n turn (present + 1))

    noted : Noted (table_after_step t n turn (present + 1)).jobs notes log caller present ws n r.work turn
    noted = turn_noted blocks_of (table_after_step t n turn (present + 1)).jobs notes log caller present ws n r v w turn
        (turned_at t n turn (present + 1) r at) did counted
        (entries_stay js (table_after_step t n turn (present + 1)).jobs notes grown fits ∙ said) (sym (now_reported js notes) ∙ ap now said
        ∙ sym now_is)
