-- What the head of a slot does, and what that leaves in the volume and in the table.
use Rattle.std.specs.Prelude.{◌≡◌, ℕ, ◌+◌, ◌<◌, ◌≤◌, ◌==◌, ◌&&◌, Bool, true, false, List, length, Option, Some, None, slice_get}
use Rattle.std.specs.Prelude.{slice_index}
use Rattle.slot_types.specs.declared.acts.Act.{Act}
use Rattle.slot_types.specs.declared.acts.Act.TheVariants as does
use Rattle.slot_types.specs.declared.events.Op.{Op}
use Rattle.event_log.specs.declared.deeds.Deed.{Deed}
use Rattle.event_log.specs.declared.deeds.Deed.TheVariants as deeds
use Rattle.flash_die.specs.Flash.{Block, block_at}
use Rattle.flash_volume.specs.declared.collection.Collection.{Collection}
use Rattle.flash_volume.specs.declared.collection.Collected.{Collected}
use Rattle.flash_volume.specs.declared.collection.Collected.TheVariants as acts
use Rattle.flash_volume.specs.Running.{running_of}
use Rattle.flash_volume.specs.Acts.{Waives, Begins, Does}
use Rattle.flash_volume.specs.State.{State}
use Rattle.job_table.specs.declared.stages.Stage.TheVariants.{Done}
use Rattle.job_table.specs.Jobs.{JobRecord, with_one_more_slot, with_read, with_stage}
use Rattle.job_table.specs.Table.{Table, with_change}
use Rattle.slot_types.specs.Operations.{is_write, page_of}
use Rattle.slot_core.specs.declared.head_step.HeadStep.{HeadStep}
use Rattle.slot_core.specs.Device.{flash_of}
use Rattle.slot_core.specs.OpEffects.{act_by, flash_after_op}

-- The beginning of a collection

-- a collection that has not begun
abbrev pub is_fresh : JobRecord → Bool
is_fresh job = job.collects && (job.work == 0)

-- it is waived and gives `given` pages, or takes its victim
abbrev pub BeginsFresh : {N : Type 0} → (N → List Block) → State N → ℕ → Option ℕ → State N → Type 0
BeginsFresh blocks old task (Some given) new = Waives old task given new
BeginsFresh blocks old task None new = (victim : ℕ) × Begins blocks old task victim new

abbrev pub BeginsBy : {N : Type 0} → (N → List Block) → State N → ℕ → Bool → Option ℕ → State N → Type 0
BeginsBy blocks old task true result new = BeginsFresh blocks old task result new
BeginsBy blocks old task false result new = (result ≡ None) × (new ≡ old)

-- what is no collection that has not begun leaves the volume as it is
abbrev pub BeginsAs : {N : Type 0} → (N → List Block) → State N → JobRecord → Option ℕ → State N → Type 0
BeginsAs blocks old job result new = BeginsBy blocks old job.task (is_fresh job) result new

-- The step

-- what an operation of a job finds on a volume: a page of the die, and a page that its task holds if it is a write
pub record OpFits {N : Type 0} (v : State N) (job : JobRecord) : Type 0 where
  pub op : Op
  pub next : slice_get job.ops job.work ≡ Some op
  pub page : page_of op < length v.pages
  pub held : is_write op ≡ true → 0 < slice_index v.accounts.holds job.task

-- what a collection finds: it runs, and its block can be erased once more
pub record RunFits {N : Type 0} (blocks : N → List Block) (v : State N) (job : JobRecord) : Type 0 where
  pub collection : Collection
  pub runs : running_of v.running job.task ≡ Some collection
  pub few_erases : (block_at (blocks v.device) collection.victim).erases < 4294967295

-- what the head finds on a volume
pub record HeadFits {N : Type 0} (blocks : N → List Block) (v : State N) (job : JobRecord) : Type 0 where
  pub task : job.task < length v.accounts.plan.caps
  pub op : job.collects ≡ false → OpFits v job
  pub run : job.collects ≡ true → RunFits blocks v job

-- the step of a collection that did this
abbrev pub head_step_by : Collected → HeadStep
head_step_by (acts.CopyRead page) = record { act = does.CopyRead page; last = false; given = 0 }
head_step_by (acts.CopyProgram page) = record { act = does.CopyProgram page; last = false; given = 0 }
head_step_by (acts.EraseSlot block) = record { act = does.Erase block; last = false; given = 0 }
head_step_by (acts.Finished block given) = record { act = does.Erase block; last = true; given = given }

-- a job did its next operation
pub record DidOp {N : Type 0} (blocks : N → List Block) (old : State N) (job : JobRecord) (turn : HeadStep) (new : State N) : Type 0 where
  pub op : Op
  pub next : slice_get job.ops job.work ≡ Some op
  pub turn_is : turn ≡ record { act = act_by (flash_of blocks old) op; last = job.work + 1 == length job.ops; given = 0 }
  pub flash : flash_of blocks new ≡ flash_after_op (flash_of blocks old) job.task op

-- a collection did a slot of its work
pub record DidCollect {N : Type 0} (blocks : N → List Block) (old : State N) (task : ℕ) (turn : HeadStep) (new : State N) : Type 0 where
  pub collection : Collection
  pub runs : running_of old.running task ≡ Some collection
  pub did : Collected
  pub does_it : Does blocks old task collection did new
  pub turn_is : turn ≡ head_step_by did

abbrev pub DidBy : {N : Type 0} → (N → List Block) → State N → JobRecord → Bool → HeadStep → State N → Type 0
DidBy blocks old job true turn new = DidCollect blocks old job.task turn new
DidBy blocks old job false turn new = DidOp blocks old job turn new

abbrev pub DidHeadStep : {N : Type 0} → (N → List Block) → State N → JobRecord → HeadStep → State N → Type 0
DidHeadStep blocks old job turn new = DidBy blocks old job job.collects turn new

-- The table

-- what a read gave goes to the reads
abbrev pub after_read : Act → JobRecord → JobRecord
after_read (does.Read page bytes) job = with_read bytes job
after_read _ job = job

abbrev pub is_read_act : Act → Bool
is_read_act (does.Read page bytes) = true
is_read_act _ = false

abbrev pub table_after_end : Bool → ℕ → ℕ → ℕ → Table → Table
table_after_end true number completion given table = with_change table number (with_stage (Done completion given))
table_after_end false number completion given table = table

-- the table after a step of this number
abbrev pub table_after_step : Table → ℕ → HeadStep → ℕ → Table
table_after_step table number turn completion = table_after_end turn.last number completion turn.given
    (with_change table number (λ job. after_read turn.act (with_one_more_slot job)))

-- The log

-- what is noted of an act of this number, at this place among its operations
abbrev pub deed_by : ℕ → ℕ → Bool → Act → Deed
deed_by number place true (does.Read page bytes) = deeds.LastOperation number place
deed_by number place false (does.Read page bytes) = deeds.Operation number place
deed_by number place true (does.Write page bytes) = deeds.LastOperation number place
deed_by number place false (does.Write page bytes) = deeds.Operation number place
deed_by number place true (does.Trim page) = deeds.LastOperation number place
deed_by number place false (does.Trim page) = deeds.Operation number place
deed_by number place last (does.CopyRead page) = deeds.CopyRead number page
deed_by number place last (does.CopyProgram page) = deeds.CopyProgram number page
deed_by number place true (does.Erase block) = deeds.LastEraseSlot number block
deed_by number place false (does.Erase block) = deeds.EraseSlot number block
