-- What the head of a slot does next on a volume, and with which call of the device.
use Rattle.std.specs.Prelude.{◌≡◌, ℕ, Bool, true, false, List, Option, Some, None, IsSome, option_map, slice_get}
use Rattle.slot_types.specs.declared.events.Op.{Op}
use Rattle.slot_types.specs.declared.events.Op.TheVariants as asks
use Rattle.slot_types.specs.Places.{place_of}
use Rattle.flash_die.specs.declared.nand.NandCall.{NandCall}
use Rattle.flash_die.specs.declared.nand.NandCall.TheVariants as calls
use Rattle.flash_die.specs.Flash.{Block}
use Rattle.flash_volume.specs.declared.collection.Collection.{Collection}
use Rattle.flash_volume.specs.declared.collection.CollectStep.{CollectStep}
use Rattle.flash_volume.specs.Calls.{call_of}
use Rattle.flash_volume.specs.Pages.{next_in}
use Rattle.flash_volume.specs.Running.{running_of}
use Rattle.flash_volume.specs.Steps.{IsCollectStep}
use Rattle.flash_volume.specs.State.{State}
use Rattle.job_table.specs.Jobs.{JobRecord}
use Rattle.slot_core.specs.declared.next_slot.NextAct.{NextAct}
use Rattle.slot_core.specs.NextSlot.{kind_of_op, kind_of_step}
use Rattle.slot_core.specs.Needs.{IsOnlyCall}

-- the call that an operation needs
abbrev pub op_call : {N : Type 0} → (N → List Block) → State N → Op → Option NandCall
op_call blocks v (asks.Read page) = option_map (λ place. calls.Read place) (place_of v.places page)
op_call blocks v (asks.Write page bytes) = Some (calls.Program (next_in blocks v) (Some page) bytes)
op_call blocks v (asks.Trim page) = None

-- a job's next operation
pub record OpNext {N : Type 0} (blocks : N → List Block) (v : State N) (job : JobRecord) (kind : NextAct) (call : Option NandCall) : Type 0
  where
    pub op : Op
    pub next : slice_get job.ops job.work ≡ Some op
    pub kind_is : kind ≡ kind_of_op op
    pub call_is : call ≡ op_call blocks v op

-- the next step of the collection that a task runs
pub record StepNext {N : Type 0} (blocks : N → List Block) (v : State N) (task : ℕ) (kind : NextAct) (call : Option NandCall) : Type 0 where
  pub collection : Collection
  pub runs : running_of v.running task ≡ Some collection
  pub step : CollectStep
  pub is : IsCollectStep blocks v collection step
  pub kind_is : kind ≡ kind_of_step step
  pub call_is : call ≡ Some (call_of step)

abbrev pub NextBy : {N : Type 0} → (N → List Block) → State N → JobRecord → Bool → NextAct → Option NandCall → Type 0
NextBy blocks v job true kind call = StepNext blocks v job.task kind call
NextBy blocks v job false kind call = OpNext blocks v job kind call

-- the head's step made the call that it needed, which ended so; only a call of the device makes it fail
pub record HeadStepMakes {N : Type 0} (ends : N → NandCall → Bool → N → Type 0) (blocks : N → List Block) (old : State N) (job : JobRecord)
    (well : Bool) (new : State N) : Type 0 where
  pub kind : NextAct
  pub call : Option NandCall
  pub next : NextBy blocks old job job.collects kind call
  pub made : IsOnlyCall ends call well old.device new.device
  pub needs : well ≡ false → IsSome call
