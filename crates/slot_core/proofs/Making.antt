-- What a step makes of the device.
use Rattle.std.proofs.Common.{◌≡◌, Bool, true, false, List, Option, Some, refl, slice_get}
use Rattle.std.specs.Prelude.{IsSome}
use Rattle.slot_types.specs.declared.events.Op.{Op}
use Rattle.flash_die.specs.Flash.{Block}
use Rattle.flash_die.specs.declared.nand.NandCall.{NandCall}
use Rattle.flash_volume.specs.declared.collection.Collection.{Collection}
use Rattle.flash_volume.specs.Calls.{call_of}
use Rattle.flash_volume.specs.Running.{running_of}
use Rattle.flash_volume.specs.State.{State}
use Rattle.flash_volume.specs.Steps.{EndsStep}
use Rattle.job_table.specs.Jobs.{JobRecord}
use Rattle.slot_core.specs.NextSlot.{kind_of_op, kind_of_step}
use Rattle.slot_core.specs.Needs.{IsOnlyCall}
use Rattle.slot_core.specs.NextHeadSteps.{op_call, HeadStepMakes}

-- an operation of a job
pub op_makes : {N : Type 0} (ends : N → NandCall → Bool → N → Type 0) (blocks_of : N → List Block) (v w : State N) (r : JobRecord) (op : Op)
    (well : Bool) → r.collects ≡ false → slice_get r.ops r.work ≡ Some op → IsOnlyCall ends (op_call blocks_of v op) well v.device w.device
    → (well ≡ false → IsSome (op_call blocks_of v op)) → HeadStepMakes ends blocks_of v r well w
op_makes ends blocks_of v w r op well plain next made needs = record {
  kind = kind_of_op op;
  call = op_call blocks_of v op;
  next = rw plain (record { op = op; next = next; kind_is = refl; call_is = refl });
  made = made;
  needs = needs;
}

-- a step of a collection
pub run_makes : {N : Type 0} (ends : N → NandCall → Bool → N → Type 0) (blocks_of : N → List Block) (v w : State N) (r : JobRecord)
    (c : Collection) (well : Bool) → r.collects ≡ true → running_of v.running r.task ≡ Some c → EndsStep ends blocks_of v c well w
    → HeadStepMakes ends blocks_of v r well w
run_makes ends blocks_of v w r c well collects runs e = record {
  kind = kind_of_step e.step;
  call = Some (call_of e.step);
  next = rw collects (record { collection = c; runs = runs; step = e.step; is = e.is; kind_is = refl; call_is = refl });
  made = e.ended;
  needs = λ fails. refl;
}
