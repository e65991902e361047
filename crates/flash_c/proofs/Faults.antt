-- Why a die does not go on from what the arrays say.
use Rattle.std.proofs.Common.{◌≡◌, ℕ, refl, subst, arith}
use Rattle.slot_types.specs.declared.plans.DiePlan.{DiePlan}
use Rattle.die_checkpoint.specs.declared.checkpoint.Checkpoint.{Checkpoint}
use Rattle.die_checkpoint.specs.declared.fault.CheckpointFault.{CheckpointFault}
use Rattle.die_checkpoint.specs.declared.fault.CheckpointFault.TheVariants as faults
use Rattle.die_checkpoint.specs.Faults.{HasCheckpointFault}
use Rattle.flash_c.specs.declared.shapes.FlashWhy.{FlashWhy}
use Rattle.flash_c.specs.Checkpoints.{SaysFault, fault_code, fault_why}
use Rattle.flash_c.specs.Codes.{two}

-- the fault of the checkpoint that was made of the arrays is that of what the arrays stand for
pub reports_fault : (made plan : DiePlan) (taken c : Checkpoint) (fault : CheckpointFault) (code : ℕ) (why : FlashWhy) → made ≡ plan
    → taken ≡ c → HasCheckpointFault made taken fault → code ≡ fault_code fault → why ≡ fault_why fault → SaysFault plan c code why
reports_fault made plan taken c fault code why of_plan of_arrays has code_is why_is = record {
  fault = fault;
  has = subst (λ (k : Checkpoint). HasCheckpointFault plan k fault) of_arrays
      (subst (λ (p : DiePlan). HasCheckpointFault p taken fault) of_plan has);
  code_is = code_is;
  why_is = why_is;
}

-- where there was no memory, nothing is named
pub no_memory_names_nothing : (fault : CheckpointFault) → fault_code fault ≡ 1 → fault_why fault ≡ two 0 0
no_memory_names_nothing faults.NoMemory e = refl
no_memory_names_nothing faults.OtherShape e = absurd (omega (arith, e))
no_memory_names_nothing faults.BadPlan e = absurd (omega (arith, e))
no_memory_names_nothing (faults.Overfull block) e = absurd (omega (arith, e))
no_memory_names_nothing (faults.SecondOpen block) e = absurd (omega (arith, e))
no_memory_names_nothing (faults.WornOut block) e = absurd (omega (arith, e))
no_memory_names_nothing (faults.Unprogrammed page) e = absurd (omega (arith, e))
no_memory_names_nothing (faults.AboveCap task) e = absurd (omega (arith, e))
no_memory_names_nothing (faults.OtherSum accounts free) e = absurd (omega (arith, e))
no_memory_names_nothing (faults.SharedCell page) e = absurd (omega (arith, e))
