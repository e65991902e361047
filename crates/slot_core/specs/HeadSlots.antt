-- What a look at the head of a slot shows.
use Rattle.std.specs.Prelude.{◌≡◌, ◌⊎◌, ℕ, List, Option, Some, None}
use Rattle.flash_die.specs.declared.nand.NandCall.{NandCall}
use Rattle.flash_die.specs.Flash.{Block}
use Rattle.flash_volume.specs.declared.collection.CollectStep.{CollectStep}
use Rattle.flash_volume.specs.Calls.{call_of}
use Rattle.flash_volume.specs.Picks.{IsCandidate}
use Rattle.flash_volume.specs.State.{State}
use Rattle.flash_volume.specs.Steps.{IsFirstStep}
use Rattle.job_table.specs.Jobs.{JobRecord}
use Rattle.slot_core.specs.declared.next_slot.NextAct.{NextAct}
use Rattle.slot_core.specs.declared.next_slot.NextSlot.{NextSlot}
use Rattle.slot_core.specs.NextSlot.{kind_of_step, nothing_next}
use Rattle.slot_core.specs.NextHeadSteps.{NextBy}

-- the slot carries the next act of this head, a job or a collection that has begun
pub record IsHeadSlot {N : Type 0} (blocks : N → List Block) (v : State N) (job : JobRecord) (number : ℕ) (slot : NextSlot) : Type 0 where
  pub kind : NextAct
  pub call : Option NandCall
  pub next : NextBy blocks v job job.collects kind call
  pub is : slot ≡ record { ran = Some (number, kind); call = call }

-- it carries the first step of a collection
pub record IsStepSlot {N : Type 0} (blocks : N → List Block) (v : State N) (number : ℕ) (slot : NextSlot) : Type 0 where
  pub step : CollectStep
  pub first : IsFirstStep blocks v step
  pub is : slot ≡ record { ran = Some (number, kind_of_step step); call = Some (call_of step) }

-- it carries nothing for lack of a block to collect
pub record HasNoVictim {N : Type 0} (blocks : N → List Block) (v : State N) (slot : NextSlot) : Type 0 where
  pub none : (block : ℕ) → ¬ IsCandidate v.accounts.plan.shape.pages (blocks v.device) v.running block
  pub is : slot ≡ nothing_next

-- the slot of a head that is a collection which begins
abbrev pub IsFirstSlot : {N : Type 0} → (N → List Block) → State N → ℕ → NextSlot → Type 0
IsFirstSlot blocks v number slot = IsStepSlot blocks v number slot ⊎ HasNoVictim blocks v slot
