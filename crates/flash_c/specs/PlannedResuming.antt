-- A die that keeps its plan is written down, and goes on from there or where a mount ended, as C has it.
use Rattle.std.specs.Prelude.{false, ◌≡◌, ◌≢◌, ℕ, List, Option, Some, None, Ok, Err, vec_capacity}
use Rattle.slot_types.specs.declared.pages.PageData.{PageData}
use Rattle.slot_types.specs.declared.plans.DiePlan.{DiePlan}
use Rattle.demand_rules.specs.declared.terms.Terms.{Terms}
use Rattle.die_checkpoint.specs.declared.checkpoint.Checkpoint.{Checkpoint}
use Rattle.die_mount.specs.declared.mounted.Mounted.{Mounted}
use Rattle.die_mount.specs.declared.stage.Stage.TheVariants as stage
use Rattle.die_mount.specs.Ending.{IsEndOf}
use Rattle.die_mount.specs.Mounting.{Mounting}
use Rattle.slot_core.specs.declared.resumptions.CheckpointRefusal.TheVariants as checkpoints
use Rattle.slot_core.specs.declared.resumptions.ResumeRefusal.TheVariants as dies
use Rattle.planned_die.specs.declared.lacks.Shortage.{Shortage}
use Rattle.planned_die.specs.declared.resumptions.PlanResumeRefusal.TheVariants as plans
use Rattle.ongoing_die.specs.declared.refusals.OngoingCheckpointRefusal.TheVariants as untaken
use Rattle.ongoing_die.specs.declared.refusals.OngoingResumeRefusal.{OngoingResumeRefusal}
use Rattle.ongoing_die.specs.declared.refusals.OngoingResumeRefusal.TheVariants as refuses
use Rattle.ongoing_die.specs.Resuming.{RefusesOngoingResume, out_of_memory}
use Rattle.stepped_die.specs.declared.refusals.StepRenewalRefusal.TheVariants as renewals
use Rattle.stepped_die.specs.declared.part.Part.{Part}
use Rattle.stepped_die.specs.declared.resumptions.NamedCheckpoint.{NamedCheckpoint}
use Rattle.stepped_plan.specs.declared.refusals.PlanCheckpointRefusal.{PlanCheckpointRefusal}
use Rattle.stepped_plan.specs.declared.refusals.PlanCheckpointRefusal.TheVariants as stops
use Rattle.stepped_plan.specs.Resuming.{GoesOnPlanned, IsPlanCheckpoint}
use Rattle.stepped_plan.specs.Stages.{Stepping}
use Rattle.flash_c.specs.declared.kept.KeptDie.{KeptDie}
use Rattle.flash_c.specs.declared.recoveries.Recovery.{Recovery}
use Rattle.flash_c.specs.declared.recoveries.Recovery.TheVariants as recovery
use Rattle.flash_c.specs.declared.shapes.FlashBlock.{FlashBlock}
use Rattle.flash_c.specs.declared.shapes.FlashName.{FlashName}
use Rattle.flash_c.specs.declared.shapes.FlashPlace.{FlashPlace}
use Rattle.flash_c.specs.declared.shapes.FlashUnresumed.{FlashUnresumed}
use Rattle.flash_c.specs.declared.shapes.FlashWhy.{FlashWhy}
use Rattle.flash_c.specs.Checkpoints.{SaysCheckpoint, fault_code, fault_why}
use Rattle.flash_c.specs.Codes.{renewal_code, renewal_why, two}
use Rattle.flash_c.specs.Lists.{array_with}
use Rattle.flash_c.specs.Names.{name_of}
use Rattle.flash_c.specs.Planned.{HasRoom, terms_code}

-- Numbers of refusals

abbrev pub unwritten_code : PlanCheckpointRefusal → ℕ
unwritten_code (stops.Die (untaken.Die (checkpoints.NotRenewable why))) = renewal_code (renewals.Die why)
unwritten_code (stops.Die (untaken.Die checkpoints.NoMemory)) = 1
unwritten_code (stops.Die (untaken.AskWaits task)) = 410
unwritten_code stops.Begun = 100

-- the job or block, or the task of which an ask waits
abbrev pub unwritten_why : PlanCheckpointRefusal → FlashWhy
unwritten_why (stops.Die (untaken.Die (checkpoints.NotRenewable why))) = renewal_why (renewals.Die why)
unwritten_why (stops.Die (untaken.Die checkpoints.NoMemory)) = two 0 0
unwritten_why (stops.Die (untaken.AskWaits task)) = two task 0
unwritten_why stops.Begun = two 0 0

abbrev pub three : ℕ → ℕ → ℕ → FlashUnresumed
three first second third = record { first = first; second = second; third = third }

-- a mirror is of the plan's shape, so a device of another one doesn't come
abbrev pub unresumed_code : OngoingResumeRefusal → ℕ
unresumed_code (refuses.Plan (plans.Die dies.OtherDevice)) = 301
unresumed_code (refuses.Plan (plans.Die (dies.Unfit fault))) = fault_code fault
unresumed_code (refuses.Plan (plans.Terms fault)) = terms_code fault
unresumed_code (refuses.Plan plans.NoLife) = 405
unresumed_code (refuses.Plan (plans.NotStocked shortage)) = 411
unresumed_code (refuses.ShortLife task) = 406

-- what a checkpoint's fault names; the task that has too few pages, how many it has and how many it needs; the task whose
-- deadline is longer than a life
abbrev pub unresumed_why : OngoingResumeRefusal → FlashUnresumed
unresumed_why (refuses.Plan (plans.Die (dies.Unfit fault))) = three (fault_why fault).first (fault_why fault).second 0
unresumed_why (refuses.Plan (plans.NotStocked shortage)) = three shortage.task shortage.have shortage.need
unresumed_why (refuses.ShortLife task) = three task 0 0
unresumed_why _ = three 0 0 0

-- Shut down

-- a checkpoint was taken, and is put into these arrays as far as there is room
pub record SaysWritten (die : Stepping) (places places_then : List FlashPlace) (names names_then : List FlashName) (blocks blocks_then : List FlashBlock)
    (balances balances_then : List ℕ) (spare_then : ℕ) : Type 0 where
  pub taken : NamedCheckpoint
  pub written : IsPlanCheckpoint (Ok taken) die.stage
  pub said : SaysCheckpoint taken.checkpoint places places_then blocks blocks_then balances balances_then spare_then
  pub names_are : names_then ≡ array_with name_of names taken.names

-- none was taken, for this
pub record SaysUnwritten (die : Stepping) (code : ℕ) (why : FlashWhy) : Type 0 where
  pub refusal : PlanCheckpointRefusal
  pub refused : IsPlanCheckpoint (Err refusal) die.stage
  pub code_is : code ≡ unwritten_code refusal
  pub why_is : why ≡ unwritten_why refusal

-- Resumed

-- a die that goes on from a checkpoint, beneath which this is known of the part, with room for the operations of its asks
pub record SaysResumed (plan : DiePlan) (terms : Terms) (longest : ℕ) (c : Checkpoint) (names : List PageData) (part_then : Part) (kept : KeptDie) : Type 0 where
  pub goes_on : GoesOnPlanned plan terms longest c names kept.plan
  pub part : kept.plan.part ≡ part_then
  pub room : HasRoom terms (vec_capacity kept.ops)

-- none goes on, for this
pub record SaysUnresumed (plan : DiePlan) (terms : Terms) (longest : ℕ) (c : Checkpoint) (code : ℕ) (why : FlashUnresumed) : Type 0 where
  pub refusal : OngoingResumeRefusal
  pub refused : RefusesOngoingResume plan terms longest c plan.shape refusal
  pub code_is : code ≡ unresumed_code refusal
  pub why_is : why ≡ unresumed_why refusal

-- Mounted

abbrev pub IsOver : Recovery → Type 0
IsOver (recovery.Calls m) = m.stage ≡ stage.Done
IsOver _ = ⊥

-- a mount that has ended so, and a die that keeps its plan and begins there, with pages of these names
pub record KeepsAt (m : Mounting) (terms : Terms) (longest : ℕ) (names : List PageData) (kept : KeptDie) : Type 0 where
  pub ended : m.stage ≡ stage.Done
  pub end : Mounted
  pub is : IsEndOf m end
  pub goes_on : GoesOnPlanned m.plan terms longest end.checkpoint names kept.plan
  pub part : kept.plan.part ≡ record { aside = end.aside; serial = end.next; stands = false }
  pub room : HasRoom terms (vec_capacity kept.ops)

abbrev pub BeginsKept : Recovery → Terms → ℕ → List PageData → KeptDie → Type 0
BeginsKept (recovery.Calls m) terms longest names kept = KeepsAt m terms longest names kept
BeginsKept _ terms longest names kept = ⊥

-- none begins where this mount has ended, for this
pub record NoneKeeps (m : Mounting) (terms : Terms) (longest : ℕ) (refusal : OngoingResumeRefusal) : Type 0 where
  pub end : Mounted
  pub is : IsEndOf m end
  pub refused : RefusesOngoingResume m.plan terms longest end.checkpoint m.plan.shape refusal

abbrev pub NoneBegins : Recovery → Terms → ℕ → OngoingResumeRefusal → Type 0
NoneBegins (recovery.Calls m) terms longest refusal = NoneKeeps m terms longest refusal
NoneBegins _ terms longest refusal = ⊥

-- none begins, since the mount hasn't ended; or there was no memory; or for this, which is never that a task has too few pages
abbrev pub IsUnbegun : Recovery → Terms → ℕ → Option OngoingResumeRefusal → Type 0
IsUnbegun held terms longest None = ¬ IsOver held
IsUnbegun held terms longest (Some refusal) =
    (refusal ≢ out_of_memory → NoneBegins held terms longest refusal)
    × ((shortage : Shortage) → refusal ≢ refuses.Plan (plans.NotStocked shortage))

-- where this mount has ended none begins, for this
pub record SaysUnmounted (held : Recovery) (terms : Terms) (longest code : ℕ) (why : FlashUnresumed) : Type 0 where
  pub refusal : OngoingResumeRefusal
  pub refused : NoneBegins held terms longest refusal
  pub code_is : code ≡ unresumed_code refusal
  pub why_is : why ≡ unresumed_why refusal

-- the mount hasn't ended
abbrev pub HasNotEnded : Recovery → ℕ → FlashUnresumed → Type 0
HasNotEnded held code why = (code ≡ 112) × (why ≡ three 0 0 0) × ¬ IsOver held
