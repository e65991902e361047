-- Where a die stands whose slots are begun and ended.
use Rattle.std.specs.Prelude.{◌≡◌, Option, Some, None, ⊤}
use Rattle.flash_die.specs.Memory.{Memory}
use Rattle.die_log.specs.Model.Log.{now}
use Rattle.slot_core.specs.NextSlot.{next_slot}
use Rattle.ongoing_die.specs.Standing.{OngoingParts}
use Rattle.ongoing_die.specs.BegunSlots.{BegunParts}
use Rattle.stepped_die.specs.declared.calls.Begun.{Begun}
use Rattle.stepped_die.specs.declared.mirror.MirrorNand.{MirrorNand}
use Rattle.stepped_die.specs.declared.part.Part.{Part}
use Rattle.stepped_die.specs.Stepped.{mirror_of}
use Rattle.stepped_die.specs.DeviceCalls.{reported_by}
use Rattle.stepped_plan.specs.declared.stage.Stage.{Stage}
use Rattle.stepped_plan.specs.declared.stage.Stage.TheVariants as stages

-- where it stands, and what is known of the part beneath it
pub record Stepping : Type 0 where
  pub stage : Option Stage
  pub part : Part

-- the cells of the mirror
abbrev pub cells_of : OngoingParts MirrorNand → Memory
cells_of parts = mirror_of parts.die.core

-- what the driver was asked to do is what the slot needs, which is the present one, for whom, and who began it
pub record IsAsked (within : BegunParts MirrorNand) (begun : Begun) : Type 0 where
  pub caller_is : begun.caller ≡ within.caller
  pub slot_is : begun.slot ≡ now within.parts.die.core.log
  pub runs_next : begun.runs ≡ (next_slot within.parts.die.core.start within.parts.die.core.log).ran
  pub call_is : begun.call ≡ reported_by (cells_of within.parts) (next_slot within.parts.die.core.start within.parts.die.core.log)

-- it stands between two slots, or within one whose driver was asked for what it needs
abbrev pub IsSteppedPlan : Option Stage → Type 0
IsSteppedPlan (Some (stages.Between die)) = ⊤
IsSteppedPlan (Some (stages.Within die begun)) = IsAsked die begun
IsSteppedPlan None = ⊥

-- the die of the present life and what waits, whether a slot has begun or not
abbrev pub StandsWith : Option Stage → OngoingParts MirrorNand → Type 0
StandsWith (Some (stages.Between die)) parts = parts ≡ die
StandsWith (Some (stages.Within die begun)) parts = parts ≡ die.parts
StandsWith None parts = ⊥

abbrev pub AreParts : Stepping → OngoingParts MirrorNand → Type 0
AreParts p parts = StandsWith p.stage parts

-- the slot that has begun, if one has
abbrev pub begun_at : Option Stage → Option Begun
begun_at (Some (stages.Within die begun)) = Some begun
begun_at _ = None

abbrev pub begun_in : Stepping → Option Begun
begun_in p = begun_at p.stage
