-- A die whose slots are begun and ended, as its callers see it.
use Rattle.std.specs.Prelude.{◌≡◌, ◌<◌, true, Option, None, IfSome}
use Rattle.slot_types.specs.declared.limits.TheConstants.{MAX_SLOT}
use Rattle.flash_die.specs.Memory.{Memory}
use Rattle.die_log.specs.Model.Log.{now}
use Rattle.slot_core.specs.Core.{Core}
use Rattle.slot_core.specs.NextSlot.{next_slot}
use Rattle.stepped_die.specs.declared.calls.Begun.{Begun}
use Rattle.stepped_die.specs.declared.mirror.MirrorNand.{MirrorNand}
use Rattle.stepped_die.specs.declared.part.Part.{Part}
use Rattle.stepped_die.specs.DeviceCalls.{reported_by}

-- the die, over a mirror of its device; the slot that has begun; and what is known of the part beneath it
pub record Stepped : Type 0 where
  pub core : Core MirrorNand
  pub begun : Option Begun
  pub part : Part

-- the cells of the mirror
abbrev pub mirror_of : Core MirrorNand → Memory
mirror_of core = core.device.memory

-- the slot that has begun is the log's present one, and what was asked is what it needs; memory is reserved for it
pub record IsPresent (core : Core MirrorNand) (begun : Begun) : Type 0 where
  pub slot_is : begun.slot ≡ now core.log
  pub few : now core.log < MAX_SLOT
  pub call_is : begun.call ≡ reported_by (mirror_of core) (next_slot core.start core.log)
  pub reserved : 0 < core.reserved.slots

-- a stopped die has no slot that has begun
pub record IsStepped (die : Stepped) : Type 0 where
  pub none : die.core.stopped ≡ true → die.begun ≡ None
  pub present : IfSome die.begun (IsPresent die.core)
