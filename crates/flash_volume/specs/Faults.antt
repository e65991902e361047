-- What a failure of the device does to a volume.
use Rattle.std.specs.Prelude.{◌≡◌, ℕ, Bool, true, false, Result, Err, is_err}
use Rattle.slot_types.specs.declared.refusals.Refusal.{Refusal}
use Rattle.slot_types.specs.declared.refusals.Refusal.TheVariants.{DieStopped}
use Rattle.flash_die.specs.Calls.{FailsByFault}
use Rattle.flash_volume.specs.State.{State}

-- The device alone makes this call fail, and by that the volume has failed.
pub record FailsWithDevice {N A : Type 0} (failures : N → ℕ) (never_fails : Bool) (result : Result A Refusal) (old new : State N) : Type 0
  where
    pub by_fault : FailsByFault never_fails result (failures old.device) (failures new.device)
    pub failed : new.failed ≡ is_err result

-- A volume that has failed answers `DieStopped`, and nothing changes; on any other the device alone makes this call
-- fail.
pub record StopsWithDevice {N A : Type 0} (failures : N → ℕ) (never_fails : Bool) (result : Result A Refusal) (old new : State N) : Type 0
  where
    pub stopped : old.failed ≡ true → result ≡ Err DieStopped
    pub unchanged : old.failed ≡ true → new ≡ old
    pub alive : old.failed ≡ false → FailsWithDevice failures never_fails result old new
