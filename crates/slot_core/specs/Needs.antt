-- Which call of the device a slot made.
use Rattle.std.specs.Prelude.{◌≡◌, ◌≢◌, ℕ, ◌+◌, Bool, true, false, Option, Some, None, Result, Err, IfErr, OnOk}
use Rattle.slot_types.specs.declared.refusals.Refusal.{Refusal}
use Rattle.slot_types.specs.declared.refusals.Refusal.TheVariants.{DeviceFault}
use Rattle.flash_die.specs.declared.nand.NandCall.{NandCall}

-- this call was made, which is the only one, and ended so; without a call the device is as it was
abbrev pub IsOnlyCall : {N : Type 0} → (N → NandCall → Bool → N → Type 0) → Option NandCall → Bool → N → N → Type 0
IsOnlyCall ends None well before after = after ≡ before
IsOnlyCall ends (Some call) well before after = ends before call well after

-- a call was needed; it was made, and failed
pub record MadeAndFailed {N : Type 0} (ends : N → NandCall → Bool → N → Type 0) (needed : Option NandCall) (before after : N) : Type 0 where
  pub call : NandCall
  pub needed_is : needed ≡ Some call
  pub ended : ends before call false after

-- A slot that is answered made the call that was needed, once, and no other, and the count of failures stays. One that
-- the device refused needed a call, which alone was made.
pub record MakesCall {N A : Type 0} (ends : N → NandCall → Bool → N → Type 0) (failures : N → ℕ) (needed : Option NandCall)
    (result : Result A Refusal) (before after : N) : Type 0 where
  pub made : OnOk result (IsOnlyCall ends needed true before after)
  pub counted : OnOk result (failures after ≡ failures before)
  pub fault : IfErr result (λ refusal. refusal ≡ DeviceFault → MadeAndFailed ends needed before after)

-- What the device has had of a call of the die: where the call is answered, the one call that was needed, which ended
-- well, and no other; where the device is said to have failed, that call alone, which failed. So it is said exactly
-- where the count of failures is one more; it is never said of a device that never fails.
pub record UsesDevice {N A : Type 0} (ends : N → NandCall → Bool → N → Type 0) (failures : N → ℕ) (never_fails : Bool)
    (needed : Option NandCall) (result : Result A Refusal) (before after : N) : Type 0 where
  pub made : OnOk result (IsOnlyCall ends needed true before after)
  pub failed : result ≡ Err DeviceFault → MadeAndFailed ends needed before after
  pub counted : result ≡ Err DeviceFault → failures after ≡ failures before + 1
  pub uncounted : result ≢ Err DeviceFault → failures after ≡ failures before
  pub never : never_fails ≡ true → result ≢ Err DeviceFault
