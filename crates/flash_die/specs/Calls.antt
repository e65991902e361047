-- How a call of a device may fail.
use Rattle.std.specs.Prelude.{◌≡◌, ℕ, ◌+◌, Bool, true, Result, IsOk, IfErr, OnOk, OnErr}
use Rattle.slot_types.specs.declared.refusals.Refusal.{Refusal}
use Rattle.slot_types.specs.declared.refusals.Refusal.TheVariants.{DeviceFault}

-- The device alone makes the call fail: it is refused with a fault, and exactly then the failures, which were `before`
-- and are `after`, are one more. A device that never fails never refuses it.
pub record FailsByFault {A : Type 0} (never_fails : Bool) (result : Result A Refusal) (before after : ℕ) : Type 0 where
  pub well : OnOk result (after ≡ before)
  pub fault : IfErr result (λ refusal. refusal ≡ DeviceFault)
  pub counted : OnErr result (after ≡ before + 1)
  pub never : never_fails ≡ true → IsOk result
