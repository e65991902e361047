-- A device that fails after some calls.
use Rattle.std.specs.Prelude.{◌≡◌, ℕ, ◌+◌, Bool, false}
use Rattle.flash_die.specs.declared.nand.NandCall.{NandCall}

-- the device that calls are passed on to, how many more are passed on, and how many failed since
pub record Fuse (N : Type 0) : Type 0 where
  pub inner : N
  pub left : ℕ
  pub failed : ℕ

abbrev pub fuse_round : {N : Type 0} → N → ℕ → Fuse N
fuse_round inner calls = record { inner = inner; left = calls; failed = 0 }

-- a call that is no longer passed on
pub record FailsHere {N : Type 0} (before : Fuse N) (well : Bool) (after : Fuse N) : Type 0 where
  pub fails : well ≡ false
  pub inner : after.inner ≡ before.inner
  pub left : after.left ≡ 0
  pub failed : after.failed ≡ before.failed + 1

-- a call that is passed on, and ends as the device ends it
pub record PassesOn {N : Type 0} (ends : N → NandCall → Bool → N → Type 0)
    (before : Fuse N) (call : NandCall) (well : Bool) (after : Fuse N) : Type 0 where
  pub inner : ends before.inner call well after.inner
  pub left : after.left + 1 ≡ before.left
  pub failed : after.failed ≡ before.failed

-- a call is passed on exactly while some are left
pub record EndsAsFused {N : Type 0} (ends : N → NandCall → Bool → N → Type 0)
    (before : Fuse N) (call : NandCall) (well : Bool) (after : Fuse N) : Type 0 where
  pub burnt : before.left ≡ 0 → FailsHere before well after
  pub lasting : (before.left ≡ 0 → ⊥) → PassesOn ends before call well after
