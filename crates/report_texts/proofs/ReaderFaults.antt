-- What a refusal says of csv's reader.
use Rattle.std.proofs.Common.{◌≡◌, Bool, Result, Ok, Err, ◌∙◌, inl, inr}
use Rattle.slot_types.specs.declared.refusals.Refusal.{Refusal}
use Rattle.text_base.specs.Readings.{FailsAtReadFault}

-- a call after others that left the reader as it was
pub fails-then : {X : Type 0} (old mid new : Bool) (r : Result X Refusal) → mid ≡ old → FailsAtReadFault mid new r
    → FailsAtReadFault old new r
fails-then old mid new (Ok x) same fails = fails ∙ same
fails-then old mid new (Err e) same (inl failed) = inl failed
fails-then old mid new (Err e) same (inr fault) = inr (fault.0, fault.1 ∙ same)
