-- A call that was refused, not for its text.
use Rattle.std.specs.Prelude.{◌≡◌, Result, Err}
use Rattle.checkpoint_texts.specs.Readings.{IsOutside}
use Rattle.checkpoint_texts.specs.declared.fault.TextFault.{TextFault}

-- memory ran out, or the reader failed
abbrev pub EndsOutside : {X : Type 0} → Result X TextFault → Type 0
EndsOutside result = (fault : TextFault) × (result ≡ Err fault) × IsOutside fault
