-- A call that was refused, not for its text.
use Rattle.std.specs.Prelude.{◌≡◌, Result, Err}
use Rattle.slot_types.specs.declared.refusals.Refusal.{Refusal}
use Rattle.text_base.specs.Readings.{IsOutside}

-- memory ran out, or the reader failed
abbrev pub EndsOutside : {X : Type 0} → Result X Refusal → Type 0
EndsOutside result = (refusal : Refusal) × (result ≡ Err refusal) × IsOutside refusal
