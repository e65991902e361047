-- The first job is taken under number 1.
use Rattle.std.proofs.Common.{[], ◌∷◌, arith}
use Rattle.slot_types.specs.declared.events.Op.TheVariants.{Read}
use Rattle.die_log.specs.Results.Legal.{IsLegal}
use Rattle.die_log.proofs.Worked.Plans.{roomy}
use Rattle.die_log.proofs.Wrong.Entries.{taken}

not_legal : IsLegal roomy (taken 0 5 (Read 0 ∷ []) 1 ∷ []) → ⊥
not_legal h = absurd (omega (arith, h.1.numbered))
