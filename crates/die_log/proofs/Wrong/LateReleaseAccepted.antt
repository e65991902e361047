-- A job is accepted in slot 1 though its release was slot 0; and one whose due is not above its release.
use Rattle.std.proofs.Common.{[], ◌∷◌, arith}
use Rattle.slot_types.specs.declared.events.Op.TheVariants.{Read}
use Rattle.die_log.specs.Model.Log.{Log}
use Rattle.die_log.specs.Model.Answers.{run, answer}
use Rattle.die_log.specs.Results.Legal.{IsLegal}
use Rattle.die_log.proofs.Worked.Plans.{roomy, slot}
use Rattle.die_log.proofs.Wrong.Entries.{taken}

abbrev beyond : Log
beyond = run roomy [] (slot ∷ [])

not_legal : IsLegal roomy (taken 0 5 (Read 0 ∷ []) 0 ∷ beyond) → ⊥
unfolding answer
not_legal h = absurd (omega (arith, h.1.in_time.0))

due_with_its_release : IsLegal roomy (taken 5 5 (Read 0 ∷ []) 0 ∷ beyond) → ⊥
due_with_its_release h = absurd (omega (arith, h.1.in_time.1))
