-- A read tells what its page was before it was trimmed.
use Rattle.std.proofs.Common.{◌≡◌, [], ◌∷◌, refl, ap, ◌∙◌, arith}
use Rattle.slot_types.specs.declared.acts.Act.TheVariants as does
use Rattle.slot_types.specs.declared.events.Op.TheVariants.{Read}
use Rattle.die_log.specs.Model.Log.{Log}
use Rattle.die_log.specs.Model.Flash.{content}
use Rattle.die_log.specs.Model.Answers.{run, answer}
use Rattle.die_log.specs.Results.Legal.{IsLegal}
use Rattle.die_log.proofs.Worked.Plans.{roomy, submit, bytes}
use Rattle.die_log.proofs.Worked.TrimmedPage.{trimmed}
use Rattle.die_log.proofs.Wrong.Entries.{ran}
use Rattle.die_log.proofs.Wrong.StaleBytesRead.{first_byte}

abbrev asked : Log
asked = run roomy trimmed (submit 2 5 (Read 3 ∷ []) ∷ [])

is_blank : first_byte (content roomy asked 3) ≡ 255
unfolding answer
is_blank = refl

not_legal : IsLegal roomy (ran 2 2 (does.Read 3 (bytes 17)) ∷ asked) → ⊥
not_legal h = absurd (omega (arith, ap first_byte h.1.slot.1.1.says ∙ is_blank))
