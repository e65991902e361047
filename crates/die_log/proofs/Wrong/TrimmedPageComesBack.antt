-- A life that begins with a trimmed page's bytes, and a read of them in the life after the trim.
use Rattle.std.proofs.Common.{◌≡◌, [], ◌∷◌, None, set, get_or, refl, ap, ◌∙◌, arith}
use Rattle.slot_types.specs.Places.{place_of}
use Rattle.slot_types.specs.declared.acts.Act.TheVariants as does
use Rattle.slot_types.specs.declared.events.Op.TheVariants.{Read}
use Rattle.die_log.specs.Model.Log.{Log}
use Rattle.die_log.specs.Model.Start.{Start, blank_page}
use Rattle.die_log.specs.Model.Flash.{cells, content, contents}
use Rattle.die_log.specs.Model.Answers.{run, answer}
use Rattle.die_log.specs.Results.Legal.{IsLegal}
use Rattle.die_log.specs.Model.Opening.{IsOpening, renewed_start}
use Rattle.die_log.proofs.Worked.Plans.{roomy, submit, bytes}
use Rattle.die_log.proofs.Worked.TrimmedPage.{trimmed}
use Rattle.die_log.proofs.Wrong.Entries.{ran}
use Rattle.die_log.proofs.Wrong.StaleBytesRead.{first_byte}

-- the trimmed page as it was written
abbrev back : Start
back = record (renewed_start roomy trimmed) { contents = set (contents roomy trimmed) 3 (bytes 17) }

lies_nowhere : place_of (cells roomy trimmed).places 3 ≡ None
unfolding answer
lies_nowhere = refl

stands : first_byte (get_or back.contents 3 blank_page) ≡ 17
unfolding answer
stands = refl

not_opening : IsOpening back → ⊥
not_opening h = absurd (omega (arith, ap first_byte (h.blank 3 lies_nowhere), stands))

-- in the next life
abbrev asked : Log
asked = run (renewed_start roomy trimmed) [] (submit 0 2 (Read 3 ∷ []) ∷ [])

is_blank : first_byte (content (renewed_start roomy trimmed) asked 3) ≡ 255
unfolding answer
is_blank = refl

not_legal : IsLegal (renewed_start roomy trimmed) (ran 0 0 (does.Read 3 (bytes 17)) ∷ asked) → ⊥
not_legal h = absurd (omega (arith, ap first_byte h.1.slot.1.1.says ∙ is_blank))
