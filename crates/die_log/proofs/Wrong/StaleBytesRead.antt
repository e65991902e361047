-- A read tells what its page was before the last write.
use Rattle.std.proofs.Common.{◌≡◌, ℕ, [], ◌∷◌, slice_index, refl, ap, ◌∙◌, arith}
use Rattle.slot_types.specs.declared.acts.Act.TheVariants as does
use Rattle.slot_types.specs.declared.events.Op.TheVariants.{Read, Write}
use Rattle.slot_types.specs.declared.pages.PageData.{PageData}
use Rattle.die_log.specs.Model.Log.{Log}
use Rattle.die_log.specs.Model.Flash.{content, blank_page}
use Rattle.die_log.specs.Model.Answers.{run, answer}
use Rattle.die_log.specs.Results.Legal.{IsLegal}
use Rattle.die_log.proofs.Worked.Plans.{roomy, submit, slot, bytes}
use Rattle.die_log.proofs.Wrong.Entries.{ran}

abbrev rewritten : Log
rewritten = run roomy [] (submit 0 2 (Write 3 (bytes 17) ∷ Write 3 (bytes 34) ∷ []) ∷ slot ∷ slot ∷ submit 2 4 (Read 3 ∷ []) ∷ [])

abbrev pub first_byte : PageData → ℕ
first_byte page = slice_index page.0 0

last_written : first_byte (content roomy rewritten 3) ≡ 34
unfolding answer
last_written = refl

-- the bytes of the write before the last one, and those of a page without a write
not_legal : IsLegal roomy (ran 2 1 (does.Read 3 (bytes 17)) ∷ rewritten) → ⊥
not_legal h = absurd (omega (arith, ap first_byte h.1.slot.1.1.says ∙ last_written))

not_blank : IsLegal roomy (ran 2 1 (does.Read 3 blank_page) ∷ rewritten) → ⊥
not_blank h = absurd (omega (arith, ap first_byte h.1.slot.1.1.says ∙ last_written))
