-- A collection programs the page in its buffer, though a job trimmed the page since it was read.
use Rattle.std.proofs.Common.{◌∷◌}
use Rattle.slot_types.specs.declared.acts.Act.TheVariants as does
use Rattle.die_log.specs.Model.Answers.{answer}
use Rattle.die_log.specs.Results.Legal.{IsLegal, IsNextCollectAct}
use Rattle.die_log.proofs.Worked.Plans.{tight}
use Rattle.die_log.proofs.Worked.TrimmedCopy.{trimmed}
use Rattle.die_log.proofs.Wrong.Entries.{ran, next_of}

refused : IsNextCollectAct tight trimmed 11 (does.CopyProgram 2) → ⊥
unfolding answer
refused h = cc (h.2.unchanged)

not_legal : IsLegal tight (ran 20 11 (does.CopyProgram 2) ∷ trimmed) → ⊥
not_legal h = refused (next_of tight trimmed 20 11 (does.CopyProgram 2) tt h)
