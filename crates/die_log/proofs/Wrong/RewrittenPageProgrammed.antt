-- A collection programs the page in its buffer, though a job rewrote the page since it was read.
use Rattle.std.proofs.Common.{◌∷◌}
use Rattle.slot_types.specs.declared.acts.Act.TheVariants as does
use Rattle.die_log.specs.Model.Answers.{answer}
use Rattle.die_log.specs.Results.Legal.{IsLegal, IsNextCollectAct}
use Rattle.die_log.proofs.Worked.Plans.{tight}
use Rattle.die_log.proofs.Worked.RewrittenPage.{rewritten}
use Rattle.die_log.proofs.Wrong.Entries.{ran, next_of}

refused : IsNextCollectAct tight rewritten 11 (does.CopyProgram 2) → ⊥
unfolding answer
refused h = cc (h.2.unchanged)

not_legal : IsLegal tight (ran 20 11 (does.CopyProgram 2) ∷ rewritten) → ⊥
not_legal h = refused (next_of tight rewritten 20 11 (does.CopyProgram 2) tt h)
