-- A collection reads a page a second time, though it is still placed in its block.
use Rattle.std.proofs.Common.{[], ◌∷◌, refl, arith}
use Rattle.slot_types.specs.declared.acts.Act.TheVariants as does
use Rattle.die_log.specs.Model.Log.{Log}
use Rattle.die_log.specs.Model.Answers.{run, answer}
use Rattle.die_log.specs.Results.Legal.{IsLegal, IsNextCollectAct}
use Rattle.die_log.proofs.Worked.Plans.{tight, collect, slot}
use Rattle.die_log.proofs.Worked.FillingHistory.{full}
use Rattle.die_log.proofs.Wrong.Entries.{ran, next_of}

abbrev read_once : Log
read_once = run tight full (collect 19 40 ∷ slot ∷ [])

refused : IsNextCollectAct tight read_once 11 (does.CopyRead 2) → ⊥
unfolding answer
refused h = h.2.once (0, omega arith, refl)

not_legal : IsLegal tight (ran 20 11 (does.CopyRead 2) ∷ read_once) → ⊥
not_legal h = refused (next_of tight read_once 20 11 (does.CopyRead 2) tt h)
