-- A trim frees the cell of its page at once: a job of three writes is accepted on a die that had two free pages.
use Rattle.std.proofs.Common.{◌≡◌, [], ◌∷◌, refl, arith}
use Rattle.slot_types.specs.declared.events.Op.TheVariants.{Trim}
use Rattle.die_log.specs.Model.Log.{Log}
use Rattle.die_log.specs.Model.Flash.{free}
use Rattle.die_log.specs.Model.Work.{owed_writes}
use Rattle.die_log.specs.Model.Answers.{run, answer}
use Rattle.die_log.specs.Results.Legal.{IsLegal}
use Rattle.die_log.proofs.Worked.Plans.{tight, submit, slot, put}
use Rattle.die_log.proofs.Worked.FillingHistory.{full}
use Rattle.die_log.proofs.Wrong.Entries.{taken}

abbrev promised : Log
promised = taken 20 30 (put 0 ∷ put 1 ∷ put 2 ∷ []) 12 ∷ run tight full (submit 19 30 (Trim 0 ∷ []) ∷ slot ∷ [])

two_free : free tight promised ≡ 2
unfolding answer
two_free = refl

three_owed : owed_writes promised ≡ 3
unfolding answer
three_owed = refl

not_legal : IsLegal tight promised → ⊥
not_legal h = absurd (omega (arith, h.1.room, two_free, three_owed))
