-- A job of three writes is accepted on a die with two free pages; and what comes of it: its third program finds no free page.
use Rattle.std.proofs.Common.{◌≡◌, [], ◌∷◌, refl, arith}
use Rattle.slot_types.specs.declared.acts.Act.TheVariants as does
use Rattle.die_log.specs.Model.Log.{Log}
use Rattle.die_log.specs.Model.Flash.{free}
use Rattle.die_log.specs.Model.Work.{owed_writes}
use Rattle.die_log.specs.Model.Answers.{answer}
use Rattle.die_log.specs.Results.Legal.{IsLegal}
use Rattle.die_log.proofs.Worked.Plans.{tight, put, bytes}
use Rattle.die_log.proofs.Worked.FillingHistory.{full}
use Rattle.die_log.proofs.Wrong.Entries.{taken, ran}

abbrev promised : Log
promised = taken 19 30 (put 0 ∷ put 1 ∷ put 2 ∷ []) 11 ∷ full

two_free : free tight promised ≡ 2
unfolding answer
two_free = refl

three_owed : owed_writes promised ≡ 3
unfolding answer
three_owed = refl

not_legal : IsLegal tight promised → ⊥
not_legal h = absurd (omega (arith, h.1.room, two_free, three_owed))

abbrev used_up : Log
used_up = ran 20 11 (does.Write 1 (bytes 1)) ∷ ran 19 11 (does.Write 0 (bytes 0)) ∷ promised

none_free : free tight used_up ≡ 0
unfolding answer
none_free = refl

not_programmed : IsLegal tight (ran 21 11 (does.Write 2 (bytes 2)) ∷ used_up) → ⊥
not_programmed h = absurd (omega (arith, h.1.slot.1.1.finds, none_free))
