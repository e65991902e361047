-- Of two jobs with one due the smaller number goes first, once it is released.
use Rattle.std.proofs.Common.{◌≡◌, [], ◌∷◌, Some, refl, negsuc, pos}
use Rattle.slot_types.specs.declared.events.Op.TheVariants.{Read}
use Rattle.die_log.specs.Model.Log.{Log}
use Rattle.die_log.specs.Model.Answers.{run, answer}
use Rattle.die_log.proofs.Worked.Plans.{roomy, submit, slot, numbers, worst_of}

abbrev pub four : Log
four = run roomy [] (submit 2 5 (Read 0 ∷ Read 1 ∷ []) ∷ submit 0 5 (Read 0 ∷ Read 1 ∷ Read 2 ∷ []) ∷ slot ∷ slot ∷ slot ∷ slot ∷ [])

abbrev pub five : Log
five = run roomy four (slot ∷ [])

carries : numbers five ≡ Some 1 ∷ Some 1 ∷ Some 0 ∷ Some 0 ∷ Some 1 ∷ []
unfolding answer
carries = refl

after_four : worst_of roomy.plan four ≡ Some (0, negsuc 0)
unfolding answer
after_four = refl

after_five : worst_of roomy.plan five ≡ Some (1, pos 0)
unfolding answer
after_five = refl
