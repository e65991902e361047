-- A later job with an earlier deadline preempts.
use Rattle.std.proofs.Common.{◌≡◌, [], ◌∷◌, Some, map, refl, negsuc}
use Rattle.slot_types.specs.declared.events.Op.TheVariants.{Read}
use Rattle.die_log.specs.Model.Log.{Log, jobs}
use Rattle.die_log.specs.Model.Work.{lateness_of}
use Rattle.die_log.specs.Model.Answers.{run, answer}
use Rattle.die_log.proofs.Worked.Plans.{roomy, submit, slot, numbers, worst_of}

abbrev pub history : Log
history = run roomy [] (submit 0 10 (Read 0 ∷ Read 1 ∷ Read 2 ∷ []) ∷ slot ∷ submit 1 3 (Read 0 ∷ []) ∷ slot ∷ slot ∷ slot ∷ [])

carries : numbers history ≡ Some 0 ∷ Some 1 ∷ Some 0 ∷ Some 0 ∷ []
unfolding answer
carries = refl

lateness : map (λ j. lateness_of history j) (jobs history) ≡ negsuc 5 ∷ negsuc 0 ∷ []
unfolding answer
lateness = refl

is_worst : worst_of roomy.plan history ≡ Some (1, negsuc 0)
unfolding answer
is_worst = refl
