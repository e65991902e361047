-- Two jobs with one due, of which one can't meet it.
use Rattle.std.proofs.Common.{◌≡◌, [], ◌∷◌, Some, map, refl, pos}
use Rattle.slot_types.specs.declared.events.Op.TheVariants.{Read}
use Rattle.die_log.specs.Model.Log.{Log}
use Rattle.die_log.specs.Model.Work.{completion}
use Rattle.die_log.specs.Model.Answers.{run, answer}
use Rattle.die_log.proofs.Worked.Plans.{roomy, submit, slot, worst_of}

abbrev pub history : Log
history = run roomy [] (submit 0 2 (Read 0 ∷ Read 1 ∷ []) ∷ submit 0 2 (Read 2 ∷ []) ∷ slot ∷ slot ∷ slot ∷ [])

ends : map (λ n. completion n history) (0 ∷ 1 ∷ []) ≡ 2 ∷ 3 ∷ []
unfolding answer
ends = refl

is_worst : worst_of roomy.plan history ≡ Some (1, pos 1)
unfolding answer
is_worst = refl
