-- A page that was never written reads blank, and an idle die has no worst job.
use Rattle.std.proofs.Common.{◌≡◌, [], ◌∷◌, Some, None, replicate, refl, pos}
use Rattle.slot_types.specs.declared.acts.Act.TheVariants as does
use Rattle.slot_types.specs.declared.events.Op.TheVariants.{Read}
use Rattle.die_log.specs.Model.Log.{Log, acts}
use Rattle.die_log.specs.Model.Answers.{run, answer}
use Rattle.die_log.proofs.Worked.Plans.{roomy, submit, slot, bytes, numbers, worst_of}

abbrev history : Log
history = run roomy [] (submit 0 1 (Read 7 ∷ []) ∷ slot ∷ [])

reads : acts 0 history ≡ does.Read 7 (bytes 255) ∷ []
unfolding answer
reads = refl

in_time : worst_of roomy.plan history ≡ Some (0, pos 0)
unfolding answer
in_time = refl

abbrev idle : Log
idle = run roomy [] (replicate 3 slot)

carries_nothing : numbers idle ≡ None ∷ None ∷ None ∷ []
unfolding answer
carries_nothing = refl

nobody : worst_of roomy.plan idle ≡ None
unfolding answer
nobody = refl
