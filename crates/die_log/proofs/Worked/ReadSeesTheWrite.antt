-- A read gives what the write before it left.
use Rattle.std.proofs.Common.{◌≡◌, [], ◌∷◌, Some, map, refl, negsuc}
use Rattle.slot_types.specs.declared.acts.Act.TheVariants as does
use Rattle.slot_types.specs.declared.events.Op.TheVariants.{Read, Write}
use Rattle.die_log.specs.Model.Log.{Log, acts}
use Rattle.die_log.specs.Model.Work.{completion}
use Rattle.die_log.specs.Model.Answers.{run, answer}
use Rattle.die_log.proofs.Worked.Plans.{roomy, submit, slot, bytes, worst_of}

abbrev pub history : Log
history = run roomy [] (submit 0 2 (Write 3 (bytes 17) ∷ []) ∷ slot ∷ submit 1 3 (Read 3 ∷ []) ∷ slot ∷ [])

reads : acts 1 history ≡ does.Read 3 (bytes 17) ∷ []
unfolding answer
reads = refl

ends : map (λ n. completion n history) (0 ∷ 1 ∷ []) ≡ 1 ∷ 2 ∷ []
unfolding answer
ends = refl

-- both are one slot early: the one that was completed first
is_worst : worst_of roomy.plan history ≡ Some (0, negsuc 0)
unfolding answer
is_worst = refl
