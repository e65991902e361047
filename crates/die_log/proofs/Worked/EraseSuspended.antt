-- A read with an earlier deadline breaks into an erase, which then goes on.
use Rattle.std.proofs.Common.{◌≡◌, [], ◌∷◌, Some, map, drop, refl, negsuc}
use Rattle.slot_types.specs.declared.acts.Act.TheVariants as does
use Rattle.slot_types.specs.declared.events.Op.TheVariants.{Read}
use Rattle.late_cert.specs.Schedule.{lateness_of}
use Rattle.die_log.specs.Model.Log.{Log, acts, work}
use Rattle.die_log.specs.Model.Work.{completion}
use Rattle.die_log.specs.Model.Answers.{run, answer}
use Rattle.die_log.proofs.Worked.Plans.{tight, submit, collect, slot, numbers, bytes}
use Rattle.die_log.proofs.Worked.FillingHistory.{full}

abbrev history : Log
history = run tight full (collect 19 40 ∷ slot ∷ slot ∷ slot ∷ submit 22 30 (Read 2 ∷ []) ∷ slot ∷ slot ∷ slot ∷ [])

in_turn : drop 19 (numbers history) ≡ Some 11 ∷ Some 11 ∷ Some 11 ∷ Some 12 ∷ Some 11 ∷ Some 11 ∷ []
unfolding answer
in_turn = refl

reads : acts 12 history ≡ does.Read 2 (bytes 2) ∷ []
unfolding answer
reads = refl

ends : map (λ n. completion n history) (11 ∷ 12 ∷ []) ≡ 25 ∷ 23 ∷ []
unfolding answer
ends = refl

takes : work 11 history ≡ 5
unfolding answer
takes = refl

collection_lateness : lateness_of (completion 11 history) 40 ≡ negsuc 14
unfolding answer
collection_lateness = refl

read_lateness : lateness_of (completion 12 history) 30 ≡ negsuc 6
unfolding answer
read_lateness = refl
