-- Acts of a job that wasn't taken, before its release, after its end, and out of the order of its operations; and one
-- of a waived collection.
use Rattle.std.proofs.Common.{◌≡◌, false, [], ◌∷◌, Some, refl, arith}
use Rattle.std.proofs.lemmas.Option.{none-some}
use Rattle.slot_types.specs.declared.acts.Act.TheVariants as does
use Rattle.slot_types.specs.declared.events.Op.TheVariants.{Read, Write}
use Rattle.die_log.specs.Model.Log.{Log, Job, job_at}
use Rattle.die_log.specs.Model.Flash.{blank_page}
use Rattle.die_log.specs.Model.Answers.{run, answer}
use Rattle.die_log.specs.Results.Legal.{IsLegal}
use Rattle.die_log.proofs.Worked.Plans.{roomy, collect, submit, slot, bytes}
use Rattle.die_log.proofs.Wrong.Entries.{ran, act_of_job}

of_nobody : IsLegal roomy (ran 0 0 (does.Read 0 blank_page) ∷ []) → ⊥
of_nobody h = absurd (none-some h.1.slot.1.0 h.1.slot.1.1.known)

abbrev early : Log
early = run roomy [] (submit 5 9 (Read 0 ∷ []) ∷ [])

abbrev later : Job
later = record { number = 0; collects = false; task = 0; release = 5; due = 9; ops = Read 0 ∷ [] }

later_stands : job_at early 0 ≡ Some later
unfolding answer
later_stands = refl

before_its_release : IsLegal roomy (ran 0 0 (does.Read 0 blank_page) ∷ early) → ⊥
unfolding answer
before_its_release h = absurd (omega (arith, (act_of_job roomy early 0 0 (does.Read 0 blank_page) later later_stands h).released))

abbrev over : Log
over = run roomy [] (submit 0 2 (Read 0 ∷ []) ∷ slot ∷ [])

abbrev done : Job
done = record { number = 0; collects = false; task = 0; release = 0; due = 2; ops = Read 0 ∷ [] }

done_stands : job_at over 0 ≡ Some done
unfolding answer
done_stands = refl

after_its_end : IsLegal roomy (ran 1 0 (does.Read 0 blank_page) ∷ over) → ⊥
unfolding answer
after_its_end h = cc ((act_of_job roomy over 1 0 (does.Read 0 blank_page) done done_stands h).undone)

abbrev two : Log
two = run roomy [] (submit 0 5 (Write 3 (bytes 17) ∷ Read 3 ∷ []) ∷ [])

abbrev writer : Job
writer = record { number = 0; collects = false; task = 0; release = 0; due = 5; ops = Write 3 (bytes 17) ∷ Read 3 ∷ [] }

writer_stands : job_at two 0 ≡ Some writer
unfolding answer
writer_stands = refl

out_of_order : IsLegal roomy (ran 0 0 (does.Read 3 blank_page) ∷ two) → ⊥
unfolding answer
out_of_order h = absurd ((act_of_job roomy two 0 0 (does.Read 3 blank_page) writer writer_stands h).next)

abbrev gone : Log
gone = run roomy [] (collect 0 5 ∷ slot ∷ [])

of_a_waived_collection : IsLegal roomy (ran 1 0 (does.Erase 0) ∷ gone) → ⊥
unfolding answer
of_a_waived_collection h = cc (h.1.slot.1.1.unwaived)
