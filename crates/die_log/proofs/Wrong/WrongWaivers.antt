-- A collection is waived before its release, or a second time; and a job is waived.
use Rattle.std.proofs.Common.{◌≡◌, true, false, [], ◌∷◌, Some, refl, arith}
use Rattle.slot_types.specs.declared.events.Op.TheVariants.{Read}
use Rattle.die_log.specs.Model.Log.{Log, Job, job_at}
use Rattle.die_log.specs.Model.Answers.{run, answer}
use Rattle.die_log.specs.Results.Legal.{IsLegal}
use Rattle.die_log.proofs.Worked.Plans.{roomy, collect, submit, slot}
use Rattle.die_log.proofs.Wrong.Entries.{waives, waiver_of_job}

abbrev early : Log
early = run roomy [] (collect 3 5 ∷ [])

abbrev later : Job
later = record { number = 0; collects = true; task = 0; release = 3; due = 5; ops = [] }

later_stands : job_at early 0 ≡ Some later
unfolding answer
later_stands = refl

before_its_release : IsLegal roomy (waives 0 0 0 ∷ early) → ⊥
unfolding answer
before_its_release h = absurd (omega (arith, (waiver_of_job roomy early 0 0 0 later later_stands h).released))

abbrev gone : Log
gone = run roomy [] (collect 0 5 ∷ slot ∷ [])

a_second_time : IsLegal roomy (waives 1 0 0 ∷ gone) → ⊥
unfolding answer
a_second_time h = cc (h.1.slot.0.1.once)

abbrev reads : Log
reads = run roomy [] (submit 0 5 (Read 0 ∷ []) ∷ [])

abbrev reader : Job
reader = record { number = 0; collects = false; task = 0; release = 0; due = 5; ops = Read 0 ∷ [] }

reader_stands : job_at reads 0 ≡ Some reader
unfolding answer
reader_stands = refl

a_job : IsLegal roomy (waives 0 0 0 ∷ reads) → ⊥
a_job h = cc ((waiver_of_job roomy reads 0 0 0 reader reader_stands h).collects)
