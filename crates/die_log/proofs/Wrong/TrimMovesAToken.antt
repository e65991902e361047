-- A trim gives the token of its page's write back: the waiver after it gives one page, where the task lacks two.
use Rattle.std.proofs.Common.{◌≡◌, true, [], ◌∷◌, Some, refl, arith}
use Rattle.slot_types.specs.declared.events.Op.TheVariants.{Trim}
use Rattle.die_log.specs.Model.Log.{Log, Job, job_at}
use Rattle.die_log.specs.Model.Accounts.{accounts}
use Rattle.die_log.specs.Model.Answers.{run, answer}
use Rattle.die_log.specs.Results.Legal.{IsLegal}
use Rattle.plan_rules.specs.Accounts.{given_of}
use Rattle.die_log.proofs.Worked.Plans.{roomy, collect, submit, slot, put}
use Rattle.die_log.proofs.Wrong.Entries.{waives, waiver_of_job}

abbrev lacks_two : Log
lacks_two = run roomy [] (submit 0 10 (put 0 ∷ put 1 ∷ Trim 0 ∷ []) ∷ slot ∷ slot ∷ slot ∷ collect 3 5 ∷ [])

abbrev collection : Job
collection = record { number = 1; collects = true; task = 0; release = 3; due = 5; ops = [] }

stands : job_at lacks_two 1 ≡ Some collection
unfolding answer
stands = refl

two_given : given_of (accounts roomy lacks_two) 0 ≡ 2
unfolding answer
two_given = refl

not_legal : IsLegal roomy (waives 3 1 1 ∷ lacks_two) → ⊥
not_legal h = absurd (omega (arith, (waiver_of_job roomy lacks_two 3 1 1 collection stands h).gives, two_given))
