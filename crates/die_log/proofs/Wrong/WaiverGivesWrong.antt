-- A waiver gives two pages to a task that lacks none to its cap; and one gives none to a task that lacks two.
use Rattle.std.proofs.Common.{◌≡◌, true, [], ◌∷◌, Some, refl, arith}
use Rattle.die_log.specs.Model.Log.{Log, Job, job_at}
use Rattle.die_log.specs.Model.Accounts.{accounts}
use Rattle.die_log.specs.Model.Answers.{run, answer}
use Rattle.die_log.specs.Results.Legal.{IsLegal}
use Rattle.plan_rules.specs.Accounts.{given_of}
use Rattle.die_log.proofs.Worked.Plans.{roomy, collect, submit, slot, put}
use Rattle.die_log.proofs.Wrong.Entries.{waives, waiver_of_job}

abbrev lacks_none : Log
lacks_none = run roomy [] (collect 0 5 ∷ [])

abbrev first : Job
first = record { number = 0; collects = true; task = 0; release = 0; due = 5; ops = [] }

first_stands : job_at lacks_none 0 ≡ Some first
unfolding answer
first_stands = refl

none_given : given_of (accounts roomy lacks_none) 0 ≡ 0
unfolding answer
none_given = refl

gives_too_much : IsLegal roomy (waives 0 0 2 ∷ lacks_none) → ⊥
gives_too_much h = absurd (omega (arith, (waiver_of_job roomy lacks_none 0 0 2 first first_stands h).gives, none_given))

abbrev lacks_two : Log
lacks_two = run roomy [] (submit 0 10 (put 0 ∷ put 1 ∷ []) ∷ slot ∷ slot ∷ collect 2 5 ∷ [])

abbrev second : Job
second = record { number = 1; collects = true; task = 0; release = 2; due = 5; ops = [] }

second_stands : job_at lacks_two 1 ≡ Some second
unfolding answer
second_stands = refl

two_given : given_of (accounts roomy lacks_two) 0 ≡ 2
unfolding answer
two_given = refl

gives_too_little : IsLegal roomy (waives 2 1 0 ∷ lacks_two) → ⊥
gives_too_little h = absurd (omega (arith, (waiver_of_job roomy lacks_two 2 1 0 second second_stands h).gives, two_given))
