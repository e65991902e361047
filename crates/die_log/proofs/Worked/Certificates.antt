-- The certificates of worked rows, and of the filling history.
use Rattle.std.proofs.Common.{◌≡◌, [], ◌∷◌, Some, None, replicate, refl}
use Rattle.die_log.specs.Model.Log.{Log}
use Rattle.die_log.specs.Model.Answers.{run, answer}
use Rattle.die_log.specs.Model.Rows.{rows, certificate}
use Rattle.die_log.proofs.Worked.Plans.{roomy, tight, slot}
use Rattle.die_log.proofs.Worked.ReadSeesTheWrite as read_after_write
use Rattle.die_log.proofs.Worked.EarlierDuePreempts as preempts
use Rattle.die_log.proofs.Worked.EqualDeadlines.{four, five}
use Rattle.die_log.proofs.Worked.TwoJobsOneDue as one_due
use Rattle.die_log.proofs.Worked.FillingHistory.{full}

of_the_write : certificate roomy.plan read_after_write.history ≡ Some (record { job = 0; start = 0; due = 2; completion = 1; jobs = 0 ∷ [] })
unfolding answer
of_the_write = refl

of_the_preempting : certificate roomy.plan preempts.history ≡ Some (record { job = 1; start = 1; due = 3; completion = 2; jobs = 1 ∷ [] })
unfolding answer
of_the_preempting = refl

after_four_slots : certificate roomy.plan four ≡ Some (record { job = 0; start = 2; due = 5; completion = 4; jobs = 0 ∷ [] })
unfolding answer
after_four_slots = refl

after_five_slots : certificate roomy.plan five ≡ Some (record { job = 1; start = 0; due = 5; completion = 5; jobs = 0 ∷ 1 ∷ [] })
unfolding answer
after_five_slots = refl

-- a job that is not done has no completion in its row
rows_after_four : rows roomy.plan four ≡ record { number = 0; release = 2; due = 5; work = 2; completion = Some 4 }
    ∷ record { number = 1; release = 0; due = 5; work = 2; completion = None } ∷ []
unfolding answer
rows_after_four = refl

of_one_due : certificate roomy.plan one_due.history ≡ Some (record { job = 1; start = 0; due = 2; completion = 3; jobs = 0 ∷ 1 ∷ [] })
unfolding answer
of_one_due = refl

of_the_history : certificate tight.plan full ≡ Some (record { job = 2; start = 5; due = 7; completion = 7; jobs = 2 ∷ [] })
unfolding answer
of_the_history = refl

abbrev idle : Log
idle = run roomy [] (replicate 3 slot)

of_nothing : certificate roomy.plan idle ≡ None
unfolding answer
of_nothing = refl
