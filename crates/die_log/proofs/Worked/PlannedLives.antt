-- Three lives of the same planned work: each ends at a multiple of the collect period by which all is due, so the next
-- one may start there; nothing is refused and nothing is late.
use Rattle.std.proofs.Common.{◌≡◌, ℕ, zero, suc, ◌<◌, ◌≤◌, ◌%◌, List, [], ◌∷◌, refl, arith}
use Rattle.std.proofs.lemmas.List.Elements.{All-from_recursion}
use Rattle.plan_rules.specs.Keeping.{arrivals, slots}
use Rattle.plan_rules.specs.Times.{times_of}
use Rattle.plan_rules.proofs.Worked.PlansWithTimes.{small, each_ten, passes}
use Rattle.plan_rules.proofs.Worked.EventsThatKeep as came
use Rattle.die_log.specs.Model.Start.{fresh}
use Rattle.die_log.specs.Model.Answers.{answer}
use Rattle.die_log.specs.Model.Lives.{start_after, HaveEnded}
use Rattle.die_log.specs.Results.PlannedLives.{Calls, events_of_calls, lives_of, EndPeriods, KeepPlans, AreServedInTime}
use Rattle.die_log.proofs.Openings.{fresh_opens, fresh_stocked}
use Rattle.die_log.proofs.Life.Planning.{lives_go_on, all_served}
use Rattle.die_log.proofs.Worked.Plans.{amounts}
use Rattle.die_log.proofs.Worked.PlannedWork.{calls, bound}

abbrev thrice : List Calls
thrice = calls ∷ calls ∷ calls ∷ []

ends : EndPeriods (small 6) (each_ten 2) (events_of_calls calls)
ends = record {
  due = All-from_recursion (λ a. a.due ≤ slots (events_of_calls calls)) (arrivals 0 (events_of_calls calls))
      (omega arith, (omega arith, (omega arith, tt)));
  multiple = at;
}
  where
    at : (task : ℕ) → task < 1 → slots (events_of_calls calls) % (times_of (each_ten 2) task).collect_period ≡ 0
    at zero lt = refl
    at (suc task) lt = absurd (omega (arith, lt))

keep : KeepPlans (small 6) (each_ten 2) thrice
keep = (((tt, came.keeps, ends), came.keeps, ends), came.keeps, ends)

served : AreServedInTime (fresh (small 6)) thrice
served = all_served (fresh (small 6)) (each_ten 2) (fresh_opens (small 6) bound) passes (fresh_stocked (small 6) (each_ten 2)) thrice keep

ended : HaveEnded (fresh (small 6)) (lives_of (fresh (small 6)) thrice)
ended = (lives_go_on (fresh (small 6)) (each_ten 2) (fresh_opens (small 6) bound) passes (fresh_stocked (small 6) (each_ten 2)) thrice keep).ended

-- each life's write spends a token, and its waived collection brings it back
tokens : (start_after (fresh (small 6)) (lives_of (fresh (small 6)) thrice)).accounts ≡ amounts (small 6) 6 5 0 2
unfolding answer
tokens = refl
