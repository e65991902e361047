-- What laws of shared logs say.
use Rattle.std.specs.Prelude.{◌≡◌, ℕ, ◌==◌, if◌then◌else◌, false, List, [], ◌∷◌, ◌++◌, Result, Ok}
use Rattle.die_log.specs.Model.Log.{now}
use Rattle.die_log.specs.Model.Lives.{all_slots}
use Rattle.die_log.specs.Model.Start.{Start}
use Rattle.planned_log.specs.Asks.{asked_by}
use Rattle.planned_log.specs.Laws.{AreDoneInTime}
use Rattle.ongoing_log.specs.PastLives.{counted, HavePassed}
use Rattle.ongoing_log.specs.Ongoing.{Ongoing, Answer, start_of, waiting_of, awaited_of}
use Rattle.ongoing_log.specs.Ahead.{ahead_seen_by}
use Rattle.ongoing_die.specs.Standing.{StandsAs}
use Rattle.ongoing_die.specs.OngoingCalls.{told, HaveOnePlan}
use Rattle.task_outcomes.specs.declared.task_outcome.TaskOutcome.{TaskOutcome}
use Rattle.task_outcomes.specs.OutcomeDies.{OutcomeParts}
use Rattle.planned_ports.specs.declared.calls.Request.{Request}
use Rattle.planned_ports.specs.declared.calls.Request.TheVariants as requests
use Rattle.planned_ports.specs.declared.calls.Granted.{Granted}
use Rattle.planned_ports.specs.declared.calls.Granted.TheVariants as granted
use Rattle.planned_ports.specs.declared.calls.Refused.{Refused}
use Rattle.planned_ports.specs.Calls.{PortCall, die_moves}
use Rattle.planned_ports.specs.Replies.{IsSharedLog}

-- In time

-- each job of all lives that is due by now is done, and was by its deadline
abbrev pub IsInTime : Start → ℕ → Ongoing → Type 0
IsInTime first life d = HavePassed first life d.earlier × AreDoneInTime (start_of first d).plan d.log

-- Isolation

-- what a task was answered by this call, if it was its ask
abbrev pub answer_in : ℕ → Request → Result Granted Refused → List Answer
answer_in task (requests.Ask kind other ops) (Ok (granted.Job answer)) = if other == task then told answer ∷ [] else []
answer_in task (requests.AskAt kind other ops at) (Ok (granted.Job answer)) = if other == task then told answer ∷ [] else []
answer_in task _ _ = []

-- and by these calls, in order
abbrev pub answers_in : ℕ → List PortCall → List Answer
answers_in task [] = []
answers_in task (call ∷ calls) = answer_in task call.event call.reply ++ answers_in task calls

-- For this task both stand alike: in the same slot of the clock and of a life, with the same asked for by the task before,
-- and the same of it waiting
pub record AreAlikeFor (task : ℕ) (first other : Start) (one two : Ongoing) : Type 0 where
  pub plan : first.plan ≡ other.plan
  pub clock : all_slots (counted one.earlier) ≡ all_slots (counted two.earlier)
  pub slot : now one.log ≡ now two.log
  pub asked : asked_by task (one.log ∷ counted one.earlier) ≡ asked_by task (two.log ∷ counted two.earlier)
  pub waits : awaited_of (waiting_of one task) ≡ awaited_of (waiting_of two task)

-- the log of a die that ran when it was opened, of which this stood then
pub record RanFrom {N : Type 0} (opened : OutcomeParts N) (first : Start) (d : Ongoing) (calls : List PortCall) : Type 0 where
  pub shared : IsSharedLog opened calls
  pub runs : opened.die.die.core.stopped ≡ false
  pub stands : StandsAs first d opened.die

-- Of two such logs a task sees the same: both dies have one plan, and stood alike for it when they were opened, and it made
-- the same asks at the same slots. What others asked is whatever it is.
pub record SeesTheSame {N : Type 0} (task : ℕ) (opened again : OutcomeParts N) (first other : Start) (one two : Ongoing) (calls others : List PortCall)
    : Type 0 where
  pub ran : RanFrom opened first one calls
  pub ran_again : RanFrom again other two others
  pub plan : HaveOnePlan opened.die again.die
  pub alike : AreAlikeFor task first other one two
  pub seen : ahead_seen_by task (die_moves calls) ≡ ahead_seen_by task (die_moves others)

-- Outcomes

-- the outcome that a task took with this call, if it did
abbrev pub outcome_in : ℕ → Request → Result Granted Refused → List TaskOutcome
outcome_in task (requests.Outcome other) (Ok (granted.Outcome outcome)) = if other == task then outcome ∷ [] else []
outcome_in task _ _ = []

-- and those by these calls, in order
abbrev pub outcomes_in : ℕ → List PortCall → List TaskOutcome
outcomes_in task [] = []
outcomes_in task (call ∷ calls) = outcome_in task call.event call.reply ++ outcomes_in task calls
