-- What became of the jobs of tasks, as it is reported to them: in slots of the clock of all lives.
use Rattle.std.specs.Prelude.{ℕ, ◌+◌, ◌==◌, if◌then◌else◌, List, [], ◌∷◌, ◌++◌, filter, Option, Some, None, option_and_then, option_to_list}
use Rattle.slot_types.specs.declared.events.JobHead.{JobHead}
use Rattle.slot_types.specs.declared.replies.Reply.{Reply}
use Rattle.slot_types.specs.declared.replies.Reply.TheVariants as replies
use Rattle.demand_rules.specs.declared.terms.Terms.{Terms}
use Rattle.die_log.specs.Model.Log.{Log}
use Rattle.die_log.specs.Model.Start.{Start}
use Rattle.die_log.specs.Model.Lives.{all_slots}
use Rattle.slot_core.specs.declared.outcomes.Outcome.{Outcome}
use Rattle.slot_core.specs.declared.outcomes.Outcome.TheVariants as outcomes
use Rattle.slot_core.specs.Summaries.{summary_at}
use Rattle.ongoing_log.specs.PastLives.{PastLife, starts_after, counted}
use Rattle.ongoing_log.specs.Ongoing.{Ongoing, start_of, carried}
use Rattle.task_outcomes.specs.declared.task_outcome.TaskOutcome.{TaskOutcome}

-- the outcome of a job that is done, of a life that began in this slot of the clock; a collection is no task's job
abbrev pub told_as : (began number : ℕ) → JobHead → Outcome → Option TaskOutcome
told_as began number head (outcomes.Done completion lateness given reads) =
    if head.collects then None else Some (record {
      task = head.task;
      life = began;
      job = number;
      release = began + head.release;
      due = began + head.due;
      completion = began + completion;
      lateness = lateness;
      reads = reads;
    })
told_as began number head _ = None

-- that of this number
abbrev pub told_at : Start → (began : ℕ) → Log → (number : ℕ) → Option TaskOutcome
told_at start began log number = option_and_then (λ s. told_as began number s.head s.outcome) (summary_at start log number)

-- that of the job that was done with the slot which was answered so
abbrev pub told_by : Start → ℕ → Log → Reply → Option TaskOutcome
told_by start began log (replies.Slot s) = option_and_then (told_at start began log) s.finished
told_by start began log _ = None

-- that of the newest entry
abbrev pub newest_told : Start → ℕ → Log → Option TaskOutcome
newest_told start began [] = None
newest_told start began (e ∷ past) = told_by start began (e ∷ past) e.reply

-- those of a life, in the order in which its jobs were done
abbrev pub told_in : Start → ℕ → Log → List TaskOutcome
told_in start began [] = []
told_in start began (e ∷ past) = told_in start began past ++ option_to_list (newest_told start began (e ∷ past))

-- and of all lives
abbrev pub told_over : Start → List PastLife → List TaskOutcome
told_over first [] = []
told_over first (p ∷ earlier) = told_over first earlier ++ told_in (starts_after first earlier) (all_slots (counted earlier)) p.log

abbrev pub told_of : Start → Ongoing → List TaskOutcome
told_of first d = told_over first d.earlier ++ told_in (start_of first d) (all_slots (counted d.earlier)) d.log

-- those of one task
abbrev pub own_of : ℕ → List TaskOutcome → List TaskOutcome
own_of task told = filter (λ o. o.task == task) told

-- the outcome that comes with the next slot
abbrev pub told_next : Start → Terms → ℕ → Ongoing → (caller : ℕ) → Option TaskOutcome
told_next first terms life d caller =
    newest_told (start_of first d) (all_slots (counted d.earlier)) (carried first terms life d caller).log
