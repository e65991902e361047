-- All that may be done with such a die: what may be done with a die that goes on by itself, and to take a task's outcomes.
use Rattle.std.specs.Prelude.{◌≡◌, ℕ, ◌+◌, ◌==◌, if◌then◌else◌, List, [], ◌∷◌, ◌++◌, map, option_to_list}
use Rattle.demand_rules.specs.declared.terms.Terms.{Terms}
use Rattle.die_log.specs.Model.Start.{Start}
use Rattle.planned_log.specs.Moves.{Ask, Slot}
use Rattle.ongoing_log.specs.Ongoing.{Ongoing}
use Rattle.ongoing_log.specs.Ahead.{AheadMove, Now, AskAt, ahead_after_move}
use Rattle.task_outcomes.specs.declared.task_outcome.TaskOutcome.{TaskOutcome}
use Rattle.task_outcomes.specs.Told.{told_of, own_of, told_next}
use Rattle.task_outcomes.specs.Queues.{Queue, queue_of, counted, with_told, first_of, with_taken}

pub data OutcomeMove : Type 0 where
  Does : AheadMove → OutcomeMove
  Takes : (task : ℕ) → OutcomeMove

-- what stands of the die, and by task what it has still to take
pub record Told : Type 0 where
  pub ongoing : Ongoing
  pub queues : List Queue

-- an ask tells nothing, and a slot the outcome of the job that is done with it
abbrev pub queues_after_move : Start → Terms → ℕ → Told → AheadMove → List Queue
queues_after_move first terms life t (Now (Ask kind caller task ops)) = t.queues
queues_after_move first terms life t (AskAt kind caller task ops at) = t.queues
queues_after_move first terms life t (Now (Slot caller)) = with_told t.queues (told_next first terms life t.ongoing caller)

abbrev pub told_after_move : Start → Terms → ℕ → Told → OutcomeMove → Told
told_after_move first terms life t (Does move) = record {
  ongoing = ahead_after_move first terms life t.ongoing move;
  queues = queues_after_move first terms life t move;
}
told_after_move first terms life t (Takes task) = record t { queues = with_taken t.queues task }

-- the first move comes first
abbrev pub told_after : Start → Terms → ℕ → Told → List OutcomeMove → Told
told_after first terms life t [] = t
told_after first terms life t (move ∷ moves) = told_after first terms life (told_after_move first terms life t move) moves

-- what a task takes with these moves
abbrev pub taken_by : Start → Terms → ℕ → (task : ℕ) → Told → List OutcomeMove → List TaskOutcome
taken_by first terms life task t [] = []
taken_by first terms life task t (Does move ∷ moves) = taken_by first terms life task (told_after_move first terms life t (Does move)) moves
taken_by first terms life task t (Takes other ∷ moves) =
    let rest = taken_by first terms life task (told_after_move first terms life t (Takes other)) moves in
    if other == task then option_to_list (first_of t.queues task) ++ rest else rest

-- Accounts

-- an outcome that has left its queue
pub data Gone : Type 0 where
  Taken : TaskOutcome → Gone
  Dropped : TaskOutcome → Gone

abbrev pub outcome_gone : Gone → TaskOutcome
outcome_gone (Taken o) = o
outcome_gone (Dropped o) = o

abbrev pub taken_among : List Gone → List TaskOutcome
taken_among [] = []
taken_among (Taken o ∷ gone) = o ∷ taken_among gone
taken_among (Dropped o ∷ gone) = taken_among gone

abbrev pub dropped_among : List Gone → ℕ
dropped_among [] = 0
dropped_among (Taken o ∷ gone) = dropped_among gone
dropped_among (Dropped o ∷ gone) = 1 + dropped_among gone

-- With these moves some jobs of the task were done. What had been kept and what became of these, in order, is what has gone,
-- and then what is kept now. What has gone was taken, as it was reported to the task, or dropped, and that was counted, as
-- far as the count goes.
pub record AreAccountedFor (first : Start) (task : ℕ) (before : Told) (taken : List TaskOutcome) (after : Told) : Type 0 where
  pub new : List TaskOutcome
  pub done : own_of task (told_of first after.ongoing) ≡ own_of task (told_of first before.ongoing) ++ new
  pub gone : List Gone
  pub in_order : map outcome_gone gone ++ (queue_of after.queues task).kept ≡ (queue_of before.queues task).kept ++ new
  pub taken_are : taken_among gone ≡ taken
  pub counts : counted (queue_of after.queues task).dropped ≡ counted ((queue_of before.queues task).dropped + dropped_among gone)
