-- What a task isn't told yet.
use Rattle.std.specs.Prelude.{ℕ, ◌+◌, ◌-◌, ◌*◌, ◌&&◌, nat_le, min, if◌then◌else◌, Bool, List, [], ◌∷◌, ◌++◌, length, map, drop, sum_by}
use Rattle.std.specs.Prelude.{Option, Some, None, slice_get, slice_index_or, slice_set}
use Rattle.demand_rules.specs.declared.terms.TaskTerms.{TaskTerms}
use Rattle.demand_rules.specs.declared.terms.Terms.{Terms}
use Rattle.task_outcomes.specs.declared.task_outcome.TaskOutcome.{TaskOutcome}

-- The outcomes that a task has still to take, the first that was done first; of how many there is room, and for as many pages
-- of their reads; and how many were dropped since there is the queue
pub record Queue : Type 0 where
  pub room : ℕ
  pub kept : List TaskOutcome
  pub dropped : ℕ

-- as many as the task may ask for operations in two periods: each job has one, and each read is one
abbrev pub room_for : TaskTerms → ℕ
room_for t = 2 * t.work

abbrev pub no_queue : Queue
no_queue = record { room = 0; kept = []; dropped = 0 }

abbrev pub new_queue : TaskTerms → Queue
new_queue t = record no_queue { room = room_for t }

-- one for each task
abbrev pub new_queues : Terms → List Queue
new_queues terms = map new_queue terms.tasks

abbrev pub queue_of : List Queue → ℕ → Queue
queue_of queues task = slice_index_or queues task no_queue

-- An outcome more

-- the pages that their reads gave
abbrev pub pages_in : List TaskOutcome → ℕ
pages_in kept = sum_by (λ o. length o.reads) kept

abbrev pub have_room : ℕ → List TaskOutcome → Bool
have_room room kept = nat_le (length kept) room && nat_le (pages_in kept) room

-- without the oldest, until there is room
abbrev pub newest_in : ℕ → List TaskOutcome → List TaskOutcome
newest_in room [] = []
newest_in room (o ∷ later) = if have_room room (o ∷ later) then o ∷ later else newest_in room later

-- the count goes up to 2 to the power of 64, less 1
abbrev pub counted : ℕ → ℕ
counted n = min n 18446744073709551615

-- it comes last, and each that goes for it is counted
abbrev pub with_outcome : TaskOutcome → Queue → Queue
with_outcome o q =
    let all = q.kept ++ o ∷ [] in let kept = newest_in q.room all in
    record q { kept = kept; dropped = counted (q.dropped + (length all - length kept)) }

-- in the queue of its task
abbrev pub with_told : List Queue → Option TaskOutcome → List Queue
with_told queues None = queues
with_told queues (Some o) = slice_set queues o.task (with_outcome o (queue_of queues o.task))

-- An outcome is taken

-- the first of the task, if there is one
abbrev pub first_of : List Queue → ℕ → Option TaskOutcome
first_of queues task = slice_get (queue_of queues task).kept 0

abbrev pub without_first : Queue → Queue
without_first q = record q { kept = drop 1 q.kept }

-- where it is dropped, it is counted
abbrev pub without_oldest : Queue → Queue
without_oldest q = record (without_first q) { dropped = counted (q.dropped + 1) }

abbrev pub with_taken : List Queue → ℕ → List Queue
with_taken queues task = slice_set queues task (without_first (queue_of queues task))
