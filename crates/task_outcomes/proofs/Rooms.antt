-- Rooms stay as the terms give them.
use Rattle.std.proofs.Common.{◌≡◌, ◌≤◌, arith, ℕ, zero, suc, List, [], ◌∷◌, length, map, get_or, set, Option, Some, None, Result, Ok, Err, OnOk, OnErr, refl, ap, sym, ◌∙◌}
use Rattle.std.proofs.lemmas.List.{map-set, set-get_or}
use Rattle.demand_rules.specs.declared.terms.TaskTerms.{TaskTerms}
use Rattle.task_outcomes.specs.declared.task_outcome.TaskOutcome.{TaskOutcome}
use Rattle.task_outcomes.specs.Queues.{Queue, room_for, new_queue, queue_of, with_outcome, with_told, without_first, with_taken}

pub new_rooms : (ts : List TaskTerms) → map (λ (q : Queue). q.room) (map new_queue ts) ≡ map room_for ts
new_rooms [] = refl
new_rooms (t ∷ ts) = ap (λ (ns : List ℕ). room_for t ∷ ns) (new_rooms ts)

room_of : (queues : List Queue) (task : ℕ) → get_or (map (λ (q : Queue). q.room) queues) task 0 ≡ (queue_of queues task).room
room_of [] task = refl
room_of (q ∷ queues) zero = refl
room_of (q ∷ queues) (suc task) = room_of queues task

pub past_end : (queues : List Queue) (task : ℕ) (q : Queue) → length queues ≤ task → set queues task q ≡ queues
past_end [] task q le = refl
past_end (r ∷ queues) zero q le = absurd (omega (arith, le))
past_end (r ∷ queues) (suc task) q le = ap (λ (qs : List Queue). r ∷ qs) (past_end queues task q (omega (arith, le)))

-- another queue with the same room in its place
kept_rooms : (queues : List Queue) (task : ℕ) (q : Queue) → q.room ≡ (queue_of queues task).room
    → map (λ (r : Queue). r.room) (set queues task q) ≡ map (λ (r : Queue). r.room) queues
kept_rooms queues task q same =
    map-set (λ (r : Queue). r.room) queues task q
    ∙ (ap (set (map (λ (r : Queue). r.room) queues) task) (same ∙ sym (room_of queues task))
    ∙ set-get_or (map (λ (r : Queue). r.room) queues) task 0)

pub told_rooms : (queues : List Queue) (o : Option TaskOutcome) → map (λ (q : Queue). q.room) (with_told queues o) ≡ map (λ (q : Queue). q.room) queues
told_rooms queues None = refl
told_rooms queues (Some o) = kept_rooms queues o.task (with_outcome o (queue_of queues o.task)) refl

pub taken_rooms : (queues : List Queue) (task : ℕ) → map (λ (q : Queue). q.room) (with_taken queues task) ≡ map (λ (q : Queue). q.room) queues
taken_rooms queues task = kept_rooms queues task (without_first (queue_of queues task)) refl

pub taken_so : {E : Type 0} (old new : List Queue) (task : ℕ) (result : Result (Option TaskOutcome) E) → OnOk result (new ≡ with_taken old task)
    → OnErr result (new ≡ old) → map (λ (q : Queue). q.room) new ≡ map (λ (q : Queue). q.room) old
taken_so old new task (Ok outcome) left kept = ap (map (λ (q : Queue). q.room)) left ∙ taken_rooms old task
taken_so old new task (Err e) left kept = ap (map (λ (q : Queue). q.room)) kept
