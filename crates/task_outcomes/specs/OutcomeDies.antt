-- A die that goes on by itself, with the outcomes that its tasks have still to take.
use Rattle.std.specs.Prelude.{◌≡◌, ℕ, List, map}
use Rattle.demand_rules.specs.declared.terms.Terms.{Terms}
use Rattle.die_log.specs.Model.Start.{Start}
use Rattle.ongoing_log.specs.Ongoing.{Ongoing}
use Rattle.ongoing_die.specs.Standing.{OngoingParts, StandsAs}
use Rattle.task_outcomes.specs.Told.{told_next}
use Rattle.task_outcomes.specs.Queues.{Queue, room_for, with_told}

-- the die, and by task its outcomes
pub record OutcomeParts (N : Type 0) : Type 0 where
  pub die : OngoingParts N
  pub queues : List Queue

-- each task of the plan has a queue, with as much room as its terms give it
abbrev pub HaveRooms : Terms → List Queue → Type 0
HaveRooms terms queues = map (λ q. q.room) queues ≡ map room_for terms.tasks

-- a slot that is carried out adds the outcome that comes with it, whatever stood of the die
abbrev pub HasTold : {N : Type 0} → (caller : ℕ) → OutcomeParts N → OutcomeParts N → Type 0
HasTold caller before after = (first : Start) (d : Ongoing) → StandsAs first d before.die
    → after.queues ≡ with_told before.queues (told_next first before.die.die.terms before.die.die.life d caller)
