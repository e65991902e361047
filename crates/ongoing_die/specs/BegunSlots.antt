-- A slot of a die that goes on by itself, in two halves: it begins, and then it is carried out, or its device fails.
use Rattle.std.specs.Prelude.{◌≡◌, ℕ, true}
use Rattle.die_log.specs.Model.Start.{Start}
use Rattle.ongoing_log.specs.PastLives.{counted}
use Rattle.ongoing_log.specs.Ongoing.{Ongoing, AreLongEnough}
use Rattle.planned_die.specs.Planned.{HasLived}
use Rattle.planned_die.specs.BegunSlots.{HasEnteredAll}
use Rattle.ongoing_die.specs.Standing.{OngoingParts}
use Rattle.ongoing_die.specs.OngoingCalls.{HasBegun}

-- the die of the present life, what waits, and who began the slot
pub record BegunParts (N : Type 0) : Type 0 where
  pub parts : OngoingParts N
  pub caller : ℕ

-- In a life that goes on, and that has begun just now if the one before had ended, the collections of the slot have come. The
-- slot isn't carried out yet. The die has had the lives that it had, and the device has had no call.
pub record HasBegunSlot {N : Type 0} (caller : ℕ) (first : Start) (d : Ongoing) (before after : OngoingParts N) : Type 0 where
  pub between : OngoingParts N
  pub begun : HasBegun first d before between
  pub came : HasEnteredAll caller between.die after.die
  pub waits : after.waiting ≡ between.waiting
  pub lived : HasLived after.die (counted begun.stands.past)

-- with its lives long enough for a job of each task, it has begun a slot of some die that stood somehow
pub record IsBegunDie {N : Type 0} (begun : BegunParts N) : Type 0 where
  pub long : AreLongEnough begun.parts.die.terms begun.parts.die.life
  pub first : Start
  pub ongoing : Ongoing
  pub before : OngoingParts N
  pub begins : HasBegunSlot begun.caller first ongoing before begun.parts

-- the same die, stopped as by a fault of its device
abbrev pub stopped_in : {N : Type 0} → OngoingParts N → OngoingParts N
stopped_in parts = record parts { die = record parts.die { core = record parts.die.core { stopped = true } } }
