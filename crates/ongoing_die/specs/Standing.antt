-- A die that goes on by itself, as its callers see it, and what stands of it over all its lives.
use Rattle.std.specs.Prelude.{◌≡◌, ℕ, ◌+◌, ◌≤◌, ◌<◌, if◌then◌else◌, false, List, length, vec_capacity, slice_index_or, Option, Some, None}
use Rattle.demand_rules.specs.declared.terms.Terms.{Terms}
use Rattle.demand_rules.specs.Demand.{terms_of}
use Rattle.die_log.specs.Model.Start.{Start}
use Rattle.ongoing_log.specs.PastLives.{PastLife, starts_after, counted, HavePassed}
use Rattle.ongoing_log.specs.Ongoing.{Ongoing, WaitingAsk, due_at, going_on, AreLongEnough, IsOngoing}
use Rattle.planned_die.specs.Planned.{Planned, HasLived}
use Rattle.ongoing_die.specs.declared.waiting.Waiting.{Waiting}

-- the die of the present life, and by task the ask that waits
pub record OngoingParts (N : Type 0) : Type 0 where
  pub die : Planned N
  pub waiting : List (Option WaitingAsk)

-- the ask of a task that waits
abbrev pub ask_in : Waiting → Option WaitingAsk
ask_in w = if w.waits then Some (record { caller = w.caller; ops = w.ops.items; until = w.until }) else None

-- for a burst of each task there is memory: for all that the task may ask for in a period
abbrev pub HaveRoom : Terms → List Waiting → Type 0
HaveRoom terms waiting =
    (task : ℕ) (d : Waiting) → task < length waiting → (terms_of terms task).work ≤ vec_capacity (slice_index_or waiting task d).ops

-- none waits for this slot of the clock
abbrev pub NoneIsDue : ℕ → List (Option WaitingAsk) → Type 0
NoneIsDue slot waiting = (task : ℕ) → due_at slot (slice_index_or waiting task None) ≡ None

-- Before this slot of the clock a slot begins with nothing: the life goes on, and nothing waits for it.
pub record IsQuietBefore {N : Type 0} (slot : ℕ) (parts : OngoingParts N) : Type 0 where
  pub goes_on : slot ≤ parts.die.first + parts.die.life
  pub none_waits : (task : ℕ) (w : WaitingAsk) → slice_index_or parts.waiting task None ≡ Some w → slot ≤ w.until

-- what stands, after these lives
abbrev pub standing : {N : Type 0} → OngoingParts N → List PastLife → Ongoing
standing parts past = record { earlier = past; log = parts.die.core.log; waiting = parts.waiting }

-- This stands now, and keeps the plan. If the log has reached the end of a life, the next one begins here, and what waits for
-- the present slot enters; the die does both with the next call.
pub record RunsAs {N : Type 0} (first : Start) (d : Ongoing) (parts : OngoingParts N) (past : List PastLife) : Type 0 where
  pub stands : d ≡ going_on first parts.die.terms parts.die.life (standing parts past)
  pub goes_on : IsOngoing first parts.die.terms parts.die.life d
  pub whole : parts.die.entered ≡ 0

-- From its first start on the die had some lives before the one of its log, whichever way each ended, and those passed, in
-- time. Unless a fault has stopped it, it runs as this.
pub record StandsAs {N : Type 0} (first : Start) (d : Ongoing) (parts : OngoingParts N) : Type 0 where
  pub past : List PastLife
  pub lived : HasLived parts.die (counted past)
  pub starts : parts.die.core.start ≡ starts_after first past
  pub passed : HavePassed first parts.die.life past
  pub one_each : length parts.waiting ≡ length parts.die.core.start.plan.caps
  pub runs : parts.die.core.stopped ≡ false → RunsAs first d parts past

-- its lives are long enough for a job of each task, and it stands somehow
pub record IsOngoingDie {N : Type 0} (parts : OngoingParts N) : Type 0 where
  pub long : AreLongEnough parts.die.terms parts.die.life
  pub first : Start
  pub ongoing : Ongoing
  pub stands : StandsAs first ongoing parts
