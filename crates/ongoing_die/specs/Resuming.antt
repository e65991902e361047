-- A die that goes on by itself is shut down where nothing waits, and goes on from a checkpoint.
use Rattle.std.specs.Prelude.{◌≡◌, ℕ, ◌<◌, List, length, slice_index_or, Option, None, IsSome}
use Rattle.slot_types.specs.declared.plans.DiePlan.{DiePlan}
use Rattle.slot_types.specs.declared.plans.Shape.{Shape}
use Rattle.demand_rules.specs.declared.terms.Terms.{Terms}
use Rattle.demand_rules.specs.Demand.{terms_of, PassesDemand}
use Rattle.demand_rules.specs.Supply.{PassesSupply}
use Rattle.die_checkpoint.specs.declared.checkpoint.Checkpoint.{Checkpoint}
use Rattle.die_checkpoint.specs.Fits.{Fits}
use Rattle.die_log.specs.Model.Start.{Start}
use Rattle.slot_core.specs.Renewals.{MayBeRenewed}
use Rattle.slot_core.specs.Resumptions.{RefusesCheckpoint, no_memory}
use Rattle.ongoing_log.specs.PastLives.{PastLife, starts_after, HavePassed}
use Rattle.ongoing_log.specs.Ongoing.{WaitingAsk}
use Rattle.planned_die.specs.declared.resumptions.PlanResumeRefusal.TheVariants as plans
use Rattle.planned_die.specs.Resuming.{HaveEnough, RefusesPlanResume}
use Rattle.ongoing_die.specs.declared.refusals.OngoingCheckpointRefusal.{OngoingCheckpointRefusal}
use Rattle.ongoing_die.specs.declared.refusals.OngoingCheckpointRefusal.TheVariants as untaken
use Rattle.ongoing_die.specs.declared.refusals.OngoingResumeRefusal.{OngoingResumeRefusal}
use Rattle.ongoing_die.specs.declared.refusals.OngoingResumeRefusal.TheVariants as unresumed
use Rattle.ongoing_die.specs.OngoingPlans.{IsLongestLife, IsFirstTooLate}
use Rattle.ongoing_die.specs.Standing.{OngoingParts}

-- Shut down

-- no ask waits for the next life
abbrev pub NoneWaits : List (Option WaitingAsk) → Type 0
NoneWaits waiting = (task : ℕ) → slice_index_or waiting task None ≡ None

-- an ask of this task waits, and of none before it
pub record IsFirstWaiting (waiting : List (Option WaitingAsk)) (task : ℕ) : Type 0 where
  pub waits : IsSome (slice_index_or waiting task None)
  pub first : (before : ℕ) → before < task → slice_index_or waiting before None ≡ None

-- why no checkpoint is taken: none is taken of the die of the present life; or one could be, and an ask of this task waits
abbrev pub RefusesOngoingCheckpoint : {N : Type 0} → OngoingParts N → OngoingCheckpointRefusal → Type 0
RefusesOngoingCheckpoint parts (untaken.Die why) = RefusesCheckpoint parts.die.core why
RefusesOngoingCheckpoint parts (untaken.AskWaits task) = MayBeRenewed parts.die.core × IsFirstWaiting parts.waiting task

-- a job is held for its deadline alone
abbrev pub AreHeldForDeadlines : Terms → Type 0
AreHeldForDeadlines terms = (task : ℕ) → task < length terms.tasks → (terms_of terms task).held ≡ (terms_of terms task).deadline

-- Resumed

-- these lives passed, whichever way each ended and however many slots those after them have, and the next one starts here
pub record GoesOnAfter (first : Start) (past : List PastLife) (start : Start) : Type 0 where
  pub passed : (life : ℕ) → HavePassed first life past
  pub starts : start ≡ starts_after first past

-- out of memory
abbrev pub out_of_memory : OngoingResumeRefusal
out_of_memory = unresumed.Plan (plans.Die no_memory)

-- why none is resumed: as none is that keeps its plan; or one could be, and the longest life is too short for a job of this
-- task
abbrev pub RefusesOngoingResume : DiePlan → Terms → ℕ → Checkpoint → Shape → OngoingResumeRefusal → Type 0
RefusesOngoingResume plan terms longest c shape (unresumed.Plan why) = RefusesPlanResume plan terms longest c shape why
RefusesOngoingResume plan terms longest c shape (unresumed.ShortLife task) =
    Fits plan c × PassesDemand plan terms × PassesSupply plan terms × HaveEnough plan terms c.balances
    × ((life : ℕ) × IsLongestLife plan terms longest life × IsFirstTooLate terms life task)
