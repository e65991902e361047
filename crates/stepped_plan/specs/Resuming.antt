-- A die whose slots are begun and ended is written down between two slots with the names of its pages, and goes on from there,
-- or where a mount ended.
use Rattle.std.specs.Prelude.{◌≡◌, ℕ, false, List, [], length, replicate, Result, Ok, Err, Option, Some, None}
use Rattle.slot_types.specs.declared.pages.PageData.{PageData}
use Rattle.slot_types.specs.declared.plans.DiePlan.{DiePlan}
use Rattle.demand_rules.specs.declared.terms.Terms.{Terms}
use Rattle.demand_rules.specs.Demand.{PassesDemand}
use Rattle.demand_rules.specs.Supply.{PassesSupply}
use Rattle.die_checkpoint.specs.declared.checkpoint.Checkpoint.{Checkpoint}
use Rattle.die_checkpoint.specs.Fits.{Fits}
use Rattle.die_log.specs.Model.Flash.{contents}
use Rattle.die_log.specs.Model.Log.{now}
use Rattle.die_log.specs.Model.Opening.{renewed_start}
use Rattle.die_log.specs.Model.Start.{Start}
use Rattle.die_log.specs.Results.DemandedLives.{AreFull}
use Rattle.slot_core.specs.Core.{nothing_reserved}
use Rattle.slot_core.specs.Renewals.{MayBeRenewed}
use Rattle.slot_core.specs.Resumptions.{checkpoint_of, start_with}
use Rattle.ongoing_log.specs.PastLives.{PastLife, counted}
use Rattle.ongoing_log.specs.Ongoing.{Ongoing, begun_after, new_ongoing, shut_down}
use Rattle.planned_die.specs.Planned.{with_life}
use Rattle.planned_die.specs.Resuming.{HaveEnough, lacked, lacks_of}
use Rattle.ongoing_die.specs.OngoingPlans.{IsLongestLife}
use Rattle.ongoing_die.specs.Resuming.{AreHeldForDeadlines, GoesOnAfter, NoneWaits, RefusesOngoingCheckpoint}
use Rattle.ongoing_die.specs.Standing.{OngoingParts, StandsAs}
use Rattle.stepped_die.specs.declared.mirror.MirrorNand.{MirrorNand}
use Rattle.stepped_die.specs.declared.resumptions.NamedCheckpoint.{NamedCheckpoint}
use Rattle.stepped_die.specs.Names.{memory_left, pages_named}
use Rattle.stepped_plan.specs.declared.refusals.PlanCheckpointRefusal.{PlanCheckpointRefusal}
use Rattle.stepped_plan.specs.declared.refusals.PlanCheckpointRefusal.TheVariants as untaken
use Rattle.stepped_plan.specs.declared.stage.Stage.{Stage}
use Rattle.stepped_plan.specs.declared.stage.Stage.TheVariants as stages
use Rattle.stepped_plan.specs.Stages.{Stepping}

-- Shut down

-- What stands was written down, where no ask waits: with these names the log that a renewal would begin goes on, in the chain of
-- the die's lives. At the end of a life each task has enough to go on with the same terms.
pub record HasWritten (die : OngoingParts MirrorNand) (taken : NamedCheckpoint) : Type 0 where
  pub may : MayBeRenewed die.die.core
  pub none_waits : NoneWaits die.waiting
  pub checkpoint_is : taken.checkpoint ≡ checkpoint_of (renewed_start die.die.core.start die.die.core.log)
  pub names_are : taken.names ≡ contents die.die.core.start die.die.core.log
  pub fits : Fits die.die.core.start.plan taken.checkpoint
  pub goes_on : start_with die.die.core.start.plan taken.checkpoint (pages_named taken.checkpoint.places taken.names)
      ≡ renewed_start die.die.core.start die.die.core.log
  pub chain : (first : Start) (d : Ongoing) → StandsAs first d die
      → GoesOnAfter first (shut_down die.die.life (lacked die.die.core.start.plan taken.checkpoint.balances) d)
      (start_with die.die.core.start.plan taken.checkpoint (pages_named taken.checkpoint.places taken.names))
  pub stocked : now die.die.core.log ≡ die.die.life → AreHeldForDeadlines die.die.terms
      → HaveEnough die.die.core.start.plan die.die.terms taken.checkpoint.balances

-- between two slots, or why not: a slot has begun; or as a die that goes on by itself refuses it
abbrev pub IsPlanCheckpoint : Result NamedCheckpoint PlanCheckpointRefusal → Option Stage → Type 0
IsPlanCheckpoint (Ok taken) (Some (stages.Between die)) = HasWritten die taken
IsPlanCheckpoint (Err (untaken.Die refusal)) (Some (stages.Between die)) = RefusesOngoingCheckpoint die refusal
IsPlanCheckpoint (Err untaken.Begun) (Some (stages.Within die begun)) = Unit {0}
IsPlanCheckpoint _ _ = ⊥

-- Resumed

-- It goes on from a checkpoint with the pages of these names, at slot 0 of the longest life that is allowed, with memory for it.
-- What each task lacks to its cap beyond alpha pages counts as asked for. After whatever lives led there it stands so.
pub record HasGoneOn (plan : DiePlan) (terms : Terms) (longest : ℕ) (c : Checkpoint) (names : List PageData) (die : OngoingParts MirrorNand) : Type 0 where
  pub core : die.die.core ≡ with_life terms die.die.life (record {
    start = start_with plan c (pages_named c.places names);
    device = record { memory = memory_left plan.shape c names };
    stopped = false;
    reserved = nothing_reserved;
    lasting = nothing_reserved;
    log = [];
  })
  pub terms_are : die.die.terms ≡ terms
  pub entered : die.die.entered ≡ 0
  pub clock : die.die.first ≡ 0
  pub asked : die.die.asked ≡ lacks_of plan c.balances (length plan.caps)
  pub none_waits : die.waiting ≡ replicate (length plan.caps) None
  pub life : IsLongestLife plan terms longest die.die.life
  pub fits : Fits plan c
  pub demand : PassesDemand plan terms
  pub supply : PassesSupply plan terms
  pub stocked : HaveEnough plan terms c.balances
  pub goes_on : (first : Start) (past : List PastLife) → GoesOnAfter first past die.die.core.start → counted past ≡ lacked plan c.balances
      → StandsAs first (begun_after past (length plan.caps)) die
  pub mounted : AreFull die.die.core.start → (first : Start) (past : List PastLife) → GoesOnAfter first past die.die.core.start
      → counted past ≡ [] → StandsAs first (begun_after past (length plan.caps)) die
  pub stands : StandsAs die.die.core.start (begun_after (shut_down 0 (lacked plan c.balances) (new_ongoing plan)) (length plan.caps)) die

abbrev pub HasGoneOnAt : DiePlan → Terms → ℕ → Checkpoint → List PageData → Option Stage → Type 0
HasGoneOnAt plan terms longest c names (Some (stages.Between die)) = HasGoneOn plan terms longest c names die
HasGoneOnAt plan terms longest c names _ = ⊥

abbrev pub GoesOnPlanned : DiePlan → Terms → ℕ → Checkpoint → List PageData → Stepping → Type 0
GoesOnPlanned plan terms longest c names p = HasGoneOnAt plan terms longest c names p.stage
