-- The figures of dies that ran.
use Rattle.std.specs.Prelude.{◌≡◌, ℕ, ◌++◌, List, length, IfSome, slice_get}
use Rattle.die_log.specs.Model.Log.{now}
use Rattle.flashplan_run_figures.specs.Records.{AreRecords}
use Rattle.flashplan_run_figures.specs.Wearing.{IsWearing}
use Rattle.flashplan_run_figures.specs.declared.counts.DieCounts.{DieCounts}
use Rattle.flashplan_run_figures.specs.declared.lives.Life.{Life}
use Rattle.flashplan_run_figures.specs.declared.lives.Wearing.{Wearing}
use Rattle.flashplan_run_figures.specs.declared.records.Records.{Records}
use Rattle.flashplan_script_runs.specs.RunningDies.{RunningDie}
use Rattle.flashplan_script_runs.specs.declared.refused.RefusedRow.{RefusedRow}
use Rattle.flashplan_watched_runs.specs.Ends.{ends_of, refused_ends}
use Rattle.flashplan_watched_runs.specs.SlotsCarried.{AreCountsOf}
use Rattle.flashplan_watched_runs.specs.Wear.{IsWearOf}
use Rattle.flashplan_watched_runs.specs.declared.tallies.Tally.{Tally}

-- The figures of a die of this number: what became of the jobs and collections of its log, and of its rows that were
-- refused; what the slots of its log carried; what they wore; and how long blocks last by that.
pub record AreFiguresOf (number : ℕ) (refused : List RefusedRow) (life : Life) (die : RunningDie) (records : Records) : Type 0 where
  pub counts : DieCounts
  pub counted : AreCountsOf (length die.start.plan.caps) die.log counts
  pub tally : Tally
  pub worn : IsWearOf die.start.plan.shape.blocks die.log tally
  pub wearing : Wearing
  pub wearing_is : IsWearing (now die.log) tally.erases.items wearing
  pub are : AreRecords (ends_of die.start.plan die.log ++ refused_ends number refused) counts wearing life records

-- so they are of each of these dies
pub record HaveFigures (refused : List RefusedRow) (life : Life) (dies : List RunningDie) (records : List Records) : Type 0 where
  pub all : length records ≡ length dies
  pub each : (number : ℕ) → IfSome (slice_get records number) (λ figures.
      IfSome (slice_get dies number) (λ die. AreFiguresOf number refused life die figures))
