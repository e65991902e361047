-- The figures of a die, and of each of its tasks.
use Rattle.std.specs.Prelude.{◌≡◌, ◌↔◌, ℕ, List, length, Option, Some, None, IfSome, IsSome, slice_get}
use Rattle.flashplan_run_figures.specs.Ends.{AreEndCounts, lateness_in}
use Rattle.flashplan_run_figures.specs.Ranks.{IsRanked}
use Rattle.flashplan_run_figures.specs.declared.counts.DieCounts.{DieCounts}
use Rattle.flashplan_run_figures.specs.declared.ends.JobEnd.{JobEnd}
use Rattle.flashplan_run_figures.specs.Lasting.{IsLasting, IsLife}
use Rattle.flashplan_run_figures.specs.declared.lives.Life.{Life}
use Rattle.flashplan_run_figures.specs.declared.lives.Wearing.{Wearing}
use Rattle.flashplan_run_figures.specs.declared.records.Figures.{Figures}
use Rattle.flashplan_run_figures.specs.declared.records.OwnFigures.{OwnFigures}
use Rattle.flashplan_run_figures.specs.declared.records.Records.{Records}
use Rattle.flashplan_run_figures.specs.declared.slot_counts.SlotCounts.{SlotCounts}

-- The figures of a task, or of all: what became of what was asked for, how late jobs were done, and what slots carried. The
-- fewest tokens are some number.
pub record AreFigures (task : Option ℕ) (ends : List JobEnd) (slots : SlotCounts) (figures : Figures) : Type 0 where
  pub task_is : figures.task ≡ task
  pub ends_are : AreEndCounts task ends figures.ends
  pub lateness_is : IsRanked (lateness_in task ends) figures.lateness
  pub slots_are : figures.slots ≡ slots

-- a die's own: the idle slots, what its blocks wore, and how long they last, where the endurance and the length of a slot are
-- above 0. The fewest spare pages are some number.
pub record AreOwn (idle : ℕ) (wearing : Wearing) (life : Life) (own : OwnFigures) : Type 0 where
  pub idle_is : own.idle ≡ idle
  pub wearing_is : own.wearing ≡ wearing
  pub lasting_is : IfSome own.lasting (IsLasting wearing life)
  pub lasting_told : IsSome own.lasting ↔ IsLife life

-- a task has none
pub record AreOfTask (task : ℕ) (ends : List JobEnd) (slots : SlotCounts) (figures : Figures) : Type 0 where
  pub are : AreFigures (Some task) ends slots figures
  pub none : figures.own ≡ None

pub record AreOfDie (ends : List JobEnd) (counts : DieCounts) (wearing : Wearing) (life : Life) (figures : Figures) : Type 0 where
  pub are : AreFigures None ends counts.all figures
  pub own : OwnFigures
  pub own_is : figures.own ≡ Some own
  pub own_are : AreOwn counts.idle wearing life own

-- those of each task, by what its slots carried
pub record AreOfTasks (ends : List JobEnd) (slots : List SlotCounts) (tasks : List Figures) : Type 0 where
  pub all : length tasks ≡ length slots
  pub each : (task : ℕ) → IfSome (slice_get tasks task) (λ figures. IfSome (slice_get slots task) (λ own. AreOfTask task ends own figures))

-- those of a die, and those of each of its tasks
pub record AreRecords (ends : List JobEnd) (counts : DieCounts) (wearing : Wearing) (life : Life) (records : Records) : Type 0 where
  pub of_die : AreOfDie ends counts wearing life records.die
  pub of_tasks : AreOfTasks ends counts.tasks.items records.tasks.items
