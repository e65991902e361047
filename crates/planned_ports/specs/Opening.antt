-- The ports of a die that is just opened.
use Rattle.std.specs.Prelude.{◌≡◌, ℕ, ◌+◌, List, [], ◌∷◌, Option, None, slice_index_or}
use Rattle.atomic_table.specs.Seated.{TableId}
use Rattle.turn_lock.specs.Log.{calls_by}
use Rattle.task_outcomes.specs.OutcomeDies.{OutcomeParts}
use Rattle.planned_ports.specs.declared.pages.PageRange.{PageRange}
use Rattle.planned_ports.specs.declared.opening.NotOpened.{NotOpened}
use Rattle.planned_ports.specs.declared.opening.NotOpened.TheVariants as refuses
use Rattle.planned_ports.specs.Ports.{TaskParts}

-- the port of a task that was granted nothing yet, of the lock of a die that was this when it was opened
pub record IsNewPort {N : Type 0} (lock : TableId) (opened : Option (OutcomeParts N)) (ranges : List (Option PageRange)) (task : ℕ) (port : TaskParts N) : Type 0 where
  pub lock_is : port.lock ≡ lock
  pub about : port.view.about ≡ opened
  pub task_is : port.task ≡ task
  pub pages_are : port.pages ≡ slice_index_or ranges task None
  pub nothing : calls_by port.view.number port.view.seen ≡ []

-- one for each task, in order, from this task on
abbrev pub AreNewFrom : {N : Type 0} → TableId → Option (OutcomeParts N) → List (Option PageRange) → ℕ → List (TaskParts N) → Type 0
AreNewFrom lock opened ranges task [] = Unit {0}
AreNewFrom lock opened ranges task (port ∷ ports) =
    IsNewPort lock opened ranges task port × AreNewFrom lock opened ranges (task + 1) ports

-- where memory is refused, the die is handed back
abbrev pub GivesBack : {N : Type 0} → OutcomeParts N → NotOpened N → Type 0
GivesBack die (refuses.NoMemory kept) = kept ≡ die
GivesBack die refuses.PassesFull = Unit {0}
