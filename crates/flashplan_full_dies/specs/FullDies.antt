-- Full dies, and the lives that they had.
use Rattle.std.specs.Prelude.{◌≡◌, ◌+◌, ◌<◌, ◌≤◌, ℕ, zero, suc, Bool, true, is_some, List, [], map, slice_get, All, Option, Some, None, IfSome, IsSomeAnd}
use Rattle.std.specs.Global.{Vec}
use Rattle.slot_types.specs.declared.plans.DiePlan.{DiePlan}
use Rattle.slot_types.specs.declared.plans.TaskTimes.{TaskTimes}
use Rattle.checkpoint_texts.specs.declared.saved.SavedDie.{SavedDie}
use Rattle.checkpoint_texts.specs.declared.saved.SavedPage.{SavedPage}
use Rattle.flash_die.specs.Memory.{Memory}
use Rattle.slot_core.specs.Core.{Core}
use Rattle.flashplan_script_runs.specs.declared.counted.RefusedRows.{RefusedRows}
use Rattle.flashplan_arrivals.specs.PlannedScripts.{HasPassed, IsPlannedScript, IsUnplanned}
use Rattle.flashplan_checkpoint_runs.specs.Runs.{RanAndWentOn, running, starts_by}
use Rattle.flashplan_checkpoint_runs.specs.SavedDies.{saved_end}
use Rattle.flashplan_full_dies.specs.declared.faults.FillFault.{FillFault}
use Rattle.flashplan_full_dies.specs.declared.faults.FillFault.TheVariants as faults
use Rattle.flashplan_full_dies.specs.declared.fills.Filled.{Filled}
use Rattle.flashplan_full_dies.specs.declared.fills.TheConstants.{MOST_LIVES}

-- a page lies in a cell
abbrev pub lies : SavedPage → Bool
lies page = is_some page.place

-- a die is full where each of its logical pages lies in a cell
abbrev pub IsFull : SavedDie → Type 0
IsFull die = All (λ page. lies page ≡ true) die.pages

-- by die and page, whether the page lies in a cell
abbrev pub held_of : List SavedDie → List (List Bool)
held_of dies = map (λ (die : SavedDie). map lies die.pages) dies

-- of no die, where none was saved
abbrev pub held_before : Option (List SavedDie) → List (List Bool)
held_before None = []
held_before (Some dies) = held_of dies

-- as the code has it
abbrev pub items_of : Vec (Vec Bool) → List (List Bool)
items_of held = map (λ (pages : Vec Bool). pages.items) held.items

-- One life: dies, fresh or as they were saved before, ran a script that keeps their plans for some slots, of which
-- `refused` rows were refused, and went on until all was done; and this was saved of them.
pub record IsLife (plans : List DiePlan) (before : Option (List SavedDie)) (refused : ℕ) (after : List SavedDie) : Type 0 where
  pub slots : ℕ
  pub script : List ℕ
  pub planned : IsPlannedScript plans slots script
  pub counts : RefusedRows
  pub counted : refused ≡ counts.count
  pub dies : List (Core Memory)
  pub ran : RanAndWentOn (starts_by plans before) (Some script) slots true counts (running dies)
  pub saved : after ≡ map saved_end dies

-- this was saved after a number of lives, one after the other, from fresh dies on, in all of which `refused` rows were
-- refused
abbrev pub IsLeftAfter : List DiePlan → ℕ → ℕ → Option (List SavedDie) → Type 0
IsLeftAfter plans zero refused saved = (refused ≡ 0) × (saved ≡ None)
IsLeftAfter plans (suc lives) refused saved = (before : Option (List SavedDie)) × ((earlier : ℕ) × (IsLeftAfter plans lives earlier before
    × ((after : List SavedDie) × ((more : ℕ) × ((saved ≡ Some after) × ((refused ≡ earlier + more) × IsLife plans before more after))))))

-- full dies, after `least` lives at least
pub record AreFilled (plans : List DiePlan) (least : ℕ) (filled : Filled) : Type 0 where
  pub left : IsLeftAfter plans filled.lives filled.refused (Some filled.saved)
  pub enough : least ≤ filled.lives
  pub full : All IsFull filled.saved

-- after as many lives as are run a page lies in no cell
pub record AreSlow (plans : List DiePlan) : Type 0 where
  pub lives : ℕ
  pub all_lives : lives ≡ MOST_LIVES
  pub refused : ℕ
  pub saved : List SavedDie
  pub left : IsLeftAfter plans lives refused (Some saved)
  pub not_full : ¬ All IsFull saved

-- none of the tasks of a die writes
abbrev pub NeverWrites : DiePlan → Type 0
NeverWrites plan = IfSome plan.times (λ times. All (λ (t : TaskTimes). t.writes ≡ 0) times.tasks)

-- Why dies aren't filled: more lives are asked for than are run; no script is made, or not out of memory; a die has no task that
-- writes; or after as many lives as are run they aren't full. Else memory ran out, or dies aren't run or saved that have times
-- which pass their test.
abbrev pub IsUnfilled : List DiePlan → ℕ → FillFault → Type 0
IsUnfilled plans least (faults.Unplanned fault) = IsUnplanned plans fault
IsUnfilled plans least (faults.NeverFull die) = All HasPassed plans × IsSomeAnd (slice_get plans die) NeverWrites
IsUnfilled plans least faults.TooManyLives = MOST_LIVES < least
IsUnfilled plans least faults.TooSlow = AreSlow plans
IsUnfilled plans least _ = All HasPassed plans
