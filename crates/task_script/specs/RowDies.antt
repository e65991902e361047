-- A die of a script's run, with its rows: how far it has come, and what a batch makes of it.
use Rattle.std.specs.Prelude.{◌≡◌, ◌⊎◌, ℕ, ◌+◌, ◌-◌, ◌≤◌, max, false, List, [], ◌∷◌, ◌++◌, length, Result, Ok, Err}
use Rattle.slot_types.specs.declared.limits.TheConstants.{MAX_SLOT}
use Rattle.slot_types.specs.declared.plans.DiePlan.{DiePlan}
use Rattle.slot_types.specs.declared.refusals.Refusal.{Refusal}
use Rattle.slot_types.specs.declared.refusals.Refusal.TheVariants.{NoMemory}
use Rattle.flash_die.specs.Memory.{Memory}
use Rattle.die_log.specs.Model.Log.{now}
use Rattle.die_log.specs.Model.Start.{fresh}
use Rattle.slot_core.specs.Core.{Core}
use Rattle.die_service.specs.Drives.{whole_course}
use Rattle.script_texts.specs.RowTexts.{RowText, item_in, row_text}
use Rattle.script_texts.specs.declared.script_rows.RowHead.{RowHead}
use Rattle.script_texts.specs.declared.script_rows.ScriptItem.{ScriptItem}
use Rattle.task_script.specs.DieRuns.{MakesCalls, calls_from, calls_of, fresh_run, run_at}
use Rattle.task_script.specs.RowEnds.{arrival_of, arrivals_of, lines_of}
use Rattle.task_script.specs.RowTexts.{read_of}
use Rattle.task_script.specs.RunCounts.{count_of, counted_after, rows_in}
use Rattle.task_script.specs.declared.row_dies.RowDie.{RowDie}
use Rattle.task_script.specs.declared.run_counts.RowEnd.{RowEnd}

-- the greatest slot by which one of these rows comes, 0 where there is none
abbrev pub latest_slot : List ScriptItem → ℕ
latest_slot [] = 0
latest_slot (item ∷ items) = max item.at (latest_slot items)

abbrev pub core_of : RowDie → Core Memory
core_of d = d.die.die

-- a die of this plan that runs, and to which nothing is still to come; its clock stands at its present slot
pub record IsIdle (plan : DiePlan) (d : RowDie) : Type 0 where
  pub start_is : (core_of d).start ≡ fresh plan
  pub runs : (core_of d).stopped ≡ false
  pub clock_is : d.die.clock ≡ now (core_of d).log
  pub within : d.die.clock ≤ MAX_SLOT
  pub none : d.die.course ≡ whole_course []
  pub no_lines : d.lines.items ≡ []

-- A row was read, and comes after the others; or it is at fault, or memory ran out, and then nothing is said of the die
abbrev pub AddsRow : RowHead → List ℕ → RowDie → Result Unit Refusal → RowDie → Type 0
AddsRow head text old (Ok _) new = (item : ScriptItem) × (item_in (row_text head text) ≡ Ok item)
    × (new ≡ record old {
      die = record old.die { course = record old.die.course { rest = old.die.course.rest ++ arrival_of item ∷ [] } };
      lines = new.lines;
      latest = max old.latest item.at;
      ops = new.ops;
    })
    × (new.lines.items ≡ old.lines.items ++ item.line ∷ [])
AddsRow head text old (Err e) new = (e ≡ NoMemory) ⊎ (item_in (row_text head text) ≡ Err e)

-- these rows were read, and come next; or the first that has a fault was found, or memory ran out
abbrev pub HasRead : List RowText → RowDie → Result Unit Refusal → RowDie → Type 0
HasRead rows old (Ok _) new = (items : List ScriptItem) × (read_of rows ≡ Ok items)
    × (new.die ≡ record old.die { course = whole_course (arrivals_of items) })
    × (new.lines.items ≡ lines_of items) × (new.latest ≡ latest_slot items) × (new.count ≡ old.count)
HasRead rows old (Err e) new = (e ≡ NoMemory) ⊎ (read_of rows ≡ Err e)

-- a die of this plan has run these rows, up to the last one, and at least up to slot `until`, and counted them
pub record HasCome (plan : DiePlan) (items : List ScriptItem) (until : ℕ) (d : RowDie) : Type 0 where
  pub ends : List RowEnd
  pub idle : IsIdle plan d
  pub clock_is : d.die.clock ≡ max (latest_slot items) until
  pub ran : MakesCalls plan fresh_run (calls_of d.die.clock items) (run_at (core_of d).log ends)
  pub counted : d.count ≡ count_of ends
  pub rows : rows_in d.count ≡ length items

-- it ran these rows next
pub record HasRunOn (until : ℕ) (items : List ScriptItem) (old new : RowDie) : Type 0 where
  pub plan : DiePlan
  pub ends : List RowEnd
  pub was_idle : IsIdle plan old
  pub idle : IsIdle plan new
  pub clock_is : new.die.clock ≡ max (max old.die.clock (latest_slot items)) until
  pub ran : MakesCalls plan (run_at (core_of old).log []) (calls_from old.die.clock (new.die.clock - old.die.clock) items)
      (run_at (core_of new).log ends)
  pub counted : new.count ≡ counted_after old.count ends
  pub rows : rows_in new.count ≡ rows_in old.count + length items
