-- Runs whose power went.
use Rattle.std.specs.Prelude.{◌≡◌, ℕ, List, Option, Some, None, map, slice_get}
use Rattle.std.specs.Box.{box_value}
use Rattle.slot_types.specs.declared.plans.DiePlan.{DiePlan}
use Rattle.die_log.specs.Model.Start.{fresh}
use Rattle.stepped_die.specs.Names.{GoesOn}
use Rattle.flashplan_script_runs.specs.Counted.{CountsRows}
use Rattle.flashplan_script_runs.specs.ScriptRuns.{IsRunAs}
use Rattle.flashplan_script_runs.specs.declared.counted.RefusedRows.{RefusedRows}
use Rattle.flashplan_script_runs.specs.declared.refused.RefusedRow.{RefusedRow}
use Rattle.flashplan_power_cuts.specs.declared.cut_dies.Ended.TheVariants as ends
use Rattle.flashplan_power_cuts.specs.declared.runs.CutRun.{CutRun}
use Rattle.flashplan_power_cuts.specs.declared.runs.TriedRun.{TriedRun}
use Rattle.flashplan_power_cuts.specs.CutDies.{Cutting, running_of}
use Rattle.flashplan_labelled_parts.specs.Mounts.{HasMounted}
use Rattle.flashplan_power_cuts.specs.Said.{SaysAll}
use Rattle.flashplan_power_cuts.specs.Writes.{writes_of}

-- the die of this number of a store whose dies began fresh ran a script of this text and `slots` slots, or ended on the
-- way; and these rows were refused
pub record RanCutting (store : List DiePlan) (text : Option (List ℕ)) (slots number : ℕ) (refused : RefusedRows) (before : Cutting) : Type 0 where
  pub rows : List RefusedRow
  pub ran : IsRunAs (map fresh store) text slots number rows (running_of before)
  pub counted : CountsRows rows refused

-- such a run ended as its power went; the part was mounted, and a die goes on where that ended; and what is said of each page is
-- what that die holds, and what it is to the run
pub record IsCutRun (store : List DiePlan) (text : Option (List ℕ)) (slots number : ℕ) (run : CutRun) : Type 0 where
  pub ran : RanCutting store text slots number run.refused run.before
  pub cut : run.before.ended ≡ Some (ends.Cut run.call)
  pub writes : run.before.writes ≡ writes_of run.before.die.core.log
  pub mounted : HasMounted run.end
  pub plan : DiePlan
  pub plan_is : slice_get store number ≡ Some plan
  pub goes_on : GoesOn plan run.end.mounted.checkpoint run.end.names.items (box_value run.die)
  pub said : SaysAll run.before.die run.before.earlier run.before.writes (box_value run.die) run.pages.items

-- a die ran the script to its end, while cuts were tried at its calls
pub record HasTried (store : List DiePlan) (text : Option (List ℕ)) (slots number : ℕ) (run : TriedRun) : Type 0 where
  pub die : Cutting
  pub ran : RanCutting store text slots number run.refused die
  pub whole : die.ended ≡ None
