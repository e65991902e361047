-- A run of what a reader has left is one of its text.
use Rattle.std.proofs.Common.{◌≡◌, ℕ, List, length, map, Option, Some}
use Rattle.std.specs.Prelude.{slice_get, option_map}
use Rattle.std.proofs.lemmas.List.{length-map}
use Rattle.slot_types.specs.declared.plans.DiePlan.{DiePlan}
use Rattle.die_log.specs.Model.Start.{fresh}
use Rattle.script_texts.specs.Script.{Script, script_of}
use Rattle.flashplan_script_runs.specs.Counted.{CountsRows}
use Rattle.flashplan_script_runs.specs.ScriptRuns.{RanAsDie}
use Rattle.flashplan_script_runs.specs.declared.counted.RefusedRows.{RefusedRows}
use Rattle.flashplan_script_runs.specs.declared.refused.RefusedRow.{RefusedRow}
use Rattle.flashplan_script_runs.proofs.TextRuns.{run_as_text}
use Rattle.flashplan_power_cuts.specs.CutDies.{Cutting, running_of}
use Rattle.flashplan_power_cuts.specs.Runs.{RanCutting}

pub ran_cutting : (store : List DiePlan) (text : Option (List ℕ)) (slots number : ℕ) (left : Option Script) (rows : List RefusedRow)
    (refused : RefusedRows) (die : Cutting) → left ≡ option_map (script_of (length store) slots) text
    → slice_get (map fresh store) number ≡ Some die.die.core.start → RanAsDie left slots number rows (running_of die)
    → CountsRows rows refused → RanCutting store text slots number refused die
ran_cutting store text slots number left rows refused die is begun ran counted = record {
  rows = rows;
  ran = run_as_text (map fresh store) text slots (length store) number left rows (running_of die) (length-map store fresh) is begun ran;
  counted = counted;
}
