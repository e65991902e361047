-- Runs whose refused rows are counted.
use Rattle.std.specs.Prelude.{ℕ, List, Option}
use Rattle.die_log.specs.Model.Start.{Start}
use Rattle.script_texts.specs.Script.{Script}
use Rattle.flashplan_script_runs.specs.Counted.{CountsRows}
use Rattle.flashplan_script_runs.specs.RunningDies.{RunningDie}
use Rattle.flashplan_script_runs.specs.ScriptRuns.{IsRunOf, RanScript}
use Rattle.flashplan_script_runs.specs.declared.counted.RefusedRows.{RefusedRows}
use Rattle.flashplan_script_runs.specs.declared.refused.RefusedRow.{RefusedRow}

-- these dies ran their rows of a script, of which those were refused that `counts` has
pub record RanCounting (script : Option Script) (slots : ℕ) (counts : RefusedRows) (dies : List RunningDie) : Type 0 where
  pub refused : List RefusedRow
  pub ran : RanScript script slots refused dies
  pub counted : CountsRows refused counts

-- the same of a script's text, and of dies that start so
pub record IsRunCounting (starts : List Start) (text : Option (List ℕ)) (slots : ℕ) (counts : RefusedRows) (dies : List RunningDie)
    : Type 0 where
  pub refused : List RefusedRow
  pub ran : IsRunOf starts text slots refused dies
  pub counted : CountsRows refused counts
