use Rattle.std.proofs.Common.{◌≡◌, ℕ, All, List, length, map}
use Rattle.flashplan_script_runs.specs.RunningDies.{starts_of}
use Rattle.flashplan_script_runs.specs.ScriptRuns.{EndedRow, HaveRun, HaveRunBelow}
use Rattle.flashplan_script_runs.proofs.rows.carry_all.Given as goal

abbrev pub invariant-loop-place : goal.invariant-loop-place
invariant-loop-place g l = record {
  ran : (rows : ℕ → List EndedRow) → HaveRun rows 0 (map g.D.ScriptDie.running l.fn.dies.items)
      → HaveRunBelow l.place rows l.slot (map g.D.ScriptDie.running l.dies.items);
  starts : starts_of (map g.D.ScriptDie.running l.dies.items) ≡ starts_of (map g.D.ScriptDie.running l.fn.dies.items);
  count : length l.dies.items ≡ length l.fn.dies.items;
  well : All g.D.ScriptDie.runs_well l.fn.dies.items → All g.D.ScriptDie.runs_well l.dies.items;
}
