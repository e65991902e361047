use Rattle.std.proofs.Common.{◌≡◌, All, length, map}
use Rattle.script_texts.specs.ScriptLeft.{dies_of, reading_left, script_left, slots_of}
use Rattle.flashplan_script_runs.specs.RunningDies.{starts_of}
use Rattle.flashplan_script_runs.proofs.FewRows.{LeftAfter}
use Rattle.flashplan_script_runs.proofs.ReadSoFar.{HasRead}
use Rattle.flashplan_script_runs.proofs.script_runs.read_rows.Given as goal

abbrev pub invariant-loop : goal.invariant-loop
invariant-loop g l = record {
  dies : dies_of l.script ≡ length l.dies.items;
  slots : slots_of l.script ≡ slots_of l.fn.script;
  starts : starts_of (map g.D.ScriptDie.running l.dies.items) ≡ starts_of (map g.D.ScriptDie.running l.fn.dies.items);
  count : length l.dies.items ≡ length l.fn.dies.items;
  read : HasRead (script_left g.R.Read.remaining l.fn.script) (script_left g.R.Read.remaining l.script) l.refused.items
      (map g.D.ScriptDie.running l.dies.items);
  left : LeftAfter l.counter (reading_left g.R.Read.remaining l.fn.script) (reading_left g.R.Read.remaining l.script);
  well : All g.D.ScriptDie.runs_well l.fn.dies.items → All g.D.ScriptDie.runs_well l.dies.items;
}
