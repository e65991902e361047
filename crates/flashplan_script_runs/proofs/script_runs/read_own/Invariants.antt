use Rattle.std.proofs.Common.{◌≡◌}
use Rattle.script_texts.specs.ScriptLeft.{reading_left, script_left, slots_of}
use Rattle.flashplan_script_runs.proofs.FewRows.{LeftAfter}
use Rattle.flashplan_script_runs.proofs.ReadSoFar.{HasReadAs}
use Rattle.flashplan_script_runs.proofs.script_runs.read_own.Given as goal

abbrev pub invariant-loop : goal.invariant-loop
invariant-loop g l = record {
  slots : slots_of l.script ≡ slots_of l.fn.script;
  start : (g.D.ScriptDie.running l.die).start ≡ (g.D.ScriptDie.running l.fn.die).start;
  read : HasReadAs l.number (script_left g.R.Read.remaining l.fn.script) (script_left g.R.Read.remaining l.script) l.refused.items
      (g.D.ScriptDie.running l.die);
  left : LeftAfter l.counter (reading_left g.R.Read.remaining l.fn.script) (reading_left g.R.Read.remaining l.script);
  well : g.D.ScriptDie.runs_well l.fn.die → g.D.ScriptDie.runs_well l.die;
}
