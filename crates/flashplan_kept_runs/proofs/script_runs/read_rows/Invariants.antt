use Rattle.std.proofs.Common.{◌≡◌, length, map}
use Rattle.script_texts.specs.ScriptLeft.{dies_of, script_left, slots_of}
use Rattle.flashplan_kept_runs.specs.KeptDies.{begins_of}
use Rattle.flashplan_kept_runs.proofs.ReadSoFar.{HasRead}
use Rattle.flashplan_kept_runs.proofs.script_runs.read_rows.Given as goal

abbrev pub invariant-loop : goal.invariant-loop
invariant-loop g l = record {
  dies : dies_of l.script ≡ length l.dies.items;
  slots : slots_of l.script ≡ slots_of l.fn.script;
  begins : begins_of (map g.D.KeptScriptDie.kept l.dies.items) ≡ begins_of (map g.D.KeptScriptDie.kept l.fn.dies.items);
  count : length l.dies.items ≡ length l.fn.dies.items;
  read : HasRead (script_left g.R.Read.remaining l.fn.script) (script_left g.R.Read.remaining l.script)
      (map g.D.KeptScriptDie.kept l.dies.items);
}
