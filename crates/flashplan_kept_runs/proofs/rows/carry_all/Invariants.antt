use Rattle.std.proofs.Common.{◌≡◌, ℕ, List, length, map}
use Rattle.script_texts.specs.declared.script_rows.ScriptItem.{ScriptItem}
use Rattle.flashplan_kept_runs.specs.KeptDies.{begins_of}
use Rattle.flashplan_kept_runs.specs.KeptRuns.{HaveKeptTo, HaveTaken}
use Rattle.flashplan_kept_runs.proofs.rows.carry_all.Given as goal

abbrev pub invariant-loop-place : goal.invariant-loop-place
invariant-loop-place g l = record {
  ran : (rows : ℕ → List ScriptItem) → HaveTaken rows (map g.D.KeptScriptDie.kept l.fn.dies.items)
      → HaveKeptTo l.place rows l.slot (map g.D.KeptScriptDie.kept l.dies.items);
  begins : begins_of (map g.D.KeptScriptDie.kept l.dies.items) ≡ begins_of (map g.D.KeptScriptDie.kept l.fn.dies.items);
  count : length l.dies.items ≡ length l.fn.dies.items;
}
