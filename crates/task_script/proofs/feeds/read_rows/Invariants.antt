use Rattle.std.proofs.Common.{◌≡◌, ◌≤◌, ◌<◌, ◌+◌}
use Rattle.script_texts.specs.ScriptLeft.{dies_of, line_of, script_rows_left, slots_of}
use Rattle.task_script.specs.Feeds.{rows_dealt}
use Rattle.task_script.proofs.Dealing.{HasReadTo}
use Rattle.task_script.proofs.feeds.read_rows.Given as goal

abbrev pub invariant-loop : goal.invariant-loop
invariant-loop g l = record {
  dies : dies_of l.script ≡ dies_of l.fn.script;
  slots : slots_of l.script ≡ slots_of l.fn.script;
  read : HasReadTo (script_rows_left g.R.Read.remaining l.fn.script) (script_rows_left g.R.Read.remaining l.script) (dies_of l.fn.script)
      (slots_of l.fn.script) (line_of l.fn.script) (line_of l.script) l.rows.items;
  few : rows_dealt l.rows.items ≤ l.counter;
  later : line_of l.fn.script + l.counter ≤ line_of l.script;
  below : 0 < l.counter → line_of l.script ≤ 1000002;
}
