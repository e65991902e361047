use Rattle.std.proofs.Common.{◌≡◌, ◌≤◌, ◌<◌, ◌+◌}
use Rattle.script_texts.specs.ScriptLeft.{dies_of, line_of, script_rows_left, slots_of}
use Rattle.task_script.proofs.Sent.{HasSent}
use Rattle.task_script.proofs.sending.send_all.Given as goal

abbrev pub invariant-loop : goal.invariant-loop
invariant-loop g l = record {
  dies : dies_of l.script ≡ dies_of l.fn.script;
  slots : slots_of l.script ≡ slots_of l.fn.script;
  sent : HasSent (script_rows_left g.S.Read.remaining l.fn.script) (script_rows_left g.S.Read.remaining l.script) (dies_of l.fn.script)
      (slots_of l.fn.script) (line_of l.fn.script) (line_of l.script) l.counter l.fn.run l.run;
  later : line_of l.fn.script + l.counter ≤ line_of l.script;
  below : 0 < l.counter → line_of l.script ≤ 1000002;
}
