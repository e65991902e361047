use Rattle.std.proofs.Common.{◌≡◌, drop}
use Rattle.report_texts.specs.TextSoFar.{rows_added}
use Rattle.report_texts.proofs.report_writing.add_rows.Given as goal

abbrev pub invariant-loop-row : goal.invariant-loop-row
invariant-loop-row l = rows_added l.die (drop l.row-index l.rows) l.text ≡ rows_added l.die l.rows l.initial.text
