use Rattle.std.proofs.Common.{◌≡◌, drop}
use Rattle.report_texts.specs.Worst.{worst_from, worst_of}
use Rattle.report_texts.proofs.report_certs.worst.Given as goal

abbrev pub invariant-loop-row : goal.invariant-loop-row
invariant-loop-row l = worst_from l.best (drop l.row-index l.rows) ≡ worst_of l.rows
