use Rattle.std.proofs.Common.{◌≡◌, take}
use Rattle.report_texts.specs.TextSoFar.{text_so_far}
use Rattle.report_texts.proofs.report_writing.text_of.Given as goal

abbrev pub invariant-loop-die : goal.invariant-loop-die
invariant-loop-die l = l.text ≡ text_so_far (take l.die-index l.report)
