use Rattle.std.proofs.Common.{drop}
use Rattle.text_base.specs.Flags.{KeepsFlag}
use Rattle.text_base.specs.Writing.{AppendsUpTo}
use Rattle.report_texts.specs.TextSoFar.{certs_of_parts}
use Rattle.report_texts.proofs.report_writing.write_certs.Given as goal

abbrev pub invariant-loop-part : goal.invariant-loop-part
invariant-loop-part g l =
    AppendsUpTo (g.W.Write.contents l.initial.writer) (g.W.Write.contents l.writer) (certs_of_parts l.parts)
    (certs_of_parts (drop l.part-index l.parts))
    × KeepsFlag (g.W.Output.has_failed l.initial.writer) (g.W.Output.has_failed l.writer)
