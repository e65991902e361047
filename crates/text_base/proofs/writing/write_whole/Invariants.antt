use Rattle.std.proofs.Common.{length}
use Rattle.text_base.specs.Flags.{KeepsFlag}
use Rattle.text_base.specs.Writing.{AppendsUpTo}
use Rattle.text_base.proofs.writing.write_whole.Given as goal

abbrev pub invariant-loop-left : goal.invariant-loop-left
invariant-loop-left g l =
    AppendsUpTo (g.W.Write.contents l.initial.writer) (g.W.Write.contents l.writer) l.text l.left
    × KeepsFlag (g.W.Output.has_failed l.initial.writer) (g.W.Output.has_failed l.writer)

abbrev pub decreases-loop-left : goal.decreases-loop-left
decreases-loop-left g l = length l.left
