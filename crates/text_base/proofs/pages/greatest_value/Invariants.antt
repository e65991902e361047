use Rattle.text_base.specs.PageStarts.{AreUpTo}
use Rattle.text_base.proofs.pages.greatest_value.Given as goal

abbrev pub invariant-loop-i : goal.invariant-loop-i
invariant-loop-i l = AreUpTo l.most l.digits l.i
