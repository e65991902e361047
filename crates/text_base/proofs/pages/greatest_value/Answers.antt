use Rattle.std.proofs.Common.{arith}
use Rattle.text_base.proofs.PageLaws.{up-to-more}
use Rattle.text_base.proofs.pages.greatest_value.Goals as goal

pub loop-i-init : goal.loop-i-init
loop-i-init c = λ i below. absurd (omega (arith, below))

pub loop-i-preserved : goal.loop-i-preserved
loop-i-preserved c =
    up-to-more c.args.digits.now c.loop-i.most _ c.loop-i.i c.digit_value.result c.loop-i.invariant c.digit_value.ensures (omega arith)
    (omega arith)
