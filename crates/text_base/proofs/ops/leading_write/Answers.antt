use Rattle.std.proofs.Common.{◌≡◌, ◌∷◌}
use Rattle.text_base.proofs.OpStarts.{write-starts}
use Rattle.text_base.proofs.ops.leading_write.Goals as goal

pub returns : goal.returns
returns c =
    let sign : c.in_ok-target.left.now ≡ 61 ∷ c.in_ok-sign.digits.now = cc (c.in_ok-sign.ensures.cases.0, c.if-sign-ne61.false) in
    write-starts c.args.text.now c.in_ok-target.left.now c.in_ok-sign.digits.now c.in_ok-bytes.rest.now c.in_ok-target.target
    c.in_ok-bytes.bytes
    c.in_ok-target.ensures sign c.in_ok-bytes.ensures
