use Rattle.std.proofs.Common.{◌<◌, arith}
use Rattle.text_base.proofs.StartLaws.{number-starts}
use Rattle.text_base.proofs.WordLaws.{from-place}
use Rattle.text_base.proofs.numbers.number_and_rest.Goals as goal

pub returns : goal.returns
returns c =
    let small : c.args.value < 4294967296 = omega arith in
    rw (from-place c.args.text.now c.args.digits)
    (number-starts c.args.text.now c.args.digits c.args.value (omega arith) (omega arith) (omega arith) c.requires.value small)
