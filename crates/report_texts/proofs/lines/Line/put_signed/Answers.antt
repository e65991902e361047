use Rattle.std.proofs.Common.{◌≤◌, arith, length}
use Rattle.std.specs.Prelude.{decimal}
use Rattle.report_texts.proofs.LineLaws.{short-size}
use Rattle.report_texts.proofs.lines.Line.put_signed.Goals as goal

pub write_digits-self-requires : goal.write_digits-self-requires
write_digits-self-requires c =
    let short : length (decimal c.unsigned_abs.result) ≤ 19 = short-size c.unsigned_abs.result (omega arith) in
    (omega arith, omega arith)

pub put_byte-requires : goal.put_byte-requires
put_byte-requires c =
    let short : length (decimal c.unsigned_abs.result) ≤ 19 = short-size c.unsigned_abs.result (omega arith) in
    omega arith

pub returns-then-number-lt0-clause-room : goal.returns-then-number-lt0-clause-room
returns-then-number-lt0-clause-room c =
    let short : length (decimal c.unsigned_abs.result) ≤ 19 = short-size c.unsigned_abs.result (omega arith) in
    omega arith

pub returns-else-number-lt0-clause-room : goal.returns-else-number-lt0-clause-room
returns-else-number-lt0-clause-room c =
    let short : length (decimal c.unsigned_abs.result) ≤ 19 = short-size c.unsigned_abs.result (omega arith) in
    omega arith
