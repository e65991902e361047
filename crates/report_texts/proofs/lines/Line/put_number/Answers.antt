use Rattle.std.proofs.Common.{◌≤◌, arith, length}
use Rattle.std.specs.Prelude.{decimal}
use Rattle.report_texts.proofs.LineLaws.{short-number}
use Rattle.report_texts.proofs.lines.Line.put_number.Goals as goal

pub write_digits-self-requires : goal.write_digits-self-requires
write_digits-self-requires c =
    let short : length (decimal c.from.result) ≤ 10 = short-number c.from.result (omega arith) in
    (omega arith, omega arith)

pub returns-clause-room : goal.returns-clause-room
returns-clause-room c =
    let short : length (decimal c.from.result) ≤ 10 = short-number c.from.result (omega arith) in
    omega arith
