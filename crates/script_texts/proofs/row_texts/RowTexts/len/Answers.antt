use Rattle.std.proofs.Common.{ap, arith, length}
use Rattle.csv.specs.Records.{fields_of}
use Rattle.script_texts.proofs.RowLists.{rows_long}
use Rattle.script_texts.proofs.row_texts.RowTexts.len.Goals as goal

pub returns : goal.returns
returns c =
    let f = c.self.inside in
    omega (arith, c.len.ensures, rows_long f.heads.items (fields_of f.texts) c.self.invariant.0, ap length c.self.view_is)
