use Rattle.csv.specs.Records.{fields_of}
use Rattle.report_texts.specs.ReportRows.{sound_row}
use Rattle.report_texts.proofs.WorkLaws.{work-row}
use Rattle.report_texts.proofs.kept_dies.DieWorkKeptDie.row_in.Goals as goal

pub returns-clause-ok : goal.returns-clause-ok
returns-clause-ok c = rw (c.die_row.ensures, c.new.ensures)
    (work-row c.in-Some.numbers (sound_row (fields_of c.args.fields.now)) c.in-Some.ensures)
