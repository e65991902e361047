use Rattle.text_base.specs.CsvRecords.{rows_of}
use Rattle.report_texts.specs.ReportOf.{report_from}
use Rattle.report_texts.proofs.RecordLaws.{text-left}
use Rattle.report_texts.proofs.report_reader.ReportReader.new.Goals as goal

pub returns-clause-report : goal.returns-clause-report
returns-clause-report g c = text-left rows_of report_from (g.R.Read.remaining c.args.reader) _ c.rows_in.ensures.rows
