-- What a reader of a report has left.
use Rattle.std.specs.Prelude.{ℕ, List, Option, option_map}
use Rattle.report_texts.specs.RecordsLeft.{records_unread}
use Rattle.report_texts.specs.ReportOf.{Reading, report_from}
use Rattle.report_texts.specs.declared.report_reader.ReportReader.{ReportReader}

-- the report that the records of its text say which it has still to read, where they are known
abbrev pub report_left : {R : Type 0} → (R → Option (List ℕ)) → ReportReader R → Option Reading
report_left rem r = option_map report_from (records_unread rem r)
