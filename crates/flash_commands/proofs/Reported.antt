-- A report that was read is that of its text, and its audit is that of its work.
use Rattle.std.proofs.Common.{◌≡◌, ℕ, List, [], ◌∷◌, ◌++◌, Option, Some, None, Ok, ap, refl}
use Rattle.std.specs.Prelude.{◌||◌, flat_map, option_map}
use Rattle.std.specs.List.{list_any}
use Rattle.report_texts.specs.ReportOf.{Says, report_of}
use Rattle.report_texts.specs.ReportWork.{works_of}
use Rattle.report_texts.specs.declared.reports.DieReport.{DieReport}
use Rattle.flash_commands.specs.Acts.{IsReportOf}
use Rattle.flash_commands.specs.Audit.{audit_text, die_line, is_refused, is_refused_work, work_line}

pub said-report : (text : Option (List ℕ)) (report : List DieReport) → Says (option_map report_of text) (Ok report)
    → IsReportOf text report
said-report None report said = tt
said-report (Some bytes) report said = said

pub text-works : (report : List DieReport) → flat_map work_line (works_of report) ≡ audit_text report
text-works [] = refl
text-works (die ∷ report) = ap (λ text. die_line die ++ text) (text-works report)

pub refused-works : (report : List DieReport) → list_any is_refused_work (works_of report) ≡ list_any is_refused report
refused-works [] = refl
refused-works (die ∷ report) = ap (λ refused. is_refused die || refused) (refused-works report)
