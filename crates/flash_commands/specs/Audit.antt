-- What an audit of a report prints, and its status.
use Rattle.std.specs.Prelude.{ℕ, ◌++◌, not, Bool, false, List, [], ◌∷◌, flat_map, codes, decimal, Option, Some, None}
use Rattle.std.specs.Prelude.{if◌then◌else◌, option_map}
use Rattle.std.specs.Fmt.{signed_decimal}
use Rattle.std.specs.List.{list_any}
use Rattle.late_cert.specs.Build.{verdict_on}
use Rattle.late_cert.specs.Schedule.{lateness_of}
use Rattle.late_cert.specs.Verdict.{fault_number, is_holds, name_of}
use Rattle.late_cert.specs.declared.certificates.Certificate.{Certificate}
use Rattle.late_cert.specs.declared.rows.JobRow.{JobRow}
use Rattle.late_cert.specs.declared.verdicts.Verdict.{Verdict}
use Rattle.report_texts.specs.ReportWork.{work_of}
use Rattle.report_texts.specs.declared.report_work.DieWork.{DieWork}
use Rattle.report_texts.specs.declared.reports.DieReport.{DieReport}

-- the verdict on the certificate of a die's work, if it has one
abbrev pub verdict_in : DieWork → Option Verdict
verdict_in work = option_map (verdict_on work.rows) work.cert

abbrev pub fault_text : Option ℕ → List ℕ → List ℕ
fault_text None name = codes "holds"
fault_text (Some number) name = codes "refused " ++ decimal number ++ codes " " ++ name

-- `holds`, or the number and the name of what is refused
abbrev pub verdict_text : Verdict → List ℕ
verdict_text verdict = fault_text (fault_number verdict) (name_of verdict)

-- the lateness and the job that a certificate speaks of
abbrev pub worst_text : ℕ → Certificate → List ℕ
worst_text die cert = codes "die " ++ decimal die ++ codes " worst " ++ signed_decimal (lateness_of cert.completion cert.due)
    ++ codes " job " ++ decimal cert.job ++ codes " "

abbrev pub cert_line : ℕ → List JobRow → Option Certificate → List ℕ
cert_line die rows None = codes "die " ++ decimal die ++ codes " no lateness" ++ 10 ∷ []
cert_line die rows (Some cert) = worst_text die cert ++ verdict_text (verdict_on rows cert) ++ 10 ∷ []

-- the line of a die's work
abbrev pub work_line : DieWork → List ℕ
work_line work = cert_line work.die work.rows work.cert

-- the line of a die
abbrev pub die_line : DieReport → List ℕ
die_line die = work_line (work_of die)

-- the lines of all dies, in order
abbrev pub audit_text : List DieReport → List ℕ
audit_text report = flat_map die_line report

abbrev pub refuses : List JobRow → Option Certificate → Bool
refuses rows None = false
refuses rows (Some cert) = not (is_holds (verdict_on rows cert))

-- whether a die's work has a certificate that is refused
abbrev pub is_refused_work : DieWork → Bool
is_refused_work work = refuses work.rows work.cert

-- whether a die has one
abbrev pub is_refused : DieReport → Bool
is_refused die = is_refused_work (work_of die)

-- the status of an audit: 3 where some certificate is refused
abbrev pub audit_status : List DieReport → ℕ
audit_status report = if list_any is_refused report then 3 else 0
