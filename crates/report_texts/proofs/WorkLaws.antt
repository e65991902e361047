-- The work of a report is kept row by row, and rises where the rows are numbered.
use Rattle.std.proofs.Common.{◌≡◌, ℕ, List, [], ◌∷◌, ◌++◌, Option, Some, None, Result, Ok, Err, refl, sym, ap, subst, ◌∙◌}
use Rattle.std.specs.Prelude.{IfOk, OnOk, option_map}
use Rattle.std.specs.List.{cons_option}
use Rattle.std.proofs.lemmas.List.Elements.{All-cons, All-head, All-nil, All-tail, filter_map-append}
use Rattle.std.proofs.lemmas.Option.{same_Some}
use Rattle.late_cert.specs.Rows.{RowsRise}
use Rattle.slot_types.specs.declared.refusals.Refusal.{Refusal}
use Rattle.report_texts.specs.JobRows.{job_row_if, job_row_of, job_rows_of}
use Rattle.report_texts.specs.KeptDies.{SaysKept, kept_row}
use Rattle.report_texts.specs.Numbering.{AreNumbered, IsNumbered}
use Rattle.report_texts.specs.ReportOf.{Reading}
use Rattle.report_texts.specs.ReportWork.{AllRise, SaysWork, with_work, work_of, works_of}
use Rattle.report_texts.specs.RowNumbers.{die_row, numbers_of}
use Rattle.report_texts.specs.Worst.{finish_if, finish_of, worse_finish, worst_from, worst_of}
use Rattle.report_texts.specs.declared.report_certs.Finish.{Finish}
use Rattle.report_texts.specs.declared.report_rows.DieRow.{DieRow}
use Rattle.report_texts.specs.declared.report_work.DieWork.{DieWork}
use Rattle.report_texts.specs.declared.reports.DieReport.{DieReport}
use Rattle.report_texts.specs.declared.reports.ReportRow.{ReportRow}
use Rattle.report_texts.specs.declared.reports.RowKind.{RowKind}
use Rattle.report_texts.specs.declared.reports.RowKind.TheVariants as kind
use Rattle.report_texts.specs.declared.row_numbers.RowNumbers.{RowNumbers}
use Rattle.report_texts.proofs.NumberLaws.{numbers-rise}

-- a row, without its reads
abbrev pub bare : DieRow → ReportRow
bare x = (kept_row (λ _. []) x).row

-- what the reads gave is no part of the work
job-row : (x : DieRow) (k : RowKind) → job_row_if x.row k ≡ job_row_if (bare x) k
job-row x kind.Job = refl
job-row x kind.Collect = refl
job-row x kind.Waived = refl

finish : (x : DieRow) (completion : Option ℕ) → finish_if x.row completion ≡ finish_if (bare x) completion
finish x None = refl
finish x (Some completion) = refl

worst-more : (best : Option Finish) (rows : List ReportRow) (row : ReportRow)
    → worst_from best (rows ++ row ∷ []) ≡ worse_finish (worst_from best rows) (finish_of row)
worst-more best [] row = refl
worst-more best (r ∷ rows) row = worst-more (worse_finish best (finish_of r)) rows row

-- the work of a die with one more row
pub work-more : (die : DieReport) (x : DieRow)
    → work_of (record die { rows = die.rows ++ x.row ∷ [] }) ≡ with_work (work_of die) (bare x)
work-more die x =
    let rows-are : job_rows_of (die.rows ++ x.row ∷ []) ≡ job_rows_of die.rows ++ job_rows_of (bare x ∷ [])
    = filter_map-append job_row_of die.rows (x.row ∷ []) ∙ ap (λ o. job_rows_of die.rows ++ cons_option o []) (job-row x x.row.row) in
    let worst-is : worst_of (die.rows ++ x.row ∷ []) ≡ worse_finish (worst_of die.rows) (finish_of (bare x))
    = worst-more None die.rows x.row ∙ ap (worse_finish (worst_of die.rows)) (finish x x.row.completion) in
    rw (rows-are, worst-is) refl

pub work-pushed : (r : Result (Unit {0}) Refusal) (old new : DieWork) (row : ReportRow) (die : DieReport) (x : DieRow)
    → OnOk r (new ≡ with_work old row) → old ≡ work_of die → row ≡ bare x
    → OnOk r (new ≡ work_of (record die { rows = die.rows ++ x.row ∷ [] }))
work-pushed (Ok u) old new row die x added is kept = added ∙ rw (is, kept) (sym (work-more die x))
work-pushed (Err e) old new row die x added is kept = tt

-- the numbers of a row are all that is kept of it
pub work-row : (numbers : RowNumbers) (o : Option DieRow) → Some numbers ≡ option_map numbers_of o
    → Some (die_row numbers []) ≡ option_map (kept_row (λ _. [])) o
work-row numbers None said = absurd (cc said)
work-row numbers (Some x) said = ap (λ n. Some (die_row n [])) (same_Some numbers (numbers_of x) said)

abbrev HasNumbers : DieReport → Type 0
HasNumbers die = IsNumbered die.rows

abbrev HasRising : DieWork → Type 0
HasRising work = RowsRise work.rows

-- the work of numbered rows rises
pub works-rise : (dies : List DieReport) → AreNumbered dies → AllRise (works_of dies)
works-rise [] h = All-nil HasRising
works-rise (die ∷ dies) h =
    All-cons HasRising (work_of die) (works_of dies) (numbers-rise 0 die.rows (All-head HasNumbers die dies h))
    (works-rise dies (All-tail HasNumbers die dies h))

-- what is kept is the work of a report, and rises
pub kept-work : (known : Option Reading) (r : Result (List DieWork) Refusal) → SaysKept work_of known r → SaysWork known r × IfOk r AllRise
kept-work known (Ok work) (report, is, numbered, says) = ((report, is, says), subst AllRise (sym is) (works-rise report numbered))
kept-work known (Err e) says = (says, tt)
