-- The rows of a report are numbered from 0 on each die, and so the rows that certificates are checked against rise.
use Rattle.std.proofs.Common.{◌≡◌, ℕ, ◌+◌, ◌<◌, ◌==◌, List, [], ◌∷◌, ◌++◌, Bool, true, false, Some, length, map, ◌∙◌, subst}
use Rattle.std.proofs.Common.{inl, inr, arith, zero, suc}
use Rattle.std.specs.Prelude.{All, if◌then◌else◌}
use Rattle.std.specs.List.{cons_option, slice_index}
use Rattle.std.specs.List.Sorted.{IsStrictlyIncreasing}
use Rattle.std.proofs.lemmas.Bool.{cases_Bool}
use Rattle.std.proofs.lemmas.List.Elements.{All-append, All-cons, All-nil}
use Rattle.late_cert.specs.Rows.{RowsRise}
use Rattle.late_cert.specs.declared.rows.JobRow.{JobRow}
use Rattle.report_texts.specs.JobRows.{job_row_if, job_rows_of}
use Rattle.report_texts.specs.Numbering.{AreNumbered, GathersNumbered, IsNumbered, IsNumberedFrom}
use Rattle.report_texts.specs.ReportOf.{Gathered, all_dies, gathered_with, may_follow, report_on, with_row}
use Rattle.report_texts.specs.declared.report_rows.DieRow.{DieRow}
use Rattle.report_texts.specs.declared.reports.DieReport.{DieReport}
use Rattle.report_texts.specs.declared.reports.ReportRow.{ReportRow}
use Rattle.report_texts.specs.declared.reports.RowKind.{RowKind}
use Rattle.report_texts.specs.declared.reports.RowKind.TheVariants as kind
use Rattle.report_texts.proofs.ProgressLaws.{gathered-row}

-- Gathering

-- a row of the next number may be added
numbered-push : (n : ℕ) (rows : List ReportRow) (row : ReportRow) → IsNumberedFrom n rows → row.job ≡ n + length rows
    → IsNumberedFrom n (rows ++ row ∷ [])
numbered-push n [] row h next = (next ∙ (omega arith), tt)
numbered-push n (r ∷ rows) row h next = (h.0, numbered-push (n + 1) rows row h.1 (next ∙ (omega arith)))

abbrev HasNumbers : DieReport → Type 0
HasNumbers die = IsNumbered die.rows

numbered-last : (die : ℕ) (rows : List ReportRow) (empty : Bool) → IsNumbered rows
    → AreNumbered (if empty then [] else report_on die rows ∷ [])
numbered-last die rows true h = All-nil HasNumbers
numbered-last die rows false h = All-cons HasNumbers (report_on die rows) [] h (All-nil HasNumbers)

pub numbered-dies : (g : Gathered) → GathersNumbered g → AreNumbered (all_dies g)
numbered-dies g h = All-append HasNumbers g.done _ h.0 (numbered-last g.die g.rows (length g.rows == 0) h.1)

numbered-row : (g : Gathered) (x : DieRow) → may_follow g x ≡ true → GathersNumbered g → GathersNumbered (with_row g x)
numbered-row g x follows h = elim (cases_Bool (x.die == g.die)) [
  | inl same ↦
      let next : x.row.job ≡ length g.rows = grind (arith, rw same at follows) in
      rw same (h.0, numbered-push 0 g.rows x.row h.1 (next ∙ (omega arith)))
  | inr later ↦
      let first : x.row.job ≡ 0 = grind (arith, rw later at follows) in
      rw later (numbered-dies g h, (first, tt))
]

-- one more record keeps what is gathered numbered
pub numbered-more : (g more : Gathered) (fields : List (List ℕ)) → gathered_with g fields ≡ Some more → GathersNumbered g
    → GathersNumbered more
numbered-more g more fields e h =
    let (x, says, follows, is) = gathered-row g more fields e in
    rw is (numbered-row g x follows h)

-- The rows of jobs

abbrev numbers_in : List JobRow → List ℕ
numbers_in rows = map (λ (row : JobRow). row.number) rows

-- what holds of the numbers with a row's and without it, holds whatever the row is about
either-kind : (row : ReportRow) (k : RowKind) (rows : List JobRow) (P : List ℕ → Type 0)
    → P (numbers_in rows) → P (row.job ∷ numbers_in rows) → P (numbers_in (cons_option (job_row_if row k) rows))
either-kind row kind.Job rows P without with_it = with_it
either-kind row kind.Collect rows P without with_it = with_it
either-kind row kind.Waived rows P without with_it = without

numbers-above : (b n : ℕ) (rows : List ReportRow) → b < n → IsNumberedFrom n rows → All (λ m. b < m) (numbers_in (job_rows_of rows))
numbers-above b n [] below h = All-nil _
numbers-above b n (row ∷ rows) below h =
    let rest = numbers-above b (n + 1) rows (omega arith) h.1 in
    let over : b < row.job = omega (arith, h.0) in
    either-kind row row.row (job_rows_of rows) (λ ns. All (λ m. b < m) ns) rest (All-cons (λ m. b < m) row.job _ over rest)

rising-cons : (n : ℕ) (ns : List ℕ) → All (λ m. n < m) ns → IsStrictlyIncreasing ns → IsStrictlyIncreasing (n ∷ ns)
rising-cons n ns above rise zero within = above 0 0 (omega arith)
rising-cons n ns above rise (suc k) within =
    let next : suc (k + 1) ≡ suc k + 1 = omega arith in
    subst (λ j. slice_index ns k < slice_index (n ∷ ns) j) next (rise k (omega arith))

-- the rows that certificates are checked against rise
pub numbers-rise : (n : ℕ) (rows : List ReportRow) → IsNumberedFrom n rows → RowsRise (job_rows_of rows)
numbers-rise n [] h = λ k within. absurd (omega arith)
numbers-rise n (row ∷ rows) h =
    let rest = numbers-rise (n + 1) rows h.1 in
    let below : row.job < n + 1 = omega (arith, h.0) in
    either-kind row row.row (job_rows_of rows) IsStrictlyIncreasing rest
    (rising-cons row.job _ (numbers-above row.job (n + 1) rows below h.1) rest)
