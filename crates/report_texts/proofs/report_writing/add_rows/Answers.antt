use Rattle.std.proofs.Common.{◌≡◌, ◌∙◌, ℕ, ap}
use Rattle.report_texts.specs.RowNumbers.{row_with}
use Rattle.report_texts.specs.TextSoFar.{row_added}
use Rattle.report_texts.specs.declared.reports.ReportRow.{ReportRow}
use Rattle.report_texts.proofs.TextParts.{rows_more}
use Rattle.report_texts.proofs.report_writing.add_rows.Goals as goal

pub loop-row-preserved : goal.loop-row-preserved
loop-row-preserved c =
    let row : row_with c.numbers_of.result c.as_slice.result.now ≡ c.row-item.result =
    ap (row_with c.numbers_of.result) c.as_slice.ensures ∙ c.numbers_of.ensures.row in
    rows_more c.args.die c.args.rows.now c.loop-row.row-index c.row-item.result c.loop-row.text _ _ c.loop-row-test.true c.row-item.is
    (c.in_ok-add_row.ensures.ok
    ∙ ap (λ (x : ℕ × ReportRow). row_added x.0 x.1 c.loop-row.text) (λ i. (c.numbers_of.ensures.die i, row i)))
    c.loop-row.invariant
