use Rattle.std.proofs.Common.{[]}
use Rattle.report_texts.specs.ReportText.{kind_word, pages_field, row_start}
use Rattle.report_texts.specs.RowNumbers.{row_with}
use Rattle.report_texts.proofs.PlainFields.{field-made, record-made}
use Rattle.report_texts.proofs.PlainRecords.{row-fields-plain}
use Rattle.report_texts.proofs.report_lines.put_row.Goals as goal

pub returns : goal.returns
returns c =
    let old = c.args.text.now.items in
    let row = c.args.row.now in
    let pages = c.args.reads.now in
    let kind = kind_word row.row in
    let fields = field-made old kind (row_start row.die (row_with row [])) (pages_field pages) _ _ _ c.in_ok-put_row_start.ensures
    c.in_ok-push.ensures.items c.in_ok-put_pages.ensures in
    record-made old kind _ _ _ _ (row-fields-plain row.die (row_with row pages)) fields c.in_ok-push-2.ensures.items
