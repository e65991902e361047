use Rattle.std.proofs.Common.{◌∙◌, [], ap}
use Rattle.report_texts.specs.Commas.{after_commas}
use Rattle.report_texts.specs.ReportText.{row_start}
use Rattle.report_texts.specs.RowNumbers.{row_with}
use Rattle.report_texts.specs.declared.row_numbers.RowNumbers.{RowNumbers}
use Rattle.report_texts.proofs.LineLaws.{field-before, no-field}
use Rattle.report_texts.proofs.report_lines.row_line.Goals as goal

pub returns : goal.returns
returns c =
    let none = no-field _ c.new-line.ensures.text in
    let given = field-before _ _ _ _ none c.put_field_if.ensures.text in
    let late = field-before _ _ _ _ given c.put_lateness_if.ensures.text in
    let completion = field-before _ _ _ _ late c.put_field_if-2.ensures.text in
    let work = field-before _ _ _ _ completion c.put_field.ensures.text in
    let due = field-before _ _ _ _ work c.put_field-2.ensures.text in
    let release = field-before _ _ _ _ due c.put_field-3.ensures.text in
    let task = field-before _ _ _ _ release c.put_field-4.ensures.text in
    let job = field-before _ _ _ _ task c.put_field-5.ensures.text in
    let die = field-before _ _ _ _ job c.put_field-6.ensures.text in
    die ∙ ap (λ (row : RowNumbers). after_commas (row_start row.die (row_with row []))) c.row.view_is
