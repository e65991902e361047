use Rattle.std.proofs.Common.{rules, ◌≡◌, true}
use Rattle.csv.specs.Records.{fields_of}
use Rattle.text_base.specs.Fields.{field_or}
use Rattle.script_texts.specs.RowTexts.{row_with_text}
use Rattle.script_texts.proofs.StepLaws.{step-header}
use Rattle.script_texts.proofs.steps.read_first.Goals as goal

pub returns-clause-step : goal.returns-clause-step
returns-clause-step g c =
    let found : c.in_ok-take_row.field-0 ≡ true = search rules in
    step-header c.args.slots c.args.lasts.now _ _ _ _ _ (row_with_text c.read_head.result (field_or (fields_of c.read_head.new.row) 6))
    (rw found at c.in_ok-take_row.ensures.takes) (search rules) c.read_head.ensures.step
