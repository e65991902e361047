use Rattle.std.proofs.Common.{rules}
use Rattle.csv.specs.Records.{fields_of}
use Rattle.text_base.specs.Fields.{field_or}
use Rattle.script_texts.specs.RowTexts.{row_with_text}
use Rattle.script_texts.proofs.StepLaws.{step-one, step-more}
use Rattle.script_texts.proofs.steps.read_step.Goals as goal

pub returns-then-line-eq1-clause-step : goal.returns-then-line-eq1-clause-step
returns-then-line-eq1-clause-step g c =
    step-one c.args.slots c.args.lasts.now c.args.line _ _ (row_with_text c.read_first.result (field_or (fields_of c.read_first.new.row) 6))
    (search rules) c.read_first.ensures.step

pub returns-else-line-eq1-clause-step : goal.returns-else-line-eq1-clause-step
returns-else-line-eq1-clause-step g c =
    step-more c.args.slots c.args.lasts.now c.args.line _ _ (row_with_text c.read_head.result (field_or (fields_of c.read_head.new.row) 6))
    (search rules) c.requires.counted c.read_head.ensures.step
