use Rattle.std.proofs.Common.{rules, ◌≡◌, Err, false, inr, sym, true, ◌∙◌}
use Rattle.std.specs.Prelude.{nat_lt}
use Rattle.csv.specs.Records.{fields_of}
use Rattle.script_texts.proofs.RowFaults.{head-of-record}
use Rattle.script_texts.proofs.StepLaws.{step-row}
use Rattle.script_texts.proofs.steps.read_head.Goals as goal

pub returns-clause-step : goal.returns-clause-step
returns-clause-step g c =
    let found : c.in_ok-take_row.field-0 ≡ true = search rules in
    let low : nat_lt 1000001 c.args.line ≡ false = search rules in
    step-row c.args.slots c.args.lasts.now c.args.line _ _ _ c.in_ok-head.head (rw found at c.in_ok-take_row.ensures.takes) low c.in_ok-head.ensures.head

pub returns-in_err-head-clause-failed : goal.returns-in_err-head-clause-failed
returns-in_err-head-clause-failed g c =
    let fault : c.from_residual-in_err-head.result ≡ Err c.in_err-head.field-0.0 = search rules in
    rw fault (inr (
      head-of-record c.args.slots c.args.lasts.now c.args.line (fields_of c.take_row.new.row) c.in_err-head.field-0.0
          (sym c.head_in.ensures.head ∙ c.in_err-head.was),
      c.in_ok-take_row.ensures.goes,
    ))
