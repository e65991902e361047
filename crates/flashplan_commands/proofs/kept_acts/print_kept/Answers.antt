use Rattle.std.proofs.Common.{inr, refl}
use Rattle.report_texts.proofs.TextParts.{whole_is}
use Rattle.report_texts.specs.ReportText.{report_text}
use Rattle.task_script.specs.StoreRuns.{reports_of}
use Rattle.text_base.proofs.WritingLaws.{on-error}
use Rattle.flashplan_kept_runs.specs.KeptDies.{cores_of}
use Rattle.flashplan_commands.proofs.kept_acts.print_kept.Goals as goal

pub returns-in_err-write-clause-part : goal.returns-in_err-write-clause-part
returns-in_err-write-clause-part g c =
    let dies = c.in_ok-dies.field-0.dies.items in
    on-error c.from_residual-in_err-write.result _
    (inr (
      c.in_err-write.ensures.failed,
      (
        report_text (reports_of 0 (cores_of dies)),
        record {
          plans = c.in_ok-plans.field-0.plans;
          read = c.in_ok-plans.ensures.kept;
          dies = dies;
          ran = c.in_ok-dies.ensures.ran;
          written = refl;
        },
        rw (whole_is (reports_of 0 (cores_of dies)) _ c.in_ok-dies.ensures.report) at c.in_err-write.ensures.part,
      ),
    ))

pub returns-clause-printed : goal.returns-clause-printed
returns-clause-printed g c =
    let dies = c.in_ok-dies.field-0.dies.items in
    record {
      plans = c.in_ok-plans.field-0.plans;
      read = c.in_ok-plans.ensures.kept;
      dies = dies;
      ran = c.in_ok-dies.ensures.ran;
      written = rw (whole_is (reports_of 0 (cores_of dies)) _ c.in_ok-dies.ensures.report) at c.in_ok-write.ensures.written;
    }
