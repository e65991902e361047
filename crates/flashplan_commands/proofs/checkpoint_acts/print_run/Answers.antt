use Rattle.std.proofs.Common.{inr, refl}
use Rattle.report_texts.proofs.TextParts.{whole_is}
use Rattle.report_texts.specs.ReportText.{report_text}
use Rattle.task_script.specs.StoreRuns.{reports_of}
use Rattle.text_base.proofs.WritingLaws.{on-error}
use Rattle.flashplan_commands.proofs.checkpoint_acts.print_run.Goals as goal

pub returns-in_err-write-clause-part : goal.returns-in_err-write-clause-part
returns-in_err-write-clause-part g c =
    let dies = c.in_ok-dies.field-0.dies.items in
    on-error c.from_residual-in_err-write.result _
    (inr (
      c.in_err-write.ensures.failed,
      (
        report_text (reports_of 0 dies),
        record {
          store = c.in_ok-timed.timed.store;
          read = c.in_ok-timed.ensures.store;
          saved = c.in_ok-from.from;
          begun = c.in_ok-from.ensures;
          counts = c.in_ok-dies.field-0.refused;
          dies = dies;
          all = c.in_ok-dies.ensures.count;
          ran = c.in_ok-dies.ensures.ran;
          written = refl;
        },
        rw (whole_is (reports_of 0 dies) _ c.in_ok-dies.ensures.report) at c.in_err-write.ensures.part,
      ),
    ))

pub returns-clause-printed : goal.returns-clause-printed
returns-clause-printed g c =
    let dies = c.in_ok-dies.field-0.dies.items in
    record {
      store = c.in_ok-timed.timed.store;
      read = c.in_ok-timed.ensures.store;
      saved = c.in_ok-from.from;
      begun = c.in_ok-from.ensures;
      counts = c.in_ok-dies.field-0.refused;
      dies = dies;
      all = c.in_ok-dies.ensures.count;
      ran = c.in_ok-dies.ensures.ran;
      written = rw (whole_is (reports_of 0 dies) _ c.in_ok-dies.ensures.report) at c.in_ok-write.ensures.written;
    }
