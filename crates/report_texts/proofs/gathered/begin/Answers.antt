use Rattle.std.proofs.Common.{[], ap, ◌∙◌}
use Rattle.report_texts.specs.ReportOf.{report_on, with_last}
use Rattle.report_texts.specs.declared.report_rows.DieRow.{DieRow}
use Rattle.report_texts.proofs.KeptLaws.{kept-begun}
use Rattle.report_texts.proofs.gathered.begin.Goals as goal

pub returns-clause-ok : goal.returns-clause-ok
returns-clause-ok g c = λ rows x is row.
    let kept = c.args.kept.now in
    let made = c.in_ok-push.ensures.ok (report_on c.args.next.die []) x c.without_row-last.ensures (ap (λ (r : DieRow). r.row) row) in
    kept-begun g.K.KeptDie.kept_of g.K.KeptDie.kept_reads rows x c.args.next kept c.replace-last.new.dest c.put_last.new.done c.requires is
    row (c.replace-last.ensures.after ∙ made)
    (c.in_ok-put_last.ensures.ok ∙ ap (with_last kept.done kept.rows) c.replace-last.ensures.value)
