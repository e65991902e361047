use Rattle.std.proofs.Common.{◌∙◌, sym}
use Rattle.task_script.specs.DieReports.{die_report_of}
use Rattle.report_texts.proofs.TextParts.{cert_last}
use Rattle.task_script.proofs.DieRows.{ok_then}
use Rattle.task_script.proofs.die_reports.add_die.Goals as goal

pub returns-in-Some-clause-ok : goal.returns-in-Some-clause-ok
returns-in-Some-clause-ok g c =
    ok_then c.add_cert.result
    (cert_last (die_report_of c.args.core.now.start c.args.core.now.log c.args.die) c.in-Some.cert c.args.text.now c.add_rows.new.text _
    (sym c.in_ok-cert.ensures.ok ∙ c.in-Some.is) c.in_ok-add_rows.ensures.ok) c.add_cert.ensures.ok
