use Rattle.std.proofs.Common.{◌∙◌, ap}
use Rattle.report_texts.specs.TextSoFar.{die_added}
use Rattle.task_script.specs.DieReports.{die_report_of}
use Rattle.task_script.proofs.die_texts.text_of.Goals as goal

pub returns-clause-ok : goal.returns-clause-ok
returns-clause-ok c =
    c.in_ok-add_die.ensures.ok ∙ ap (die_added (die_report_of c.args.die.start c.args.die.log c.args.number)) c.part-text.ensures
