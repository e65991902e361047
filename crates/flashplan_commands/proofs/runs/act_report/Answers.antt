use Rattle.std.specs.Prelude.{is_none}
use Rattle.flashplan_commands.specs.Acts.{PrintsRunFigures}
use Rattle.flashplan_commands.proofs.EndedSo.{ends}
use Rattle.flashplan_commands.proofs.runs.act_report.Goals as goal

pub returns : goal.returns
returns g c =
    ends g.W.Write.contents g.W.Output.has_failed
    (PrintsRunFigures (g.P.Read.remaining c.args.plan) (g.S.Read.remaining c.args.script) c.args.slots c.args.fail c.args.told.as_csv (is_none c.args.from)) c.args.out.now
    c.print_report-ran.new.out c.print_report-ran.result c.end_report.result c.print_report-ran.ensures.printed
    c.print_report-ran.ensures.part c.end_report.ensures
