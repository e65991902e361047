use Rattle.flashplan_commands.proofs.EndedSo.{ends_fit}
use Rattle.flashplan_commands.proofs.fitting.act_fit.Goals as goal

pub returns : goal.returns
returns g c =
    ends_fit g.W.Write.contents g.W.Output.has_failed (g.R.Read.remaining c.args.sheet) c.args.out.now c.print_fit-fitted.new.out
    c.print_fit-fitted.result c.end_fit.result c.print_fit-fitted.ensures.printed c.print_fit-fitted.ensures.part
    c.print_fit-fitted.ensures.unfound c.end_fit.ensures
