use Rattle.flashplan_commands.proofs.DesignedSo.{ends_design}
use Rattle.flashplan_commands.proofs.designing.act_design.Goals as goal

pub returns : goal.returns
returns g c =
    ends_design g.W.Write.contents g.W.Output.has_failed (g.R.Read.remaining c.args.sheet) c.args.out.now
    c.print_design-designed.new.out c.print_design-designed.result c.end_fit.result c.print_design-designed.ensures.printed
    c.print_design-designed.ensures.part c.print_design-designed.ensures.unfound c.end_fit.ensures
