use Rattle.flashplan_commands.specs.Acts.{ExplainsMore}
use Rattle.flashplan_commands.proofs.EndedSo.{ends_explained}
use Rattle.flashplan_commands.proofs.explaining.act_explain_from.Goals as goal

pub returns : goal.returns
returns g c =
    ends_explained g.W.Write.contents g.W.Output.has_failed (ExplainsMore c.args.asked.slot_us (g.P.Read.remaining c.args.plan)) c.args.out.now c.print_explained_from-explained.new.out
    c.print_explained_from-explained.result c.end_explained.result c.print_explained_from-explained.ensures.printed
    c.print_explained_from-explained.ensures.part c.end_explained.ensures
