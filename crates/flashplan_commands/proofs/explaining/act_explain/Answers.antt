use Rattle.flashplan_commands.specs.Acts.{Explains}
use Rattle.flashplan_commands.proofs.EndedSo.{ends_explained}
use Rattle.flashplan_commands.proofs.explaining.act_explain.Goals as goal

pub returns : goal.returns
returns g c =
    ends_explained g.W.Write.contents g.W.Output.has_failed (Explains c.args.asked.slot_us (g.P.Read.remaining c.args.plan)) c.args.out.now c.print_explained-said.new.out
    c.print_explained-said.result c.end_said.result c.print_explained-said.ensures.printed c.print_explained-said.ensures.part
    c.end_said.ensures
