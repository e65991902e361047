use Rattle.std.specs.Prelude.{is_none}
use Rattle.flashplan_commands.specs.Acts.{PrintsDrawing}
use Rattle.flashplan_commands.proofs.EndedSo.{ends}
use Rattle.flashplan_commands.proofs.runs.act_draw.Goals as goal

pub returns : goal.returns
returns g c =
    ends g.W.Write.contents g.W.Output.has_failed
    (PrintsDrawing (g.P.Read.remaining c.args.plan) (g.S.Read.remaining c.args.script) c.args.slots c.args.die c.args.fail (is_none c.args.from)) c.args.out.now
    c.print_bounded-drawn.new.out c.print_bounded-drawn.result c.end_drawn.result c.print_bounded-drawn.ensures.printed
    c.print_bounded-drawn.ensures.part c.end_drawn.ensures
