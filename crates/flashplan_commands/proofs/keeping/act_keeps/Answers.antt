use Rattle.flashplan_commands.specs.Acts.{PrintsKept}
use Rattle.flashplan_commands.proofs.EndedSo.{ends_kept}
use Rattle.flashplan_commands.proofs.keeping.act_keeps.Goals as goal

pub returns : goal.returns
returns g c =
    ends_kept g.W.Write.contents g.W.Output.has_failed (PrintsKept (g.P.Read.remaining c.args.plan) (g.S.Read.remaining c.args.script) c.args.slots)
    c.args.out.now c.print_kept-kept.new.out c.print_kept-kept.result c.end_kept.result c.print_kept-kept.ensures.printed
    c.print_kept-kept.ensures.part c.end_kept.ensures
