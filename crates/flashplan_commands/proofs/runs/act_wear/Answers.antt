use Rattle.std.specs.Prelude.{is_none}
use Rattle.flashplan_commands.specs.Acts.{PrintsWear}
use Rattle.flashplan_commands.proofs.EndedSo.{ends}
use Rattle.flashplan_commands.proofs.runs.act_wear.Goals as goal

pub returns : goal.returns
returns g c =
    ends g.W.Write.contents g.W.Output.has_failed
    (PrintsWear (g.P.Read.remaining c.args.plan) (g.S.Read.remaining c.args.script) c.args.slots (is_none c.args.from)) c.args.out.now c.print_wear-ran.new.out
    c.print_wear-ran.result c.end_ran.result c.print_wear-ran.ensures.printed c.print_wear-ran.ensures.part c.end_ran.ensures
