use Rattle.flashplan_commands.specs.CutActs.{PrintsCutting}
use Rattle.flashplan_commands.proofs.CutSo.{ends_cut}
use Rattle.flashplan_commands.proofs.cutting.act_cut.Goals as goal

pub returns : goal.returns
returns g c =
    let plan = g.P.Read.remaining c.args.plan in
    let script = g.S.Read.remaining c.args.script in
    let cuts = c.args.cuts in
    ends_cut g.W.Write.contents g.W.Output.has_failed
    (PrintsCutting plan script cuts.slots cuts.die cuts.at cuts.leaves cuts.looks)
    c.args.out.now c.print_cuts-ran.new.out c.print_cuts-ran.result c.end_cut.result
    c.print_cuts-ran.ensures.printed c.print_cuts-ran.ensures.part c.end_cut.ensures.told c.end_cut.ensures.untold
