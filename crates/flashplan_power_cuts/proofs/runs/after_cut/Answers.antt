use Rattle.std.proofs.Common.{◌∙◌, ap}
use Rattle.stepped_die.specs.Stepped.{Stepped}
use Rattle.flashplan_power_cuts.proofs.Telling.{still_runs}
use Rattle.flashplan_power_cuts.proofs.runs.after_cut.Goals as goal

pub say_all-requires-clause-ran : goal.say_all-requires-clause-ran
say_all-requires-clause-ran c =
    ap (λ (d : Stepped). d.core.stopped) c.lost.ensures.die
    ∙ still_runs c.args.before.now c.in_ok-call.call c.in_ok-call.ensures c.lost.ensures.runs
