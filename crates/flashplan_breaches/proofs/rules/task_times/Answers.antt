use Rattle.std.proofs.Common.{ap, ◌∙◌}
use Rattle.std.specs.Prelude.{option_copied}
use Rattle.plan_rules.proofs.Zips.{absent_is}
use Rattle.flashplan_breaches.proofs.rules.task_times.Goals as goal

pub returns-in-None : goal.returns-in-None
returns-in-None c =
    absent_is c.args.times.now.tasks c.args.task (record { period = 0; collect_period = 0; work = 0; writes = 0 }) (c.get.ensures
    ∙ ap option_copied c.in-None.is)
