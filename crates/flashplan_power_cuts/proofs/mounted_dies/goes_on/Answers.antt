use Rattle.flashplan_power_cuts.proofs.Telling.{goes_on_as}
use Rattle.flashplan_power_cuts.proofs.mounted_dies.goes_on.Goals as goal

pub returns-in_ok-in_box-in-Ok : goal.returns-in_ok-in_box-in-Ok
returns-in_ok-in_box-in-Ok c =
    rw c.in_ok-in_box-in-Ok.ensures.value
    (goes_on_as c.args.plan.now c.in_ok-copy_of.field-0 c.args.end.now.mounted.checkpoint c.args.end.now.names.items
    c.as_slice-names.result.now c.in-Ok.die c.in_ok-copy_of.ensures c.as_slice-names.ensures.value c.in-Ok.ensures.ok)
