use Rattle.flash_c.specs.Mounts.{told_after}
use Rattle.flash_c.proofs.Mounting.{of_ok, told_seen}
use Rattle.flash_c.proofs.recoveries.taken.Goals as goal

pub returns-in-Ok-begun-clause-told : goal.returns-in-Ok-begun-clause-told
returns-in-Ok-begun-clause-told c =
    told_seen c.args.labels.now c.args.recovery c.told-after.result.0 c.in-Ok-begun.after
    (of_ok c.told-after.result.1 c.in-Ok.field-0 c.in-Ok.is c.told-after.ensures.first)
    (of_ok c.told-after.result.1 c.in-Ok.field-0 c.in-Ok.is c.told-after.ensures.again) c.in-Ok-begun.ensures.seen

pub returns-in-Ok-begun-clause-counts : goal.returns-in-Ok-begun-clause-counts
returns-in-Ok-begun-clause-counts c = λ told has.
    c.in-Ok-begun.ensures.counts (told_after c.args.recovery c.args.erases told)
    (of_ok c.told-after.result.1 c.in-Ok.field-0 c.in-Ok.is c.told-after.ensures.counts told has)
