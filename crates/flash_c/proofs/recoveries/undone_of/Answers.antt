use Rattle.std.proofs.Common.{refl, take}
use Rattle.power_loss.specs.Aside.{part_of}
use Rattle.power_loss.specs.Labels.{Shown}
use Rattle.power_loss.specs.Mounted.{all_count}
use Rattle.power_loss.specs.Recovery.{MayErase, without_block}
use Rattle.die_mount.specs.Mounting.{BeginsWith}
use Rattle.die_mount.specs.Scanned.{IsScanOf}
use Rattle.flash_c.specs.Mounts.{HasSeen}
use Rattle.flash_c.proofs.Mounting.{all_again, calls_seen, goes_by}
use Rattle.flash_c.proofs.recoveries.undone_of.Goals as goal

pub returns-clause-seen : goal.returns-clause-seen
returns-clause-seen c =
    let plan = c.args.plan in
    let before = c.args.before in
    let again = c.args.again in
    let block = c.args.block in
    calls_seen c.undo.result c.calls_of.result
    (λ m. (seen : Shown) → IsScanOf (part_of plan) before seen → IsScanOf (part_of plan) again (without_block block seen)
    → MayErase (part_of plan) all_count seen block → BeginsWith plan seen m)
    (λ after. (seen : Shown) → IsScanOf (part_of plan) before seen → IsScanOf (part_of plan) again (take again.told (without_block block seen))
    → MayErase (part_of plan) all_count seen block → HasSeen plan seen after)
    c.calls_of.ensures.calls c.calls_of.ensures.fault c.undo.ensures.ok
    (λ m begins seen s t may. goes_by plan plan seen m refl
    (begins seen s (all_again (part_of plan) before again seen block s c.requires.before c.requires.again t) may))
