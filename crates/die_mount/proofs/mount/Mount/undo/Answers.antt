use Rattle.std.proofs.Common.{sym}
use Rattle.power_loss.specs.Aside.{part_of}
use Rattle.power_loss.specs.Labels.{Shown}
use Rattle.power_loss.specs.Mounted.{all_count}
use Rattle.power_loss.specs.Recovery.{MayErase, without_block}
use Rattle.die_mount.specs.Beginning.{BeginsAt}
use Rattle.die_mount.specs.Mounting.{BeginsWith}
use Rattle.die_mount.specs.Scanned.{IsScanOf}
use Rattle.die_mount.proofs.PagesFound.{found_places}
use Rattle.die_mount.proofs.Outcomes.{ok_more}
use Rattle.die_mount.proofs.mount.Mount.undo.Goals as goal

pub returns-clause-ok : goal.returns-clause-ok
returns-clause-ok c =
    let plan = c.args.plan in
    let s = c.args.again in
    let block = c.args.block in
    ok_more c.begin.result (BeginsAt plan s block c.next_serial.result)
    (λ mount. (seen : Shown) → IsScanOf (part_of plan) c.args.before.now seen → IsScanOf (part_of plan) s (without_block block seen)
    → MayErase (part_of plan) all_count seen block → BeginsWith plan seen mount) c.begin.ensures.ok
    (λ mount begins seen h later may.
    begins seen (sym (found_places (part_of plan) s (without_block block seen) later)) may
    (c.next_serial.ensures.above (part_of plan) seen h))
