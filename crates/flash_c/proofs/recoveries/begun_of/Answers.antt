use Rattle.std.proofs.Common.{refl}
use Rattle.power_loss.specs.Aside.{part_of}
use Rattle.power_loss.specs.Labels.{Shown, FitPlan}
use Rattle.die_mount.specs.Mounting.{BeginsWith}
use Rattle.die_mount.specs.Scanned.{IsScanOf}
use Rattle.flash_c.specs.Mounts.{HasSeen}
use Rattle.flash_c.proofs.Mounting.{calls_seen, goes_by, none_again}
use Rattle.flash_c.proofs.recoveries.begun_of.Goals as goal

pub returns-in-Idle-clause-seen : goal.returns-in-Idle-clause-seen
returns-in-Idle-clause-seen c =
    let plan = c.args.plan in
    let scan = c.args.scan in
    calls_seen c.new.result c.calls_of.result
    (λ m. (seen : Shown) → IsScanOf (part_of plan) scan seen → FitPlan (part_of plan) seen → BeginsWith plan seen m)
    (λ after. (seen : Shown) → IsScanOf (part_of plan) scan seen → FitPlan (part_of plan) seen → HasSeen plan seen after)
    c.calls_of.ensures.calls c.calls_of.ensures.fault c.new.ensures.ok
    (λ m begins seen s fit. goes_by plan plan seen m refl (begins seen s fit))

pub returns-in-Ok-clause-seen : goal.returns-in-Ok-clause-seen
returns-in-Ok-clause-seen c = λ seen s fit. (
  refl,
  s,
  c.requires.whole,
  none_again (part_of c.args.plan) c.in-Ok.again seen c.in-Undo.block c.in-Ok.ensures.ok,
  c.in-Undo.ensures.may (part_of c.args.plan) seen s fit,
)
