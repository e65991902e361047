use Rattle.std.proofs.Common.{◌<◌, ◌+◌, length, ap, inl, arith}
use Rattle.slot_types.specs.declared.plans.Shape.{Shape}
use Rattle.power_loss.specs.Aside.{part_of}
use Rattle.power_loss.specs.Labels.{Shown, FitPlan}
use Rattle.die_mount.specs.Beginning.{BeginsAt}
use Rattle.die_mount.specs.Mounting.{BeginsWith}
use Rattle.die_mount.specs.Scanned.{IsScanOf}
use Rattle.die_mount.proofs.PagesFound.{idle_stays, none_found}
use Rattle.die_mount.proofs.Outcomes.{ok_more}
use Rattle.die_mount.proofs.mount.Mount.new.Goals as goal

pub returns-clause-ok : goal.returns-clause-ok
returns-clause-ok c =
    let plan = c.args.plan in
    let s = c.args.scan in
    let block = c.in-Some.block in
    let idle = c.in-Some.ensures.some in
    ok_more c.begin.result (BeginsAt plan s block c.next_serial-serial.result)
    (λ mount. (seen : Shown) → IsScanOf (part_of plan) s seen → FitPlan (part_of plan) seen → BeginsWith plan seen mount) c.begin.ensures.ok
    (λ mount begins seen h fit.
    let none = none_found (part_of plan) s seen h block idle.none in
    let lt : block < length seen = omega (arith, idle.stands, h.told, c.requires) in
    let stands : block < plan.shape.blocks + 1 = omega (arith, idle.stands, ap (λ (x : Shape). x.blocks) h.shape) in
    begins seen (idle_stays (part_of plan) s seen h fit block lt none) (inl (stands, none))
    (c.next_serial-serial.ensures.above (part_of plan) seen h))
