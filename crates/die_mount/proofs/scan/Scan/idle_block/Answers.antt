use Rattle.std.proofs.Common.{◌<◌, below_more, ap, arith}
use Rattle.die_mount.specs.Beginning.{IsIdleIn}
use Rattle.die_mount.specs.Scanned.{Scanned}
use Rattle.die_mount.proofs.scan.Scan.idle_block.Goals as goal

pub loop-block-preserved : goal.loop-block-preserved
loop-block-preserved c = below_more (λ b. IsIdleIn c.args.self.now b → ⊥) c.loop-block.block c.loop-block.invariant
    (λ idle. cc (c.is_idle.ensures.1 idle, c.if-is_idle.false))

pub returns-clause-none : goal.returns-clause-none
returns-clause-none c = λ has.
    let lt : has.0 < c.loop-block.block =
    omega (arith, has.1.stands, c.loop-block-test.false, ap (λ (s : Scanned). s.shape.blocks) c.self.view_is) in
    c.loop-block.invariant has.0 lt has.1
