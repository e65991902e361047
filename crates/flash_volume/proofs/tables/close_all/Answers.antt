use Rattle.std.proofs.Common.{arith}
use Rattle.flash_volume.proofs.Resuming.{next_open, next_closed}
use Rattle.flash_volume.proofs.tables.close_all.Goals.{then-counts-shape, else-counts-shape}
use Rattle.flash_volume.proofs.tables.close_all.Goals as goal

pub loop-block-preserved : goal.loop-block-preserved
loop-block-preserved c =
    let pages = c.args.shape.pages in
    let v = c.loop-block.victims in
    elim c.if-counts-shape.branch [
      | then-counts-shape w ↦ rw w.victims-is (rw w.close.ensures (rw w.valid.ensures
          (next_closed pages c.loop-block.block c.args.blocks.now c.args.map.now.places v c.loop-block.invariant
          (omega (arith, c.requires.blocks, c.loop-block-test.true)) w.if-counts-shape.true)))
      | else-counts-shape w ↦ rw w.victims-is
          (next_open pages c.loop-block.block c.args.blocks.now c.args.map.now.places v c.loop-block.invariant
          (λ e. w.if-counts-shape.false e))
    ]
