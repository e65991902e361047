use Rattle.std.proofs.Common.{◌≡◌, ◌∙◌}
use Rattle.spare_blocks.proofs.Tabled.{one_numbered, told_listed, told_unlisted}
use Rattle.spare_blocks.proofs.powering.number_blocks.Goals as goal

pub loop-block-preserved : goal.loop-block-preserved
loop-block-preserved g c =
    let i = c.loop-block.invariant in
    let k = c.loop-block.block-counter in
    let bad = c.args.bad.now in
    let listed = c.contains-listed.result in
    record {
      numbered = one_numbered k bad c.args.all.now c.loop-block.table c.number_block.new.table (g.D.WearingNand.blocks c.args.part.now)
          (g.D.WearingNand.blocks c.loop-block.part) (g.D.WearingNand.blocks c.number_block.new.part) listed c.group_of-group.result i.numbered
          c.in_ok-number_block.ensures.numbered (told_listed bad k listed c.contains-listed.ensures.value)
          (told_unlisted bad k listed c.contains-listed.ensures.value) c.group_of-group.ensures;
      well = c.in_ok-number_block.ensures.well;
      shape = c.number_block.ensures.shape ∙ i.shape;
    }
