use Rattle.spare_blocks.proofs.Tabled.{told_listed, told_unlisted}
use Rattle.stepped_spares.proofs.Added.{one_added}
use Rattle.stepped_spares.proofs.begun.add_blocks.Goals as goal

pub loop-block-preserved : goal.loop-block-preserved
loop-block-preserved c =
    let k = c.loop-block.block-counter in
    let bad = c.args.bad.now in
    let listed = c.contains.result in
    one_added c.args.blocks k bad c.loop-block.table c.add_block.new.table listed c.loop-block.invariant c.in_ok-add_block.ensures.added
    (told_listed bad k listed c.contains.ensures.value) (told_unlisted bad k listed c.contains.ensures.value)
