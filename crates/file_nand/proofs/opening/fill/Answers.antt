use Rattle.std.proofs.Common.{◌∙◌, List, ap, length, map, refl}
use Rattle.flash_die.specs.Flash.{Block, block_at}
use Rattle.labelled_nand.specs.Memory.{MarkedCells, device_block}
use Rattle.file_nand.proofs.Filling.{fresh_count, fresh_free}
use Rattle.file_nand.proofs.opening.fill.Goals as goal

pub loop-block-init : goal.loop-block-init
loop-block-init g c =
    let n = c.args.mirror.now.shape.blocks in
    let e = ap (λ (cells : List MarkedCells). map device_block cells) c.requires.fresh in
    record {
      count = ap (λ (blocks : List Block). length blocks) e ∙ fresh_count n;
      free = λ b le. ap (λ (blocks : List Block). block_at blocks b) e ∙ fresh_free n b;
      shape = refl;
    }
