use Rattle.std.proofs.Common.{◌∙◌, List, ap, arith, length, map, refl, subst, sym}
use Rattle.slot_types.specs.declared.plans.Shape.{Shape}
use Rattle.flash_die.specs.Flash.{Block, block_at}
use Rattle.labelled_nand.specs.Memory.{MarkedCells, device_block, device_blocks, device_labels}
use Rattle.saving_nand.specs.Saving.{IsLeftFor}
use Rattle.file_nand.proofs.Filling.{fresh_count, fresh_free}
use Rattle.file_nand.proofs.Left.{left_for}
use Rattle.file_nand.proofs.opening.fill_saved.Goals as goal

pub loop-block-init : goal.loop-block-init
loop-block-init g c =
    let n = c.args.mirror.now.shape.blocks in
    let e = ap (λ (cells : List MarkedCells). map device_block cells) c.requires.fresh in
    record {
      count = ap (λ (blocks : List Block). length blocks) e ∙ fresh_count n;
      filled = λ b lt. absurd (omega (arith, lt));
      free = λ b le. ap (λ (blocks : List Block). block_at blocks b) e ∙ fresh_free n b;
      shape = refl;
    }

pub returns-clause-left : goal.returns-clause-left
returns-clause-left g c =
    let m = c.loop-block.mirror in
    let i = c.loop-block.invariant in
    let saved = c.args.saved.now in
    subst (λ (x : Shape). IsLeftFor x (device_blocks m) (device_labels m) 0 saved) (sym i.shape)
    (left_for c.args.mirror.now.shape m saved i.count c.requires.part
    (λ b lt. i.filled b (omega (arith, lt, c.loop-block-test.false, ap (λ (s : Shape). s.blocks) c.shape-shape.ensures))))
