use Rattle.std.proofs.Common.{◌<◌, List, length, ap, arith, ◌∙◌}
use Rattle.flash_die.specs.Flash.{Block, block_at}
use Rattle.flash_die.specs.Memory.{Memory}
use Rattle.die_checkpoint.proofs.Looking.{in_cells}
use Rattle.stepped_die.proofs.Naming.{all_filled, blocks_more, length-filled, left_unfilled, next_free}
use Rattle.stepped_die.proofs.mirror.MirrorNand.left.Goals as goal

pub of_places-requires-clause-cells : goal.of_places-requires-clause-cells
of_places-requires-clause-cells c = rw c.as_slice.ensures (in_cells c.args.plan.now c.args.checkpoint.now c.requires.all_else)

pub loop-block-init : goal.loop-block-init
loop-block-init c = record {
  shape = ap (λ (m : Memory). m.shape) c.in-Ok-left.ensures.left;
  blocks = ap (λ (m : Memory). m.blocks) c.in-Ok-left.ensures.left
      ∙ (rw (
        c.new.ensures.items,
        c.as_slice-2.ensures.value,
        c.as_slice-3.ensures.value,
        c.in_ok-filled.ensures.items_if_clones_equal (λ y same. same),
        c.in_ok-erases.ensures.erases,
        c.as_slice-blocks.ensures,
      )
      (left_unfilled c.args.plan.now.shape c.args.checkpoint.now.blocks));
}

pub fill_block-requires-clause-in_range : goal.fill_block-requires-clause-in_range
fill_block-requires-clause-in_range c =
    rw c.loop-block.invariant.blocks (omega (
      arith,
      c.loop-block-test.true,
      ap length c.as_slice-blocks.ensures,
      length-filled c.args.checkpoint.now c.args.names.now c.loop-block.block,
    ))

pub fill_block-requires-clause-free : goal.fill_block-requires-clause-free
fill_block-requires-clause-free c =
    let below : c.loop-block.block < length c.args.checkpoint.now.blocks = omega (arith, c.loop-block-test.true, ap length c.as_slice-blocks.ensures) in
    ap (λ (blocks : List Block). (block_at blocks c.loop-block.block).pages) c.loop-block.invariant.blocks
    ∙ ap (λ (b : Block). b.pages) (next_free c.args.checkpoint.now c.args.names.now c.loop-block.block below)

pub fill_block-requires-clause-quiet : goal.fill_block-requires-clause-quiet
fill_block-requires-clause-quiet c =
    let below : c.loop-block.block < length c.args.checkpoint.now.blocks = omega (arith, c.loop-block-test.true, ap length c.as_slice-blocks.ensures) in
    ap (λ (blocks : List Block). (block_at blocks c.loop-block.block).erasing) c.loop-block.invariant.blocks
    ∙ ap (λ (b : Block). b.erasing) (next_free c.args.checkpoint.now c.args.names.now c.loop-block.block below)

pub loop-block-preserved : goal.loop-block-preserved
loop-block-preserved c =
    let below : c.loop-block.block < length c.args.checkpoint.now.blocks = omega (arith, c.loop-block-test.true, ap length c.as_slice-blocks.ensures) in
    record {
      shape = c.fill_block.ensures.shape ∙ c.loop-block.invariant.shape;
      blocks = c.fill_block.ensures.blocks ∙ (rw (c.loop-block.invariant.blocks, c.in-Ok.ensures.ok, c.as_slice.ensures, c.as_slice-blocks.ensures)
          (blocks_more c.args.checkpoint.now c.args.names.now c.loop-block.block below));
    }

pub returns-clause-left : goal.returns-clause-left
returns-clause-left c =
    all_filled c.args.plan.now.shape c.args.checkpoint.now c.args.names.now c.loop-block.block c.loop-block.memory c.loop-block.invariant.shape
    c.loop-block.invariant.blocks (omega (arith, c.loop-block-test.false, ap length c.as_slice-blocks.ensures))
